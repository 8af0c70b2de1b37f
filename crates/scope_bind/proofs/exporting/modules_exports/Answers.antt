use Rattle.std.proofs.Common.{◌≡◌, ◌∙◌, ◌<◌, ℕ, List, All, get_or, length, ap, ap₂, subst, sym}
use Rattle.std.proofs.lemmas.List.{get_or_default}
use Rattle.ftn_base.specs.Accessible.{accessible_of}
use Rattle.ftn_base.specs.declared.uses.UseList.{UseList}
use Rattle.ftn_tree.specs.declared.table.Extent.{Extent}
use Rattle.ftn_tree.specs.Meanings as spec
use Rattle.ftn_tree.specs.Meanings.{use_lists}
use Rattle.scope_bind.specs.steps.Globals.{unit_at}
use Rattle.scope_bind.specs.steps.Meaning.{all_numbered}
use Rattle.scope_bind.proofs.ModuleTurns.{accessible_here, all_exported, exported_more, lists_within, module_here}
use Rattle.scope_bind.proofs.UnitReads.{lists_read, within_lists}
use Rattle.scope_bind.proofs.exporting.modules_exports.Goals as goal

pub bounds-lists-scope : goal.bounds-lists-scope
bounds-lists-scope c =
    let files = c.args.known.now.files.now in
    let here = module_here files c.args.order.now c.requires.order c.loop-number.number-index c.loop-number-test.true c.requires.known.trees c.args.known.now.globals.now.modules.items
    c.requires.known.globals.modules c.index-scope.result.now c.index-scope.ensures in
    within_lists (λ one. one.items) (use_lists files) files c.index-scope.result.now c.args.lists.now c.requires.lists here.2

pub module_exports-requires-clause-within : goal.module_exports-requires-clause-within
module_exports-requires-clause-within c =
    (module_here c.args.known.now.files.now c.args.order.now c.requires.order c.loop-number.number-index c.loop-number-test.true c.requires.known.trees c.args.known.now.globals.now.modules.items
    c.requires.known.globals.modules c.index-scope.result.now c.index-scope.ensures).2

pub module_exports-requires-clause-lists : goal.module_exports-requires-clause-lists
module_exports-requires-clause-lists c =
    let files = c.args.known.now.files.now in
    let here = module_here files c.args.order.now c.requires.order c.loop-number.number-index c.loop-number-test.true c.requires.known.trees c.args.known.now.globals.now.modules.items
    c.requires.known.globals.modules c.index-scope.result.now c.index-scope.ensures in
    c.deref-in-loop-number.ensures.value
    ∙ lists_read (λ one. one.items) (use_lists files) files c.index-scope.result.now c.args.lists.now c.index-lists-scope.result c.requires.lists here.2 c.index-lists-scope.is

pub module_exports-requires-clause-modules : goal.module_exports-requires-clause-modules
module_exports-requires-clause-modules c =
    let files = c.args.known.now.files.now in
    let e = unit_at files c.index-scope.result.now in
    let here = module_here files c.args.order.now c.requires.order c.loop-number.number-index c.loop-number-test.true c.requires.known.trees c.args.known.now.globals.now.modules.items
    c.requires.known.globals.modules c.index-scope.result.now c.index-scope.ensures in
    let items = c.deref-in-loop-number.ensures.value
    ∙ lists_read (λ one. one.items) (use_lists files) files c.index-scope.result.now c.args.lists.now c.index-lists-scope.result c.requires.lists here.2 c.index-lists-scope.is in
    let count = ap length c.deref.ensures.value ∙ c.loop-number.invariant.sized in
    subst (λ (l : List UseList). All (λ list. list.«module» < length c.deref.result.now) l) (sym items)
    (subst (λ (n : ℕ). All (λ list. list.«module» < n) (use_lists files e)) (sym count) (lists_within files e))

pub loop-number-preserved : goal.loop-number-preserved
loop-number-preserved c =
    let files = c.args.known.now.files.now in
    let order = c.args.order.now in
    let i = c.loop-number.number-index in
    let n = get_or order i 0 in
    let exported = c.loop-number.exported.items in
    let (e, at, less, same) = module_here files order c.requires.order i c.loop-number-test.true c.requires.known.trees c.args.known.now.globals.now.modules.items
    c.requires.known.globals.modules c.index-scope.result.now c.index-scope.ensures in
    let is = get_or_default order i 0 n c.loop-number-test.true in
    let items = c.deref-in-loop-number.ensures.value
    ∙ lists_read (λ one. one.items) (use_lists files) files c.index-scope.result.now c.args.lists.now c.index-lists-scope.result c.requires.lists less c.index-lists-scope.is
    ∙ ap (use_lists files) same in
    let used = ap₂ accessible_of c.deref.ensures.value items
    ∙ accessible_here files order c.requires.order i c.loop-number-test.true exported c.loop-number.invariant n is e at
    ∙ ap (λ (x : Extent). all_numbered files (spec.accessible_from files (spec.all_exports files) x)) (sym same) in
    exported_more files order c.requires.order i c.loop-number-test.true exported c.loop-number.invariant n is e at c.in_ok-made.made
    (c.in_ok-made.ensures (spec.all_exports files) used ∙ ap (λ (x : Extent). all_numbered files (spec.exports_from files (spec.all_exports files) x)) same)

pub returns : goal.returns
returns c = all_exported c.args.known.now.files.now c.args.order.now c.requires.order c.loop-number.number-index c.loop-number-test.false c.loop-number.exported.items c.loop-number.invariant
