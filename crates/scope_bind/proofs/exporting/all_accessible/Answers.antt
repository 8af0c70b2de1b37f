use Rattle.std.proofs.Common.{◌≡◌, ◌∙◌, ◌<◌, ◌≤◌, ℕ, List, Vec, Global, All, length, map, take_all, sym, ap, ap₂, subst, arith}
use Rattle.std.proofs.lemmas.List.{length-map}
use Rattle.ftn_base.specs.Accessible.{accessible_of}
use Rattle.ftn_base.specs.declared.uses.UseList.{UseList}
use Rattle.ftn_tree.specs.declared.table.Extent.{Extent}
use Rattle.ftn_tree.specs.Extents.{scoping}
use Rattle.ftn_tree.specs.Meanings.{accessible_in, use_lists}
use Rattle.scope_bind.specs.steps.Globals.{unit_at}
use Rattle.scope_bind.specs.steps.Meaning.{all_numbered}
use Rattle.scope_bind.proofs.ModuleTurns.{accessible_at_end, everywhere_long, lists_within}
use Rattle.scope_bind.proofs.Turns.{unit_pushed}
use Rattle.scope_bind.proofs.UnitReads.{lists_read}
use Rattle.scope_bind.proofs.exporting.all_accessible.Goals as goal

pub accessible_by-requires : goal.accessible_by-requires
accessible_by-requires c =
    let files = c.args.known.now.files.now in
    let i = c.loop-list.list-index in
    let long = sym (length-map c.args.lists.now (λ one. one.items)) ∙ ap length c.requires.lists ∙ length-map (scoping files) (use_lists files) in
    let within : i < length (scoping files) = subst (λ (n : ℕ). i < n) long c.loop-list-test.true in
    let items_are = lists_read (λ one. one.items) (use_lists files) files i c.args.lists.now c.list-item.result c.requires.lists within c.list-item.is in
    let count = ap length c.requires.exported ∙ everywhere_long files in
    subst (λ (l : List UseList). All (λ list. list.«module» < length c.args.exported.now) l) (sym (c.deref.ensures.value ∙ items_are))
    (subst (λ (n : ℕ). All (λ list. list.«module» < n) (use_lists files (unit_at files i))) (sym count) (lists_within files (unit_at files i)))

pub loop-list-preserved : goal.loop-list-preserved
loop-list-preserved c =
    let files = c.args.known.now.files.now in
    let i = c.loop-list.list-index in
    let long = sym (length-map c.args.lists.now (λ one. one.items)) ∙ ap length c.requires.lists ∙ length-map (scoping files) (use_lists files) in
    let within : i < length (scoping files) = subst (λ (n : ℕ). i < n) long c.loop-list-test.true in
    let items_are = lists_read (λ one. one.items) (use_lists files) files i c.args.lists.now c.list-item.result c.requires.lists within c.list-item.is in
    unit_pushed (λ (e : Extent). all_numbered files (accessible_in files e)) files i within c.loop-list.made.items c.push.new.self.items c.in_ok-accessible_by.field-0
    c.loop-list.invariant c.in_ok-push.ensures.items
    (c.in_ok-accessible_by.ensures ∙ ap₂ accessible_of c.requires.exported (c.deref.ensures.value ∙ items_are) ∙ accessible_at_end files (unit_at files i))

pub returns : goal.returns
returns c =
    let files = c.args.known.now.files.now in
    let long = sym (length-map c.args.lists.now (λ one. one.items)) ∙ ap length c.requires.lists ∙ length-map (scoping files) (use_lists files) in
    let past : length (scoping files) ≤ c.loop-list.list-index = subst (λ (n : ℕ). n ≤ c.loop-list.list-index) long c.loop-list-test.false in
    c.loop-list.invariant ∙ ap (map (λ (e : Extent). all_numbered files (accessible_in files e))) (take_all c.loop-list.list-index (scoping files) past)
