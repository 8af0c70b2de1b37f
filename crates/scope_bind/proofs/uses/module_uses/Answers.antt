use Rattle.std.proofs.Common.{ℕ, get_or, map, Some, ap, ◌∙◌}
use Rattle.std.proofs.lemmas.Option.{slice_get-get_or}
use Rattle.ftn_tree.specs.Meanings.{module_numbered}
use Rattle.decl_table.proofs.Turns.{one_more_is}
use Rattle.scope_bind.specs.steps.Globals.{unit_at}
use Rattle.scope_bind.specs.steps.Uses.{used_in}
use Rattle.scope_bind.proofs.ModuleUnits.{module_unit}
use Rattle.scope_bind.proofs.uses.module_uses.Goals as goal

pub unit-requires-clause-within : goal.unit-requires-clause-within
unit-requires-clause-within c =
    let files = c.args.known.now.files.now in
    let items = c.deref-scope-items.result.now in
    let same = ap (map (λ (n : ℕ). Some n)) c.deref-scope-items.ensures.value ∙ c.requires.known.globals.modules in
    let here = slice_get-get_or items c.loop-scope.scope-index 0 c.loop-scope-test.true in
    (module_unit files c.requires.known.trees items same c.loop-scope.scope-index (get_or items c.loop-scope.scope-index 0) here).0

pub loop-scope-preserved : goal.loop-scope-preserved
loop-scope-preserved c =
    let files = c.args.known.now.files.now in
    let items = c.deref-scope-items.result.now in
    let same = ap (map (λ (n : ℕ). Some n)) c.deref-scope-items.ensures.value ∙ c.requires.known.globals.modules in
    let here = slice_get-get_or items c.loop-scope.scope-index 0 c.loop-scope-test.true in
    one_more_is (λ list. list.items) (used_in files) (module_numbered files) c.loop-scope.scope-index (unit_at files (get_or items c.loop-scope.scope-index 0))
    (module_unit files c.requires.known.trees items same c.loop-scope.scope-index (get_or items c.loop-scope.scope-index 0) here).1
    c.loop-scope.uses.items c.push.new.self.items c.in_ok-used_in.field-0 c.loop-scope.invariant c.in_ok-push.ensures.items (c.in_ok-used_in.ensures ∙ ap (used_in files) c.unit.ensures)
