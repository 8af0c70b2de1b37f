use Rattle.std.proofs.Common.{get_or, ◌++◌, ◌∷◌, [], sym, ap₂, ◌∙◌}
use Rattle.std.proofs.lemmas.Option.{slice_get-get_or}
use Rattle.ftn_tree.specs.Meanings.{module_numbered}
use Rattle.decl_table.proofs.Entries.{one_more}
use Rattle.scope_bind.specs.steps.Globals.{unit_at, module_candidate}
use Rattle.scope_bind.proofs.ModuleUnits.{module_unit}
use Rattle.scope_bind.proofs.globals.module_candidates.Goals as goal

pub module_candidate-requires-clause-within : goal.module_candidate-requires-clause-within
module_candidate-requires-clause-within c =
    let modules = c.args.modules.now in
    let i = c.loop-number.number-index in
    (module_unit c.args.files.now c.requires.trees modules c.requires.modules i (get_or modules i 0) (slice_get-get_or modules i 0 c.loop-number-test.true)).0

pub loop-number-preserved : goal.loop-number-preserved
loop-number-preserved c =
    let files = c.args.files.now in
    let modules = c.args.modules.now in
    let i = c.loop-number.number-index in
    let here = (module_unit files c.requires.trees modules c.requires.modules i (get_or modules i 0) (slice_get-get_or modules i 0 c.loop-number-test.true)).1 in
    c.in_ok-push.ensures.items ∙ ap₂ (λ xs y. xs ++ y ∷ []) c.loop-number.invariant c.module_candidate.ensures
    ∙ sym (one_more (module_candidate files) (module_numbered files) i (unit_at files (get_or modules i 0)) here)
