use Rattle.std.proofs.Common.{map}
use Rattle.std.specs.Option.{option_copied, option_map}
use Rattle.type_check.specs.steps.Choices.{choice_kept}
use Rattle.name_types.specs.steps.Kinds.{signature_seen}
use Rattle.type_check.specs.steps.Kept.{typed_seen}
use Rattle.type_check.proofs.ChoiceLaws.{turn}
use Rattle.type_check.proofs.generic_references.choice_among.Goals as goal

pub loop-scope-preserved : goal.loop-scope-preserved
loop-scope-preserved c =
    turn c.args.signatures.now c.args.specifics.now c.loop-scope.scope-index 0 (map typed_seen c.args.actuals.now) (choice_kept c.loop-scope.found)
    (choice_kept c.with-found.result) (option_map signature_seen (option_copied c.fitting.result)) c.loop-scope-test.true c.loop-scope.invariant c.fitting.ensures
    c.with-found.ensures
