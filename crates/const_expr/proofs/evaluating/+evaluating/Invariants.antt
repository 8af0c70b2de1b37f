use Rattle.std.proofs.Common.{map, take}
use Rattle.const_expr.specs.Namings.{evaluated_by}
use Rattle.const_expr.specs.steps.Parts.{IsParts}
use Rattle.const_expr.proofs.evaluating.+evaluating.Given as goal

abbrev pub invariant-evaluate_args-loop-arg : goal.invariant-evaluate_args-loop-arg
invariant-evaluate_args-loop-arg l = IsParts (map (evaluated_by l.setting.row.now l.setting.namings.now) (take l.arg-index l.arg-items)) l.parts
