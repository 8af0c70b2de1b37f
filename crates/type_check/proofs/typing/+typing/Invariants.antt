use Rattle.std.proofs.Common.{◌≡◌, map, take}
use Rattle.type_check.specs.steps.Kept.{seen, typed_seen}
use Rattle.type_check.specs.steps.Typing.{typed_by}
use Rattle.type_check.proofs.typing.+typing.Given as goal

abbrev pub invariant-typed_args-loop-arg : goal.invariant-typed_args-loop-arg
invariant-typed_args-loop-arg l = map typed_seen l.parts.items ≡ map seen (map (typed_by l.setting) (take l.arg-index l.arg-items))
