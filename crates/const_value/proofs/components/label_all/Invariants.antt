use Rattle.std.proofs.Common.{◌≡◌, ◌+◌, length, take}
use Rattle.const_value.specs.steps.Labelling.{AreSpread, unlabelled}
use Rattle.const_value.proofs.components.label_all.Given as goal

abbrev pub invariant-loop-number : goal.invariant-loop-number
invariant-loop-number l = record {
  spread : AreSpread (take l.number-index l.list) l.label l.initial.labels l.initial.stack.items l.labels l.stack.items;
  shift : unlabelled l.labels + length l.stack.items ≡ unlabelled l.initial.labels + length l.initial.stack.items;
}
