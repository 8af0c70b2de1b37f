use Rattle.std.proofs.Common.{◌≡◌, map}
use Rattle.std.specs.List.{range_with_len}
use Rattle.const_value.specs.steps.Lists.{lists_of}
use Rattle.const_value.specs.steps.References.{refers, refers_at}
use Rattle.const_value.proofs.circles.Circles.of.Given as goal

abbrev pub invariant-loop-name : goal.invariant-loop-name
invariant-loop-name l = record {
  uses : lists_of l.uses.items ≡ map (refers l.project) (range_with_len 0 l.name);
  tokens : lists_of l.tokens.items ≡ map (refers_at l.project) (range_with_len 0 l.name);
}
