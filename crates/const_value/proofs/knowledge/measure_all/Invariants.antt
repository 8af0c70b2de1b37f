use Rattle.std.proofs.Common.{◌≡◌, fold, length, take}
use Rattle.const_value.specs.steps.Knowing.{measure_constant, measure_other, nothing, seen}
use Rattle.const_value.proofs.knowledge.measure_all.Given as goal

abbrev pub invariant-constants : goal.invariant-constants
invariant-constants l = record {
  all : seen l.all ≡ fold (measure_constant l.project l.circles) (nothing l.project) (take l.name-index l.name-items);
  long : length l.all.known.items ≡ length l.project.names.items;
}

abbrev pub invariant-others : goal.invariant-others
invariant-others l = record {
  all : seen l.all ≡ fold (measure_other l.project l.circles) (fold (measure_constant l.project l.circles) (nothing l.project) l.circles.order.items) (take l.name-index l.name-items);
  long : length l.all.known.items ≡ length l.project.names.items;
}
