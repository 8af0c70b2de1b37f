use Rattle.std.proofs.Common.{◌≡◌, drop}
use Rattle.const_value.specs.steps.Findings.{gathered}
use Rattle.const_value.specs.steps.References.{circles_at, circles_of}
use Rattle.const_value.specs.steps.Told.{first_seen}
use Rattle.const_value.proofs.circles.Circles.push_of.Given as goal

abbrev pub invariant-loop-used : goal.invariant-loop-used
invariant-loop-used l = record {
  at : l.at ≡ l.used-index;
  rest : gathered (first_seen l.initial.faults) (circles_of l.self l.name l.file) ≡ gathered (first_seen l.faults) (circles_at l.self l.name l.file l.tokens l.at (drop l.used-index l.used-items));
}
