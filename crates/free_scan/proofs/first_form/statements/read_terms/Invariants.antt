use Rattle.std.proofs.Common.{◌≡◌, map, length}
use Rattle.free_scan.specs.steps.Reading as spec
use Rattle.free_scan.specs.Spelling.{lexeme_of}
use Rattle.free_scan.proofs.Loops.{onto}
use Rattle.free_scan.proofs.first_form.statements.read_terms.Given as goal

abbrev pub invariant-loop-rest : goal.invariant-loop-rest
invariant-loop-rest l = spec.read_terms (map lexeme_of l.row) ≡ onto l.terms (spec.read_terms (map lexeme_of l.rest))

abbrev pub decreases-loop-rest : goal.decreases-loop-rest
decreases-loop-rest l = length l.rest
