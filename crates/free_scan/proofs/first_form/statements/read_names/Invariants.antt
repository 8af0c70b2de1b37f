use Rattle.std.proofs.Common.{◌≡◌, map, drop}
use Rattle.free_scan.specs.steps.Reading as spec
use Rattle.free_scan.specs.Spelling.{lexeme_of}
use Rattle.free_scan.proofs.Loops.{onto}
use Rattle.free_scan.proofs.first_form.statements.read_names.Given as goal

abbrev pub invariant-loop-part : goal.invariant-loop-part
invariant-loop-part l =
    spec.read_names (map lexeme_of l.row) ≡ onto l.names (spec.read_all spec.read_name (map (λ part. map lexeme_of part.now) (drop l.part-index l.part-items)))
