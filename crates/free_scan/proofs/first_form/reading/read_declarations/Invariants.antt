use Rattle.std.proofs.Common.{◌≡◌, map, drop}
use Rattle.free_scan.specs.steps.Reading as spec
use Rattle.free_scan.specs.Spelling.{lexeme_of}
use Rattle.free_scan.proofs.Loops.{onto}
use Rattle.free_scan.proofs.first_form.reading.read_declarations.Given as goal

abbrev pub invariant-loop-row : goal.invariant-loop-row
invariant-loop-row l =
    spec.read_all spec.read_declaration (map (λ row. map lexeme_of row.now) l.rows)
    ≡ onto l.declared (spec.read_all spec.read_declaration (map (λ row. map lexeme_of row.now) (drop l.row-index l.rows)))
