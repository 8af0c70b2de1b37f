use Rattle.std.proofs.Common.{map}
use Rattle.free_scan.specs.Spelling.{lexeme_of}
use Rattle.free_scan.proofs.Loops.{names_begin}
use Rattle.free_scan.proofs.first_form.statements.read_names.Goals as goal

pub loop-part-init : goal.loop-part-init
loop-part-init c = rw c.deref-part-items.ensures.value (names_begin c.new-names.result (λ part. map lexeme_of part.now) _ _ c.new-names.ensures c.in_ok-parts.ensures)
