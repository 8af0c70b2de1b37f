use Rattle.std.proofs.Common.{map, sym, ◌∙◌, true, false}
use Rattle.free_scan.specs.Spelling.{lexeme_of}
use Rattle.free_scan.proofs.Whole.{closes}
use Rattle.free_scan.proofs.first_form.reading.read_program.Goals as goal

pub returns-then-not-is_closing : goal.returns-then-not-is_closing
returns-then-not-is_closing c =
    sym (closes (λ row. map lexeme_of row.now) c.args.rows.now c.opening-item.result c.closing-item.result c.in-Some.name false
    c.in-len2-up.len_at_least c.opening-item.is c.closing-item.is (sym c.in_ok-name.ensures ∙ c.in-Some.is) (sym c.if-not-is_closing.ensures))

pub returns : goal.returns
returns c =
    rw (closes (λ row. map lexeme_of row.now) c.args.rows.now c.opening-item.result c.closing-item.result c.in-Some.name true
    c.in-len2-up.len_at_least c.opening-item.is c.closing-item.is (sym c.in_ok-name.ensures ∙ c.in-Some.is) (sym c.if-not-is_closing.ensures)) c.read_body.ensures
