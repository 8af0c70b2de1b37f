use Rattle.std.proofs.Common.{map, sym, refl, ◌∙◌, None, Some}
use Rattle.std.proofs.lemmas.List.Sums.{prefix_len-le-length}
use Rattle.free_scan.specs.Spelling.{lexeme_of}
use Rattle.free_scan.proofs.Whole.{body_given}
use Rattle.free_scan.proofs.first_form.reading.read_body.Goals as goal

pub split_at-requires : goal.split_at-requires
split_at-requires c = rw c.count_declarations.ensures (prefix_len-le-length _ _)

pub returns-in_default : goal.returns-in_default
returns-in_default c =
    sym (body_given (λ row. map lexeme_of row.now) c.args.name c.args.rows.now c.count_declarations.result _ _ None _
    c.count_declarations.ensures c.split_at.ensures.front c.split_at.ensures.back (sym c.in_ok-declared.ensures ∙ c.in_default.is) refl)

pub returns-in_default-2 : goal.returns-in_default-2
returns-in_default-2 c =
    sym (body_given (λ row. map lexeme_of row.now) c.args.name c.args.rows.now c.count_declarations.result _ _ (Some c.in-Some.declared) None
    c.count_declarations.ensures c.split_at.ensures.front c.split_at.ensures.back (sym c.in_ok-declared.ensures ∙ c.in-Some.is) (sym c.in_ok-statements.ensures ∙ c.in_default-2.is))

pub returns : goal.returns
returns c =
    sym (body_given (λ row. map lexeme_of row.now) c.args.name c.args.rows.now c.count_declarations.result _ _ (Some c.in-Some.declared) (Some c.in-Some-2.statements)
    c.count_declarations.ensures c.split_at.ensures.front c.split_at.ensures.back (sym c.in_ok-declared.ensures ∙ c.in-Some.is) (sym c.in_ok-statements.ensures ∙ c.in-Some-2.is))
