use Rattle.std.proofs.Common.{sym, ◌∙◌}
use Rattle.free_scan.proofs.CleanLaws.{clean_last, not_free}
use Rattle.free_scan.proofs.first_form.clean.is_clean.Goals as goal

pub returns-then-not-has_free_names : goal.returns-then-not-has_free_names
returns-then-not-has_free_names c = not_free c.args.program.now (sym c.if-not-is_filled.ensures) (sym c.if-not-has_free_names.ensures)

pub returns : goal.returns
returns c =
    clean_last c.args.program.now c.in-Some.variables c.as_slice.result.now c.as_slice-2.result.now _ c.as_slice.ensures c.as_slice-2.ensures
    (sym c.if-not-is_filled.ensures) (sym c.if-not-has_free_names.ensures) (sym c.in_ok-variables.ensures ∙ c.in-Some.is) (sym c.if-has.ensures) c.knows_statements.ensures
