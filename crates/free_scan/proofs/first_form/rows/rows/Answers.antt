use Rattle.std.proofs.Common.{rules, tests, ◌∙◌}
use Rattle.std.proofs.lemmas.Iterator.Consumers.{map_from_collect, YieldsList-from_filter, YieldsList-at}
use Rattle.std.proofs.lemmas.Iterator.Splits.{YieldsList-from_slice_split}
use Rattle.free_scan.specs.Spelling.{is_some_row}
use Rattle.free_scan.specs.Tokens.{is_line_end}
use Rattle.free_scan.proofs.Rows.{rows_are}
use Rattle.free_scan.proofs.first_form.rows.rows.Goals as goal

pub returns : goal.returns
returns c =
    let told = map_from_collect _ c.collect.ensures.ran (YieldsList-from_filter _ is_some_row (YieldsList-at c.filter.ensures.source (YieldsList-from_slice_split _ (λ token. is_line_end token.kind) c.args.pieces.now c.split.ensures.rest c.split.ensures.done c.split.ensures.closure (λ x r q k. search (rules, tests)))) c.filter.ensures.closure (λ x r q k. search (rules, tests))) in
    (rw c.in_ok-collect.was at told) ∙ rows_are c.args.pieces.now
