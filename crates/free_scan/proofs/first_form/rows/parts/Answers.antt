use Rattle.std.proofs.Common.{rules, tests}
use Rattle.std.proofs.lemmas.Iterator.Consumers.{map_from_collect}
use Rattle.std.proofs.lemmas.Iterator.Splits.{YieldsList-from_slice_split}
use Rattle.free_scan.specs.steps.Reading as spec
use Rattle.free_scan.specs.Spelling.{lexeme_of}
use Rattle.free_scan.proofs.Rows.{parts_are}
use Rattle.free_scan.proofs.first_form.rows.parts.Goals as goal

pub returns : goal.returns
returns c =
    let told = map_from_collect _ c.collect.ensures.ran (YieldsList-from_slice_split _ (λ token. spec.is_comma (lexeme_of token)) c.args.row.now c.split.ensures.rest c.split.ensures.done c.split.ensures.closure (λ x r q k. search (rules, tests))) in
    parts_are (λ part. part.now) c.in_ok-collect.field-0.items c.args.row.now (rw c.in_ok-collect.was at told)
