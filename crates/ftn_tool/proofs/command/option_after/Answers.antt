use Rattle.std.proofs.Common.{◌≡◌, ◌∙◌, true, false, sym, arith}
use Rattle.std.specs.String.{string_bytes}
use Rattle.ftn_tool.specs.Words.{names_edition}
use Rattle.ftn_tool.proofs.Editions.{edition_not, edition_yes}
use Rattle.ftn_tool.proofs.command.option_after.Goals as goal

pub returns-then-names_edition : goal.returns-then-names_edition
returns-then-names_edition c =
    let yes : names_edition c.args.first.now (string_bytes c.index-words-at.result) ≡ true = cc (c.as_bytes.ensures.value, c.names_edition.ensures, c.if-names_edition.true) in
    sym (c.words.invariant ∙ edition_yes string_bytes (names_edition c.args.first.now) c.args.words.now c.words.at c.index-words-at.result (omega (arith, c.words-test.true)) c.index-words-at.is yes)

pub words-preserved : goal.words-preserved
words-preserved c =
    let not : names_edition c.args.first.now (string_bytes c.index-words-at.result) ≡ false = cc (c.as_bytes.ensures.value, c.names_edition.ensures, c.if-names_edition.false) in
    c.words.invariant ∙ edition_not string_bytes (names_edition c.args.first.now) c.args.words.now c.words.at c.index-words-at.result (omega (arith, c.words-test.true)) c.index-words-at.is not
