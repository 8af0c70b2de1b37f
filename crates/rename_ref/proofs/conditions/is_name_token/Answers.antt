use Rattle.std.proofs.Common.{not, ap, sym, ◌∙◌}
use Rattle.ftn_base.specs.Keywords.{is_keyword}
use Rattle.rename_ref.specs.Names.{is_word}
use Rattle.rename_ref.proofs.Judged.{second_test}
use Rattle.rename_ref.proofs.conditions.is_name_token.Goals as goal

pub returns-then-is_word : goal.returns-then-is_word
returns-then-is_word c =
    second_test (is_word c.args.token.now.kind) (not c.is_keyword.result) (not (is_keyword c.args.token.now.value))
    (sym c.is_word.ensures ∙ c.if-is_word.true)
    (ap not (c.is_keyword.ensures ∙ ap is_keyword c.bytes.ensures))
