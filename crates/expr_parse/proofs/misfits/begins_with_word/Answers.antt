use Rattle.std.proofs.Common.{◌≡◌, ◌∙◌, ap, arith, List, [], ◌∷◌, length, ◌≤◌, get_or}
use Rattle.std.specs.List.{list_any}
use Rattle.ftn_tree.specs.declared.token.Token.{Token}
use Rattle.ftn_tree.specs.Lexemes.{is_word}
use Rattle.ftn_tree.specs.Misfits.{begins_with_word, statement_words}
use Rattle.expr_parse.proofs.misfits.begins_with_word.Goals as goal

of_first : (row : List Token) (first : Token) → 1 ≤ length row → first ≡ get_or row 0 first → list_any (λ text. is_word text first) statement_words ≡ begins_with_word row
of_first [] first some same = absurd (omega arith)
of_first (here ∷ rest) first some same = ap (λ (word : Token). list_any (λ text. is_word text word) statement_words) same

pub returns-in-len1-up : goal.returns-in-len1-up
returns-in-len1-up c = c.is_any_word.ensures ∙ of_first c.args.row.now c.first-item.result c.in-len1-up.len_at_least c.first-item.is
