-- How deep parentheses are found to nest. It serves the proof of the code; what is promised is `IsDeep` of `ftn_tree`.
use Rattle.std.specs.Prelude.{ℕ, ◌+◌, Bool, true, false, ◌||◌, nat_lt, List, [], ◌∷◌}
use Rattle.ftn_base.specs.Limits.{most_parentheses}
use Rattle.ftn_tree.specs.declared.token.Token.{Token}
use Rattle.ftn_tree.specs.Misfits.{is_open, is_close}

abbrev pub one_if : Bool → ℕ
one_if true = 1
one_if false = 0

-- parentheses nest too deep after one of these tokens, before which so many were opened and closed
abbrev pub deep_from : ℕ → ℕ → List Token → Bool
deep_from opened closed [] = false
deep_from opened closed (here ∷ rest) =
    nat_lt (most_parentheses + (closed + one_if (is_close here))) (opened + one_if (is_open here)) || deep_from (opened + one_if (is_open here)) (closed + one_if (is_close here)) rest

unfoldable pub is_deep : List Token → Bool
is_deep tokens = deep_from 0 0 tokens
