-- Which statements are assignments, whatever words they begin with (Fortran 90, 7.5.1): Fortran reserves no words. That a name, groups in
-- parentheses and `=` decide it, before any other form is tried, is this project's own rule.
use Rattle.std.specs.Prelude.{◌≡◌, ◌≤◌, ◌<◌, ℕ, Bool, true, false, ◌&&◌, ◌||◌, nat_lt, if◌then◌else◌, List, [], ◌∷◌, ◌++◌, length, take}
use Rattle.std.specs.List.{All, filter, flat_map}
use Rattle.ftn_tree.specs.declared.token.Token.{Token}
use Rattle.ftn_tree.specs.Lexemes.{lexeme_of}
use Rattle.ftn_tree.specs.Misfits.{is_open, is_close, is_name, is_equals_at, depth_after}

-- how many ( and how many ) there are
abbrev pub opens : List Token → ℕ
opens row = length (filter is_open row)

abbrev pub closes : List Token → ℕ
closes row = length (filter is_close row)

abbrev pub begins_with_open : List Token → Bool
begins_with_open [] = false
begins_with_open (first ∷ rest) = is_open first

-- what begins with `(` and goes up to the `)` that closes it
pub record IsGroup (row : List Token) : Type 0 where
  pub begins : begins_with_open row ≡ true
  pub balanced : opens row ≡ closes row
  pub within : (n : ℕ) → 1 ≤ n → n < length row → closes (take n row) < opens (take n row)

abbrev pub is_equals : Token → Bool
is_equals here = is_equals_at (lexeme_of here)

-- a name, then groups in parentheses if there are any, then `=`
pub record IsAssignment (row : List Token) : Type 0 where
  pub first : Token
  pub groups : List (List Token)
  pub equals : Token
  pub value : List Token
  pub row_is : row ≡ first ∷ (flat_map (λ group. group) groups ++ equals ∷ value)
  pub named : is_name first ≡ true
  pub grouped : All IsGroup groups
  pub equal : is_equals equals ≡ true

-- ---- the same as a computation

-- groups and then `=`, where so many parentheses of the first group are open already
abbrev pub leads_to_equals : ℕ → List Token → Bool
leads_to_equals depth [] = false
leads_to_equals depth (here ∷ rest) =
    if nat_lt 0 depth || is_open here then leads_to_equals (depth_after depth here) rest else is_equals here

unfoldable pub is_assignment : List Token → Bool
is_assignment [] = false
is_assignment (first ∷ rest) = is_name first && leads_to_equals 0 rest
