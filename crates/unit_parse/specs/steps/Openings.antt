-- Which reader of statements is asked, by how a statement begins. It serves the proof of the code.
use Rattle.std.specs.Prelude.{ℕ, Bool, false, ◌||◌, List, [], ◌∷◌, codes}
use Rattle.std.specs.List.{list_any}
use Rattle.ftn_tree.specs.declared.token.Token.{Token}
use Rattle.ftn_tree.specs.Lexemes.{lexeme_of, is_word}
use Rattle.ftn_tree.specs.Misfits.{is_colon_at}

-- the first words of executable statements other than assignments
unfoldable pub first_words : List (List ℕ)
first_words =
    codes "call" ∷ codes "exit" ∷ codes "cycle" ∷ codes "stop" ∷ codes "return" ∷ codes "continue" ∷ codes "print" ∷ codes "write" ∷ codes "read"
    ∷ codes "if" ∷ codes "else" ∷ codes "elseif" ∷ codes "do" ∷ codes "select" ∷ codes "selectcase" ∷ codes "case" ∷ []

abbrev pub begins_with : Token → List (List ℕ) → Bool
begins_with here words = list_any (λ text. is_word text here) words

abbrev pub first_colon : List Token → Bool
first_colon [] = false
first_colon (here ∷ rest) = is_colon_at (lexeme_of here)

-- the first word of an executable statement, or a name before a colon
abbrev pub starts : List Token → Bool
starts [] = false
starts (here ∷ rest) = begins_with here first_words || first_colon rest
