-- Rows as what splitting and filtering give, and the value of a row of digits.
use Rattle.std.proofs.Common.{◌≡◌, ℕ, suc, ◌≤◌, ◌+◌, ◌*◌, ◌-◌, Bool, true, false, cond, List, [], ◌∷◌, ◌++◌, map, filter, None, refl, sym, ap, ◌∙◌, arith, inl, inr, ◌⊎◌, ◌<◌, length, drop, get_or, drop-cons}
use Rattle.std.specs.Prelude.{fold}
use Rattle.std.specs.List.{slice_split, onto_first}
use Rattle.std.proofs.lemmas.List.Elements.{filter-append}
use Rattle.std.proofs.lemmas.List.{append-nil}
use Rattle.std.proofs.lemmas.Bool.Decides.{nat_tests}
use Rattle.std.proofs.lemmas.Simd.{map-map}
use Rattle.ftn_base.specs.Limits.{greatest_integer}
use Rattle.free_scan.specs.steps.Reading.{is_comma, fitting}
use Rattle.free_scan.specs.Spelling.{lexeme_of, number_of, is_some_row, token_lines, rows_of}
use Rattle.free_scan.specs.Tokens.{is_line_end}
use Rattle.free_scan.specs.declared.first_form.token.PlacedPiece.{PlacedPiece}

pub map_onto : {A B : Type 0} (f : A → B) (x : A) (rows : List (List A)) → map (map f) (onto_first x rows) ≡ onto_first (f x) (map (map f) rows)
map_onto f x [] = refl
map_onto f x (row ∷ rows) = refl

split_step : {A B : Type 0} (f : A → B) (b : Bool) (x : A) (rows : List (List A)) → map (map f) (cond b ([] ∷ rows) (onto_first x rows)) ≡ cond b ([] ∷ map (map f) rows) (onto_first (f x) (map (map f) rows))
split_step f true x rows = refl
split_step f false x rows = map_onto f x rows

-- what is read of the parts is the parts of what is read
pub split_map : {A B : Type 0} (p : B → Bool) (f : A → B) (xs : List A) → map (map f) (slice_split (λ x. p (f x)) xs) ≡ slice_split p (map f xs)
split_map p f [] = refl
split_map p f (x ∷ xs) =
    split_step f (p (f x)) x (slice_split (λ y. p (f y)) xs)
    ∙ ap (λ rows. cond (p (f x)) ([] ∷ rows) (onto_first (f x) rows)) (split_map p f xs)

-- the parts of a row between commas, in lexemes
pub parts_are : {A : Type 0} (view : A → List PlacedPiece) (items : List A) (row : List PlacedPiece)
    → map view items ≡ slice_split (λ token. is_comma (lexeme_of token)) row
    → map (λ part. map lexeme_of (view part)) items ≡ slice_split is_comma (map lexeme_of row)
parts_are view items row e = sym (map-map (map lexeme_of) view items) ∙ ap (map (map lexeme_of)) e ∙ split_map is_comma lexeme_of row

-- lines by either way of splitting: the last may be an empty one more
abbrev Alike : List (List PlacedPiece) → List (List PlacedPiece) → Type 0
Alike split told = (split ≡ told) ⊎ (split ≡ told ++ [] ∷ [])

abbrev ends : PlacedPiece → Bool
ends token = is_line_end token.kind

alike_step : (b : Bool) (x : PlacedPiece) (told : List (List PlacedPiece)) (split : List (List PlacedPiece)) → Alike split told
    → Alike (cond b ([] ∷ split) (onto_first x split)) (cond b ([] ∷ told) (onto_first x told))
alike_step true x told split (inl e) = inl (ap (λ rows. [] ∷ rows) e)
alike_step true x told split (inr e) = inr (ap (λ rows. [] ∷ rows) e)
alike_step false x [] split (inl e) = inl (ap (onto_first x) e)
alike_step false x [] split (inr e) = inl (ap (onto_first x) e)
alike_step false x (line ∷ told) split (inl e) = inl (ap (onto_first x) e)
alike_step false x (line ∷ told) split (inr e) = inr (ap (onto_first x) e)

alike : (tokens : List PlacedPiece) → Alike (slice_split ends tokens) (token_lines tokens)
alike [] = inr refl
alike (token ∷ tokens) = alike_step (ends token) token (token_lines tokens) (slice_split ends tokens) (alike tokens)

filter_alike : (told split : List (List PlacedPiece)) → Alike split told → filter is_some_row split ≡ filter is_some_row told
filter_alike told split (inl e) = ap (filter is_some_row) e
filter_alike told split (inr e) = ap (filter is_some_row) e ∙ filter-append is_some_row told ([] ∷ []) ∙ append-nil (filter is_some_row told)

-- the parts between ends of lines that are not empty are the rows
pub rows_are : (tokens : List PlacedPiece) → filter is_some_row (slice_split (λ token. is_line_end token.kind) tokens) ≡ rows_of tokens
rows_are tokens = filter_alike (token_lines tokens) (slice_split ends tokens) (alike tokens)

-- the value of a row of digits after a number
abbrev pub number_after : ℕ → List ℕ → ℕ
number_after n digits = fold (λ n digit. 10 * n + (digit - 48)) n digits

pub number_grows : (n : ℕ) (digits : List ℕ) → n ≤ number_after n digits
number_grows n [] = omega arith
number_grows n (digit ∷ digits) = omega (arith, number_grows (10 * n + (digit - 48)) digits)

pub too_great : (n m : ℕ) (digits : List ℕ) → m ≡ number_after n digits → greatest_integer < n → None ≡ fitting m
too_great n m digits e lt = let big : greatest_integer < m = omega (arith, number_grows n digits) in grind (arith, nat_tests)

pub stops : (digits : List ℕ) (i n next : ℕ) → i < length digits → number_of digits ≡ number_after n (drop i digits)
    → next ≡ 10 * n + (get_or digits i 0 - 48) → greatest_integer < next → None ≡ fitting (number_of digits)
stops digits i n next lt e at big =
    let told : number_of digits ≡ number_after (10 * n + (get_or digits i 0 - 48)) (drop (suc i) digits) = e ∙ ap (number_after n) (drop-cons digits i 0 lt) in
    too_great next (number_of digits) (drop (suc i) digits) (rw at told) big
