-- Steps of the loops that read each of a list.
use Rattle.std.proofs.Common.{◌≡◌, ℕ, suc, ◌≤◌, ◌<◌, ◌+◌, List, [], ◌∷◌, ◌++◌, length, drop, get_or, map, Option, Some, None, refl, sym, ap, ◌∙◌, append_assoc, arith, drop-cons, add-one}
use Rattle.std.specs.Option.{option_map}
use Rattle.std.proofs.lemmas.List.{append-nil, drop_all}
use Rattle.std.specs.List.{slice_split}
use Rattle.free_scan.specs.steps.Reading.{◌>>=◌, is_comma, read_all, read_name, read_names, read_statement, read_sum, read_sums, read_terms}
use Rattle.free_scan.specs.Spelling.{Lexeme, lexeme_of}
use Rattle.free_scan.specs.declared.first_form.program.Sum.{Sum}
use Rattle.free_scan.specs.declared.first_form.token.PlacedPiece.{PlacedPiece}
use Rattle.free_scan.specs.declared.first_form.program.Term.{Term}

-- what was read before, and what the rest gives
abbrev pub onto : {A : Type 0} → List A → Option (List A) → Option (List A)
onto front rest = option_map (λ more. front ++ more) rest

pub onto_nothing : {A : Type 0} (o : Option (List A)) → o ≡ onto [] o
onto_nothing None = refl
onto_nothing (Some xs) = refl

onto_one : {A : Type 0} (front : List A) (x : A) (o : Option (List A)) → onto front (option_map (λ more. x ∷ more) o) ≡ onto (front ++ x ∷ []) o
onto_one front x None = refl
onto_one front x (Some xs) = ap (λ more. Some more) (sym (append_assoc front (x ∷ []) xs))

bound_some : {A B : Type 0} (f : A → Option B) (o : Option A) (x : A) → o ≡ Some x → (o >>= f) ≡ f x
bound_some f o x e = rw e refl

bound_none : {A B : Type 0} (f : A → Option B) (o : Option A) → o ≡ None → (o >>= f) ≡ None
bound_none f o e = rw e refl

module _ {A B C : Type 0} (read : B → Option C) (view : A → B) where
  abbrev rest_of : List A → ℕ → Option (List C)
  rest_of items i = read_all read (map view (drop i items))

  opened : (items : List A) (i : ℕ) (item : A) → i < length items → rest_of items i ≡ read_all read (view (get_or items i item) ∷ map view (drop (suc i) items))
  opened items i item lt = ap (λ xs. read_all read (map view xs)) (drop-cons items i item lt)

  pub read_more : (all : Option (List C)) (front : List C) (items : List A) (i : ℕ) (item : A) (x : C) → i < length items → item ≡ get_or items i item
      → read (view item) ≡ Some x → all ≡ onto front (rest_of items i) → all ≡ onto (front ++ x ∷ []) (rest_of items (i + 1))
  read_more all front items i item x lt at found so_far =
      let here : read (view (get_or items i item)) ≡ Some x = sym (ap (λ a. read (view a)) at) ∙ found in
      so_far ∙ ap (onto front) (opened items i item lt ∙ bound_some (λ y. option_map (λ ys. y ∷ ys) (rest_of items (suc i))) _ x here)
      ∙ onto_one front x (rest_of items (suc i)) ∙ ap (λ k. onto (front ++ x ∷ []) (rest_of items k)) (sym (add-one i))

  pub read_stop : (all : Option (List C)) (front : List C) (items : List A) (i : ℕ) (item : A) → i < length items → item ≡ get_or items i item
      → read (view item) ≡ None → all ≡ onto front (rest_of items i) → None ≡ all
  read_stop all front items i item lt at found so_far =
      let here : read (view (get_or items i item)) ≡ None = sym (ap (λ a. read (view a)) at) ∙ found in
      sym (so_far ∙ ap (onto front) (opened items i item lt ∙ bound_none (λ y. option_map (λ ys. y ∷ ys) (rest_of items (suc i))) _ here))

  pub read_done : (all : Option (List C)) (front : List C) (items : List A) (i : ℕ) → length items ≤ i → all ≡ onto front (rest_of items i) → Some front ≡ all
  read_done all front items i le so_far =
      let none : drop i items ≡ [] = drop_all i items le in
      sym (so_far ∙ ap (λ xs. onto front (read_all read (map view xs))) none ∙ ap (λ xs. Some xs) (append-nil front))

  pub read_begin : (front : List C) (items : List A) (rows : List B) → front ≡ [] → map view items ≡ rows → read_all read rows ≡ onto front (rest_of items 0)
  read_begin front items rows none e = ap (read_all read) (sym e) ∙ onto_nothing (read_all read (map view items)) ∙ ap (λ xs. onto xs (read_all read (map view items))) (sym none)

-- a row with an operator at its end
pub odd_row : (all : Option (List Term)) (front : List Term) (row : List PlacedPiece) → length row < 2 → 1 ≤ length row
    → all ≡ onto front (read_terms (map lexeme_of row)) → None ≡ all
odd_row all front [] lt le e = absurd (omega (arith, le))
odd_row all front (token ∷ []) lt le e = sym e
odd_row all front (token ∷ next ∷ row) lt le e = absurd (omega (arith, lt))

pub short_row : (row : List PlacedPiece) → length row < 2 → None ≡ read_statement (map lexeme_of row)
unfolding read_statement
short_row [] lt = refl
short_row (token ∷ []) lt = refl
short_row (token ∷ next ∷ row) lt = absurd (omega (arith, lt))

pub sums_begin : (front : List Sum) {A : Type 0} (view : A → List Lexeme) (items : List A) (row : List Lexeme) → front ≡ [] → map view items ≡ slice_split is_comma row
    → read_sums row ≡ onto front (read_all read_sum (map view (drop 0 items)))
unfolding read_sums
sums_begin front view items row none e = read_begin read_sum view front items (slice_split is_comma row) none e

pub names_begin : (front : List (List ℕ)) {A : Type 0} (view : A → List Lexeme) (items : List A) (row : List Lexeme) → front ≡ [] → map view items ≡ slice_split is_comma row
    → read_names row ≡ onto front (read_all read_name (map view (drop 0 items)))
unfolding read_names
names_begin front view items row none e = read_begin read_name view front items (slice_split is_comma row) none e
