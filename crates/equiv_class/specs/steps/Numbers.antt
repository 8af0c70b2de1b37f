-- Numbers of sequences in the order of their first objects, for the proofs of the code.
use Rattle.std.specs.Prelude.{ℕ, ◌<◌, ◌≤◌, ◌≡◌, ◌⊎◌, Option, Some, None, List, [], ◌∷◌, ◌++◌, length, slice_index, slice_index_or, slice_set}

abbrev pub number_at : List (Option ℕ) → ℕ → Option ℕ
number_at numbers label = slice_index_or numbers label None

-- the label had that number, or gets it as the next one
abbrev pub IsCounted : List (Option ℕ) → List ℕ → ℕ → ℕ → List (Option ℕ) → List ℕ → Type 0
IsCounted numbers order label number new_numbers new_order =
    ((number_at numbers label ≡ Some number) × (new_numbers ≡ numbers) × (new_order ≡ order))
    ⊎ ((number_at numbers label ≡ None) × (number ≡ length order) × (new_numbers ≡ slice_set numbers label (Some number)) × (new_order ≡ order ++ label ∷ []))

-- the first of these objects have their numbers
pub record IsNumbering (label : List ℕ) (count : ℕ) (numbers : List (Option ℕ)) (class order : List ℕ) : Type 0 where
  pub sized : length numbers ≡ length label
  pub counted : length class ≡ count
  pub few : length order ≤ count
  pub told : (object : ℕ) → object < count → number_at numbers (slice_index label object) ≡ Some (slice_index class object)
  pub back : (one number : ℕ) → number_at numbers one ≡ Some number → (number < length order) × (slice_index order number ≡ one)
  pub rising : (object number : ℕ) → object < count → number < slice_index class object → (earlier : ℕ) × (earlier < object) × (slice_index class earlier ≡ number)
  pub used : (number : ℕ) → number < length order → (object : ℕ) × (object < count) × (slice_index class object ≡ number)

-- objects have one number exactly where they have one label
pub record IsNumbered (label class order : List ℕ) : Type 0 where
  pub counted : length class ≡ length label
  pub few : length order ≤ length label
  pub same : (one other : ℕ) → one < length label → other < length label → slice_index label one ≡ slice_index label other → slice_index class one ≡ slice_index class other
  pub known : (object : ℕ) → object < length label → slice_index class object < length order
  pub back : (object : ℕ) → object < length label → slice_index order (slice_index class object) ≡ slice_index label object
  pub rising : (object number : ℕ) → object < length label → number < slice_index class object → (earlier : ℕ) × (earlier < object) × (slice_index class earlier ≡ number)
  pub used : (number : ℕ) → number < length order → (object : ℕ) × (object < length label) × (slice_index class object ≡ number)
