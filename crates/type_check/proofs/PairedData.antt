-- Data by their numbers, one after the other, and what is told of two lists of them.
use Rattle.std.proofs.Common.{◌≡◌, ℕ, suc, zero, ◌+◌, ◌<◌, List, [], ◌∷◌, length, take, get_or, zip, Option, Some, None, option_map, refl, sym, ap, ◌∙◌}
use Rattle.std.specs.Prelude.{slice_get}
use Rattle.std.specs.List.{flat_map}
use Rattle.std.proofs.lemmas.List.{length-map}
use Rattle.std.proofs.lemmas.Option.{slice_get-map, slice_get-get_or, slice_get_within, get_or_from_slice_get}
use Rattle.ftn_tree.specs.declared.unit.FileTree.{FileTree}
use Rattle.ftn_tree.specs.DeclarationFaults.{Finding}
use Rattle.ftn_tree.specs.KeyKinds.{Datum}
use Rattle.ftn_tree.specs.TypeFaults.{dummy_told}
use Rattle.const_value.specs.steps.Names.{all_data}
use Rattle.type_check.specs.steps.Declared.{AreData}
use Rattle.type_check.specs.steps.Natures.{IsDatum}
use Rattle.type_check.specs.steps.Noted.{noted}
use Rattle.type_check.proofs.NotedLaws.{turn}

zip_there : {A B : Type 0} (xs : List A) (ys : List B) (i : ℕ) (x : A) (y : B) → slice_get xs i ≡ Some x → slice_get ys i ≡ Some y → slice_get (zip xs ys) i ≡ Some (x, y)
zip_there [] ys i x y is other = absurd (cc is)
zip_there (x ∷ xs) [] i a b is other = absurd (cc other)
zip_there (x ∷ xs) (y ∷ ys) zero a b is other = cc (is, other)
zip_there (x ∷ xs) (y ∷ ys) (suc i) a b is other = zip_there xs ys i a b is other

-- as many names as data
pub data_count : (files : List FileTree) (names : List ℕ) (ds : List Datum) → AreData files names ds → length names ≡ length ds
data_count files names ds are = sym (length-map names (slice_get (all_data files))) ∙ ap length are ∙ length-map ds Some

-- the datum of the name at a place
datum_at : (files : List FileTree) (names : List ℕ) (ds : List Datum) (at name : ℕ) → AreData files names ds → slice_get names at ≡ Some name
    → (d : Datum) × (slice_get ds at ≡ Some d) × IsDatum files name d
datum_at files names ds at name are there = by (slice_get ds at) refl where
  same : option_map (slice_get (all_data files)) (slice_get names at) ≡ option_map Some (slice_get ds at)
  same = sym (slice_get-map (slice_get (all_data files)) names at) ∙ ap (λ l. slice_get l at) are ∙ slice_get-map Some ds at

  by : (o : Option Datum) → slice_get ds at ≡ o → (d : Datum) × (slice_get ds at ≡ Some d) × IsDatum files name d
  by None is = absurd (cc (same, there, is))
  by (Some d) is = (d, is, cc (same, there, is))

-- one pair more
pub pair_turn : (files : List FileTree) (file : ℕ) (names theirs : List ℕ) (at : ℕ) (first before after : Option Finding) → at < length names → at < length theirs
    → ((a b : Datum) → IsDatum files (get_or names at 0) a → IsDatum files (get_or theirs at 0) b → after ≡ noted file before (dummy_told files (a, b)))
    → (ds others : List Datum) → AreData files names ds → AreData files theirs others
    → before ≡ noted file first (flat_map (dummy_told files) (take at (zip ds others)))
    → after ≡ noted file first (flat_map (dummy_told files) (take (at + 1) (zip ds others)))
pair_turn files file names theirs at first before after less few told ds others are those so_far =
    let (a, here, of_a) = datum_at files names ds at (get_or names at 0) are (slice_get-get_or names at 0 less) in
    let (b, there, of_b) = datum_at files theirs others at (get_or theirs at 0) those (slice_get-get_or theirs at 0 few) in
    let both = zip_there ds others at a b here there in
    turn file (dummy_told files) (zip ds others) at (a, b) first before after (slice_get_within (zip ds others) at (a, b) both)
    (sym (get_or_from_slice_get (zip ds others) at (a, b) (a, b) both)) so_far (told a b of_a of_b)

take_all : {A B : Type 0} (xs : List A) (ys : List B) → take (length xs) (zip xs ys) ≡ zip xs ys
take_all [] ys = refl
take_all (x ∷ xs) [] = refl
take_all (x ∷ xs) (y ∷ ys) = ap (λ l. (x, y) ∷ l) (take_all xs ys)

-- all pairs
pub pairs_end : (files : List FileTree) (file : ℕ) (names : List ℕ) (at : ℕ) (first after : Option Finding) (ds others : List Datum) → at ≡ length names → AreData files names ds
    → after ≡ noted file first (flat_map (dummy_told files) (take at (zip ds others))) → after ≡ noted file first (flat_map (dummy_told files) (zip ds others))
pairs_end files file names at first after ds others ends are so_far =
    so_far ∙ ap (λ n. noted file first (flat_map (dummy_told files) (take n (zip ds others)))) (ends ∙ data_count files names ds are)
    ∙ ap (λ l. noted file first (flat_map (dummy_told files) l)) (take_all ds others)
