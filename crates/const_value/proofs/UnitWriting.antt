-- What is written for names, one scoping unit after the other.
use Rattle.std.proofs.Common.{◌≡◌, ℕ, zero, suc, ◌+◌, ◌<◌, ◌≤◌, Bool, true, false, cond, List, [], ◌∷◌, ◌++◌, length, map, set, get_or, take, drop, replicate, Option, Some, option_map, bytes_eq, refl, sym, subst, ap, ap₂, ◌∙◌, arith, append_assoc, length-append}
use Rattle.std.specs.Prelude.{slice_get}
use Rattle.std.specs.Borrow.{Bor}
use Rattle.std.specs.List.{flat_map}
use Rattle.std.specs.Option.{option_map_or, option_and_then}
use Rattle.std.proofs.lemmas.List.{length-map, map-append, map-set, take-append-drop, take-map}
use Rattle.std.proofs.lemmas.List.Concat.{flat_map-append}
use Rattle.std.proofs.lemmas.Option.{slice_get-map, slice_get-get_or}
use Rattle.indexmap.specs.IndexMap.{IndexMap}
use Rattle.ftn_tree.specs.declared.table.Extent.{Extent}
use Rattle.ftn_tree.specs.declared.unit.FileTree.{FileTree}
use Rattle.ftn_tree.specs.Declarations.{Declared}
use Rattle.ftn_tree.specs.DeclaredEntities.{names_after}
use Rattle.ftn_tree.specs.Extents.{scoping}
use Rattle.ftn_tree.specs.KeyKinds.{Datum, datum}
use Rattle.ftn_tree.specs.Sayings.{Saying, sayings}
use Rattle.ftn_tree.specs.Scopes.{name_at}
use Rattle.decl_table.specs.steps.Said.{IsWithin}
use Rattle.decl_table.proofs.Arounds.{split_at}
use Rattle.decl_table.proofs.Entries.{flat_more}
use Rattle.const_value.specs.declared.written.Written.{Written}
use Rattle.const_value.specs.steps.Data.{declared_in, put_one, put_by}
use Rattle.const_value.specs.steps.Names.{all_data, all_said, data_in, first_of, number_at, number_from, number_in, number_of}
use Rattle.const_value.specs.steps.Written.{WrittenAs, nothing, with_declared, written_of, written_seen}
use Rattle.const_value.proofs.NamePlaces.{all_apart}
use Rattle.const_value.proofs.WritingTurns.{unit_put}

-- ---- one name

pub put_some : (written : List Written) (number : ℕ) (o : Option ℕ) (w made : Written) (d : Declared) → number < length written → o ≡ Some number → w ≡ get_or written number w
    → written_seen made ≡ with_declared (written_seen w) d → map written_seen (set written number made) ≡ put_one (map written_seen written) o d
put_some written number o w made d less is at with_is =
    map-set written_seen written number made ∙ ap (set (map written_seen written) number) with_is
    ∙ sym (ap (λ p. put_one (map written_seen written) p d) is
    ∙ ap (λ p. option_map_or (λ x. set (map written_seen written) number (with_declared x d)) p (map written_seen written))
    (slice_get-map written_seen written number ∙ ap (option_map written_seen) (slice_get-get_or written number w less ∙ ap Some (sym at))))

pub begun : (written : List Written) (w : Written) (n : ℕ) (data' : List Datum) → written ≡ replicate n w → n ≡ length data' → written_seen w ≡ nothing
    → map written_seen written ≡ map (λ (d : Datum). nothing) data'
begun written w n data' is long none = ap (map written_seen) is ∙ each n data' long where
  each : (n : ℕ) (data' : List Datum) → n ≡ length data' → map written_seen (replicate n w) ≡ map (λ (d : Datum). nothing) data'
  each zero [] long = refl
  each zero (d ∷ data') long = absurd (omega arith)
  each (suc n) [] long = absurd (omega arith)
  each (suc n) (d ∷ data') long = ap₂ (λ (x : WrittenAs) (xs : List WrittenAs). x ∷ xs) none (each n data' (omega arith))

-- ---- one scoping unit

put_alike : (f g : Declared → Option ℕ) → ((d : Declared) → f d ≡ g d) → (written : List WrittenAs) (all : List Declared) → put_by f written all ≡ put_by g written all
put_alike f g same written [] = refl
put_alike f g same written (d ∷ all) = ap (λ o. put_by f (put_one written o d) all) (same d) ∙ put_alike f g same (put_one written (g d) d) all

pub map-map : {A B C : Type 0} (f : A → B) (g : B → C) (xs : List A) → map g (map f xs) ≡ map (λ x. g (f x)) xs
map-map f g [] = refl
map-map f g (x ∷ xs) = ap (λ ys. g (f x) ∷ ys) (map-map f g xs)

same_count : (files : List FileTree) (units : List Extent) → length (flat_map (data_in files) units) ≡ length (flat_map (names_after []) (map (sayings files) units))
same_count files [] = refl
same_count files (e ∷ units) =
    length-append (data_in files e) (flat_map (data_in files) units)
    ∙ ap₂ ◌+◌ (length-map (names_after [] (sayings files e)) (datum e)) (same_count files units)
    ∙ sym (length-append (names_after [] (sayings files e)) (flat_map (names_after []) (map (sayings files) units)))

rest_of : {X : Type 0} (pre post : List X) (x : X) (n : ℕ) → length pre ≡ n → drop n (pre ++ x ∷ post) ≡ x ∷ drop (n + 1) (pre ++ x ∷ post)
rest_of {X} pre post x n long = ap (λ k. drop k (pre ++ x ∷ post)) (sym long) ∙ at pre ∙ ap (λ k. x ∷ drop (k + 1) (pre ++ x ∷ post)) long where
  after : (n : ℕ) → suc (n + 1) ≡ suc n + 1
  after n = omega arith

  at : (pre : List X) → drop (length pre) (pre ++ x ∷ post) ≡ x ∷ drop (length pre + 1) (pre ++ x ∷ post)
  at [] = refl
  at (p ∷ pre) = at pre ∙ ap (λ k. x ∷ drop k (p ∷ (pre ++ x ∷ post))) (after (length pre))

module _ (files : List FileTree) (scope : ℕ) (e : Extent) (there : slice_get (scoping files) scope ≡ Some e) where
  abbrev names : List (List ℕ)
  names = names_after [] (sayings files e)

  abbrev before : List Datum
  before = flat_map (data_in files) (take scope (scoping files))

  abbrev after : List Datum
  after = flat_map (data_in files) (drop (scope + 1) (scoping files))

  pub first_is : first_of (all_said files) scope ≡ length before
  first_is = ap (λ xs. length (flat_map (names_after []) xs)) (take-map (sayings files) scope (scoping files)) ∙ sym (same_count files (take scope (scoping files)))

  pub number_is : (name : List ℕ) → number_of (all_said files) scope name ≡ number_from (length before) name names
  number_is name =
      ap (option_and_then (λ (one : List Saying). number_from (first_of (all_said files) scope) name (names_after [] one))) (slice_get-map (sayings files) (scoping files) scope ∙ ap (option_map (sayings files)) there)
      ∙ ap (λ n. number_from n name names) first_is

  units_are : flat_map (data_in files) (drop scope (scoping files)) ≡ data_in files e ++ after
  units_are =
      let (pre, post, split, long) = split_at (scoping files) scope e there in
      ap (flat_map (data_in files)) (ap (drop scope) split ∙ rest_of pre post e scope long ∙ ap (λ xs. e ∷ drop (scope + 1) xs) (sym split))

  pub whole : all_data files ≡ before ++ (data_in files e ++ after)
  whole =
      ap (flat_map (data_in files)) (sym (take-append-drop scope (scoping files))) ∙ flat_map-append (data_in files) (take scope (scoping files)) (drop scope (scoping files))
      ∙ ap (λ xs. before ++ xs) units_are

  within_from : (first : ℕ) (name : List ℕ) (names : List (List ℕ)) (count : ℕ) → first + length names ≤ count → IsWithin count (number_from first name names)
  within_from first name [] count le = tt
  within_from first name (x ∷ names) count le = by (bytes_eq name x) (within_from (first + 1) name names count (omega (arith, le))) where
    by : (b : Bool) → IsWithin count (number_from (first + 1) name names) → IsWithin count (cond b (Some first) (number_from (first + 1) name names))
    by true rest = omega (arith, le)
    by false rest = rest

  pub unit_within : (name : List ℕ) (count : ℕ) (o : Option ℕ) → count ≡ length (all_data files) → o ≡ number_of (all_said files) scope name → IsWithin count o
  unit_within name count o long is =
      let one : length (all_data files) ≡ length before + (length (data_in files e) + length after) =
      ap length whole ∙ length-append before (data_in files e ++ after) ∙ ap (λ n. length before + n) (length-append (data_in files e) after) in
      let two : length (data_in files e) ≡ length names = length-map names (datum e) in
      subst (λ p. IsWithin count p) (sym (is ∙ number_is name)) (within_from (length before) name names count (omega (arith, long, one, two)))

  abbrev made_to : ℕ → List WrittenAs
  made_to k = map (written_of files) (flat_map (data_in files) (take k (scoping files))) ++ map (λ (d : Datum). nothing) (flat_map (data_in files) (drop k (scoping files)))

  pub made_long : (written : List Written) (k : ℕ) → map written_seen written ≡ made_to k → length written ≡ length (all_data files)
  made_long written k is =
      let first = flat_map (data_in files) (take k (scoping files)) in
      let rest = flat_map (data_in files) (drop k (scoping files)) in
      let both : all_data files ≡ first ++ rest =
      ap (flat_map (data_in files)) (sym (take-append-drop k (scoping files))) ∙ flat_map-append (data_in files) (take k (scoping files)) (drop k (scoping files)) in
      let one : length (all_data files) ≡ length first + length rest = ap length both ∙ length-append first rest in
      let two : length (made_to k) ≡ length (map (written_of files) first) + length (map (λ (d : Datum). nothing) rest) = length-append (map (written_of files) first) (map (λ (d : Datum). nothing) rest) in
      let three : length (map (written_of files) first) ≡ length first = length-map first (written_of files) in
      let four : length (map (λ (d : Datum). nothing) rest) ≡ length rest = length-map rest (λ (d : Datum). nothing) in
      let five : length (map written_seen written) ≡ length written = length-map written written_seen in
      let six : length (map written_seen written) ≡ length (made_to k) = ap length is in
      omega (arith, one, two, three, four, five, six)

  abbrev named : Declared → List ℕ
  named d = name_at files e.file d.name

  pub unit_more : (number : List ℕ → Option ℕ) (old new : List WrittenAs) → ((name : List ℕ) → number name ≡ number_of (all_said files) scope name)
      → old ≡ made_to scope → new ≡ put_by (λ d. number (name_at files e.file d.name)) old (declared_in files e) → new ≡ made_to (scope + 1)
  unit_more number old new same old_is new_is =
      new_is
      ∙ put_alike (λ d. number (named d)) (λ d. number_from (length pre) (named d) names)
      (λ d. same (named d) ∙ number_is (named d) ∙ ap (λ n. number_from n (named d) names) (sym (length-map before (written_of files)))) old (declared_in files e)
      ∙ ap (λ xs. put_by (λ d. number_from (length pre) (named d) names) xs (declared_in files e)) (old_is ∙ ap (λ xs. pre ++ xs) parted)
      ∙ unit_put named names (all_apart (sayings files e)) pre post (declared_in files e)
      ∙ ap (λ xs. pre ++ (xs ++ post)) (sym (map-map (datum e) (written_of files) names))
      ∙ sym (append_assoc pre (map (written_of files) (data_in files e)) post)
      ∙ ap (λ xs. xs ++ post) (sym (map-append (written_of files) before (data_in files e)) ∙ ap (map (written_of files)) (sym (flat_more (data_in files) (scoping files) scope e there)))
    where
      pre : List WrittenAs
      pre = map (written_of files) before

      post : List WrittenAs
      post = map (λ (d : Datum). nothing) after

      parted : map (λ (d : Datum). nothing) (flat_map (data_in files) (drop scope (scoping files))) ≡ map (λ (name : List ℕ). nothing) names ++ post
      parted =
          ap (map (λ (d : Datum). nothing)) units_are ∙ map-append (λ (d : Datum). nothing) (data_in files e) after
          ∙ ap (λ xs. xs ++ post) (map-map (datum e) (λ (d : Datum). nothing) names)

-- ---- the map of a scoping unit, where maps of all are kept

pub kept_there : {S : Type 0} (numbers : List (IndexMap (Bor (List ℕ)) ℕ S)) (scope : ℕ) (one : IndexMap (Bor (List ℕ)) ℕ S) (name : List ℕ) → scope < length numbers → one ≡ get_or numbers scope one
    → number_in one name ≡ number_at numbers scope name
kept_there {S} numbers scope one name less at =
    sym (ap (option_and_then (λ (map' : IndexMap (Bor (List ℕ)) ℕ S). number_in map' name)) (slice_get-get_or numbers scope one less ∙ ap Some (sym at)))
