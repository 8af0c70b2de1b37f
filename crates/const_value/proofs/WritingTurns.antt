-- What is written for the names of one scoping unit after the other.
use Rattle.std.proofs.Common.{◌≡◌, ℕ, zero, suc, ◌+◌, ◌<◌, Bool, true, false, cond, List, [], ◌∷◌, ◌++◌, filter, length, map, set, Option, bytes_eq, refl, sym, subst, ap, ap₂, ◌∙◌, arith, append_assoc}
use Rattle.std.specs.Prelude.{slice_get}
use Rattle.std.specs.Option.{option_map_or}
use Rattle.std.specs.Cmp.Lexicographic.{nat_list_eq_equiv}
use Rattle.std.proofs.lemmas.List.{set-append_left, length-map}
use Rattle.ftn_tree.specs.Declarations.{Declared}
use Rattle.decl_table.specs.steps.Seen.{is_among}
use Rattle.const_value.specs.steps.Data.{put_one, put_by}
use Rattle.const_value.specs.steps.Names.{number_from}
use Rattle.const_value.specs.steps.Written.{WrittenAs, nothing, written_in, with_declared}
use Rattle.const_value.proofs.NamePlaces.{AreApart, number_none}
use Rattle.const_value.proofs.NamedPlaces.{get_behind, set_behind, same_others, put_there}
use Rattle.const_value.proofs.WrittenMore.{written_more}

-- all that is declared is written
abbrev all_with : WrittenAs → List Declared → WrittenAs
all_with w [] = w
all_with w (d ∷ more) = all_with (with_declared w d) more

all_written : (first more : List Declared) → all_with (written_in first) more ≡ written_in (first ++ more)
all_written first [] = ap written_in (sym (no_more first)) where
  no_more : {X : Type 0} (xs : List X) → xs ++ [] ≡ xs
  no_more [] = refl
  no_more (x ∷ xs) = ap (λ ys. x ∷ ys) (no_more xs)
all_written first (d ∷ more) =
    ap (λ w. all_with w more) (sym (written_more first d)) ∙ all_written (first ++ d ∷ []) more ∙ ap written_in (append_assoc first (d ∷ []) more)

itself : (name : List ℕ) → bytes_eq name name ≡ true
itself name = nat_list_eq_equiv.refl name

map_alike : {X Y : Type 0} (f g : X → Y) → ((x : X) → f x ≡ g x) → (xs : List X) → map f xs ≡ map g xs
map_alike f g same [] = refl
map_alike f g same (x ∷ xs) = ap₂ (λ y ys. y ∷ ys) (same x) (map_alike f g same xs)

get_before : {X : Type 0} (xs ys : List X) (k : ℕ) → k < length xs → slice_get (xs ++ ys) k ≡ slice_get xs k
get_before [] ys k less = absurd (omega arith)
get_before (x ∷ xs) ys zero less = refl
get_before (x ∷ xs) ys (suc k) less = get_before xs ys k (omega arith)

module _ (name_of : Declared → List ℕ) (names : List (List ℕ)) (apart : AreApart names) (pre post : List WrittenAs) where
  abbrev number : Declared → Option ℕ
  number d = number_from (length pre) (name_of d) names

  abbrev names_it : List ℕ → Declared → Bool
  names_it name d = bytes_eq (name_of d) name

  abbrev next : (List ℕ → WrittenAs) → Declared → List ℕ → WrittenAs
  next g d name = cond (bytes_eq (name_of d) name) (with_declared (g name) d) (g name)

  one_put : (g : List ℕ → WrittenAs) (d : Declared) → put_one (pre ++ (map g names ++ post)) (number d) d ≡ pre ++ (map (next g d) names ++ post)
  one_put g d = by (is_among (name_of d) names) refl where
    others : (x : List ℕ) → bytes_eq (name_of d) x ≡ false → next g d x ≡ g x
    others x differ = ap (λ b. cond b (with_declared (g x) d) (g x)) differ

    by : (b : Bool) → is_among (name_of d) names ≡ b → put_one (pre ++ (map g names ++ post)) (number d) d ≡ pre ++ (map (next g d) names ++ post)
    by true there =
        let v = with_declared (g (name_of d)) d in
        let p = put_there g (next g d) (name_of d) others (length pre) v names (ap (λ b. cond b v (g (name_of d))) (itself (name_of d))) apart there in
        let less : p.k < length (map g names) = subst (λ n. p.k < n) (sym (length-map names g)) p.within in
        ap (λ o. put_one (pre ++ (map g names ++ post)) o d) p.number
        ∙ ap (λ o. option_map_or (λ w. set (pre ++ (map g names ++ post)) (length pre + p.k) (with_declared w d)) o (pre ++ (map g names ++ post)))
        (get_behind pre (map g names ++ post) p.k ∙ get_before (map g names) post p.k less ∙ p.here)
        ∙ set_behind pre (map g names ++ post) p.k v
        ∙ ap (λ xs. pre ++ xs) (set-append_left (map g names) post p.k v less ∙ ap (λ xs. xs ++ post) (sym p.made))
    by false none =
        ap (λ o. put_one (pre ++ (map g names ++ post)) o d) (number_none (length pre) (name_of d) names none)
        ∙ ap (λ xs. pre ++ (xs ++ post)) (sym (same_others g (next g d) (name_of d) others names none))

  all_put : (g : List ℕ → WrittenAs) (all : List Declared)
      → put_by number (pre ++ (map g names ++ post)) all ≡ pre ++ (map (λ name. all_with (g name) (filter (names_it name) all)) names ++ post)
  all_put g [] = refl
  all_put g (d ∷ all) =
      ap (λ xs. put_by number xs all) (one_put g d) ∙ all_put (next g d) all
      ∙ ap (λ xs. pre ++ (xs ++ post)) (map_alike (λ name. all_with (next g d name) (filter (names_it name) all)) (λ name. all_with (g name) (filter (names_it name) (d ∷ all))) same names)
    where
      same : (name : List ℕ) → all_with (next g d name) (filter (names_it name) all) ≡ all_with (g name) (filter (names_it name) (d ∷ all))
      same name = by (bytes_eq (name_of d) name) where
        by : (b : Bool) → all_with (cond b (with_declared (g name) d) (g name)) (filter (names_it name) all) ≡ all_with (g name) (cond b (d ∷ filter (names_it name) all) (filter (names_it name) all))
        by true = refl
        by false = refl

  -- all that a scoping unit declares of its names
  pub unit_put : (all : List Declared) → put_by number (pre ++ (map (λ name. nothing) names ++ post)) all ≡ pre ++ (map (λ name. written_in (filter (names_it name) all)) names ++ post)
  unit_put all =
      all_put (λ name. nothing) all
      ∙ ap (λ xs. pre ++ (xs ++ post)) (map_alike (λ name. all_with nothing (filter (names_it name) all)) (λ name. written_in (filter (names_it name) all)) (λ name. all_written [] (filter (names_it name) all)) names)
