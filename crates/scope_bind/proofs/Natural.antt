-- Pairs of names with entities told in another way: what is exported and what is accessible then tells them so too.
use Rattle.std.proofs.Common.{◌≡◌, ℕ, Bool, true, false, cond, List, [], ◌∷◌, ◌++◌, filter, map, Option, Some, None, slice_get, refl, sym, ap, ap₂, ◌∙◌}
use Rattle.std.specs.Prelude.{◌&&◌, not}
use Rattle.std.specs.List.{flat_map, list_any, AllByRecursion as Each}
use Rattle.std.specs.Option.{option_map, unwrap_or}
use Rattle.std.specs.Str.{bytes_eq}
use Rattle.std.proofs.lemmas.List.{map-append}
use Rattle.std.proofs.lemmas.Option.{slice_get-map}
use Rattle.scope_bind.proofs.Members.{each_append, each_filter}
use Rattle.ftn_base.specs.declared.uses.Access.{Access}
use Rattle.ftn_base.specs.declared.uses.UseItem.{UseItem}
use Rattle.ftn_base.specs.declared.uses.UseList.{UseList}
use Rattle.ftn_base.specs.Exports.{PairOf, exported, is_among, is_public, public_part}
use Rattle.ftn_base.specs.Accessible.{accessible_by, entities_of, exports_of, given_by, gives, is_same_by, items_in, items_of, lists_of, modules_of, once, others_of, sources_of}

module _ {A B : Type 0} (f : A → B) where
  abbrev pub on_second : PairOf A → PairOf B
  on_second pair = (pair.0, f pair.1)

  abbrev pub on_all : List (PairOf A) → List (PairOf B)
  on_all pairs = map on_second pairs

  -- ---- one list of pairs

  pub filter_names : (test : List ℕ → Bool) (xs : List (PairOf A)) → filter (λ pair. test pair.0) (on_all xs) ≡ on_all (filter (λ pair. test pair.0) xs)
  filter_names test [] = refl
  filter_names test (x ∷ xs) = by (test x.0) (filter_names test xs)
    where
      by : (b : Bool) → filter (λ pair. test pair.0) (on_all xs) ≡ on_all (filter (λ pair. test pair.0) xs)
          → cond b (on_second x ∷ filter (λ pair. test pair.0) (on_all xs)) (filter (λ pair. test pair.0) (on_all xs)) ≡ on_all (cond b (x ∷ filter (λ pair. test pair.0) xs) (filter (λ pair. test pair.0) xs))
      by true e = ap (λ ys. on_second x ∷ ys) e
      by false e = e

  seconds : (xs : List (PairOf A)) → map (λ pair. pair.1) (on_all xs) ≡ map f (map (λ pair. pair.1) xs)
  seconds [] = refl
  seconds (x ∷ xs) = ap (λ ys. f x.1 ∷ ys) (seconds xs)

  pub entities_told : (xs : List (PairOf A)) (name : List ℕ) → entities_of (on_all xs) name ≡ map f (entities_of xs name)
  entities_told xs name = ap (map (λ pair. pair.1)) (filter_names (λ n. bytes_eq n name) xs) ∙ seconds (filter (λ pair. bytes_eq pair.0 name) xs)

  named : (name : List ℕ) (xs : List A) → map (λ entity. (name, entity)) (map f xs) ≡ on_all (map (λ entity. (name, entity)) xs)
  named name [] = refl
  named name (x ∷ xs) = ap (λ ys. (name, f x) ∷ ys) (named name xs)

  -- ---- what the lists of one module give

  gives_told : (xs : List (PairOf A)) (item : UseItem) → gives (entities_of (on_all xs)) item ≡ on_all (gives (entities_of xs) item)
  gives_told xs item = ap (map (λ entity. (item.local, entity))) (entities_told xs item.source) ∙ named item.local (entities_of xs item.source)

  items_told : (xs : List (PairOf A)) (items : List UseItem) → items_of (on_all xs) items ≡ on_all (items_of xs items)
  items_told xs [] = refl
  items_told xs (item ∷ items) = ap₂ (λ a b. a ++ b) (gives_told xs item) (items_told xs items) ∙ sym (map-append on_second (gives (entities_of xs) item) (items_of xs items))

  if_told : (b : Bool) (xs : List (PairOf A)) → cond b (on_all xs) [] ≡ on_all (cond b xs [])
  if_told true xs = refl
  if_told false xs = refl

  pub given_told : (xs : List (PairOf A)) (lists : List UseList) → given_by (on_all xs) lists ≡ on_all (given_by xs lists)
  given_told xs lists =
      ap₂ (λ a b. a ++ cond (list_any (λ list. not list.only) lists) b []) (items_told xs (items_in lists)) (filter_names (λ n. not (is_among (sources_of (items_in lists)) n)) xs)
      ∙ ap (λ b. on_all (items_of xs (items_in lists)) ++ b) (if_told (list_any (λ list. not list.only) lists) (others_of xs (items_in lists)))
      ∙ sym (map-append on_second (items_of xs (items_in lists)) (cond (list_any (λ list. not list.only) lists) (others_of xs (items_in lists)) []))

  or_none : (found : Option (List (PairOf A))) → unwrap_or (option_map on_all found) [] ≡ on_all (unwrap_or found [])
  or_none None = refl
  or_none (Some xs) = refl

  pub exports_told : (xss : List (List (PairOf A))) (number : ℕ) → exports_of (map on_all xss) number ≡ on_all (exports_of xss number)
  exports_told xss number = ap (λ o. unwrap_or o []) (slice_get-map on_all xss number) ∙ or_none (slice_get xss number)

  -- ---- what is exported

  pub exported_told : (own used : List (PairOf A)) (access : Access) → exported (on_all own) (on_all used) access ≡ on_all (exported own used access)
  exported_told own used access =
      ap₂ (λ a b. a ++ b) (filter_names (is_public access.default_public (is_among access.public) (is_among access.private)) own) (filter_names (is_public access.default_public (is_among access.public) (is_among access.private)) used)
      ∙ sym (map-append on_second (public_part access.default_public (is_among access.public) (is_among access.private) own) (public_part access.default_public (is_among access.public) (is_among access.private) used))

-- ---- each once, where what is known of entities tells them apart

pub each_once : {A : Type 0} (P : A → Type 0) (same : A → A → Bool) (xs : List A) → Each P xs → Each P (once same xs)
each_once P same [] all = tt
each_once P same (x ∷ xs) all = (all.0, each_filter P (λ y. not (same y x)) (once same xs) (each_once P same xs all.1))

module _ {A B : Type 0} (g : A → B) (same : A → A → Bool) (same_told : B → B → Bool) (Known : A → Type 0)
    (agrees : (a b : A) → Known a → Known b → same_told (g a) (g b) ≡ same a b) where
  others_than : (x : A) → Known x → (xs : List A) → Each Known xs
      → filter (λ y. not (same_told y (g x))) (map g xs) ≡ map g (filter (λ y. not (same y x)) xs)
  others_than x known [] all = refl
  others_than x known (y ∷ ys) all =
      ap (λ b. cond (not b) (g y ∷ filter (λ y. not (same_told y (g x))) (map g ys)) (filter (λ y. not (same_told y (g x))) (map g ys))) (agrees y x all.0 known)
      ∙ by (not (same y x)) (others_than x known ys all.1)
    where
      by : (b : Bool) → filter (λ y. not (same_told y (g x))) (map g ys) ≡ map g (filter (λ y. not (same y x)) ys)
          → cond b (g y ∷ filter (λ y. not (same_told y (g x))) (map g ys)) (filter (λ y. not (same_told y (g x))) (map g ys))
          ≡ map g (cond b (y ∷ filter (λ y. not (same y x)) ys) (filter (λ y. not (same y x)) ys))
      by true e = ap (λ zs. g y ∷ zs) e
      by false e = e

  pub once_told : (xs : List A) → Each Known xs → once same_told (map g xs) ≡ map g (once same xs)
  once_told [] all = refl
  once_told (x ∷ xs) all =
      ap (λ ys. g x ∷ filter (λ y. not (same_told y (g x))) ys) (once_told xs all.1)
      ∙ ap (λ ys. g x ∷ ys) (others_than x all.0 (once same xs) (each_once Known same xs all.1))

-- ---- what is accessible

abbrev pub KnownPairs : {A : Type 0} → (A → Type 0) → List (PairOf A) → Type 0
KnownPairs Known pairs = Each (λ pair. Known pair.1) pairs

module _ {A : Type 0} (Known : A → Type 0) where
  seconds_known : (xs : List (PairOf A)) → KnownPairs Known xs → Each Known (map (λ pair. pair.1) xs)
  seconds_known [] all = tt
  seconds_known (x ∷ xs) all = (all.0, seconds_known xs all.1)

  named_known : (name : List ℕ) (xs : List A) → Each Known xs → KnownPairs Known (map (λ entity. (name, entity)) xs)
  named_known name [] all = tt
  named_known name (x ∷ xs) all = (all.0, named_known name xs all.1)

  pub entities_known : (xs : List (PairOf A)) (name : List ℕ) → KnownPairs Known xs → Each Known (entities_of xs name)
  entities_known xs name all = seconds_known (filter (λ pair. bytes_eq pair.0 name) xs) (each_filter (λ pair. Known pair.1) (λ pair. bytes_eq pair.0 name) xs all)

  items_known : (xs : List (PairOf A)) (items : List UseItem) → KnownPairs Known xs → KnownPairs Known (items_of xs items)
  items_known xs [] all = tt
  items_known xs (item ∷ items) all =
      each_append (λ pair. Known pair.1) (gives (entities_of xs) item) (items_of xs items) (named_known item.local (entities_of xs item.source) (entities_known xs item.source all)) (items_known xs items all)

  pub given_known : (xs : List (PairOf A)) (lists : List UseList) → KnownPairs Known xs → KnownPairs Known (given_by xs lists)
  given_known xs lists all =
      each_append (λ pair. Known pair.1) (items_of xs (items_in lists)) (cond (list_any (λ list. not list.only) lists) (others_of xs (items_in lists)) []) (items_known xs (items_in lists) all)
      (by (list_any (λ list. not list.only) lists))
    where
      by : (b : Bool) → KnownPairs Known (cond b (others_of xs (items_in lists)) [])
      by true = each_filter (λ pair. Known pair.1) (λ pair. not (is_among (sources_of (items_in lists)) pair.0)) xs all
      by false = tt

  each_given_known : (xss : List (List (PairOf A))) (lists : List UseList) (numbers : List ℕ) → ((number : ℕ) → KnownPairs Known (exports_of xss number))
      → KnownPairs Known (flat_map (λ number. given_by (exports_of xss number) (lists_of number lists)) numbers)
  each_given_known xss lists [] all = tt
  each_given_known xss lists (number ∷ numbers) all =
      each_append (λ pair. Known pair.1) (given_by (exports_of xss number) (lists_of number lists)) (flat_map (λ number. given_by (exports_of xss number) (lists_of number lists)) numbers)
      (given_known (exports_of xss number) (lists_of number lists) (all number)) (each_given_known xss lists numbers all)

  pub accessible_known : (same : A → A → Bool) (xss : List (List (PairOf A))) (lists : List UseList) → ((number : ℕ) → KnownPairs Known (exports_of xss number))
      → KnownPairs Known (accessible_by same xss lists)
  accessible_known same xss lists all =
      each_once (λ pair. Known pair.1) (is_same_by same) (flat_map (λ number. given_by (exports_of xss number) (lists_of number lists)) (modules_of lists))
      (each_given_known xss lists (modules_of lists) all)

  pub exported_known : (own used : List (PairOf A)) (access : Access) → KnownPairs Known own → KnownPairs Known used → KnownPairs Known (exported own used access)
  exported_known own used access all more =
      each_append (λ pair. Known pair.1) (public_part access.default_public (is_among access.public) (is_among access.private) own)
      (public_part access.default_public (is_among access.public) (is_among access.private) used)
      (each_filter (λ pair. Known pair.1) (λ pair. is_public access.default_public (is_among access.public) (is_among access.private) pair.0) own all)
      (each_filter (λ pair. Known pair.1) (λ pair. is_public access.default_public (is_among access.public) (is_among access.private) pair.0) used more)

module _ {A B : Type 0} (f : A → B) (same : A → A → Bool) (same_told : B → B → Bool) (Known : A → Type 0)
    (agrees : (a b : A) → Known a → Known b → same_told (f a) (f b) ≡ same a b) where
  each_given_told : (xss : List (List (PairOf A))) (yss : List (List (PairOf B))) (lists : List UseList) (numbers : List ℕ)
      → Each (λ number. exports_of yss number ≡ on_all f (exports_of xss number)) numbers
      → flat_map (λ number. given_by (exports_of yss number) (lists_of number lists)) numbers ≡ on_all f (flat_map (λ number. given_by (exports_of xss number) (lists_of number lists)) numbers)
  each_given_told xss yss lists [] all = refl
  each_given_told xss yss lists (number ∷ numbers) all =
      ap₂ (λ a b. given_by a (lists_of number lists) ++ b) all.0 (each_given_told xss yss lists numbers all.1)
      ∙ ap (λ a. a ++ on_all f (flat_map (λ number. given_by (exports_of xss number) (lists_of number lists)) numbers)) (given_told f (exports_of xss number) (lists_of number lists))
      ∙ sym (map-append (on_second f) (given_by (exports_of xss number) (lists_of number lists)) (flat_map (λ number. given_by (exports_of xss number) (lists_of number lists)) numbers))

  -- where the modules of these lists export alike
  pub accessible_told : (xss : List (List (PairOf A))) (yss : List (List (PairOf B))) (lists : List UseList)
      → Each (λ number. exports_of yss number ≡ on_all f (exports_of xss number)) (modules_of lists) → ((number : ℕ) → KnownPairs Known (exports_of xss number))
      → accessible_by same_told yss lists ≡ on_all f (accessible_by same xss lists)
  accessible_told xss yss lists alike known =
      ap (once (is_same_by same_told)) (each_given_told xss yss lists (modules_of lists) alike)
      ∙ once_told (on_second f) (is_same_by same) (is_same_by same_told) (λ pair. Known pair.1) (λ a b first second. ap (λ c. bytes_eq a.0 b.0 && c) (agrees a.1 b.1 first second))
      (flat_map (λ number. given_by (exports_of xss number) (lists_of number lists)) (modules_of lists)) (each_given_known Known xss lists (modules_of lists) known)

-- ---- where only the modules of the lists count (the same entities)

pub accessible_alike : {A : Type 0} (same : A → A → Bool) (xss yss : List (List (PairOf A))) (lists : List UseList)
    → Each (λ number. exports_of yss number ≡ exports_of xss number) (modules_of lists) → accessible_by same yss lists ≡ accessible_by same xss lists
accessible_alike {A} same xss yss lists alike = ap (once (is_same_by same)) (by (modules_of lists) alike)
  where
    by : (numbers : List ℕ) → Each (λ number. exports_of yss number ≡ exports_of xss number) numbers
        → flat_map (λ number. given_by (exports_of yss number) (lists_of number lists)) numbers ≡ flat_map (λ number. given_by (exports_of xss number) (lists_of number lists)) numbers
    by [] all = refl
    by (number ∷ numbers) all = ap₂ (λ a b. given_by a (lists_of number lists) ++ b) all.0 (by numbers all.1)
