-- What the USE statements of a scoping unit make accessible (Fortran 90, 11.3.2).
use Rattle.std.specs.Prelude.{ℕ, ◌+◌, Bool, true, false, not, nat_eq, ◌&&◌, if◌then◌else◌, List, [], ◌∷◌, ◌++◌, map, slice_get, Option, Some, None}
use Rattle.std.specs.List.{filter, flat_map, list_any, position}
use Rattle.std.specs.Option.{option_map_or, unwrap_or}
use Rattle.std.specs.Str.{bytes_eq}
use Rattle.ftn_base.specs.declared.entity.EntityId.{EntityId}
use Rattle.ftn_base.specs.Exports.{PairOf, Pair, is_among}
use Rattle.ftn_base.specs.declared.uses.UseItem.{UseItem}
use Rattle.ftn_base.specs.declared.uses.UseList.{UseList}

-- each of a list once, at its first place
abbrev pub once : {A : Type 0} → (A → A → Bool) → List A → List A
once same [] = []
once same (x ∷ xs) = x ∷ filter (λ y. not (same y x)) (once same xs)

abbrev pub is_same_by : {A : Type 0} → (A → A → Bool) → PairOf A → PairOf A → Bool
is_same_by same a b = bytes_eq a.0 b.0 && same a.1 b.1

abbrev pub is_same_entity : EntityId → EntityId → Bool
is_same_entity a b = nat_eq a.0 b.0

abbrev pub is_same_pair : Pair → Pair → Bool
is_same_pair = is_same_by is_same_entity

-- the entities that a module exports by that name, in the order of its exports
abbrev pub entities_of : {A : Type 0} → List (PairOf A) → List ℕ → List A
entities_of exports name = map (λ pair. pair.1) (filter (λ pair. bytes_eq pair.0 name) exports)

-- an item gives its local name for each entity that is found by its source
abbrev pub gives : {A : Type 0} → (List ℕ → List A) → UseItem → List (PairOf A)
gives found item = map (λ entity. (item.local, entity)) (found item.source)

-- what the items of one module give
abbrev pub items_of : {A : Type 0} → List (PairOf A) → List UseItem → List (PairOf A)
items_of exports items = flat_map (gives (entities_of exports)) items

abbrev pub sources_of : List UseItem → List (List ℕ)
sources_of items = map (λ item. item.source) items

-- the pairs whose names are no item's source
abbrev pub others : {A : Type 0} → (List ℕ → Bool) → List (PairOf A) → List (PairOf A)
others is_source exports = filter (λ pair. not (is_source pair.0)) exports

abbrev pub others_of : {A : Type 0} → List (PairOf A) → List UseItem → List (PairOf A)
others_of exports items = others (is_among (sources_of items)) exports

abbrev pub items_in : List UseList → List UseItem
items_in lists = flat_map (λ list. list.items) lists

-- what all lists of one module give: their items, and the other exported names where one of them lacks ONLY
abbrev pub given_by : {A : Type 0} → List (PairOf A) → List UseList → List (PairOf A)
given_by exports lists =
    items_of exports (items_in lists)
    ++ (if list_any (λ list. not list.only) lists then others_of exports (items_in lists) else [])

abbrev pub lists_of : ℕ → List UseList → List UseList
lists_of number lists = filter (λ list. nat_eq list.«module» number) lists

-- the modules, in the order of their first lists
abbrev pub modules_of : List UseList → List ℕ
modules_of lists = once nat_eq (map (λ list. list.«module») lists)

abbrev pub exports_of : {A : Type 0} → List (List (PairOf A)) → ℕ → List (PairOf A)
exports_of exports number = unwrap_or (slice_get exports number) []

-- what all lists give, each pair once, at its first place
abbrev pub accessible_by : {A : Type 0} → (A → A → Bool) → List (List (PairOf A)) → List UseList → List (PairOf A)
accessible_by same exports lists =
    once (is_same_by same) (flat_map (λ number. given_by (exports_of exports number) (lists_of number lists)) (modules_of lists))

abbrev pub accessible_of : List (List Pair) → List UseList → List Pair
accessible_of = accessible_by is_same_entity

abbrev pub is_nothing : {A : Type 0} → List A → Bool
is_nothing [] = true
is_nothing (x ∷ xs) = false

-- the first item whose source isn't found
abbrev pub bad_item : {A : Type 0} → (List ℕ → List A) → List UseItem → Option ℕ
bad_item found items = position (λ item. is_nothing (found item.source)) items

abbrev pub first_from : {A : Type 0} → ℕ → List (List (PairOf A)) → List UseList → Option (ℕ × ℕ)
first_from at exports [] = None
first_from at exports (list ∷ lists) =
    option_map_or (λ item. Some (at, item)) (bad_item (entities_of (exports_of exports list.«module»)) list.items) (first_from (at + 1) exports lists)

-- the numbers of the first list, and in it of the first item, whose source its module doesn't export
abbrev pub first_not_public : {A : Type 0} → List (List (PairOf A)) → List UseList → Option (ℕ × ℕ)
first_not_public exports lists = first_from 0 exports lists
