-- What the lists of one module give, and the tables of modules.
use Rattle.std.proofs.Common.{◌≡◌, ℕ, ◌+◌, ◌<◌, nat_eq, Bool, true, false, cond, List, [], ◌++◌, length, drop, get_or, map, Option, Some, None, slice_get, refl, sym, ap, subst, ◌∙◌}
use Rattle.std.specs.Prelude.{not, IfSome}
use Rattle.std.specs.List.{flat_map, list_any}
use Rattle.std.specs.Option.{option_map, option_map_or, unwrap_or}
use Rattle.std.proofs.lemmas.Option.{slice_get-get_or, slice_get-map}
use Rattle.std.proofs.lemmas.Bool.{eqb-true}
use Rattle.indexmap.specs.IndexMap.{IndexMap, get}
use Rattle.indexmap.specs.IndexSet.{insert_all}
use Rattle.ftn_base.specs.declared.entity.EntityId.{EntityId}
use Rattle.ftn_base.specs.Exports.{Pair, is_among}
use Rattle.ftn_base.specs.Accessible.{accessible_of, bad_item, entities_of, exports_of, first_from, given_by, gives, is_same_pair, items_in, items_of, lists_of, modules_of, others, others_of, sources_of}
use Rattle.ftn_base.specs.declared.uses.UseList.{UseList}
use Rattle.use_assoc.specs.steps.Table.{AreTables, found_in}
use Rattle.use_assoc.specs.declared.table.Table.{Table}
use Rattle.use_assoc.proofs.Adding.{all_append, opened}
use Rattle.use_assoc.proofs.Once.{pairs_once}

-- ---- tables

pub at_is : {V A : Type 0} (f : V → List A) (xs : List V) (n : ℕ) (x : V) → n < length xs → x ≡ get_or xs n x → f x ≡ unwrap_or (slice_get (map f xs) n) []
at_is f xs n x lt at = ap f at ∙ sym (ap (λ o. unwrap_or o []) (slice_get-map f xs n ∙ ap (option_map f) (slice_get-get_or xs n x lt)))

pub one_is : {A : Type 0} (xs : List (List A)) (n : ℕ) (x : List A) → n < length xs → x ≡ get_or xs n x → x ≡ unwrap_or (slice_get xs n) []
one_is xs n x lt at = at ∙ sym (ap (λ o. unwrap_or o []) (slice_get-get_or xs n x lt))

abbrev IsRight : List (List Pair) → ℕ → Option Table → Type 0
IsRight exports number table = IfSome table (λ t. found_in t.by_name ≡ entities_of (exports_of exports number))

module _ {H : Type 0} (exports : List (List Pair)) where
  pub table_added : (old new : IndexMap ℕ Table H) (number : ℕ) (table : Table) → AreTables exports old
      → ((q : ℕ) → get nat_eq new q ≡ cond (nat_eq number q) (Some table) (get nat_eq old q))
      → found_in table.by_name ≡ entities_of (exports_of exports number) → AreTables exports new
  table_added old new number table before updates right q = subst (IsRight exports q) (sym (updates q)) (by (nat_eq number q) refl)
    where
      by : (b : Bool) → nat_eq number q ≡ b → IsRight exports q (cond b (Some table) (get nat_eq old q))
      by true e = right ∙ ap (λ n. entities_of (exports_of exports n)) (eqb-true number q e)
      by false e = before q

  pub table_right : (tables : IndexMap ℕ Table H) (number : ℕ) (table : Table) → get nat_eq tables number ≡ Some table → AreTables exports tables
      → found_in table.by_name ≡ entities_of (exports_of exports number)
  table_right tables number table at right = subst (λ o. IfSome o (λ t. found_in t.by_name ≡ entities_of (exports_of exports number))) at (right number)

-- ---- the first item that isn't exported

module _ (exports : List (List Pair)) (lists : List UseList) (i at : ℕ) (list : UseList) (found : List ℕ → List EntityId) (whole : Option (ℕ × ℕ)) (lt : i < length lists)
    (here : list ≡ get_or lists i list) (right : found ≡ entities_of (exports_of exports list.«module»)) (so_far : whole ≡ first_from at exports (drop i lists)) where
  unrolled : whole ≡ option_map_or (λ item. Some (at, item)) (bad_item found list.items) (first_from (at + 1) exports (drop (i + 1) lists))
  unrolled = so_far ∙ ap (first_from at exports) (opened lists i list lt here)
      ∙ ap (λ f. option_map_or (λ item. Some (at, item)) (bad_item f list.items) (first_from (at + 1) exports (drop (i + 1) lists))) (sym right)

  pub first_found : (item : ℕ) → bad_item found list.items ≡ Some item → Some (at, item) ≡ whole
  first_found item bad = sym (unrolled ∙ ap (λ o. option_map_or (λ n. Some (at, n)) o (first_from (at + 1) exports (drop (i + 1) lists))) bad)

  pub first_passed : bad_item found list.items ≡ None → whole ≡ first_from (at + 1) exports (drop (i + 1) lists)
  first_passed good = unrolled ∙ ap (λ o. option_map_or (λ n. Some (at, n)) o (first_from (at + 1) exports (drop (i + 1) lists))) good

-- ---- what one module gives

module _ (found : List ℕ → List EntityId) (pairs : List Pair) (lists : List UseList) (old new : List Pair) (right : found ≡ entities_of pairs)
    (items_added : new ≡ insert_all is_same_pair old (flat_map (gives found) (items_in lists))) where
  added : new ≡ insert_all is_same_pair old (items_of pairs (items_in lists))
  added = items_added ∙ ap (λ f. insert_all is_same_pair old (flat_map (gives f) (items_in lists))) right

  with_rest : (takes : Bool) → takes ≡ list_any (λ list. not list.only) lists
      → insert_all is_same_pair old (given_by pairs lists) ≡ insert_all is_same_pair new (cond takes (others_of pairs (items_in lists)) [])
  with_rest takes e =
      ap (λ b. insert_all is_same_pair old (items_of pairs (items_in lists) ++ cond b (others_of pairs (items_in lists)) [])) (sym e)
      ∙ all_append is_same_pair old (items_of pairs (items_in lists)) (cond takes (others_of pairs (items_in lists)) [])
      ∙ ap (λ xs. insert_all is_same_pair xs (cond takes (others_of pairs (items_in lists)) [])) (sym added)

  pub only_items : false ≡ list_any (λ list. not list.only) lists → new ≡ insert_all is_same_pair old (given_by pairs lists)
  only_items e = sym (with_rest false e)

  pub items_and_others : (last : List Pair) (is_source : List ℕ → Bool) → true ≡ list_any (λ list. not list.only) lists
      → is_source ≡ is_among (sources_of (items_in lists)) → last ≡ insert_all is_same_pair new (others is_source pairs)
      → last ≡ insert_all is_same_pair old (given_by pairs lists)
  items_and_others last is_source e sources others_added =
      others_added ∙ ap (λ test. insert_all is_same_pair new (others test pairs)) sources ∙ sym (with_rest true e)

-- ---- what all modules give

module _ (exports : List (List Pair)) (lists : List UseList) (start given : List Pair) (modules : List ℕ) (found : ℕ → List UseList) where
  pub all_is : start ≡ [] → modules ≡ modules_of lists → ((number : ℕ) → found number ≡ lists_of number lists)
      → given ≡ insert_all is_same_pair start (flat_map (λ number. given_by (exports_of exports number) (found number)) modules) → given ≡ accessible_of exports lists
  all_is none order right e =
      e ∙ ap (λ s. insert_all is_same_pair s (flat_map (λ number. given_by (exports_of exports number) (found number)) modules)) none
      ∙ ap (λ (f : ℕ → List UseList). insert_all is_same_pair [] (flat_map (λ number. given_by (exports_of exports number) (f number)) modules)) (λ i number. right number i)
      ∙ ap (λ ms. insert_all is_same_pair [] (flat_map (λ number. given_by (exports_of exports number) (lists_of number lists)) ms)) order
      ∙ pairs_once (flat_map (λ number. given_by (exports_of exports number) (lists_of number lists)) (modules_of lists))
