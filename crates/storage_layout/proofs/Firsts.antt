-- The first list of a block, among the lists so far and among all.
use Rattle.std.proofs.Common.{◌≡◌, ◌≢◌, ℕ, ◌+◌, List, [], ◌∷◌, ◌++◌, Bool, true, false, cond, nat_eq, Option, Some, take, drop, slice_get, refl, sym, ◌∙◌, subst, ap}
use Rattle.std.specs.Option.{unwrap_or, option_map}
use Rattle.std.proofs.lemmas.List.{take_more, take-append-drop, append-nil}
use Rattle.std.proofs.lemmas.List.Elements.{filter-append}
use Rattle.std.proofs.lemmas.Option.{slice_get_within, get_or_from_slice_get, same_Some}
use Rattle.std.proofs.lemmas.Bool.{eqb-true, eq-eqb}
use Rattle.ftn_base.specs.declared.storage.BlockList.{BlockList}
use Rattle.storage_layout.specs.steps.Ends.{lists_of, first_of, IsUneven}

one_kept : (number : ℕ) (list : BlockList) → nat_eq list.block number ≡ true → lists_of number (list ∷ []) ≡ list ∷ []
one_kept number list e = ap (λ (b : Bool). cond b (list ∷ []) []) e

one_left : (number : ℕ) (list : BlockList) → nat_eq list.block number ≡ false → lists_of number (list ∷ []) ≡ []
one_left number list e = ap (λ (b : Bool). cond b (list ∷ []) []) e

abbrev scope_of : List BlockList → Option ℕ
scope_of lists = option_map (λ (l : BlockList). l.scope) (slice_get lists 0)

first_added : (before : List BlockList) (list : BlockList) → scope_of (before ++ list ∷ []) ≡ Some (unwrap_or (scope_of before) list.scope)
first_added [] list = refl
first_added (one ∷ rest) list = refl

-- with one list more
pub first_push : (number : ℕ) (blocks : List BlockList) (list : BlockList)
    → first_of number (blocks ++ list ∷ []) ≡ cond (nat_eq list.block number) (Some (unwrap_or (first_of list.block blocks) list.scope)) (first_of number blocks)
first_push number blocks list = ap scope_of (filter-append (λ (l : BlockList). nat_eq l.block number) blocks (list ∷ [])) ∙ by_case (nat_eq list.block number) refl
  where
    by_case : (b : Bool) → nat_eq list.block number ≡ b → scope_of (lists_of number blocks ++ lists_of number (list ∷ [])) ≡ cond b (Some (unwrap_or (first_of list.block blocks) list.scope)) (first_of number blocks)
    by_case true e =
        ap (λ (rest : List BlockList). scope_of (lists_of number blocks ++ rest)) (one_kept number list e) ∙ first_added (lists_of number blocks) list
        ∙ ap (λ (k : ℕ). Some (unwrap_or (first_of k blocks) list.scope)) (sym (eqb-true list.block number e))
    by_case false e = ap (λ (rest : List BlockList). scope_of (lists_of number blocks ++ rest)) (one_left number list e) ∙ ap scope_of (append-nil (lists_of number blocks))

-- the block's first list among all is its first one so far, or the list at hand
pub first_list : (blocks : List BlockList) (number : ℕ) (list : BlockList) → slice_get blocks number ≡ Some list
    → (first : BlockList) × (slice_get (lists_of list.block blocks) 0 ≡ Some first) × (first.scope ≡ unwrap_or (first_of list.block (take number blocks)) list.scope)
first_list blocks number list there =
    let front : take (number + 1) blocks ≡ take number blocks ++ list ∷ [] =
    take_more blocks number list (slice_get_within blocks number list there) ∙ ap (λ (l : BlockList). take number blocks ++ l ∷ []) (get_or_from_slice_get blocks number list list there) in
    let whole : blocks ≡ (take number blocks ++ list ∷ []) ++ drop (number + 1) blocks =
    sym (take-append-drop (number + 1) blocks) ∙ ap (λ (l : List BlockList). l ++ drop (number + 1) blocks) front in
    let parts : lists_of list.block blocks ≡ (lists_of list.block (take number blocks) ++ list ∷ []) ++ lists_of list.block (drop (number + 1) blocks) =
    ap (lists_of list.block) whole ∙ filter-append (λ (l : BlockList). nat_eq l.block list.block) (take number blocks ++ list ∷ []) (drop (number + 1) blocks)
    ∙ ap (λ (l : List BlockList). l ++ lists_of list.block (drop (number + 1) blocks))
    (filter-append (λ (l : BlockList). nat_eq l.block list.block) (take number blocks) (list ∷ []) ∙ ap (λ (l : List BlockList). lists_of list.block (take number blocks) ++ l) (one_kept list.block list (eq-eqb list.block list.block refl))) in
    let found = at_front (lists_of list.block (take number blocks)) list (lists_of list.block (drop (number + 1) blocks)) in
    (found.0, ap (λ (l : List BlockList). slice_get l 0) parts ∙ found.1, found.2)
  where
    at_front : (before : List BlockList) (l : BlockList) (after : List BlockList) → (first : BlockList) × (slice_get ((before ++ l ∷ []) ++ after) 0 ≡ Some first) × (first.scope ≡ unwrap_or (scope_of before) l.scope)
    at_front [] l after = (l, refl, refl)
    at_front (one ∷ rest) l after = (one, refl, refl)

module _ (blocks : List BlockList) (end : ℕ → ℕ → ℕ) (number : ℕ) (list : BlockList) (there : slice_get blocks number ≡ Some list) (first : ℕ) (is_first : first ≡ unwrap_or (first_of list.block (take number blocks)) list.scope) where
  pub is_uneven : (list.named ≡ true) × (end list.block list.scope ≢ end list.block first) → IsUneven blocks end number
  is_uneven odd =
      let found = first_list blocks number list there in
      record {
        list = list;
        first = found.0;
        there = there;
        first_there = found.1;
        named = odd.0;
        apart = λ same. odd.1 (same ∙ ap (end list.block) (found.2 ∙ sym is_first));
      }

  pub uneven_is : IsUneven blocks end number → (list.named ≡ true) × (end list.block list.scope ≢ end list.block first)
  uneven_is is =
      let found = first_list blocks number list there in
      let one : is.list ≡ list = same_Some is.list list (sym is.there ∙ there) in
      let one_first : is.first ≡ found.0 = same_Some is.first found.0 (sym is.first_there ∙ ap (λ (l : BlockList). slice_get (lists_of l.block blocks) 0) one ∙ found.1) in (
        subst (λ (l : BlockList). l.named ≡ true) one is.named,
        λ same. subst (λ (l : BlockList). end l.block l.scope ≢ end l.block is.first.scope) one is.apart
            (same ∙ ap (end list.block) (is_first ∙ sym found.2 ∙ ap (λ (l : BlockList). l.scope) (sym one_first))),
      )
