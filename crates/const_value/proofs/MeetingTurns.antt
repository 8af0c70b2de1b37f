-- The least token of a range that meets one of an earlier list, one range after the other.
use Rattle.std.proofs.Common.{◌≡◌, ℕ, ◌+◌, ◌<◌, Bool, true, false, cond, List, [], ◌∷◌, ◌++◌, filter, map, length, take, drop, get_or, max, Option, refl, sym, ap, ap₂, ◌∙◌, append_assoc, append-nil}
use Rattle.std.specs.List.{list_any}
use Rattle.std.specs.List.Sorted.{IsPermutation}
use Rattle.std.proofs.lemmas.List.{drop_more, map-append, take_more}
use Rattle.std.proofs.lemmas.List.Concat.{flat_map-append}
use Rattle.std.proofs.lemmas.List.Elements.{filter-append}
use Rattle.std.proofs.lemmas.List.Sorted.{list_any-IsPermutation}
use Rattle.const_value.specs.declared.intervals.Reach.{Reach}
use Rattle.const_value.specs.declared.intervals.Span.{Span}
use Rattle.const_value.specs.steps.Intervals.{all_of, ends_of, least, meets, meets_ends, raised, token_if, tokens_by, tokens_meeting}
use Rattle.const_value.proofs.Meetings.{least_joined, lesser, lesser_joins}
use Rattle.const_value.proofs.Reaches.{any_ends}

-- ---- ends

next : {X : Type 0} (items : X → List Span) (lists : List X) (at : ℕ) (x : X) → at < length lists → x ≡ get_or lists at x → all_of (map items (take (at + 1) lists)) ≡ all_of (map items (take at lists)) ++ items x
next items lists at x less is =
    ap (λ ls. all_of (map items ls)) (take_more lists at x less) ∙ ap all_of (map-append items (take at lists) (get_or lists at x ∷ []))
    ∙ flat_map-append (λ (list : List Span). list) (map items (take at lists)) (items (get_or lists at x) ∷ [])
    ∙ ap (λ ys. all_of (map items (take at lists)) ++ ys) (append-nil (items (get_or lists at x))) ∙ ap (λ y. all_of (map items (take at lists)) ++ items y) (sym is)

pub ends_turn : {X : Type 0} (items : X → List Span) (lists : List X) (at : ℕ) (x : X) (before after : List Reach) → at < length lists → x ≡ get_or lists at x
    → before ≡ map ends_of (all_of (map items (take at lists))) → after ≡ before ++ map ends_of (items x) → after ≡ map ends_of (all_of (map items (take (at + 1) lists)))
ends_turn items lists at x before after less is so_far one =
    one ∙ ap (λ rs. rs ++ map ends_of (items x)) so_far ∙ sym (map-append ends_of (all_of (map items (take at lists))) (items x)) ∙ ap (map ends_of) (sym (next items lists at x less is))

pub raised_turn : (all made new : List Reach) (at most : ℕ) (r : Reach) → at < length all → r ≡ get_or all at r → raised 0 all ≡ made ++ raised most (drop at all)
    → new ≡ made ++ record { low = r.low; high = max most r.high } ∷ [] → raised 0 all ≡ new ++ raised (max most r.high) (drop (at + 1) all)
raised_turn all made new at most r less is so_far one =
    so_far ∙ ap (λ rs. made ++ raised most rs) (drop_more all at r less ∙ ap (λ x. x ∷ drop (at + 1) all) (sym is))
    ∙ sym (append_assoc made (record { low = r.low; high = max most r.high } ∷ []) (raised (max most r.high) (drop (at + 1) all)))
    ∙ ap (λ rs. rs ++ raised (max most r.high) (drop (at + 1) all)) (sym one)

-- ---- the least token so far

tokens_joined : (ends : List Reach) (xs ys : List Span) → tokens_by ends (xs ++ ys) ≡ tokens_by ends xs ++ tokens_by ends ys
tokens_joined ends xs ys =
    ap (map (λ (s : Span). s.token)) (filter-append (λ s. list_any (meets_ends s) ends) xs ys)
    ∙ map-append (λ (s : Span). s.token) (filter (λ s. list_any (meets_ends s) ends) xs) (filter (λ s. list_any (meets_ends s) ends) ys)

least_both : (ends : List Reach) (xs ys : List Span) → least (tokens_by ends (xs ++ ys)) ≡ lesser (least (tokens_by ends xs)) (least (tokens_by ends ys))
least_both ends xs ys = ap least (tokens_joined ends xs ys) ∙ least_joined (tokens_by ends xs) (tokens_by ends ys)

alone : (s : Span) (t : Bool) → least (map (λ (s : Span). s.token) (cond t (s ∷ []) [])) ≡ token_if s t
alone s true = refl
alone s false = refl

pub first_turn : (ends : List Reach) (list : List Span) (at : ℕ) (d : Span) (init first made : Option ℕ) → at < length list
    → first ≡ lesser init (least (tokens_by ends (take at list))) → made ≡ lesser first (token_if (get_or list at d) (list_any (meets_ends (get_or list at d)) ends))
    → made ≡ lesser init (least (tokens_by ends (take (at + 1) list)))
first_turn ends list at d init first made less so_far one =
    let s = get_or list at d in
    one ∙ ap (λ o. lesser o (token_if s (list_any (meets_ends s) ends))) so_far
    ∙ lesser_joins init (least (tokens_by ends (take at list))) (token_if s (list_any (meets_ends s) ends))
    ∙ ap (lesser init)
    (ap (lesser (least (tokens_by ends (take at list)))) (sym (alone s (list_any (meets_ends s) ends))) ∙ sym (least_both ends (take at list) (s ∷ []))
    ∙ ap (λ xs. least (tokens_by ends xs)) (sym (take_more list at d less)))

pub across_turn : {X : Type 0} (items : X → List Span) (ends : List Reach) (lists : List X) (at : ℕ) (x : X) (first made : Option ℕ) → at < length lists → x ≡ get_or lists at x
    → first ≡ least (tokens_by ends (all_of (map items (take at lists)))) → made ≡ lesser first (least (tokens_by ends (items x))) → made ≡ least (tokens_by ends (all_of (map items (take (at + 1) lists))))
across_turn items ends lists at x first made less is so_far one =
    one ∙ ap (λ o. lesser o (least (tokens_by ends (items x)))) so_far ∙ sym (least_both ends (all_of (map items (take at lists))) (items x))
    ∙ ap (λ xs. least (tokens_by ends xs)) (sym (next items lists at x less is))

-- ---- ends in another order

filter_alike : (p q : Span → Bool) → ((s : Span) → p s ≡ q s) → (xs : List Span) → filter p xs ≡ filter q xs
filter_alike p q same [] = refl
filter_alike p q same (x ∷ xs) = ap₂ (λ (t : Bool) (rest : List Span). cond t (x ∷ rest) rest) (same x) (filter_alike p q same xs)

pub in_order : (ends : List Reach) (spans here : List Span) → IsPermutation (map ends_of spans) ends → tokens_by ends here ≡ tokens_meeting spans here
in_order ends spans here moved =
    ap (map (λ (s : Span). s.token)) (filter_alike (λ s. list_any (meets_ends s) ends) (λ s. list_any (meets s) spans)
    (λ s. sym (list_any-IsPermutation (meets_ends s) (map ends_of spans) ends moved) ∙ any_ends s spans) here)
