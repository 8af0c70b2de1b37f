-- Where a byte outside all ranges stands after edits.
use Rattle.std.proofs.Common.{◌≡◌, ℕ, ◌+◌, ◌-◌, ◌<◌, ◌≤◌, true, false, ◌||◌, nat_le, nat_lt, suc, zero, List, [], ◌∷◌, ◌++◌, length, take, drop, slice_get, ◌⊎◌, inl, inr, refl, sym, ap, ◌∙◌, arith}
use Rattle.std.proofs.lemmas.Bool.{and_parts, cond-true, cond-false, leb-true, lt-leb, ltb-true, or_cases}
use Rattle.std.proofs.lemmas.List.{length-take-le, length-drop}
use Rattle.std.proofs.lemmas.List.Sums.{sum_by-cons}
use Rattle.token_edit.proofs.Chains.{is_chain, Link, first_link, chain_inside, fit_is_chain}
use Rattle.token_edit.specs.Edits.{piece, applied_from, applied, is_outside, edits_before, added, removed, moved, BytesOutsideStay}
use Rattle.token_edit.specs.declared.edit.Edit.{Edit}

get-left : (xs ys : List ℕ) (n : ℕ) → n < length xs → slice_get (xs ++ ys) n ≡ slice_get xs n
get-left [] ys n low = absurd (omega arith)
get-left (x ∷ xs) ys zero low = refl
get-left (x ∷ xs) ys (suc n) low = get-left xs ys n (omega arith)

get-right : (xs ys : List ℕ) (n : ℕ) → slice_get (xs ++ ys) (length xs + n) ≡ slice_get ys n
get-right [] ys n = ap (slice_get ys) (omega arith)
get-right (x ∷ xs) ys n =
    let next : length (x ∷ xs) + n ≡ suc (length xs + n) = omega arith in
    ap (slice_get (x ∷ (xs ++ ys))) next ∙ get-right xs ys n

get-take : (n : ℕ) (xs : List ℕ) (i : ℕ) → i < n → slice_get (take n xs) i ≡ slice_get xs i
get-take zero xs i low = absurd (omega arith)
get-take (suc n) [] i low = refl
get-take (suc n) (x ∷ xs) zero low = refl
get-take (suc n) (x ∷ xs) (suc i) low = get-take n xs i (omega arith)

get-drop : (n : ℕ) (xs : List ℕ) (i : ℕ) → slice_get (drop n xs) i ≡ slice_get xs (n + i)
get-drop zero xs i = ap (slice_get xs) (omega arith)
get-drop (suc n) [] i = refl
get-drop (suc n) (x ∷ xs) i =
    let next : suc n + i ≡ suc (n + i) = omega arith in
    get-drop n xs i ∙ ap (slice_get (x ∷ xs)) (sym next)

-- where all ranges start after a place, no edit is before it
none_before : (at long : ℕ) (edits : List Edit) (place : ℕ) → is_chain at long edits ≡ true → place < at → edits_before edits place ≡ []
none_before at long [] place chain low = refl
none_before at long (edit ∷ edits) place chain low =
    let link = first_link at long edit edits chain in
    let starts = link.starts in
    let rises = link.rises in
    let no : nat_le edit.range.end place ≡ false = lt-leb edit.range.end place (omega arith) in
    cond-false (nat_le edit.range.end place) (edit ∷ edits_before edits place) (edits_before edits place) no ∙ none_before edit.range.end long edits place link.rest (omega arith)

-- a byte from that place on stands as far on as the edits move it
record StaysFrom (text : List ℕ) (at : ℕ) (edits : List Edit) (place : ℕ) : Type 0 where
  difference : removed (edits_before edits place) ≤ place - at
  byte : slice_get (applied_from text at edits) (place - at + added (edits_before edits place) - removed (edits_before edits place)) ≡ slice_get text place

stays : (text : List ℕ) (at : ℕ) (edits : List Edit) (place : ℕ) → is_chain at (length text) edits ≡ true → is_outside edits place ≡ true → at ≤ place → StaysFrom text at edits place
stays text at [] place chain out from =
    let index : at + (place - at + 0 - 0) ≡ place = omega arith in
    record { difference = omega arith; byte = get-drop at text (place - at + 0 - 0) ∙ ap (slice_get text) index }
stays text at (edit ∷ edits) place chain out from =
    let link = first_link at (length text) edit edits chain in
    let parts = and_parts (nat_le edit.range.end place || nat_lt place edit.range.start) (is_outside edits place) out in
    by_side link (λ end. stays text edit.range.end edits place link.rest parts.1 end) (or_cases (nat_le edit.range.end place) (nat_lt place edit.range.start) parts.0)
  where
    by_side : Link at (length text) edit edits → (edit.range.end ≤ place → StaysFrom text edit.range.end edits place) → (nat_le edit.range.end place ≡ true) ⊎ (nat_lt place edit.range.start ≡ true) → StaysFrom text at (edit ∷ edits) place
    by_side link rest (inl ended) =
        let end = leb-true edit.range.end place ended in
        let on = rest end in
        let starts = link.starts in
        let rises = link.rises in
        let inside = chain_inside edit.range.end (length text) edits link.rest in
        let difference = on.difference in
        let before : edits_before (edit ∷ edits) place ≡ edit ∷ edits_before edits place = cond-true (nat_le edit.range.end place) (edit ∷ edits_before edits place) (edits_before edits place) ended in
        let more : added (edits_before (edit ∷ edits) place) ≡ length edit.text + added (edits_before edits place)
        = ap added before ∙ sum_by-cons (λ (e : Edit). length e.text) edit (edits_before edits place) in
        let less : removed (edits_before (edit ∷ edits) place) ≡ (edit.range.end - edit.range.start) + removed (edits_before edits place)
        = ap removed before ∙ sum_by-cons (λ (e : Edit). e.range.end - e.range.start) edit (edits_before edits place) in
        let front : length (piece text at edit.range.start) ≡ edit.range.start - at
        = length-take-le (edit.range.start - at) (drop at text) (omega (arith, length-drop at text)) in
        let tail : List ℕ = applied_from text edit.range.end edits in
        let there : ℕ = place - edit.range.end + added (edits_before edits place) - removed (edits_before edits place) in
        let index : place - at + added (edits_before (edit ∷ edits) place) - removed (edits_before (edit ∷ edits) place) ≡ length (piece text at edit.range.start) + (length edit.text + there) = omega arith in
        record {
          difference = omega arith;
          byte = ap (slice_get (applied_from text at (edit ∷ edits))) index
              ∙ get-right (piece text at edit.range.start) (edit.text ++ tail) (length edit.text + there) ∙ get-right edit.text tail there ∙ on.byte;
        }
    by_side link rest (inr ended) =
        let low = ltb-true place edit.range.start ended in
        let starts = link.starts in
        let rises = link.rises in
        let inside = chain_inside edit.range.end (length text) edits link.rest in
        let no : nat_le edit.range.end place ≡ false = lt-leb edit.range.end place (omega arith) in
        let before : edits_before (edit ∷ edits) place ≡ []
        = cond-false (nat_le edit.range.end place) (edit ∷ edits_before edits place) (edits_before edits place) no ∙ none_before edit.range.end (length text) edits place link.rest (omega arith) in
        let more : added (edits_before (edit ∷ edits) place) ≡ 0 = ap added before in
        let less : removed (edits_before (edit ∷ edits) place) ≡ 0 = ap removed before in
        let front : length (piece text at edit.range.start) ≡ edit.range.start - at
        = length-take-le (edit.range.start - at) (drop at text) (omega (arith, length-drop at text)) in
        let index : place - at + added (edits_before (edit ∷ edits) place) - removed (edits_before (edit ∷ edits) place) ≡ place - at = omega arith in
        let back : at + (place - at) ≡ place = omega arith in
        record {
          difference = omega arith;
          byte = ap (slice_get (applied_from text at (edit ∷ edits))) index
              ∙ get-left (piece text at edit.range.start) (edit.text ++ applied_from text edit.range.end edits) (place - at) (omega arith)
              ∙ get-take (edit.range.start - at) (drop at text) (place - at) (omega arith) ∙ get-drop at text (place - at) ∙ ap (slice_get text) back;
        }

pub outside_stay : BytesOutsideStay
outside_stay text edits place fits out =
    let on = stays text 0 edits place (sym (fit_is_chain (length text) edits) ∙ fits) out (omega arith) in
    let difference = on.difference in
    let index : moved edits place ≡ place - 0 + added (edits_before edits place) - removed (edits_before edits place) = omega arith in
    record { difference = omega arith; byte = ap (slice_get (applied text edits)) index ∙ on.byte }
