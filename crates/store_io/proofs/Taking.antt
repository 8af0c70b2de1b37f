-- What follows where a sink takes a text part by part.
use Rattle.std.proofs.Common.{◌≡◌, ℕ, ◌+◌, ◌-◌, ◌≤◌, List, ◌++◌, length, take, drop, Option, None, Some, arith, sym, ap, ◌∙◌, append_assoc}
use Rattle.std.proofs.lemmas.List.{take_rest, take-append-drop, take-take, drop-take, length-take, length-drop}
use Rattle.std.specs.Option.{option_map}
use Rattle.store_io.specs.Told.{Takes}

-- one part after the other
pub takes_both : (first second : List ℕ) (start between end : Option (List ℕ)) → Takes first start between → Takes second between end → Takes (first ++ second) start end
takes_both first second None between end taken more = more ∙ ap (option_map (λ (had : List ℕ). had ++ second)) taken
takes_both first second (Some had) between end taken more =
    more ∙ ap (option_map (λ (now : List ℕ). now ++ second)) taken ∙ ap Some (append_assoc had first second)

-- the front of a text, and of what is left of it
pub front_both : (text : List ℕ) (at count : ℕ) → take at text ++ take count (drop at text) ≡ take (at + count) text
front_both text at count =
    let front : take at (take (at + count) text) ≡ take at text = take-take at (at + count) text (omega arith) in
    ap (λ (first : List ℕ). first ++ take count (drop at text)) (sym front)
    ∙ ap (λ (second : List ℕ). take at (take (at + count) text) ++ second) (sym (drop-take at count text))
    ∙ take-append-drop at (take (at + count) text)

-- a sink that took the front of a text, and then the front of what was left
pub takes_more : (text : List ℕ) (at count : ℕ) (start between end : Option (List ℕ)) → Takes (take at text) start between → Takes (take count (take (length text - at) (drop at text))) between end → Takes (take (at + count) text) start end
takes_more text at count start between end taken more =
    let next : Takes (take count (drop at text)) between end = more ∙ ap (λ (rest : List ℕ). option_map (λ (had : List ℕ). had ++ take count rest) between) (take_rest text at) in
    takes_both (take at text) (take count (drop at text)) start between end taken next
    ∙ ap (λ (text : List ℕ). option_map (λ (had : List ℕ). had ++ text) start) (front_both text at count)

-- what was taken of what was left is within the text
pub takes_within : (text : List ℕ) (at count : ℕ) → at ≤ length text → count ≤ length (take (length text - at) (drop at text)) → at + count ≤ length text
takes_within text at count within more = omega (arith, length-take (length text - at) (drop at text), length-drop at text)
