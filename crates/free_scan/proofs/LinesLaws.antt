-- A scan that goes on from line to line.
use Rattle.std.proofs.Common.{◌≡◌, ℕ, ◌+◌, ◌-◌, ◌≤◌, ◌<◌, Bool, true, false, List, [], ◌∷◌, length, take, drop, refl, ap, sym, ◌∙◌, arith, length-drop, Option, None, Some}
use Rattle.std.specs.Prelude.{nat_lt, if◌then◌else◌, min, IfSome}
use Rattle.std.specs.List.{flat_map, slice_split, onto_first}
use Rattle.std.proofs.lemmas.Bool.{cond_both, le-leb, lt-leb, ltb-true, ltb-false}
use Rattle.std.proofs.lemmas.List.{drop-drop, length-take}
use Rattle.std.proofs.lemmas.List.Concat.{flat_map-cons}
use Rattle.std.proofs.lemmas.List.Sums.{fails_before_first, fold-append}
use Rattle.std.proofs.lemmas.List.Splits.{slice_split_first, slice_split_none}
use Rattle.ftn_tree.specs.Lines.{Line, is_line_feed, placed, without_return}
use Rattle.ftn_tree.specs.Breaks.{Breach, long_line}
use Rattle.ftn_tree.specs.Logical.{Carried}
use Rattle.free_scan.specs.steps.Firsts.{earlier, least}
use Rattle.free_scan.specs.steps.LinesLeft.{line_size, body_at, lines_left, long_left}

with_first : (x : ℕ) (parts : List (List ℕ)) → (part : List ℕ) × (more : List (List ℕ)) × (onto_first x parts ≡ part ∷ more)
with_first x [] = (x ∷ [], [], refl)
with_first x (part ∷ parts) = (x ∷ part, parts, refl)

-- a text has a piece at least
some_piece : (text : List ℕ) → (part : List ℕ) × (more : List (List ℕ)) × (slice_split is_line_feed text ≡ part ∷ more)
some_piece [] = ([], [], refl)
some_piece (b ∷ rest) =
    cond_both (is_line_feed b) _ _ (λ parts. (part : List ℕ) × (more : List (List ℕ)) × (parts ≡ part ∷ more))
    (λ e. ([], slice_split is_line_feed rest, refl)) (λ e. with_first b (slice_split is_line_feed rest))

placed_more : (number at : ℕ) (piece : List ℕ) (pieces : List (List ℕ)) → ((part : List ℕ) × (more : List (List ℕ)) × (pieces ≡ part ∷ more))
    → placed number at (piece ∷ pieces) ≡ record { number = number; at = at; body = without_return piece } ∷ placed (number + 1) (at + length piece + 1) pieces
placed_more number at piece pieces (part, more, is) = rw is refl

-- the line at the front of the rest of a text ends with LF
before_more : (number at : ℕ) (rest : List ℕ) → line_size rest < length rest
    → placed number at (slice_split is_line_feed rest)
    ≡ record { number = number; at = at; body = without_return (take (line_size rest) rest) } ∷ placed (number + 1) (at + line_size rest + 1) (slice_split is_line_feed (drop (line_size rest + 1) rest))
before_more number at rest less =
    let size : length (take (line_size rest) rest) ≡ line_size rest = length-take (line_size rest) rest ∙ (omega arith) in
    ap (placed number at) (slice_split_first is_line_feed rest 0 less)
    ∙ placed_more number at (take (line_size rest) rest) (slice_split is_line_feed (drop (line_size rest + 1) rest)) (some_piece (drop (line_size rest + 1) rest))
    ∙ ap (λ n. record { number = number; at = at; body = without_return (take (line_size rest) rest) } ∷ placed (number + 1) (at + n + 1) (slice_split is_line_feed (drop (line_size rest + 1) rest))) size

-- it is the last one
at_last : (number at : ℕ) (rest : List ℕ) → length rest ≤ line_size rest → placed number at (slice_split is_line_feed rest) ≡ record { number = number; at = at; body = rest } ∷ []
at_last number at rest more =
    ap (placed number at) (slice_split_none is_line_feed rest (λ k d less. fails_before_first is_line_feed rest k d (omega arith)))

-- one line on
pub lines_step : (number at : ℕ) (text : List ℕ) → at ≤ length text
    → lines_left number at text ≡ record { number = number; at = at; body = body_at (drop at text) } ∷ lines_left (number + 1) (at + line_size (drop at text) + 1) text
lines_step number at text within =
    let rest : List ℕ = drop at text in
    let left : length (drop at text) ≡ length text - at = length-drop at text in
    let here : lines_left number at text ≡ placed number at (slice_split is_line_feed (drop at text)) = ap (λ b. if b then placed number at (slice_split is_line_feed (drop at text)) else []) (le-leb at (length text) within) in
    here ∙ by_end number at text within left (nat_lt (line_size (drop at text)) (length (drop at text))) refl
  where
    by_end : (number at : ℕ) (text : List ℕ) → at ≤ length text → length (drop at text) ≡ length text - at
        → (b : Bool) → nat_lt (line_size (drop at text)) (length (drop at text)) ≡ b
        → placed number at (slice_split is_line_feed (drop at text))
        ≡ record { number = number; at = at; body = if b then without_return (take (line_size (drop at text)) (drop at text)) else drop at text } ∷ lines_left (number + 1) (at + line_size (drop at text) + 1) text
    by_end number at text within left true is =
        let less : line_size (drop at text) < length (drop at text) = ltb-true (line_size (drop at text)) (length (drop at text)) is in
        let inside : at + line_size (drop at text) + 1 ≤ length text = omega arith in
        let further : drop (line_size (drop at text) + 1) (drop at text) ≡ drop (at + line_size (drop at text) + 1) text = drop-drop (line_size (drop at text) + 1) at text ∙ ap (λ n. drop n text) (omega arith) in
        before_more number at (drop at text) less
        ∙ ap (λ more. record { number = number; at = at; body = without_return (take (line_size (drop at text)) (drop at text)) } ∷ more)
        (ap (λ t. placed (number + 1) (at + line_size (drop at text) + 1) (slice_split is_line_feed t)) further
        ∙ sym (ap (λ b. if b then placed (number + 1) (at + line_size (drop at text) + 1) (slice_split is_line_feed (drop (at + line_size (drop at text) + 1) text)) else [])
        (le-leb (at + line_size (drop at text) + 1) (length text) inside)))
    by_end number at text within left false is =
        let more : length (drop at text) ≤ line_size (drop at text) = ltb-false (line_size (drop at text)) (length (drop at text)) is in
        let past : length text < at + line_size (drop at text) + 1 = omega arith in
        at_last number at (drop at text) more
        ∙ ap (λ more. record { number = number; at = at; body = drop at text } ∷ more)
        (sym (ap (λ b. if b then placed (number + 1) (at + line_size (drop at text) + 1) (slice_split is_line_feed (drop (at + line_size (drop at text) + 1) text)) else [])
        (lt-leb (at + line_size (drop at text) + 1) (length text) past)))

-- the same, where the line was taken from the text
pub lines_on : (number at size : ℕ) (text rest body : List ℕ) → at ≤ length text → rest ≡ drop at text → size ≡ line_size rest → body ≡ body_at rest
    → lines_left number at text ≡ record { number = number; at = at; body = body } ∷ lines_left (number + 1) (at + (size + 1)) text
lines_on number at size text rest body within is sized taken =
    let there : size ≡ line_size (drop at text) = sized ∙ ap line_size is in
    let that : body ≡ body_at (drop at text) = taken ∙ ap body_at is in
    let next : at + line_size (drop at text) + 1 ≡ at + (size + 1) = rw there (omega arith) in
    rw (that, ← next) (lines_step number at text within)

pub long_step : (found : Option Breach) (line : Line) (lines : List Line) → long_left found (line ∷ lines) ≡ long_left (least found (long_line line)) lines
long_step found line lines =
    ap (least found) (flat_map-cons long_line line lines) ∙ fold-append earlier found (long_line line) (flat_map long_line lines)

pub counted_more : (before : Option Carried) (n m : ℕ) → n ≤ m → IfSome before (λ carried. carried.count ≤ n) → IfSome before (λ carried. carried.count ≤ m)
counted_more None n m up is = tt
counted_more (Some carried) n m up is = omega arith

pub ticked : (len at size before now total : ℕ) → at ≤ len → size ≤ len - at → now ≡ before + min (len - at) (size + 1) → before + (len - at) ≡ total
    → now + (len - (at + (size + 1))) ≡ total
ticked len at size before now total within fits is sum = omega arith
