-- A run, piece by piece.
use Rattle.std.proofs.Common.{Option, ◌≡◌, ℕ, ◌+◌, ◌-◌, ◌*◌, ◌≤◌, ◌<◌, List, [], ◌∷◌, ◌++◌, length, take, drop, get_or, ap, sym, ◌∙◌, arith, append_assoc, length-drop}
use Rattle.std.specs.Prelude.{min, nat_lt}
use Rattle.std.specs.List.{All}
use Rattle.std.proofs.lemmas.Bool.Decides.{nat_tests}
use Rattle.std.proofs.lemmas.List.{drop_more, drop-drop}
use Rattle.std.proofs.lemmas.List.Elements.{All-head, All-tail}
use Rattle.std.proofs.lemmas.List.Sums.{fold_more, fold-append}
use Rattle.ftn_base.specs.Limits.{greatest_integer}
use Rattle.ftn_tree.specs.declared.piece.PieceKind.{PieceKind}
use Rattle.ftn_tree.specs.declared.piece.Spot.{Spot}
use Rattle.ftn_tree.specs.Pieces.{Piece, front}
use Rattle.ftn_tree.specs.Reading.{last_of, each_piece, over_run}
use Rattle.ftn_tree.specs.Breaks.{Breach, number_of}
use Rattle.free_scan.specs.steps.Firsts.{earlier, least}
use Rattle.free_scan.specs.steps.Runs.{Fits}
use Rattle.free_scan.proofs.PieceLaws.{enough, less}

-- one digit more
pub number_more : (digits : List ℕ) (i : ℕ) → i < length digits → number_of (take (i + 1) digits) ≡ number_of (take i digits) * 10 + (get_or digits i 0 - 48)
number_more digits i lt = fold_more (λ n digit. n * 10 + (digit - 48)) 0 digits i 0 lt

-- a number that is cut off beyond the greatest one is too big where the number is
pub capped : (n cut : ℕ) → cut ≡ min n 4294967296 → nat_lt greatest_integer cut ≡ nat_lt greatest_integer n
capped n cut e = grind (arith, nat_tests)

-- where each place fits, the last does
pub last_fits : (first : Spot) (spots : List Spot) → All Fits (first ∷ spots) → Fits (last_of first spots)
last_fits first [] all = All-head Fits first [] all
last_fits first (spot ∷ spots) all = last_fits spot spots (All-tail Fits first (spot ∷ spots) all)

module _ {A : Type 0} (gives : PieceKind → List ℕ → List Spot → List A) where
  -- what the first piece gives, and what the rest does
  pub run_step : (b : ℕ) (rest : List ℕ) (spots : List Spot)
      → over_run gives (b ∷ rest) spots
      ≡ gives (front b rest).0 (take (front b rest).1 (b ∷ rest)) (take (front b rest).1 spots)
      ++ over_run gives (drop (front b rest).1 (b ∷ rest)) (drop (front b rest).1 spots)
  run_step b rest spots =
      let piece : Piece = front b rest in
      let left : List ℕ = drop piece.1 (b ∷ rest) in
      ap (λ ps. gives piece.0 (take piece.1 (b ∷ rest)) (take piece.1 spots) ++ each_piece gives left (drop piece.1 spots) ps)
      (enough (length rest) left (less (length rest) b rest (omega arith)))

  -- the same from some place on
  pub run_at : (bytes : List ℕ) (spots : List Spot) (at : ℕ) (piece : Piece) → at < length bytes → piece ≡ front (get_or bytes at 0) (drop (at + 1) bytes)
      → over_run gives (drop at bytes) (drop at spots)
      ≡ gives piece.0 (take (at + piece.1 - at) (drop at bytes)) (take (at + piece.1 - at) (drop at spots))
      ++ over_run gives (drop (at + piece.1) bytes) (drop (at + piece.1) spots)
  run_at bytes spots at piece lt is =
      let b : ℕ = get_or bytes at 0 in
      let rest : List ℕ = drop (at + 1) bytes in
      let here : drop at bytes ≡ b ∷ rest = drop_more bytes at 0 lt in
      let size : at + piece.1 - at ≡ piece.1 = omega arith in
      let after : over_run gives (drop at bytes) (drop at spots)
      ≡ gives piece.0 (take piece.1 (drop at bytes)) (take piece.1 (drop at spots)) ++ over_run gives (drop piece.1 (drop at bytes)) (drop piece.1 (drop at spots))
      = rw (here, is) (run_step b rest (drop at spots)) in
      rw (size, ← drop-drop piece.1 at bytes, ← drop-drop piece.1 at spots) after

  -- what the piece gives moves to what is found
  pub items_on : (whole found now : List A) (bytes : List ℕ) (spots : List Spot) (at : ℕ) (piece : Piece) → at < length bytes
      → piece ≡ front (get_or bytes at 0) (drop (at + 1) bytes)
      → now ≡ found ++ gives piece.0 (take (at + piece.1 - at) (drop at bytes)) (take (at + piece.1 - at) (drop at spots))
      → whole ≡ found ++ over_run gives (drop at bytes) (drop at spots)
      → whole ≡ now ++ over_run gives (drop (at + piece.1) bytes) (drop (at + piece.1) spots)
  items_on whole found now bytes spots at piece lt is kept goes =
      let here : List A = gives piece.0 (take (at + piece.1 - at) (drop at bytes)) (take (at + piece.1 - at) (drop at spots)) in
      let rest : List A = over_run gives (drop (at + piece.1) bytes) (drop (at + piece.1) spots) in
      goes ∙ ap (λ xs. found ++ xs) (run_at bytes spots at piece lt is) ∙ sym (append_assoc found here rest) ∙ ap (λ xs. xs ++ rest) (sym kept)

-- the same of the first of the rules that are broken
pub firsts_on : (gives : PieceKind → List ℕ → List Spot → List Breach) (whole found now : Option Breach) (bytes : List ℕ) (spots : List Spot) (at : ℕ) (piece : Piece) → at < length bytes
    → piece ≡ front (get_or bytes at 0) (drop (at + 1) bytes)
    → now ≡ least found (gives piece.0 (take (at + piece.1 - at) (drop at bytes)) (take (at + piece.1 - at) (drop at spots)))
    → whole ≡ least found (over_run gives (drop at bytes) (drop at spots))
    → whole ≡ least now (over_run gives (drop (at + piece.1) bytes) (drop (at + piece.1) spots))
firsts_on gives whole found now bytes spots at piece lt is kept goes =
    let here : List Breach = gives piece.0 (take (at + piece.1 - at) (drop at bytes)) (take (at + piece.1 - at) (drop at spots)) in
    let rest : List Breach = over_run gives (drop (at + piece.1) bytes) (drop (at + piece.1) spots) in
    goes ∙ ap (least found) (run_at gives bytes spots at piece lt is) ∙ fold-append earlier found here rest
    ∙ ap (λ found. least found rest) (sym kept)

-- a piece ends within the run
pub ends_within : (bytes : List ℕ) (at size : ℕ) → at < length bytes → size ≤ length (drop (at + 1) bytes) + 1 → at + size ≤ length bytes
ends_within bytes at size lt le = omega (arith, length-drop (at + 1) bytes)
