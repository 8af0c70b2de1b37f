-- Where a text first stands in another.
use Rattle.std.proofs.Common.{◌≡◌, ℕ, zero, suc, ◌<◌, ◌+◌, List, [], ◌∷◌, length, drop, take, bytes_eq, true, false, refl, sym, ap, ◌∙◌, arith}
use Rattle.ftn_tree.specs.Intrinsics.{index_from}
use Rattle.std.specs.Prelude.{if◌then◌else◌}

passed : (from : ℕ) (part text : List ℕ) (at : ℕ) → at < length text → bytes_eq (take (length part) (drop at text)) part ≡ false →
    index_from from part (drop at text) ≡ index_from (from + 1) part (drop (suc at) text)
passed from part [] at h e = absurd (omega arith)
passed from part (byte ∷ text) zero h e = ap (λ b. if b then from else index_from (from + 1) part text) e
passed from part (byte ∷ text) (suc at) h e = passed from part text at (omega arith) e

-- a place where the text doesn't stand is passed
pub passed_over : (from : ℕ) (part text : List ℕ) (at : ℕ) → at < length text → bytes_eq (take (length part) (drop at text)) part ≡ false →
    index_from from part (drop at text) ≡ index_from (from + 1) part (drop (at + 1) text)
passed_over from part text at h e = let f : suc at ≡ at + 1 = omega arith in passed from part text at h e ∙ ap (λ n. index_from (from + 1) part (drop n text)) f

-- a place where it stands is told
pub stands_there : (from : ℕ) (part text : List ℕ) (at : ℕ) → at < length text → bytes_eq (take (length part) (drop at text)) part ≡ true →
    index_from from part (drop at text) ≡ from
stands_there from part [] at h e = absurd (omega arith)
stands_there from part (byte ∷ text) zero h e = ap (λ b. if b then from else index_from (from + 1) part text) e
stands_there from part (byte ∷ text) (suc at) h e = stands_there from part text at (omega arith) e
