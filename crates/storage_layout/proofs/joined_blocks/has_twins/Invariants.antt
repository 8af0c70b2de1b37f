use Rattle.std.proofs.Common.{◌≡◌, ◌≢◌, ◌<◌, ℕ, length, slice_index, slice_index_or, true, false}
use Rattle.storage_layout.proofs.joined_blocks.has_twins.Given as goal

abbrev pub invariant-loop-number : goal.invariant-loop-number
invariant-loop-number l = record {
  len : length l.seen.items ≡ l.count;
  all : (k : ℕ) → k < l.number-index → slice_index_or l.seen.items (slice_index l.numbers k) false ≡ true;
  only : (number : ℕ) → number < l.count → slice_index_or l.seen.items number false ≡ true → (k : ℕ) × (k < l.number-index) × (slice_index l.numbers k ≡ number);
  apart : (i j : ℕ) → i < j → j < l.number-index → slice_index l.numbers i ≢ slice_index l.numbers j;
}
