use Rattle.std.proofs.Common.{length, take, drop, ◌-◌, ◌≡◌, ◌≤◌, List, ℕ, ◌++◌}
use Rattle.ftn_base.specs.Files.{with_file}
use Rattle.store_io.proofs.mem_store.place_of.Given as goal

pub record Passed (files : List (List ℕ × List ℕ)) (name : List ℕ) (at : ℕ) : Type 0 where
  pub within : at ≤ length files
  pub front : (text : List ℕ) → with_file name text files ≡ take at files ++ with_file name text (drop at files)

abbrev pub invariant-places : goal.invariant-places
invariant-places l = Passed l.files l.name l.at

abbrev pub decreases-places : goal.decreases-places
decreases-places l = length l.files - l.at
