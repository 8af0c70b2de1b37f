use Rattle.std.proofs.Common.{◌≡◌, ℕ, ◌<◌, ◌≤◌, sum, take}
use Rattle.ftn_base.specs.Limits.{most_units_of_all}
use Rattle.ftn_base.specs.StorageMembers.{sizes_of}
use Rattle.ftn_base.specs.StorageFaults.{IsPastLimit}
use Rattle.storage_layout.proofs.limits.too_large.Given as goal

abbrev pub invariant-loop-at : goal.invariant-loop-at
invariant-loop-at l = (l.at ≤ l.total) × (l.total ≡ sum (take l.at (sizes_of l.objects))) × (l.total ≤ most_units_of_all) × ((earlier : ℕ) → earlier < l.at → IsPastLimit (sizes_of l.objects) earlier → ⊥)
