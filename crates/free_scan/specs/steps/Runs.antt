-- Runs: bytes with their places.
use Rattle.std.specs.Prelude.{◌≡◌, ℕ, ◌+◌, ◌<◌, ◌^◌, List, length}
use Rattle.std.specs.List.{All}
use Rattle.ftn_tree.specs.declared.piece.Spot.{Spot}

-- a place after which there is one more
abbrev pub Fits : Spot → Type 0
Fits spot = spot.at + 1 < 2 ^ 32

-- as many places as bytes
pub record IsRun (bytes : List ℕ) (spots : List Spot) : Type 0 where
  pub alike : length bytes ≡ length spots
  pub fits : All Fits spots
