-- Recoveries of a change, one after another, each over the files that the one before left. This is a law on what any of them may leave,
-- whichever calls of the store failed.
use Rattle.std.specs.Prelude.{◌≡◌, ◌⊎◌, Bool, true, false, List, [], ◌∷◌}
use Rattle.std.specs.List.{list_any}
use Rattle.ftn_base.specs.Files.{File}
use Rattle.plan_store.specs.Middle.{HasNoPlan, IsAmid, IsChange, IsMiddle, with_files}

-- Whether a recovery was done, and the files after it.
abbrev pub Recovery : Type 0
Recovery = Bool × List File

-- A recovery that is done completes the change; one that fails leaves files amid it, or the new ones. Without a plan none changes a file.
pub record Leaves (files plan before : List File) (recovery : Recovery) : Type 0 where
  pub done : IsAmid files plan before → recovery.0 ≡ true → recovery.1 ≡ with_files plan files
  pub failed : IsAmid files plan before → recovery.0 ≡ false → IsAmid files plan recovery.1 ⊎ (recovery.1 ≡ with_files plan files)
  pub none : HasNoPlan before → recovery.1 ≡ before

abbrev pub IsRow : List File → List File → List File → List Recovery → List File → Type 0
IsRow files plan start [] end = end ≡ start
IsRow files plan start (recovery ∷ row) end = Leaves files plan start recovery × IsRow files plan recovery.1 row end

-- From the middle of a change each row of recoveries ends in its middle. From amid it, it ends with the new files once one was done.
abbrev pub RecoveriesComplete : Type 0
RecoveriesComplete = (files plan start end : List File) (row : List Recovery) → IsChange files plan → IsRow files plan start row end
    → (IsMiddle files plan start → IsMiddle files plan end) × (IsAmid files plan start → list_any (λ (recovery : Recovery). recovery.0) row ≡ true → end ≡ with_files plan files)
