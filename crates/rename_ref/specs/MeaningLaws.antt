-- What holds of every run of a program in first form.
use Rattle.std.specs.Prelude.{◌≡◌, ℕ, ◌+◌, List, ◌++◌}
use Rattle.std.specs.Str.{bytes_eq}
use Rattle.free_scan.specs.FirstForm.{IsProgramText}
use Rattle.free_scan.specs.declared.first_form.program.Program.{Program}
use Rattle.rename_ref.specs.declared.first_meaning.Outcome.{Outcome}
use Rattle.rename_ref.specs.declared.first_meaning.Outcome.TheVariants.{Stop, Fault, Spent}
use Rattle.rename_ref.specs.Meaning.{run}
use Rattle.rename_ref.specs.Renaming.{map_program}

-- A run that ends otherwise than spent is the same with more steps; where it ends spent, more steps write more.
abbrev pub Continues : List ℕ × Outcome → List ℕ × Outcome → Type 0
Continues (written, Stop) longer = longer ≡ (written, Stop)
Continues (written, Fault fault) longer = longer ≡ (written, Fault fault)
Continues (written, Spent) longer = (more : List ℕ) × (longer.0 ≡ written ++ more)

abbrev pub MoreStepsOnlyAdd : Type 0
MoreStepsOnlyAdd = (program : Program) (steps more : ℕ) → Continues (run program steps) (run program (steps + more))

-- the function on names gives different names different ones
abbrev pub KeepsNamesApart : (List ℕ → List ℕ) → Type 0
KeepsNamesApart f = (a b : List ℕ) → bytes_eq (f a) (f b) ≡ bytes_eq a b

abbrev pub RenamingKeepsRuns : Type 0
RenamingKeepsRuns = (f : List ℕ → List ℕ) → KeepsNamesApart f → (program : Program) (steps : ℕ) → run (map_program f program) steps ≡ run program steps

-- All programs that a text spells run alike.
abbrev pub OneRunPerText : Type 0
OneRunPerText = (text : List ℕ) (first second : Program) → IsProgramText text first → IsProgramText text second → (steps : ℕ) → run first steps ≡ run second steps
