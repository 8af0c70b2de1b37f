-- What calls on a store change of the files that it tells, if it tells them. This serves proofs alone.
use Rattle.std.specs.Prelude.{◌≡◌, ◌⊎◌, ℕ, ◌≤◌, ◌<◌, List, ◌++◌, length, Option}
use Rattle.std.specs.Option.{option_map}
use Rattle.ftn_base.specs.Files.{File}
use Rattle.plan_file.specs.Fields.{IsFault, IsTextOf}
use Rattle.plan_file.specs.declared.fault.PlanFault.TheVariants.{NotAPlan}
use Rattle.store_io.specs.Told.{without_file}
use Rattle.plan_store.specs.Found.{most_plan_bytes}
use Rattle.plan_store.specs.declared.finding.Found.{Found}
use Rattle.plan_store.specs.declared.finding.Found.TheVariants as found
use Rattle.plan_store.specs.Middle.{plan_name, with_files, with_plan}

-- the files of a plan from the first on were put, and maybe none or all
abbrev pub PutsFront : List File → Option (List File) → Option (List File) → Type 0
PutsFront plan before now = (front : List File) × (rest : List File) × (plan ≡ front ++ rest) × (now ≡ option_map (with_files front) before)

-- all files of the plan are put, and its file is taken away
abbrev pub finished : List File → List File → List File
finished plan files = without_file plan_name (with_files plan files)

-- some files of the plan were put, or all was done
abbrev pub Finishes : List File → Option (List File) → Option (List File) → Type 0
Finishes plan before now = PutsFront plan before now ⊎ (now ≡ option_map (finished plan) before)

-- nothing was put, or this text as the plan file and then some files of the plan, or all was done
abbrev pub PutsPlan : List ℕ → List File → Option (List File) → Option (List File) → Type 0
PutsPlan text plan before now = (now ≡ before) ⊎ Finishes plan (option_map (with_plan text) before) now

-- what a plan file has whose first bytes are these, one more than may be read at the most
abbrev pub IsFoundIn : List ℕ → Found → Type 0
IsFoundIn text found.Nothing = ⊥
IsFoundIn text found.TooLong = most_plan_bytes < length text
IsFoundIn text (found.Broken at) = (length text ≤ most_plan_bytes) × IsFault (NotAPlan at) text
IsFoundIn text (found.Planned plan) = (length text ≤ most_plan_bytes) × IsTextOf plan.files text
