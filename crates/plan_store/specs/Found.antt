-- What `recover` finds in a store.
use Rattle.std.specs.Prelude.{◌≡◌, ℕ, ◌≤◌, ◌<◌, List, length, Some}
use Rattle.ftn_base.specs.Files.{File, text_of}
use Rattle.plan_file.specs.Fields.{IsFault, IsTextOf}
use Rattle.plan_file.specs.Plans.{IsPlan}
use Rattle.plan_file.specs.declared.fault.PlanFault.TheVariants.{NotAPlan}
use Rattle.plan_store.specs.declared.finding.Found.{Found}
use Rattle.plan_store.specs.declared.finding.Found.TheVariants as found
use Rattle.plan_store.specs.Middle.{HasNoPlan, plan_name}

-- how many bytes of a plan file are read
abbrev pub most_plan_bytes : ℕ
most_plan_bytes = 20971520

-- the plan file has this text
abbrev pub HasPlanText : List File → List ℕ → Type 0
HasPlanText files text = text_of files plan_name ≡ Some text

-- no plan file; or one that is too long; or one whose bytes are no plan's text, with the first field that is broken; or a plan
abbrev pub IsFound : List File → Found → Type 0
IsFound files found.Nothing = HasNoPlan files
IsFound files found.TooLong = (text : List ℕ) × HasPlanText files text × (most_plan_bytes < length text)
IsFound files (found.Broken at) = (text : List ℕ) × HasPlanText files text × (length text ≤ most_plan_bytes) × IsFault (NotAPlan at) text
IsFound files (found.Planned plan) = (text : List ℕ) × HasPlanText files text × (length text ≤ most_plan_bytes) × IsTextOf plan.files text

-- a plan that is found is a valid one
abbrev pub HoldsValid : Found → Type 0
HoldsValid found.Nothing = Unit {0}
HoldsValid found.TooLong = Unit {0}
HoldsValid (found.Broken at) = Unit {0}
HoldsValid (found.Planned plan) = IsPlan plan.files
