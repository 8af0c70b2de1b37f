-- What `recover` answers, and what it leaves.
use Rattle.std.specs.Prelude.{◌≡◌, ◌≢◌, ◌⊎◌, ℕ, List, ◌++◌, length, Some, IfSome}
use Rattle.ftn_base.specs.Files.{File}
use Rattle.ftn_base.specs.declared.status.Status.{Status}
use Rattle.ftn_base.specs.declared.status.Status.TheVariants as status
use Rattle.plan_file.specs.declared.plan.Plan.{Plan}
use Rattle.plan_store.specs.Found.{IsFound}
use Rattle.plan_store.specs.Middle.{HasNoPlan, IsAmid, IsChange, plan_name, with_files}
use Rattle.plan_store.specs.declared.finding.Found.{Found}
use Rattle.plan_store.specs.declared.finding.Found.TheVariants as founds
use Rattle.store_io.specs.Told.{without_file}
use Rattle.ftn_tool.specs.Forces.{Forced}
use Rattle.ftn_tool.specs.Lines.{no_plan_line, nothing_line, plan_limit_line, recovering_line, store_fault_line}
use Rattle.ftn_tool.specs.Seen.{Seen, HasRisen, HasTaken, HasTakenFront, KeepsFiles, Says}

-- ---- what is due for what is found of a plan file

abbrev pub due_status : Found → Status
due_status founds.Nothing = status.Done
due_status founds.TooLong = status.Limit
due_status (founds.Broken at) = status.BadProject
due_status (founds.Planned plan) = status.Done

abbrev pub due_line : Found → List ℕ
due_line founds.Nothing = nothing_line
due_line founds.TooLong = plan_limit_line
due_line (founds.Broken at) = no_plan_line at
due_line (founds.Planned plan) = recovering_line (length plan.files)

-- the files of a plan are put, and the plan file is taken away; without a plan the files stay
abbrev pub recovered : Found → List File → List File
recovered founds.Nothing files = files
recovered founds.TooLong files = files
recovered (founds.Broken at) files = files
recovered (founds.Planned plan) files = without_file plan_name (with_files plan.files files)

-- what is found is to be carried out
pub record IsToRecover (files : List File) (found : Found) : Type 0 where
  pub due : IsFound files found
  pub done : due_status found ≡ status.Done

-- ---- what each answer says of the files and of the sink

pub record WasRecovered (files : List File) (seen : Seen) : Type 0 where
  pub found : Found
  pub accepted : IsToRecover files found
  pub files_after : seen.files.after ≡ Some (recovered found files)
  pub said : HasTaken seen (due_line found)

-- what is found has this answer, and its line was written, as far as the sink took it
pub record WasFound (files : List File) (seen : Seen) (answer : Status) : Type 0 where
  pub found : Found
  pub due : IsFound files found
  pub status_is : answer ≡ due_status found
  pub said : Says seen (due_line found)

-- the store failed as files of a plan were put
pub record FailedAtPlan (files : List File) (seen : Seen) : Type 0 where
  pub plan : Plan
  pub due : IsFound files (founds.Planned plan)
  pub said : Says seen (recovering_line (length plan.files) ++ store_fault_line)

-- the sink didn't take the whole line of a recovery that is to be carried out, or there was no memory to do so
pub record FailedBefore (files : List File) (seen : Seen) : Type 0 where
  pub found : Found
  pub accepted : IsToRecover files found
  pub said : HasTakenFront seen (due_line found)

abbrev pub Recovered : List File → Seen → Status → Type 0
Recovered files seen status.Done = WasRecovered files seen
Recovered files seen status.StoreFault = (KeepsFiles seen × Says seen store_fault_line) ⊎ FailedAtPlan files seen
Recovered files seen status.OutputFault = FailedBefore files seen
Recovered files seen status.NoMemory = (seen.taken.after ≡ seen.taken.before) ⊎ FailedBefore files seen
Recovered files seen other = WasFound files seen other

-- ---- a change that was stopped

-- A recovery over files amid a change: once it is done, the files are the new ones; where the store failed, they are amid the change still or the
-- new ones.
abbrev pub Completes : List File → List File → Seen → Status → Type 0
Completes files plan seen status.Done = seen.files.after ≡ Some (with_files plan files)
Completes files plan seen status.StoreFault = (later : List File) × (seen.files.after ≡ Some later) × (IsAmid files plan later ⊎ (later ≡ with_files plan files))
Completes files plan seen other = KeepsFiles seen

-- What `recover` promises. The fields that speak of files before it hold for stores that tell their files, the others for every store.
pub record Recovers (seen : Seen) (answer : Status) : Type 0 where
  pub answered : IfSome seen.files.before (λ files. Recovered files seen answer)
  -- the answer is the due one, or one that a device forced, or want of memory
  pub due : IfSome seen.files.before (λ files. (found : Found) → IsFound files found → (answer ≡ due_status found) ⊎ Forced seen answer)
  pub change : IfSome seen.files.before (λ now. (files plan : List File) → IsChange files plan → IsAmid files plan now → Completes files plan seen answer)
  -- amid a change it is due that the change is completed
  pub completes : IfSome seen.files.before (λ now. (files plan : List File) → IsChange files plan → IsAmid files plan now → (answer ≡ status.Done) ⊎ Forced seen answer)
  pub none : IfSome seen.files.before (λ files. HasNoPlan files → KeepsFiles seen)
  pub files : answer ≢ status.Done → answer ≢ status.StoreFault → KeepsFiles seen
  pub store_fault : answer ≡ status.StoreFault → HasRisen seen.store
  pub output_fault : answer ≡ status.OutputFault → HasRisen seen.sink
