-- Carrying out a verdict, and a recovery. This serves the proof of the code.
use Rattle.std.specs.Prelude.{◌≡◌, ℕ, ◌≤◌, true, List, [], ◌∷◌, ◌++◌, length, Option}
use Rattle.std.specs.Option.{option_map}
use Rattle.ftn_base.specs.Files.{File, is_source}
use Rattle.ftn_base.specs.Limits.{most_file_bytes}
use Rattle.ftn_base.specs.declared.status.Status.{Status}
use Rattle.ftn_base.specs.declared.status.Status.TheVariants as status
use Rattle.plan_file.specs.Plans.{IsPlan, plan_text}
use Rattle.plan_store.specs.Middle.{with_plan}
use Rattle.plan_store.specs.declared.finding.Found.{Found}
use Rattle.plan_store.specs.declared.finding.Found.TheVariants as founds
use Rattle.plan_store.specs.steps.Puts.{Finishes, PutsPlan, finished}
use Rattle.store_io.specs.Counts.{Rose}
use Rattle.store_io.specs.Told.{Takes, TakesFront}
use Rattle.ftn_tool.specs.declared.command.ProjectCommand.{ProjectCommand}
use Rattle.ftn_tool.specs.declared.verdict.Verdict.{Verdict}
use Rattle.ftn_tool.specs.declared.verdict.Verdict.TheVariants.{Waiting, Past, Broken, NotBuilt, Refused, Checked, Changed}
use Rattle.ftn_tool.specs.Lines.{line_of, store_fault_line}
use Rattle.ftn_tool.specs.Recovering.{due_status}
use Rattle.ftn_tool.specs.Seen.{Seen, HasRisen, HasTaken, HasTakenFront, KeepsFiles, Says}
use Rattle.ftn_tool.specs.Verdicts.{Gives, status_of}

-- the file that has a new text is one of the project, and the text is small enough for it
abbrev pub IsFit : Verdict → Type 0
IsFit Waiting = Unit {0}
IsFit (Past which) = Unit {0}
IsFit (Broken fault) = Unit {0}
IsFit NotBuilt = Unit {0}
IsFit (Refused cond at) = Unit {0}
IsFit (Checked count units) = Unit {0}
IsFit (Changed name text) = (is_source name ≡ true) × (length text ≤ most_file_bytes)

-- the verdict that these files give, and its line
abbrev pub IsDue : ProjectCommand → List File → List ℕ → Verdict → Type 0
IsDue command files line verdict = Gives command files verdict × (line ≡ line_of files verdict)

-- the sink failed, and its count rose; or it wanted memory
abbrev pub IsSinkFault : ℕ → ℕ → Status → Type 0
IsSinkFault before after status.OutputFault = Rose before after
IsSinkFault before after status.NoMemory = Unit {0}
IsSinkFault before after other = ⊥

-- the line was written whole, or what kept it from that
abbrev pub Announced : List ℕ → Option (List ℕ) → Option (List ℕ) → ℕ → ℕ → Status → Type 0
Announced line before after count later status.Done = Takes line before after
Announced line before after count later status.OutputFault = Rose count later × TakesFront line before after
Announced line before after count later status.NoMemory = TakesFront line before after
Announced line before after count later other = ⊥

-- how files that are told change
abbrev pub Changes : Type 1
Changes = Option (List File) → Option (List File) → Type 0

-- a change was announced and made, or it was begun and the store failed, or what kept it from that
abbrev pub Puts : List ℕ → Changes → Changes → Seen → Status → Type 0
Puts line made begun seen status.Done = made seen.files.before seen.files.after × HasTaken seen line
Puts line made begun seen status.StoreFault = HasRisen seen.store × begun seen.files.before seen.files.after × Says seen (line ++ store_fault_line)
Puts line made begun seen status.OutputFault = HasRisen seen.sink × KeepsFiles seen × HasTakenFront seen line
Puts line made begun seen status.NoMemory = KeepsFiles seen × HasTakenFront seen line
Puts line made begun seen other = ⊥

-- the text of a valid plan was put, then its files, and the plan file was taken away
abbrev pub IsPlanDone : List File → Changes
IsPlanDone files before after = IsPlan files × (after ≡ option_map (finished files) (option_map (with_plan (plan_text files)) before))

-- the same was begun
abbrev pub IsPlanBegun : List File → Changes
IsPlanBegun files before after = IsPlan files × PutsPlan (plan_text files) files before after

-- the files of the plan were put, and the plan file was taken away
abbrev pub IsFinished : List File → Changes
IsFinished files before after = after ≡ option_map (finished files) before

-- the line was written, and nothing else changed
pub record Said (line : List ℕ) (due : Status) (seen : Seen) (answer : Status) : Type 0 where
  pub answer_is : answer ≡ due
  pub files : KeepsFiles seen
  pub said : Says seen line

-- the change of these files by a plan was carried out, as far as the devices let it
abbrev pub PutsChange : List ℕ → List File → Seen → Status → Type 0
PutsChange line files seen answer = Puts line (IsPlanDone files) (IsPlanBegun files) seen answer

-- the verdict was carried out, as far as the devices let it
abbrev pub Carries : List ℕ → Verdict → Seen → Status → Type 0
Carries line Waiting seen answer = Said line (status_of Waiting) seen answer
Carries line (Past which) seen answer = Said line (status_of (Past which)) seen answer
Carries line (Broken fault) seen answer = Said line (status_of (Broken fault)) seen answer
Carries line NotBuilt seen answer = Said line (status_of NotBuilt) seen answer
Carries line (Refused cond at) seen answer = Said line (status_of (Refused cond at)) seen answer
Carries line (Checked count units) seen answer = KeepsFiles seen × Announced line seen.taken.before seen.taken.after seen.sink.before seen.sink.after answer
Carries line (Changed name text) seen answer = PutsChange line ((name, text) ∷ []) seen answer

-- what is found of a plan file was carried out, as far as the devices let it
abbrev pub CarriesFound : List ℕ → Found → Seen → Status → Type 0
CarriesFound line founds.Nothing seen answer = KeepsFiles seen × Announced line seen.taken.before seen.taken.after seen.sink.before seen.sink.after answer
CarriesFound line founds.TooLong seen answer = Said line (due_status founds.TooLong) seen answer
CarriesFound line (founds.Broken at) seen answer = Said line (due_status (founds.Broken at)) seen answer
CarriesFound line (founds.Planned plan) seen answer = Puts line (IsFinished plan.files) (Finishes plan.files) seen answer
