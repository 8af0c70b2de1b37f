-- What becomes of a command over the files of a project.
use Rattle.std.specs.Prelude.{◌≡◌, ◌⊎◌, ℕ, ◌≤◌, List, [], ◌∷◌, length, Option, Some, None}
use Rattle.std.specs.Option.{option_map}
use Rattle.ftn_base.specs.Files.{File, project}
use Rattle.ftn_base.specs.Limits.{most_first_form_bytes}
use Rattle.ftn_base.specs.declared.fault.Fault.{Fault}
use Rattle.ftn_base.specs.declared.limits.Limit.{Limit}
use Rattle.ftn_base.specs.declared.name.Edition.{Edition}
use Rattle.ftn_base.specs.declared.status.Status.{Status}
use Rattle.ftn_base.specs.declared.status.Status.TheVariants as status
use Rattle.free_scan.specs.FirstForm.{IsProgramText}
use Rattle.free_scan.specs.Tokens.{tokens_of}
use Rattle.free_scan.specs.declared.first_form.program.Program.{Program}
use Rattle.ftn_tree.specs.ProjectLimits.{limit_of}
use Rattle.ftn_tree.specs.declared.token.Token.{Token}
use Rattle.ftn_tree.specs.declared.unit.FileTree.{FileTree}
use Rattle.plan_store.specs.Found.{HasPlanText}
use Rattle.plan_store.specs.Middle.{HasNoPlan}
use Rattle.rename_ref.specs.Conditions.{judged}
use Rattle.rename_ref.specs.declared.judgement.Judgement.{Judgement}
use Rattle.rename_ref.specs.declared.judgement.Judgement.TheVariants.{Refuse, Accept}
use Rattle.rename_ref.specs.declared.rename.Rename.{Rename}
use Rattle.ftn_tool.specs.declared.command.ProjectCommand.{ProjectCommand}
use Rattle.ftn_tool.specs.declared.command.ProjectCommand.TheVariants as commands
use Rattle.ftn_tool.specs.declared.command.Request.TheVariants as requests
use Rattle.ftn_tool.specs.declared.verdict.Point.{Point}
use Rattle.ftn_tool.specs.declared.verdict.Verdict.{Verdict}
use Rattle.ftn_tool.specs.declared.verdict.Verdict.TheVariants.{Waiting, Past, Broken, NotBuilt, Refused, Checked, Changed}
use Rattle.ftn_tool.specs.BuiltFaults.{AreSoundTrees, IsProjectFault, IsSound, units_of}
use Rattle.ftn_tool.specs.Commands.{edition_of, rename_in}

-- ---- the status, and the files that have new texts

abbrev pub status_of : Verdict → Status
status_of Waiting = status.Pending
status_of (Past which) = status.Limit
status_of (Broken fault) = status.BadProject
status_of NotBuilt = status.BadProject
status_of (Refused cond at) = status.Refused
status_of (Checked count units) = status.Done
status_of (Changed name text) = status.Done

abbrev pub changed_by : Verdict → List File
changed_by Waiting = []
changed_by (Past which) = []
changed_by (Broken fault) = []
changed_by NotBuilt = []
changed_by (Refused cond at) = []
changed_by (Checked count units) = []
changed_by (Changed name text) = (name, text) ∷ []

-- ---- `check`

abbrev pub checked : ℕ → ℕ → Verdict
checked count units = Checked count units

-- a project without a fault has so many files and program units
abbrev pub IsChecked : Edition → List File → Verdict → Type 0
IsChecked edition files verdict = (trees : List FileTree) × AreSoundTrees edition files trees × (verdict ≡ checked (length files) (units_of trees))

-- ---- `apply rename`, over the one file of a project in first form

-- the one file of a list
abbrev pub sole : List File → Option File
sole [] = None
sole (file ∷ []) = Some file
sole (file ∷ next ∷ files) = None

-- The project is in first form: its one file has this name and this text, which spells this program.
pub record IsFirstForm (files : List File) (name text : List ℕ) (program : Program) : Type 0 where
  pub only : sole files ≡ Some (name, text)
  pub size : length text ≤ most_first_form_bytes
  pub spells : IsProgramText text program

-- the project is not in first form
abbrev pub IsNotBuilt : List File → Type 0
IsNotBuilt files = (name text : List ℕ) (program : Program) → IsFirstForm files name text program → ⊥

-- it is, with this file and these tokens, and the order is judged so
pub record IsJudged (order : Rename) (files : List File) (judgement : Judgement) : Type 0 where
  pub name : List ℕ
  pub text : List ℕ
  pub tokens : List Token
  pub program : Program
  pub form : IsFirstForm files name text program
  pub scanned : tokens_of text ≡ Some tokens
  pub is : judged order name text tokens ≡ judgement

-- a byte of the first file
abbrev pub first_point : ℕ → Point
first_point at = record { file = 0; at = at }

abbrev pub verdict_of : List ℕ → Judgement → Verdict
verdict_of name (Refuse cond at) = Refused cond (option_map first_point at)
verdict_of name (Accept text) = Changed name text

abbrev pub GivesOrder : Rename → List File → Verdict → Type 0
GivesOrder order files verdict =
    ((verdict ≡ NotBuilt) × IsNotBuilt files)
    ⊎ ((judgement : Judgement) × (is : IsJudged order files judgement) × (verdict ≡ verdict_of is.name judgement))

-- ---- commands

-- what a project without a fault gives
abbrev pub GivesSound : ProjectCommand → List File → Verdict → Type 0
GivesSound (commands.Ask requests.Check edition) files verdict = IsChecked edition files verdict
GivesSound (commands.Apply order edition) files verdict = GivesOrder (rename_in order) files verdict

-- what the project of these files gives: the limit that it passes, or its first fault, or what it gives without one
abbrev pub Gives : ProjectCommand → List File → Verdict → Type 0
Gives command files verdict =
    ((which : Limit) × (limit_of files ≡ Some which) × (verdict ≡ Past which))
    ⊎ ((limit_of files ≡ None)
    × (((fault : Fault) × IsProjectFault (edition_of command) files fault × (verdict ≡ Broken fault))
    ⊎ (IsSound (edition_of command) files × GivesSound command files verdict)))

-- there is a plan file
abbrev pub HasPlan : List File → Type 0
HasPlan files = (text : List ℕ) × HasPlanText files text

-- the verdict on a command over these files: it waits where there is a plan file, and else it is what their project gives
abbrev pub IsVerdict : ProjectCommand → List File → Verdict → Type 0
IsVerdict command files verdict = (HasPlan files × (verdict ≡ Waiting)) ⊎ (HasNoPlan files × Gives command (project files) verdict)
