-- What a command line may answer, and what it leaves.
use Rattle.std.specs.Prelude.{◌≡◌, ◌≢◌, ◌⊎◌, ℕ, List, [], ◌∷◌, ◌++◌, Some, Result, Ok, Err, IfSome}
use Rattle.ftn_base.specs.Files.{File, project}
use Rattle.ftn_base.specs.declared.status.Status.{Status}
use Rattle.ftn_base.specs.declared.status.Status.TheVariants as status
use Rattle.free_scan.specs.FirstForm.{IsProgramText}
use Rattle.free_scan.specs.declared.first_form.program.Program.{Program}
use Rattle.ftn_tree.specs.declared.token.Token.{Token}
use Rattle.rename_ref.specs.Keeping.{Keeps}
use Rattle.plan_store.specs.Middle.{HasNoPlan, IsMiddle, with_files}
use Rattle.ftn_tool.specs.declared.command.Command.{Command}
use Rattle.ftn_tool.specs.declared.command.Command.TheVariants.{Project, Recover}
use Rattle.ftn_tool.specs.declared.command.ProjectCommand.{ProjectCommand}
use Rattle.ftn_tool.specs.declared.command.ProjectCommand.TheVariants as commands
use Rattle.ftn_tool.specs.declared.command.Order.{Order}
use Rattle.ftn_tool.specs.declared.command.Order.TheVariants as orders
use Rattle.ftn_tool.specs.declared.verdict.Verdict.{Verdict}
use Rattle.ftn_tool.specs.Forces.{Forced}
use Rattle.ftn_tool.specs.Lines.{line_of, store_fault_line, bad_word_line}
use Rattle.ftn_tool.specs.Recovering.{Recovers}
use Rattle.ftn_tool.specs.Seen.{Seen, HasRisen, HasTaken, HasTakenFront, KeepsFiles, Says}
use Rattle.ftn_tool.specs.Verdicts.{IsVerdict, changed_by, sole, status_of}

-- ---- what an accepted order keeps

-- what an accepted order keeps of the program that the old text spells
abbrev pub Preserves : Order → List ℕ → List ℕ → List Token → List ℕ → Program → Type 0
Preserves (orders.Rename rename) name text tokens new_text program = Keeps rename name text tokens new_text program

-- Today an order is accepted over the one file of a project in first form alone: the new project is that file with the new text, which
-- writes the same and ends alike, and names denote the corresponding entities on corresponding storage.
pub record IsFormKept (order : Order) (files changed : List File) : Type 0 where
  pub name : List ℕ
  pub text : List ℕ
  pub new_text : List ℕ
  pub only : sole (project files) ≡ Some (name, text)
  pub change : changed ≡ (name, new_text) ∷ []
  pub new_project : project (with_files changed files) ≡ changed
  pub tokens : List Token
  pub program : Program
  pub spells : IsProgramText text program
  pub keeps : Preserves order name text tokens new_text program

-- a question changes no file
abbrev pub ChangeKeeps : ProjectCommand → List File → List File → Type 0
ChangeKeeps (commands.Ask request edition) files changed = changed ≡ []
ChangeKeeps (commands.Apply order edition) files changed = IsFormKept order files changed

-- the command is to be carried out
pub record IsAccepted (command : ProjectCommand) (files : List File) (verdict : Verdict) : Type 0 where
  pub due : IsVerdict command files verdict
  pub done : status_of verdict ≡ status.Done
  pub keeps : ChangeKeeps command files (changed_by verdict)

-- ---- what each answer says of the project, of the files and of the sink

-- the command was carried out: the files are the old ones with the changed ones among them, there is no plan file, and the line was written
pub record WasDone (command : ProjectCommand) (files : List File) (seen : Seen) : Type 0 where
  pub verdict : Verdict
  pub accepted : IsAccepted command files verdict
  pub files_after : seen.files.after ≡ Some (with_files (changed_by verdict) files)
  pub planless : HasNoPlan (with_files (changed_by verdict) files)
  pub said : HasTaken seen (line_of (project files) verdict)

-- the verdict has this answer, and its line was written, as far as the sink took it
pub record WasSaid (command : ProjectCommand) (files : List File) (seen : Seen) (answer : Status) : Type 0 where
  pub verdict : Verdict
  pub due : IsVerdict command files verdict
  pub status_is : answer ≡ status_of verdict
  pub said : Says seen (line_of (project files) verdict)

-- the store failed as changed files were put: the files are the whole old ones, the whole new ones, or amid the change, which the plan file then
-- completes
pub record FailedAtPut (command : ProjectCommand) (files : List File) (seen : Seen) : Type 0 where
  pub verdict : Verdict
  pub accepted : IsAccepted command files verdict
  pub now : List File
  pub files_after : seen.files.after ≡ Some now
  pub middle : IsMiddle files (changed_by verdict) now
  pub said : Says seen (line_of (project files) verdict ++ store_fault_line)

-- the sink didn't take the whole line of a command that is to be carried out, or there was no memory to do so
pub record FailedAtLine (command : ProjectCommand) (files : List File) (seen : Seen) : Type 0 where
  pub verdict : Verdict
  pub accepted : IsAccepted command files verdict
  pub said : HasTakenFront seen (line_of (project files) verdict)

abbrev pub Answered : ProjectCommand → List File → Seen → Status → Type 0
Answered command files seen status.Done = WasDone command files seen
Answered command files seen status.StoreFault = (KeepsFiles seen × Says seen store_fault_line) ⊎ FailedAtPut command files seen
Answered command files seen status.OutputFault = FailedAtLine command files seen
Answered command files seen status.NoMemory = (seen.taken.after ≡ seen.taken.before) ⊎ FailedAtLine command files seen
Answered command files seen other = WasSaid command files seen other

-- a question leaves the files as they are; an order changes them only at these two answers
abbrev pub LeavesFiles : ProjectCommand → Seen → Status → Type 0
LeavesFiles (commands.Ask request edition) seen answer = KeepsFiles seen
LeavesFiles (commands.Apply order edition) seen answer = answer ≢ status.Done → answer ≢ status.StoreFault → KeepsFiles seen

-- What a command over the files of a project promises. The first two fields speak of stores that tell their files, the others of every
-- store.
pub record Answers (command : ProjectCommand) (seen : Seen) (answer : Status) : Type 0 where
  pub answered : IfSome seen.files.before (λ files. Answered command files seen answer)
  -- the answer is the due one, or one that a device forced, or want of memory
  pub due : IfSome seen.files.before (λ files. (verdict : Verdict) → IsVerdict command files verdict → (answer ≡ status_of verdict) ⊎ Forced seen answer)
  pub files : LeavesFiles command seen answer
  pub store_fault : answer ≡ status.StoreFault → HasRisen seen.store
  pub output_fault : answer ≡ status.OutputFault → HasRisen seen.sink

-- What words that are no command leave: a bad word at that position, unless memory ran out.
pub record Misreads (position : ℕ) (seen : Seen) (answer : Status) : Type 0 where
  pub answered : (answer ≡ status.BadWords) ⊎ (answer ≡ status.NoMemory)
  pub files : KeepsFiles seen
  pub said : answer ≡ status.BadWords → Says seen (bad_word_line position)
  pub silent : answer ≡ status.NoMemory → seen.taken.after ≡ seen.taken.before

-- What is promised for the words of a command line: by the command that they mean, or the position of the bad word.
abbrev pub Promises : Result Command ℕ → Seen → Status → Type 0
Promises (Ok (Project command)) seen answer = Answers command seen answer
Promises (Ok Recover) seen answer = Recovers seen answer
Promises (Err position) seen answer = Misreads position seen answer
