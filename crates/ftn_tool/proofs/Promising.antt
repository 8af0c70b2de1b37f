-- From the answer of a command to what is promised for the words.
use Rattle.std.proofs.Common.{◌≡◌, ℕ, sym, subst, refl, inr}
use Rattle.std.specs.Prelude.{Result, Ok, Err}
use Rattle.ftn_base.specs.declared.status.Status.{Status}
use Rattle.ftn_base.specs.declared.status.Status.TheVariants as status
use Rattle.ftn_tool.specs.declared.command.Command.{Command}
use Rattle.ftn_tool.specs.Answers.{Answers, Misreads, Promises}
use Rattle.ftn_tool.specs.Seen.{KeepsFiles, Seen}
use Rattle.ftn_tool.specs.declared.command.Command.TheVariants.{Project, Recover}
use Rattle.ftn_tool.specs.declared.command.ProjectCommand.{ProjectCommand}
use Rattle.ftn_tool.specs.Recovering.{Recovers}
use Rattle.ftn_tool.proofs.Applying.{answers_no_memory}
use Rattle.ftn_tool.proofs.Completing.{recovers_no_memory}

pub answers_promised : (meant : Result Command ℕ) (command : ProjectCommand) (seen : Seen) (answer : Status) → meant ≡ Ok (Project command) → Answers command seen answer → Promises meant seen answer
answers_promised meant command seen answer is answers = let P : Result Command ℕ → Type 0 = λ m. Promises m seen answer in subst P (sym is) answers

pub recovers_promised : (meant : Result Command ℕ) (seen : Seen) (answer : Status) → meant ≡ Ok Recover → Recovers seen answer → Promises meant seen answer
recovers_promised meant seen answer is recovers = let P : Result Command ℕ → Type 0 = λ m. Promises m seen answer in subst P (sym is) recovers

pub misread_promised : (meant : Result Command ℕ) (position : ℕ) (seen : Seen) (answer : Status) → meant ≡ Err position → Misreads position seen answer → Promises meant seen answer
misread_promised meant position seen answer is misread = let P : Result Command ℕ → Type 0 = λ m. Promises m seen answer in subst P (sym is) misread

pub no_memory_promised : (meant : Result Command ℕ) (seen : Seen) → KeepsFiles seen → seen.taken.after ≡ seen.taken.before → Promises meant seen status.NoMemory
no_memory_promised (Ok (Project command)) seen same silent = answers_no_memory command seen same silent
no_memory_promised (Ok Recover) seen same silent = recovers_no_memory seen same silent
no_memory_promised (Err position) seen same silent = record { answered = inr refl; files = same; said = λ e. absurd cc; silent = λ e. silent }
