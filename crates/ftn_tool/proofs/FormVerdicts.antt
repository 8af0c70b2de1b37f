-- From what the code finds of a project to the verdict on a command.
use Rattle.std.proofs.Common.{◌≡◌, ℕ, ◌≤◌, List, [], ◌∷◌, length, get_or, Option, Some, None, inl, inr, refl, sym, ap, ◌∙◌, subst, arith}
use Rattle.std.specs.Prelude.{Result, Ok, Err, IfOk, unwrap_or}
use Rattle.std.proofs.lemmas.Option.{none-some}
use Rattle.ftn_base.specs.Files.{File}
use Rattle.ftn_base.specs.Limits.{most_first_form_bytes}
use Rattle.ftn_base.specs.declared.fault.Fault.{Fault}
use Rattle.ftn_base.specs.declared.memory.NoMemory.{NoMemory}
use Rattle.free_scan.specs.FirstForm.{IsProgramText, Lacks}
use Rattle.free_scan.specs.Tokens.{tokens_of}
use Rattle.free_scan.specs.declared.first_form.program.Program.{Program}
use Rattle.ftn_tree.specs.ProjectLimits.{limit_of}
use Rattle.ftn_tree.specs.declared.token.Token.{Token}
use Rattle.ftn_tree.specs.declared.unit.FileTree.{FileTree}
use Rattle.rename_ref.specs.Conditions.{judged}
use Rattle.rename_ref.specs.declared.judgement.Judgement.{Judgement}
use Rattle.rename_ref.specs.declared.rename.Rename.{Rename}
use Rattle.ftn_base.specs.declared.name.Edition.{Edition}
use Rattle.ftn_tool.specs.declared.command.ProjectCommand.{ProjectCommand}
use Rattle.ftn_tool.specs.declared.command.ProjectCommand.TheVariants as commands
use Rattle.ftn_tool.specs.declared.command.Order.{Order}
use Rattle.ftn_tool.specs.declared.command.Request.TheVariants as requests
use Rattle.ftn_tool.specs.declared.verdict.Verdict.{Verdict}
use Rattle.ftn_tool.specs.declared.verdict.Verdict.TheVariants.{Broken, NotBuilt}
use Rattle.ftn_tool.specs.BuiltFaults.{AreSoundTrees, IsProjectFault, units_of}
use Rattle.ftn_tool.specs.Commands.{edition_of, rename_in}
use Rattle.ftn_tool.specs.Verdicts.{Gives, GivesOrder, GivesSound, IsNotBuilt, checked, sole, verdict_of}

pub gives_fault : (command : ProjectCommand) (files : List File) (fault : Fault) → limit_of files ≡ None → IsProjectFault (edition_of command) files fault → Gives command files (Broken fault)
gives_fault command files fault none is = inr (none, inl (fault, is, refl))

pub gives_sound : (command : ProjectCommand) (files : List File) (trees : List FileTree) (verdict : Verdict) → limit_of files ≡ None → AreSoundTrees (edition_of command) files trees
    → GivesSound command files verdict → Gives command files verdict
gives_sound command files trees verdict none are gives = inr (none, inr ((trees, are), gives))

pub gives_order : (command : ProjectCommand) (order : Order) (edition : Edition) (files : List File) (trees : List FileTree) (result : Result Verdict NoMemory) → command ≡ commands.Apply order edition
    → limit_of files ≡ None → AreSoundTrees (edition_of command) files trees → IfOk result (GivesOrder (rename_in order) files) → IfOk result (Gives command files)
gives_order command order edition files trees (Ok verdict) is none are gives =
    gives_sound command files trees verdict none are (subst (λ (c : ProjectCommand). GivesSound c files verdict) (sym is) gives)
gives_order command order edition files trees (Err fault) is none are gives = tt

pub gives_checked : (command : ProjectCommand) (edition : Edition) (files : List File) (trees : List FileTree) (verdict : Verdict) → command ≡ commands.Ask requests.Check edition → limit_of files ≡ None
    → AreSoundTrees (edition_of command) files trees → verdict ≡ checked (length files) (units_of trees) → Gives command files verdict
gives_checked command edition files trees verdict is none are made =
    gives_sound command files trees verdict none are
    (subst (λ (c : ProjectCommand). GivesSound c files verdict) (sym is) (trees, subst (λ (e : Edition). AreSoundTrees e files trees) (ap edition_of is) are, made))

-- ---- the one file of a project

same_file : (name text : List ℕ) (other_name other_text : List ℕ) → ◌≡◌ {A = Option File} (Some (name, text)) (Some (other_name, other_text)) → text ≡ other_text
same_file name text other_name other_text e = ap (λ (file : Option File). (unwrap_or file (name, text)).1) e

large_lacks : (files : List File) (name text : List ℕ) → sole files ≡ Some (name, text) → (length text ≤ most_first_form_bytes → ⊥) → IsNotBuilt files
large_lacks files name text only large other_name other_text program form =
    large (subst (λ (t : List ℕ). length t ≤ most_first_form_bytes) (sym (same_file name text other_name other_text (sym only ∙ form.only))) form.size)

-- a file that is too large isn't in first form
pub order_large : (order : Rename) (name text : List ℕ) → (length text ≤ most_first_form_bytes → ⊥) → GivesOrder order ((name, text) ∷ []) NotBuilt
order_large order name text large = inl (refl, large_lacks ((name, text) ∷ []) name text refl large)

-- nor is one whose text spells no program
pub order_lacks : (order : Rename) (name text : List ℕ) → Lacks text → GivesOrder order ((name, text) ∷ []) NotBuilt
order_lacks order name text lacks =
    inl (refl, λ other_name other_text program form. lacks program (subst (λ (t : List ℕ). IsProgramText t program) (sym (same_file name text other_name other_text form.only)) form.spells))

-- a file in first form is judged
pub order_judged : (order : Rename) (name text : List ℕ) (program : Program) (tokens : List Token) (judgement : Judgement) (result : Result Verdict NoMemory) → length text ≤ most_first_form_bytes
    → IsProgramText text program → tokens_of text ≡ Some tokens → judgement ≡ judged order name text tokens → IfOk result (λ verdict. verdict ≡ verdict_of name judgement)
    → IfOk result (GivesOrder order ((name, text) ∷ []))
order_judged order name text program tokens judgement (Ok verdict) size spells scanned is made =
    inr (judgement, record { name = name; text = text; tokens = tokens; program = program; form = record { only = refl; size = size; spells = spells }; scanned = scanned; is = sym is }, made)
order_judged order name text program tokens judgement (Err fault) size spells scanned is made = tt

-- ---- how many files there are

no_sole : (files : List File) → (length files ≡ 1 → ⊥) → sole files ≡ None
no_sole [] many = refl
no_sole (file ∷ []) many = absurd (many refl)
no_sole (file ∷ next ∷ files) many = refl

pub order_many : (order : Rename) (files : List File) → (length files ≡ 1 → ⊥) → GivesOrder order files NotBuilt
order_many order files many = inl (refl, λ name text program form. none-some (name, text) (sym (no_sole files many) ∙ form.only))

one_file : (files : List File) (default : File) → length files ≡ 1 → files ≡ (get_or files 0 default) ∷ []
one_file [] default one = absurd (omega (arith, one))
one_file (file ∷ []) default one = refl
one_file (file ∷ next ∷ files) default one = absurd (omega (arith, one))

pub order_one : (order : Rename) (files : List File) (default : File) (result : Result Verdict NoMemory) → length files ≡ 1
    → IfOk result (GivesOrder order ((get_or files 0 default) ∷ [])) → IfOk result (GivesOrder order files)
order_one order files default result one gives = subst (λ (fs : List File). IfOk result (GivesOrder order fs)) (sym (one_file files default one)) gives
