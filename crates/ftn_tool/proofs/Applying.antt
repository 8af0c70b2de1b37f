-- From the verdict that was carried out to what a command promises.
use Rattle.std.proofs.Common.{◌≡◌, ◌≢◌, ℕ, ◌≤◌, List, [], ◌∷◌, ◌++◌, map, Option, None, Some, refl, sym, ap, subst, ◌∙◌, inl, inr}
use Rattle.std.specs.Prelude.{◌⊎◌, IfSome, unwrap_or}
use Rattle.std.proofs.lemmas.Option.{none-some}
use Rattle.ftn_base.specs.Files.{File, IsInOrder, project}
use Rattle.ftn_base.specs.declared.fault.Fault.{Fault}
use Rattle.ftn_base.specs.declared.limits.Limit.{Limit}
use Rattle.ftn_base.specs.declared.name.Edition.{Edition}
use Rattle.ftn_base.specs.declared.status.Status.{Status}
use Rattle.ftn_base.specs.declared.status.Status.TheVariants as status
use Rattle.free_scan.specs.Tokens.{tokens_of}
use Rattle.ftn_tree.specs.ProjectLimits.{limit_of}
use Rattle.ftn_tree.specs.declared.token.Token.{Token}
use Rattle.rename_ref.specs.Conditions.{judged}
use Rattle.rename_ref.specs.Keeping.{RenameKeeps}
use Rattle.rename_ref.specs.declared.judgement.Judgement.{Judgement}
use Rattle.rename_ref.specs.declared.judgement.Judgement.TheVariants.{Refuse, Accept}
use Rattle.rename_ref.specs.declared.rename.Rename.{Rename}
use Rattle.plan_file.specs.Plans.{IsPlan}
use Rattle.plan_store.proofs.Amid.{new_planless, put_done, put_part}
use Rattle.plan_store.specs.Middle.{HasNoPlan, IsChange, with_files}
use Rattle.unit_parse.specs.Decided.{TextHasOneAnswer}
use Rattle.ftn_tool.proofs.FirstFault.{fault_unsound}
use Rattle.ftn_tool.proofs.NewProject.{new_project}
use Rattle.ftn_tool.proofs.Sizes.{same_limit, whole}
use Rattle.ftn_tool.proofs.Writing.{rose_since}
use Rattle.ftn_tool.specs.declared.command.ProjectCommand.{ProjectCommand}
use Rattle.ftn_tool.specs.declared.command.ProjectCommand.TheVariants as commands
use Rattle.ftn_tool.specs.declared.command.Order.TheVariants as orders
use Rattle.ftn_tool.specs.declared.command.Request.{Request}
use Rattle.ftn_tool.specs.declared.command.Request.TheVariants as requests
use Rattle.ftn_tool.specs.declared.verdict.Verdict.{Verdict}
use Rattle.ftn_tool.specs.declared.verdict.Verdict.TheVariants.{Waiting, Past, Broken, NotBuilt, Refused, Checked, Changed}
use Rattle.ftn_tool.specs.Answers.{Answered, Answers, ChangeKeeps, IsAccepted, IsFormKept, LeavesFiles}
use Rattle.ftn_tool.specs.Commands.{edition_of}
use Rattle.ftn_tool.specs.Forces.{Forced}
use Rattle.ftn_tool.specs.Lines.{limit_line, line_of, pending_line, store_fault_line}
use Rattle.ftn_tool.specs.Seen.{HasRisen, HasTaken, HasTakenFront, KeepsFiles, Says, Seen, see}
use Rattle.ftn_tool.specs.Verdicts.{Gives, GivesOrder, GivesSound, HasPlan, IsJudged, IsVerdict, changed_by, status_of, verdict_of}
use Rattle.ftn_tool.specs.steps.Carrying.{Announced, Carries, Changes, IsDue, IsPlanBegun, IsPlanDone, Puts, Said}
use Rattle.ftn_tool.specs.declared.project.ProjectFault.TheVariants as faults
use Rattle.ftn_tool.specs.steps.Fronts.{IsStopped, front_of}

abbrev pub OneAnswer : Type 0
OneAnswer = (edition : Edition) (text : List ℕ) → TextHasOneAnswer edition text

-- ---- files give one status

same_pair : (n t name text : List ℕ) → ◌≡◌ {A = Option File} (Some (n, t)) (Some (name, text)) → (n ≡ name) × (t ≡ text)
same_pair n t name text e = (ap (λ (file : Option File). (unwrap_or file (name, text)).0) e, ap (λ (file : Option File). (unwrap_or file (name, text)).1) e)

one_judgement : (scan : List ℕ → Option (List Token)) (judge : List ℕ → List ℕ → List Token → Judgement) (n t name text : List ℕ) (some tokens : List Token) (one other : Judgement)
    → n ≡ name → t ≡ text → scan t ≡ Some some → scan text ≡ Some tokens → judge n t some ≡ one → judge name text tokens ≡ other → one ≡ other
one_judgement scan judge n t name text some tokens one other e f g h i j = cc

limit_or_none : {A : Type 0} (limit : Option Limit) (which : Limit) → limit ≡ Some which → limit ≡ None → A
limit_or_none limit which some none = absurd cc

judged_status : (name other : List ℕ) (judgement : Judgement) → status_of (verdict_of name judgement) ≡ status_of (verdict_of other judgement)
judged_status name other (Refuse cond at) = refl
judged_status name other (Accept text) = refl

form_status : (order : Rename) (files : List File) (one other : Judgement) (is : IsJudged order files one) (also : IsJudged order files other) → status_of (verdict_of is.name one) ≡ status_of (verdict_of also.name other)
form_status order files one other is also =
    let parts = same_pair is.name is.text also.name also.text (sym is.form.only ∙ also.form.only) in
    judged_status is.name also.name one
    ∙ ap (λ (j : Judgement). status_of (verdict_of also.name j))
    (one_judgement tokens_of (judged order) is.name is.text also.name also.text is.tokens also.tokens one other parts.0 parts.1 is.scanned also.scanned is.is also.is)

order_status : (order : Rename) (files : List File) (verdict other : Verdict) → GivesOrder order files verdict → GivesOrder order files other → status_of verdict ≡ status_of other
order_status order files verdict other (inl one) (inl two) = ap status_of one.0 ∙ sym (ap status_of two.0)
order_status order files verdict other (inl one) (inr two) = absurd (one.1 two.1.name two.1.text two.1.program two.1.form)
order_status order files verdict other (inr one) (inl two) = absurd (two.1 one.1.name one.1.text one.1.program one.1.form)
order_status order files verdict other (inr one) (inr two) =
    ap status_of one.2 ∙ form_status order files one.0 two.0 one.1 two.1 ∙ sym (ap status_of two.2)

sound_status : (command : ProjectCommand) (files : List File) (verdict other : Verdict) → GivesSound command files verdict → GivesSound command files other → status_of verdict ≡ status_of other
sound_status (commands.Ask requests.Check edition) files verdict other one two = ap status_of one.2 ∙ sym (ap status_of two.2)
sound_status (commands.Apply (orders.Rename order) edition) files verdict other one two = order_status order files verdict other one two

same_status : OneAnswer → (command : ProjectCommand) (files : List File) (verdict other : Verdict) → Gives command files verdict → Gives command files other → status_of verdict ≡ status_of other
same_status law command files verdict other (inl one) (inl two) = ap status_of one.2 ∙ sym (ap status_of two.2)
same_status law command files verdict other (inl one) (inr two) = limit_or_none (limit_of files) one.0 one.1 two.0
same_status law command files verdict other (inr one) (inl two) = limit_or_none (limit_of files) two.0 two.1 one.0
same_status law command files verdict other (inr (none, inl one)) (inr (same, inl two)) = ap status_of one.2 ∙ sym (ap status_of two.2)
same_status law command files verdict other (inr (none, inl one)) (inr (same, inr two)) = absurd (fault_unsound (edition_of command) (law (edition_of command)) files one.0 one.1 two.0)
same_status law command files verdict other (inr (none, inr one)) (inr (same, inl two)) = absurd (fault_unsound (edition_of command) (law (edition_of command)) files two.0 two.1 one.0)
same_status law command files verdict other (inr (none, inr one)) (inr (same, inr two)) = sound_status command files verdict other one.1 two.1

plan_or_none : {A : Type 0} (files : List File) → HasPlan files → HasNoPlan files → A
plan_or_none files some none = absurd (none-some some.0 (sym none ∙ some.1))

verdict_status : OneAnswer → (command : ProjectCommand) (files : List File) (verdict other : Verdict) → IsVerdict command files verdict → IsVerdict command files other → status_of verdict ≡ status_of other
verdict_status law command files verdict other (inl one) (inl two) = ap status_of one.1 ∙ sym (ap status_of two.1)
verdict_status law command files verdict other (inl one) (inr two) = plan_or_none files one.0 two.0
verdict_status law command files verdict other (inr one) (inl two) = plan_or_none files two.0 one.0
verdict_status law command files verdict other (inr one) (inr two) = same_status law command (project files) verdict other one.1 two.1

-- ---- what a verdict changes

waiting_not_done : (verdict : Verdict) → verdict ≡ Waiting → status_of verdict ≡ status.Done → ⊥
waiting_not_done verdict is done = let e : status.Pending ≡ status.Done = sym (ap status_of is) ∙ done in absurd cc

limit_not_done : (verdict : Verdict) (which : Limit) → verdict ≡ Past which → status_of verdict ≡ status.Done → ⊥
limit_not_done verdict which is done = let e : status.Limit ≡ status.Done = sym (ap status_of is) ∙ done in absurd cc

fault_not_done : (verdict : Verdict) (fault : Fault) → verdict ≡ Broken fault → status_of verdict ≡ status.Done → ⊥
fault_not_done verdict fault is done = let e : status.BadProject ≡ status.Done = sym (ap status_of is) ∙ done in absurd cc

form_not_done : (verdict : Verdict) → verdict ≡ NotBuilt → status_of verdict ≡ status.Done → ⊥
form_not_done verdict is done = let e : status.BadProject ≡ status.Done = sym (ap status_of is) ∙ done in absurd cc

form_kept : (law : RenameKeeps) (order : Rename) (files : List File) (verdict : Verdict) (judgement : Judgement) (is : IsJudged order (project files) judgement) → IsInOrder files → verdict ≡ verdict_of is.name judgement
    → status_of verdict ≡ status.Done → IsFormKept (orders.Rename order) files (changed_by verdict)
form_kept law order files verdict (Refuse cond at) is in_order made done = let e : status.Refused ≡ status.Done = sym (ap status_of made) ∙ done in absurd cc
form_kept law order files verdict (Accept new_text) is in_order made done =
    let changed : changed_by verdict ≡ (is.name, new_text) ∷ [] = ap changed_by made in
    record {
      name = is.name;
      text = is.text;
      new_text = new_text;
      only = is.form.only;
      change = changed;
      new_project = ap (λ (fs : List File). project (with_files fs files)) changed ∙ new_project files is.name is.text new_text in_order is.form.only ∙ sym changed;
      tokens = is.tokens;
      program = is.program;
      spells = is.form.spells;
      keeps = law order is.name is.text is.tokens is.program new_text is.scanned is.form.spells is.is;
    }

order_kept : (law : RenameKeeps) (order : Rename) (files : List File) (verdict : Verdict) → IsInOrder files → GivesOrder order (project files) verdict → status_of verdict ≡ status.Done
    → IsFormKept (orders.Rename order) files (changed_by verdict)
order_kept law order files verdict in_order (inl none) done = absurd (form_not_done verdict none.0 done)
order_kept law order files verdict in_order (inr made) done = form_kept law order files verdict made.0 made.1 in_order made.2 done

change_keeps : (law : RenameKeeps) (command : ProjectCommand) (files : List File) (verdict : Verdict) → IsInOrder files → GivesSound command (project files) verdict → status_of verdict ≡ status.Done
    → ChangeKeeps command files (changed_by verdict)
change_keeps law (commands.Ask requests.Check edition) files verdict in_order gives done = ap changed_by gives.2
change_keeps law (commands.Apply (orders.Rename order) edition) files verdict in_order gives done = order_kept law order files verdict in_order gives done

accepted : (law : RenameKeeps) (command : ProjectCommand) (files : List File) (verdict : Verdict) → IsInOrder files → IsVerdict command files verdict → status_of verdict ≡ status.Done → IsAccepted command files verdict
accepted law command files verdict in_order (inl waiting) done = absurd (waiting_not_done verdict waiting.1 done)
accepted law command files verdict in_order (inr (lacks, inl past)) done = absurd (limit_not_done verdict past.0 past.2 done)
accepted law command files verdict in_order (inr (lacks, inr (none, inl fault))) done = absurd (fault_not_done verdict fault.0 fault.2 done)
accepted law command files verdict in_order (inr (lacks, inr (none, inr gives))) done =
    record { due = inr (lacks, inr (none, inr gives)); done = done; keeps = change_keeps law command files verdict in_order gives.1 done }

-- what is carried out finds no plan file
lacks_plan : (command : ProjectCommand) (files : List File) (verdict : Verdict) → IsVerdict command files verdict → status_of verdict ≡ status.Done → HasNoPlan files
lacks_plan command files verdict (inl waiting) done = absurd (waiting_not_done verdict waiting.1 done)
lacks_plan command files verdict (inr due) done = due.0

-- a question changes nothing
ask_changes : (request : Request) (edition : Edition) (files : List File) (verdict : Verdict) → Gives (commands.Ask request edition) files verdict → changed_by verdict ≡ []
ask_changes request edition files verdict (inl past) = ap changed_by past.2
ask_changes request edition files verdict (inr (none, inl fault)) = ap changed_by fault.2
ask_changes requests.Check edition files verdict (inr (none, inr gives)) = ap changed_by gives.1.2

-- ---- what can have come of it

-- the line was announced
abbrev pub Line : Seen → List ℕ → Status → Type 0
Line seen line answer =
    ((answer ≡ status.Done) × HasTaken seen line)
    ⊎ (((answer ≡ status.OutputFault) × HasRisen seen.sink × HasTakenFront seen line)
    ⊎ ((answer ≡ status.NoMemory) × HasTakenFront seen line))

pub line_cases : (seen : Seen) (line : List ℕ) (answer : Status) → Announced line seen.taken.before seen.taken.after seen.sink.before seen.sink.after answer → Line seen line answer
line_cases seen line status.Done is = inl (refl, is)
line_cases seen line status.OutputFault is = inr (inl (refl, is.0, is.1))
line_cases seen line status.NoMemory is = inr (inr (refl, is))
line_cases seen line status.Refused is = absurd is
line_cases seen line status.BadWords is = absurd is
line_cases seen line status.BadProject is = absurd is
line_cases seen line status.Limit is = absurd is
line_cases seen line status.StoreFault is = absurd is
line_cases seen line status.InputFault is = absurd is
line_cases seen line status.ProgramFaulted is = absurd is
line_cases seen line status.StepsSpent is = absurd is
line_cases seen line status.Pending is = absurd is

-- the change was made
abbrev pub Change : Seen → List ℕ → Changes → Changes → Status → Type 0
Change seen line made begun answer =
    ((answer ≡ status.Done) × made seen.files.before seen.files.after × HasTaken seen line)
    ⊎ (((answer ≡ status.StoreFault) × HasRisen seen.store × begun seen.files.before seen.files.after × Says seen (line ++ store_fault_line))
    ⊎ (((answer ≡ status.OutputFault) × HasRisen seen.sink × KeepsFiles seen × HasTakenFront seen line)
    ⊎ ((answer ≡ status.NoMemory) × KeepsFiles seen × HasTakenFront seen line)))

pub put_cases : (seen : Seen) (line : List ℕ) (made begun : Changes) (answer : Status) → Puts line made begun seen answer → Change seen line made begun answer
put_cases seen line made begun status.Done put = inl (refl, put.0, put.1)
put_cases seen line made begun status.StoreFault put = inr (inl (refl, put.0, put.1, put.2))
put_cases seen line made begun status.OutputFault put = inr (inr (inl (refl, put.0, put.1, put.2)))
put_cases seen line made begun status.NoMemory put = inr (inr (inr (refl, put.0, put.1)))
put_cases seen line made begun status.Refused put = absurd put
put_cases seen line made begun status.BadWords put = absurd put
put_cases seen line made begun status.BadProject put = absurd put
put_cases seen line made begun status.Limit put = absurd put
put_cases seen line made begun status.InputFault put = absurd put
put_cases seen line made begun status.ProgramFaulted put = absurd put
put_cases seen line made begun status.StepsSpent put = absurd put
put_cases seen line made begun status.Pending put = absurd put

abbrev ChangeOf : Seen → List ℕ → List File → Status → Type 0
ChangeOf seen line files answer = Change seen line (IsPlanDone files) (IsPlanBegun files) answer

-- ---- over a store that tells its files

module _ (law : RenameKeeps) (command : ProjectCommand) (files : List File) (seen : Seen) (told : seen.files.before ≡ Some files) (in_order : IsInOrder files) where
  line_answered : (verdict : Verdict) (answer : Status) → IsVerdict command files verdict → status_of verdict ≡ status.Done → changed_by verdict ≡ [] → (line : List ℕ) → line ≡ line_of (project files) verdict
      → KeepsFiles seen → Line seen line answer → Answered command files seen answer
  line_answered verdict answer due done none line is kept (inl made) =
      subst (λ (a : Status). Answered command files seen a) (sym made.0)
      (record {
        verdict = verdict;
        accepted = accepted law command files verdict in_order due done;
        files_after = kept ∙ told ∙ sym (ap (λ (fs : List File). Some (with_files fs files)) none);
        planless = subst (λ (fs : List File). HasNoPlan (with_files fs files)) (sym none) (lacks_plan command files verdict due done);
        said = subst (λ (l : List ℕ). HasTaken seen l) is made.1;
      })
  line_answered verdict answer due done none line is kept (inr (inl made)) =
      subst (λ (a : Status). Answered command files seen a) (sym made.0)
      (record { verdict = verdict; accepted = accepted law command files verdict in_order due done; said = subst (λ (l : List ℕ). HasTakenFront seen l) is made.2 })
  line_answered verdict answer due done none line is kept (inr (inr made)) =
      subst (λ (a : Status). Answered command files seen a) (sym made.0)
      (inr (record { verdict = verdict; accepted = accepted law command files verdict in_order due done; said = subst (λ (l : List ℕ). HasTakenFront seen l) is made.1 }))

  is_change : (name text : List ℕ) → IsVerdict command files (Changed name text) → IsPlan ((name, text) ∷ []) → IsChange files ((name, text) ∷ [])
  is_change name text due valid = record { ordered = in_order; lacks = lacks_plan command files (Changed name text) due refl; valid = valid }

  put_answered : (name text : List ℕ) (answer : Status) → IsVerdict command files (Changed name text) → (line : List ℕ) → line ≡ line_of (project files) (Changed name text)
      → ChangeOf seen line ((name, text) ∷ []) answer → Answered command files seen answer
  put_answered name text answer due line is (inl made) =
      let change : IsChange files ((name, text) ∷ []) = is_change name text due made.1.0 in
      subst (λ (a : Status). Answered command files seen a) (sym made.0)
      (record {
        verdict = Changed name text;
        accepted = accepted law command files (Changed name text) in_order due refl;
        files_after = put_done files ((name, text) ∷ []) change seen.files.before seen.files.after told made.1.1;
        planless = new_planless files ((name, text) ∷ []) change;
        said = subst (λ (l : List ℕ). HasTaken seen l) is made.2;
      })
  put_answered name text answer due line is (inr (inl made)) =
      let part = put_part files ((name, text) ∷ []) (is_change name text due made.2.0) seen.files.before seen.files.after told made.2.1 in
      subst (λ (a : Status). Answered command files seen a) (sym made.0)
      (inr (record {
        verdict = Changed name text;
        accepted = accepted law command files (Changed name text) in_order due refl;
        now = part.0;
        files_after = part.1;
        middle = part.2;
        said = subst (λ (l : List ℕ). Says seen (l ++ store_fault_line)) is made.3;
      }))
  put_answered name text answer due line is (inr (inr (inl made))) =
      subst (λ (a : Status). Answered command files seen a) (sym made.0)
      (record { verdict = Changed name text; accepted = accepted law command files (Changed name text) in_order due refl; said = subst (λ (l : List ℕ). HasTakenFront seen l) is made.3 })
  put_answered name text answer due line is (inr (inr (inr made))) =
      subst (λ (a : Status). Answered command files seen a) (sym made.0)
      (inr (record { verdict = Changed name text; accepted = accepted law command files (Changed name text) in_order due refl; said = subst (λ (l : List ℕ). HasTakenFront seen l) is made.2 }))

  answered : (verdict : Verdict) (answer : Status) → IsVerdict command files verdict → (line : List ℕ) → line ≡ line_of (project files) verdict → Carries line verdict seen answer → Answered command files seen answer
  answered Waiting answer due line is carried =
      subst (λ (a : Status). Answered command files seen a) (sym carried.answer_is) (record { verdict = Waiting; due = due; status_is = refl; said = subst (λ (l : List ℕ). Says seen l) is carried.said })
  answered (Past which) answer due line is carried =
      subst (λ (a : Status). Answered command files seen a) (sym carried.answer_is) (record { verdict = Past which; due = due; status_is = refl; said = subst (λ (l : List ℕ). Says seen l) is carried.said })
  answered (Broken fault) answer due line is carried =
      subst (λ (a : Status). Answered command files seen a) (sym carried.answer_is) (record { verdict = Broken fault; due = due; status_is = refl; said = subst (λ (l : List ℕ). Says seen l) is carried.said })
  answered NotBuilt answer due line is carried =
      subst (λ (a : Status). Answered command files seen a) (sym carried.answer_is) (record { verdict = NotBuilt; due = due; status_is = refl; said = subst (λ (l : List ℕ). Says seen l) is carried.said })
  answered (Refused cond at) answer due line is carried =
      subst (λ (a : Status). Answered command files seen a) (sym carried.answer_is) (record { verdict = Refused cond at; due = due; status_is = refl; said = subst (λ (l : List ℕ). Says seen l) is carried.said })
  answered (Checked count units) answer due line is carried = line_answered (Checked count units) answer due refl refl line is carried.0 (line_cases seen line answer carried.1)
  answered (Changed name text) answer due line is carried =
      put_answered name text answer due line is (put_cases seen line (IsPlanDone ((name, text) ∷ [])) (IsPlanBegun ((name, text) ∷ [])) answer carried)

-- ---- over every store

module _ (seen : Seen) (line : List ℕ) where
  pub line_forced : (answer : Status) → Line seen line answer → (answer ≡ status.Done) ⊎ Forced seen answer
  line_forced answer (inl made) = inl made.0
  line_forced answer (inr (inl made)) = inr (subst (λ (a : Status). Forced seen a) (sym made.0) made.1)
  line_forced answer (inr (inr made)) = inr (subst (λ (a : Status). Forced seen a) (sym made.0) tt)

  pub put_forced : (made begun : Changes) (answer : Status) → Change seen line made begun answer → (answer ≡ status.Done) ⊎ Forced seen answer
  put_forced made begun answer (inl is) = inl is.0
  put_forced made begun answer (inr (inl is)) = inr (subst (λ (a : Status). Forced seen a) (sym is.0) is.1)
  put_forced made begun answer (inr (inr (inl is))) = inr (subst (λ (a : Status). Forced seen a) (sym is.0) is.1)
  put_forced made begun answer (inr (inr (inr is))) = inr (subst (λ (a : Status). Forced seen a) (sym is.0) tt)

  due_or_forced : (verdict : Verdict) (answer : Status) → Carries line verdict seen answer → (answer ≡ status_of verdict) ⊎ Forced seen answer
  due_or_forced Waiting answer carried = inl carried.answer_is
  due_or_forced (Past which) answer carried = inl carried.answer_is
  due_or_forced (Broken fault) answer carried = inl carried.answer_is
  due_or_forced NotBuilt answer carried = inl carried.answer_is
  due_or_forced (Refused cond at) answer carried = inl carried.answer_is
  due_or_forced (Checked count units) answer carried = line_forced answer (line_cases seen line answer carried.1)
  due_or_forced (Changed name text) answer carried = put_forced (IsPlanDone ((name, text) ∷ [])) (IsPlanBegun ((name, text) ∷ [])) answer (put_cases seen line (IsPlanDone ((name, text) ∷ [])) (IsPlanBegun ((name, text) ∷ [])) answer carried)

  pub put_kept : (made begun : Changes) (answer : Status) → Change seen line made begun answer → answer ≢ status.Done → answer ≢ status.StoreFault → KeepsFiles seen
  put_kept made begun answer (inl is) other also = absurd (other is.0)
  put_kept made begun answer (inr (inl is)) other also = absurd (also is.0)
  put_kept made begun answer (inr (inr (inl is))) other also = is.2
  put_kept made begun answer (inr (inr (inr is))) other also = is.1

  order_leaves : (verdict : Verdict) (answer : Status) → Carries line verdict seen answer → answer ≢ status.Done → answer ≢ status.StoreFault → KeepsFiles seen
  order_leaves Waiting answer carried other also = carried.files
  order_leaves (Past which) answer carried other also = carried.files
  order_leaves (Broken fault) answer carried other also = carried.files
  order_leaves NotBuilt answer carried other also = carried.files
  order_leaves (Refused cond at) answer carried other also = carried.files
  order_leaves (Checked count units) answer carried other also = carried.0
  order_leaves (Changed name text) answer carried other also =
      put_kept (IsPlanDone ((name, text) ∷ [])) (IsPlanBegun ((name, text) ∷ [])) answer (put_cases seen line (IsPlanDone ((name, text) ∷ [])) (IsPlanBegun ((name, text) ∷ [])) answer carried) other also

  some_files : (file : File) → ◌≡◌ {A = List File} (file ∷ []) [] → ⊥
  some_files file e = cc

  ask_leaves : (verdict : Verdict) (answer : Status) → Carries line verdict seen answer → changed_by verdict ≡ [] → KeepsFiles seen
  ask_leaves Waiting answer carried none = carried.files
  ask_leaves (Past which) answer carried none = carried.files
  ask_leaves (Broken fault) answer carried none = carried.files
  ask_leaves NotBuilt answer carried none = carried.files
  ask_leaves (Refused cond at) answer carried none = carried.files
  ask_leaves (Checked count units) answer carried none = carried.0
  ask_leaves (Changed name text) answer carried none = absurd (some_files (name, text) none)

  leaves : (command : ProjectCommand) (files : List File) (verdict : Verdict) (answer : Status) → Gives command files verdict → Carries line verdict seen answer → LeavesFiles command seen answer
  leaves (commands.Ask request edition) files verdict answer gives carried = ask_leaves verdict answer carried (ask_changes request edition files verdict gives)
  leaves (commands.Apply order edition) files verdict answer gives carried = order_leaves verdict answer carried

-- a verdict is no fault of a device
no_store_fault : (verdict : Verdict) → status_of verdict ≡ status.StoreFault → ⊥
no_store_fault Waiting e = absurd cc
no_store_fault (Past which) e = absurd cc
no_store_fault (Broken fault) e = absurd cc
no_store_fault NotBuilt e = absurd cc
no_store_fault (Refused cond at) e = absurd cc
no_store_fault (Checked count units) e = absurd cc
no_store_fault (Changed name text) e = absurd cc

no_output_fault : (verdict : Verdict) → status_of verdict ≡ status.OutputFault → ⊥
no_output_fault Waiting e = absurd cc
no_output_fault (Past which) e = absurd cc
no_output_fault (Broken fault) e = absurd cc
no_output_fault NotBuilt e = absurd cc
no_output_fault (Refused cond at) e = absurd cc
no_output_fault (Checked count units) e = absurd cc
no_output_fault (Changed name text) e = absurd cc

forced_store : (seen : Seen) (verdict : Verdict) (answer : Status) → (answer ≡ status_of verdict) ⊎ Forced seen answer → answer ≡ status.StoreFault → HasRisen seen.store
forced_store seen verdict answer (inl is) fault = absurd (no_store_fault verdict (sym is ∙ fault))
forced_store seen verdict answer (inr forced) fault = subst (λ (a : Status). Forced seen a) fault forced

forced_sink : (seen : Seen) (verdict : Verdict) (answer : Status) → (answer ≡ status_of verdict) ⊎ Forced seen answer → answer ≡ status.OutputFault → HasRisen seen.sink
forced_sink seen verdict answer (inl is) fault = absurd (no_output_fault verdict (sym is ∙ fault))
forced_sink seen verdict answer (inr forced) fault = subst (λ (a : Status). Forced seen a) fault forced

-- ---- what holds of what is told

pub at_told : {A : Type 0} (told : Option A) (P Q : A → Type 0) → ((a : A) → told ≡ Some a → P a → Q a) → IfSome told P → IfSome told Q
at_told None P Q f holds = tt
at_told (Some a) P Q f holds = f a refl holds

pub always : {A : Type 0} (told : Option A) (Q : A → Type 0) → ((a : A) → Q a) → IfSome told Q
always None Q f = tt
always (Some a) Q f = f a

pub both_told : {A : Type 0} (told : Option A) (P Q : A → Type 0) → IfSome told P → IfSome told Q → IfSome told (λ a. P a × Q a)
both_told None P Q p q = tt
both_told (Some a) P Q p q = (p, q)

same_due : OneAnswer → (command : ProjectCommand) (files : List File) (seen : Seen) (verdict other : Verdict) (answer : Status) → IsVerdict command files verdict → IsVerdict command files other
    → (answer ≡ status_of verdict) ⊎ Forced seen answer → (answer ≡ status_of other) ⊎ Forced seen answer
same_due law command files seen verdict other answer gives also (inl is) = inl (is ∙ verdict_status law command files verdict other gives also)
same_due law command files seen verdict other answer gives also (inr forced) = inr forced

-- ---- the files that were read are those of the project, where they pass no limit

read_whole : (files found : List File) → limit_of found ≡ None → found ≡ map front_of (project files) → found ≡ project files
read_whole files found none is = is ∙ whole (project files) (sym (same_limit (project files)) ∙ sym (ap limit_of is) ∙ none)

-- ---- the answers of a command

-- a verdict that was carried out is what is promised
pub answers : RenameKeeps → OneAnswer → (command : ProjectCommand) (seen : Seen) (answer : Status) (found : List File) (line : List ℕ) (verdict : Verdict) → limit_of found ≡ None → IsDue command found line verdict
    → IfSome seen.files.before (λ files. found ≡ map front_of (project files)) → IfSome seen.files.before HasNoPlan → IfSome seen.files.before IsInOrder → Carries line verdict seen answer → Answers command seen answer
answers law one command seen answer found line verdict none due is lacks in_order carried =
    let P : List File → Type 0 = λ files. found ≡ map front_of (project files) in
    let Q : List File → Type 0 = λ files. P files × HasNoPlan files in
    let known = both_told seen.files.before P HasNoPlan is lacks in
    let forced = due_or_forced seen line verdict answer carried in
    record {
      answered = at_told seen.files.before (λ files. Q files × IsInOrder files) (λ files. Answered command files seen answer)
          (λ files told all. answered law command files seen told all.1 verdict answer (is_verdict files all.0.0 all.0.1) line (says files all.0.0) carried) (both_told seen.files.before Q IsInOrder known in_order);
      due = at_told seen.files.before Q (λ files. (other : Verdict) → IsVerdict command files other → (answer ≡ status_of other) ⊎ Forced seen answer)
          (λ files told all other also. same_due one command files seen verdict other answer (is_verdict files all.0 all.1) also forced) known;
      files = leaves seen line command found verdict answer due.0 carried;
      store_fault = forced_store seen verdict answer forced;
      output_fault = forced_sink seen verdict answer forced;
    }
  where
    is_verdict : (files : List File) → found ≡ map front_of (project files) → HasNoPlan files → IsVerdict command files verdict
    is_verdict files fronts no_plan = inr (no_plan, subst (λ (fs : List File). Gives command fs verdict) (read_whole files found none fronts) due.0)

    says : (files : List File) → found ≡ map front_of (project files) → line ≡ line_of (project files) verdict
    says files fronts = due.1 ∙ ap (λ (fs : List File). line_of fs verdict) (read_whole files found none fronts)

-- files that stay are left by each command
leaves_same : (command : ProjectCommand) (seen : Seen) (answer : Status) → KeepsFiles seen → LeavesFiles command seen answer
leaves_same (commands.Ask request edition) seen answer same = same
leaves_same (commands.Apply order edition) seen answer same = λ other also. same

pub answers_store_fault : (command : ProjectCommand) (seen : Seen) → KeepsFiles seen → HasRisen seen.store → Says seen store_fault_line → Answers command seen status.StoreFault
answers_store_fault command seen same risen said = record {
  answered = always seen.files.before (λ files. Answered command files seen status.StoreFault) (λ files. inl (same, said));
  due = always seen.files.before (λ files. (verdict : Verdict) → IsVerdict command files verdict → (status.StoreFault ≡ status_of verdict) ⊎ Forced seen status.StoreFault) (λ files verdict gives. inr risen);
  files = leaves_same command seen status.StoreFault same;
  store_fault = λ e. risen;
  output_fault = λ e. absurd cc;
}

-- a verdict whose line was written, and that changes nothing, is what is promised
said_verdict : OneAnswer → (command : ProjectCommand) (seen : Seen) (verdict : Verdict) (P : List File → Type 0) → IfSome seen.files.before P
    → ((files : List File) → P files → IsVerdict command files verdict × Answered command files seen (status_of verdict)) → KeepsFiles seen → Answers command seen (status_of verdict)
said_verdict one command seen verdict P known gives same = record {
  answered = at_told seen.files.before P (λ files. Answered command files seen (status_of verdict)) (λ files told is. (gives files is).1) known;
  due = at_told seen.files.before P (λ files. (other : Verdict) → IsVerdict command files other → (status_of verdict ≡ status_of other) ⊎ Forced seen (status_of verdict))
      (λ files told is other also. inl (verdict_status one command files verdict other (gives files is).0 also)) known;
  files = leaves_same command seen (status_of verdict) same;
  store_fault = λ e. absurd (no_store_fault verdict e);
  output_fault = λ e. absurd (no_output_fault verdict e);
}

pub answers_limit : OneAnswer → (command : ProjectCommand) (seen : Seen) (which : Limit) → IfSome seen.files.before (IsStopped (faults.Past which)) → KeepsFiles seen
    → (written : List ℕ) → written ≡ limit_line which → Says seen written → Answers command seen status.Limit
answers_limit one command seen which past same written is_line all_said =
    said_verdict one command seen (Past which) (IsStopped (faults.Past which)) past
    (λ files is. (due_limit files is, record { verdict = Past which; due = due_limit files is; status_is = refl; said = subst (λ (l : List ℕ). Says seen l) is_line all_said })) same
  where
    due_limit : (files : List File) → IsStopped (faults.Past which) files → IsVerdict command files (Past which)
    due_limit files is = inr (is.0, inl (which, sym (same_limit (project files)) ∙ is.1, refl))

pub answers_waiting : OneAnswer → (command : ProjectCommand) (seen : Seen) → IfSome seen.files.before (IsStopped faults.Waiting) → KeepsFiles seen
    → (written : List ℕ) → written ≡ pending_line → Says seen written → Answers command seen status.Pending
answers_waiting one command seen waits same written is_line all_said =
    said_verdict one command seen Waiting (IsStopped faults.Waiting) waits
    (λ files is. (inl (is, refl), record { verdict = Waiting; due = inl (is, refl); status_is = refl; said = subst (λ (l : List ℕ). Says seen l) is_line all_said })) same

pub answers_no_memory : (command : ProjectCommand) (seen : Seen) → KeepsFiles seen → seen.taken.after ≡ seen.taken.before → Answers command seen status.NoMemory
answers_no_memory command seen same silent = record {
  answered = always seen.files.before (λ files. Answered command files seen status.NoMemory) (λ files. inl silent);
  due = always seen.files.before (λ files. (verdict : Verdict) → IsVerdict command files verdict → (status.NoMemory ≡ status_of verdict) ⊎ Forced seen status.NoMemory) (λ files verdict gives. inr tt);
  files = leaves_same command seen status.NoMemory same;
  store_fault = λ e. absurd cc;
  output_fault = λ e. absurd cc;
}

-- ---- a reading of a store before the verdict was carried out

pub puts_since : (line : List ℕ) (made begun : Changes) (files mid after : Option (List File)) (taken took : Option (List ℕ)) (s m e k l w v : ℕ) (answer : Status) → mid ≡ files → s ≤ m
    → Puts line made begun (see mid after taken took m e k l w v) answer → Puts line made begun (see files after taken took s e k l w v) answer
puts_since line made begun files mid after taken took s m e k l w v status.Done same later put =
    let P : Option (List File) → Type 0 = λ told. made told after in
    (subst P same put.0, put.1)
puts_since line made begun files mid after taken took s m e k l w v status.StoreFault same later put =
    let P : Option (List File) → Type 0 = λ told. begun told after in
    (rose_since s m e later put.0, subst P same put.1, record { front = put.2.front; whole = put.2.whole })
puts_since line made begun files mid after taken took s m e k l w v status.OutputFault same later put = (put.0, put.1 ∙ same, put.2)
puts_since line made begun files mid after taken took s m e k l w v status.NoMemory same later put = (put.0 ∙ same, put.1)
puts_since line made begun files mid after taken took s m e k l w v status.Refused same later put = absurd put
puts_since line made begun files mid after taken took s m e k l w v status.BadWords same later put = absurd put
puts_since line made begun files mid after taken took s m e k l w v status.BadProject same later put = absurd put
puts_since line made begun files mid after taken took s m e k l w v status.Limit same later put = absurd put
puts_since line made begun files mid after taken took s m e k l w v status.InputFault same later put = absurd put
puts_since line made begun files mid after taken took s m e k l w v status.ProgramFaulted same later put = absurd put
puts_since line made begun files mid after taken took s m e k l w v status.StepsSpent same later put = absurd put
puts_since line made begun files mid after taken took s m e k l w v status.Pending same later put = absurd put

pub said_since : (line : List ℕ) (due : Status) (files mid after : Option (List File)) (taken took : Option (List ℕ)) (s m e k l w v : ℕ) (answer : Status) → mid ≡ files
    → Said line due (see mid after taken took m e k l w v) answer → Said line due (see files after taken took s e k l w v) answer
said_since line due files mid after taken took s m e k l w v answer same said = record { answer_is = said.answer_is; files = said.files ∙ same; said = record { front = said.said.front; whole = said.said.whole } }

pub carries_since : (line : List ℕ) (verdict : Verdict) (files mid after : Option (List File)) (taken took : Option (List ℕ)) (s m e k l w v : ℕ) (answer : Status) → mid ≡ files → s ≤ m
    → Carries line verdict (see mid after taken took m e k l w v) answer → Carries line verdict (see files after taken took s e k l w v) answer
carries_since line Waiting files mid after taken took s m e k l w v answer same later carried = said_since line _ files mid after taken took s m e k l w v answer same carried
carries_since line (Past which) files mid after taken took s m e k l w v answer same later carried = said_since line _ files mid after taken took s m e k l w v answer same carried
carries_since line (Broken fault) files mid after taken took s m e k l w v answer same later carried = said_since line _ files mid after taken took s m e k l w v answer same carried
carries_since line NotBuilt files mid after taken took s m e k l w v answer same later carried = said_since line _ files mid after taken took s m e k l w v answer same carried
carries_since line (Refused cond at) files mid after taken took s m e k l w v answer same later carried = said_since line _ files mid after taken took s m e k l w v answer same carried
carries_since line (Checked count units) files mid after taken took s m e k l w v answer same later carried = (carried.0 ∙ same, carried.1)
carries_since line (Changed name text) files mid after taken took s m e k l w v answer same later carried =
    puts_since line (IsPlanDone ((name, text) ∷ [])) (IsPlanBegun ((name, text) ∷ [])) files mid after taken took s m e k l w v answer same later carried
