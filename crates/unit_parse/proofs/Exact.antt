-- There is one answer: statements nest as one list of units, or have one fault.
use Rattle.std.proofs.Common.{◌≡◌, ◌⊎◌, ℕ, ◌+◌, Bool, List, [], ◌∷◌, ◌++◌, length, Result, Ok, Err, inl, inr, refl, sym, ◌∙◌, ap, subst, zero-add}
use Rattle.std.proofs.lemmas.Option.{same_Some}
use Rattle.ftn_base.specs.declared.fault.FaultKind.{FaultKind}
use Rattle.ftn_base.specs.declared.fault.FaultKind.TheVariants.{Misplaced}
use Rattle.ftn_tree.specs.declared.mark.Mark.{Mark}
use Rattle.ftn_tree.specs.declared.unit.Unit.{Unit as UnitTree}
use Rattle.ftn_tree.specs.Nesting.{Nested, Begins}
use Rattle.ftn_tree.specs.NestFaults.{Path, titles, innermost, kind_in, IsRefused, IsUnfinished, IsNestFault}
use Rattle.unit_parse.specs.declared.level.Level.{Level}
use Rattle.unit_parse.specs.declared.frames.Frame.{Frame}
use Rattle.unit_parse.specs.Taking.{State, Outcome, Answer, start, take, go_on, take_all, finish, finish_all, nest, Takes, Finishes}
use Rattle.unit_parse.specs.declared.fault.NestFault.{NestFault}
use Rattle.unit_parse.specs.declared.fault.NestFault.TheVariants as fault
use Rattle.unit_parse.specs.Answers.{HasTaken, TakesNext, EndsWith}
use Rattle.unit_parse.proofs.Steps.{state}
use Rattle.unit_parse.proofs.Reached.{reached, reached_none}
use Rattle.unit_parse.proofs.Closed.{begins}
use Rattle.unit_parse.proofs.Unended.{openings}
use Rattle.unit_parse.proofs.LeftOpen.{leaves_open, one_path}
use Rattle.unit_parse.proofs.Answers.{Units, units_err, units_ok, units_no_err, taken, goes_through, takes_none, kind_is, unfinished_at, nested_only, nested_ok, nest_fault}

module _ (same : ℕ → ℕ → Bool) where
  -- ---- fronts, for readers that take statements one by one

  pub taken_none : HasTaken same [] start
  taken_none = refl

  pub taken_more : (front : List Mark) (s next : State) (m : Mark) → HasTaken same front s → take same s (length front) m ≡ Ok next → HasTaken same (front ++ m ∷ []) next
  taken_more front s next m was e =
      goes_through same front start s 0 (m ∷ []) was
      ∙ ap (λ (k : ℕ). take_all same s k (m ∷ [])) (zero-add (length front))
      ∙ ap (λ (o : Outcome). go_on o (length front) (λ s. take_all same s (length front + 1) [])) e

  pub taken_begins : (front : List Mark) (s : State) → HasTaken same front s → Begins same front
  taken_begins front s was = begins same front s (reached same front [] start s 0 (reached_none same) was)

  pub refused_is : (front rest : List Mark) (s : State) (m : Mark) (kind : FaultKind) → HasTaken same front s → take same s (length front) m ≡ Err kind
      → IsRefused same (front ++ m ∷ rest) kind (length front)
  refused_is front rest s m kind was e = record {
    front = front;
    refused = m;
    rest = rest;
    whole = refl;
    place = refl;
    before = taken_begins front s was;
    after = takes_none same front m s (length front) kind (sym (zero-add (length front))) was e;
    path = openings s.frames;
    leaves = leaves_open same front s was;
    kind_is = kind_is same front s (length front) m kind was e;
  }

  finish_is : (marks : List Mark) (s : State) → HasTaken same marks s → nest same marks ≡ finish s
  finish_is marks s was = ap (λ (a : Answer). finish_all a) was

  pub finished_ok : (marks : List Mark) (s : State) (units : List UnitTree) → HasTaken same marks s → finish s ≡ Ok units → Nested same marks units
  finished_ok marks s units was e = nested_ok same marks units (finish_is marks s was ∙ e)

  pub finished_err : (marks : List Mark) (s : State) (kind : FaultKind) (at : ℕ) → HasTaken same marks s → finish s ≡ Err (kind, at) → IsUnfinished same marks kind at
  finished_err marks s kind at was e = unfinished_at same marks kind at s.here s.frames (finish_is marks s was ∙ e) was e

  pub takes_next : (old new : State) (m : Mark) (number : ℕ) (result : Result (Unit {0}) NestFault) → Takes (take same old number m) result number new → TakesNext same old number m result new
  takes_next old new m number (Ok done) e = λ front was size. taken_more front old new m was (subst (λ (k : ℕ). take same old k m ≡ Ok new) (sym size) e)
  takes_next old new m number (Err (fault.At kind statement)) e = (
    e.1,
    λ front rest was size. subst (λ (k : ℕ). IsRefused same (front ++ m ∷ rest) kind k) size
        (refused_is front rest old m kind was (subst (λ (k : ℕ). take same old k m ≡ Err kind) (sym size) e.0)),
  )
  takes_next old new m number (Err fault.NoMemory) e = tt

  -- ---- the fault is one

  parted : (front : List Mark) (s last : State) (n : ℕ) (rest : List Mark) → take_all same s n (front ++ rest) ≡ Ok last → (middle : State) × (take_all same s n front ≡ Ok middle)
  parted [] s last n rest e = (s, refl)
  parted (m ∷ front) s last n rest e = on (take same s n m) refl e (λ next is. parted front next last (n + 1) rest is)
    where
      on : (o : Outcome) → take same s n m ≡ o → go_on o n (λ s. take_all same s (n + 1) (front ++ rest)) ≡ Ok last
          → ((next : State) → take_all same next (n + 1) (front ++ rest) ≡ Ok last → (middle : State) × (take_all same next (n + 1) front ≡ Ok middle))
          → (middle : State) × (take_all same s n (m ∷ front) ≡ Ok middle)
      on (Ok next) is e again =
          let more = again next e in
          (more.0, ap (λ (o : Outcome). go_on o n (λ s. take_all same s (n + 1) front)) is ∙ more.1)
      on (Err kind) is e again = absurd (cc e)

  begun : (front : List Mark) → Begins same front → (s : State) × HasTaken same front s
  begun front is =
      let all = taken same is.0 is.2 in
      parted front start _ 0 is.1 (ap (λ (l : List Mark). take_all same start 0 l) (sym is.3) ∙ all)

  -- what stops stays stopped
  stuck : (front : List Mark) (m : Mark) (rest : List Mark) (s : State) (kind : FaultKind) → HasTaken same front s → take same s (length front) m ≡ Err kind
      → nest same (front ++ m ∷ rest) ≡ Err (kind, length front)
  stuck front m rest s kind was e =
      ap (λ (a : Answer). finish_all a)
      (goes_through same front start s 0 (m ∷ rest) was
      ∙ ap (λ (k : ℕ). take_all same s k (m ∷ rest)) (zero-add (length front))
      ∙ ap (λ (o : Outcome). go_on o (length front) (λ s. take_all same s (length front + 1) rest)) e)

  refused_told : (marks : List Mark) (kind : FaultKind) (at : ℕ) (is : IsRefused same marks kind at) (s : State) → HasTaken same is.front s
      → (o : Outcome) → take same s (length is.front) is.refused ≡ o → nest same marks ≡ Err (kind, at)
  refused_told marks kind at is s was (Ok next) e =
      absurd (is.after (taken_begins (is.front ++ is.refused ∷ []) next (taken_more is.front s next is.refused was e)))
  refused_told marks kind at is s was (Err other) e =
      ap (λ (l : List Mark). nest same l) is.whole
      ∙ stuck is.front is.refused is.rest s other was e
      ∙ ap (λ (k : FaultKind). Err (k, length is.front)) (kind_is same is.front s (length is.front) is.refused other was e
      ∙ ap (λ (path : Path). kind_in (titles path) is.refused) (sym (one_path same is.path is.front s is.leaves was)) ∙ sym is.kind_is)
      ∙ ap (λ (k : ℕ). Err (kind, k)) (sym is.place)

  unfinished_told : (marks : List Mark) (kind : FaultKind) (at : ℕ) → IsUnfinished same marks kind at → (here : Level) (frames : List Frame) → HasTaken same marks (state here frames)
      → nest same marks ≡ Err (kind, at)
  unfinished_told marks kind at is here [] was = absurd (is.unfinished here.units (finished_ok marks (state here []) here.units was refl))
  unfinished_told marks kind at is here (frame ∷ frames) was =
      finish_is marks (state here (frame ∷ frames)) was
      ∙ ap (λ (k : ℕ). Err (Misplaced, k))
      (same_Some frame.opening at (ap (λ (path : Path). innermost path) (sym (one_path same is.path marks (state here (frame ∷ frames)) is.leaves was)) ∙ is.place))
      ∙ ap (λ (k : FaultKind). Err (k, at)) (sym is.kind_is)

  pub fault_told : (marks : List Mark) (kind : FaultKind) (at : ℕ) → IsNestFault same marks kind at → nest same marks ≡ Err (kind, at)
  fault_told marks kind at (inl is) =
      let one = begun is.front is.before in
      refused_told marks kind at is one.0 one.1 (take same one.0 (length is.front) is.refused) refl
  fault_told marks kind at (inr is) =
      let one = begun marks is.begins in
      unfinished_told marks kind at is one.0.here one.0.frames one.1

  -- ---- the laws

  pub one_reading : (marks : List Mark) (units others : List UnitTree) → Nested same marks units → Nested same marks others → units ≡ others
  one_reading marks units others one other = units_ok units others (sym (nested_only same marks units one) ∙ nested_only same marks others other)

  pub one_fault : (marks : List Mark) (kind other : FaultKind) (at place : ℕ) → IsNestFault same marks kind at → IsNestFault same marks other place → (kind ≡ other) × (at ≡ place)
  one_fault marks kind other at place one two =
      let e = units_err (kind, at) (other, place) (sym (fault_told marks kind at one) ∙ fault_told marks other place two) in
      (ap (λ (p : FaultKind × ℕ). p.0) e, ap (λ (p : FaultKind × ℕ). p.1) e)

  pub not_both : (marks : List Mark) (units : List UnitTree) (kind : FaultKind) (at : ℕ) → Nested same marks units → IsNestFault same marks kind at → ⊥
  not_both marks units kind at one two = units_no_err units (kind, at) (sym (nested_only same marks units one) ∙ fault_told marks kind at two)

  pub nests_or_not : (marks : List Mark) → ((units : List UnitTree) × Nested same marks units) ⊎ ((kind : FaultKind) × (at : ℕ) × IsNestFault same marks kind at)
  nests_or_not marks = on (nest same marks) refl
    where
      on : (a : Units) → nest same marks ≡ a → ((units : List UnitTree) × Nested same marks units) ⊎ ((kind : FaultKind) × (at : ℕ) × IsNestFault same marks kind at)
      on (Ok units) e = inl (units, nested_ok same marks units e)
      on (Err found) e = inr (found.0, found.1, nest_fault same marks found.0 found.1 e)

pub ends_with : (s : State) (result : Result (List UnitTree) NestFault) → Finishes (finish s) result → EndsWith s result
ends_with s (Ok units) e = λ same marks was. finished_ok same marks s units was e
ends_with s (Err (fault.At kind statement)) e = λ same marks was. finished_err same marks s kind statement was e
ends_with s (Err fault.NoMemory) e = tt
