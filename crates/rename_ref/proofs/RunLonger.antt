-- More steps only add to what a program does.
use Rattle.std.proofs.Common.{◌≡◌, ℕ, zero, suc, ◌+◌, List, [], ◌∷◌, ◌++◌, Result, Ok, Err, refl, sym, ◌∙◌, ap, append_assoc, arith}
use Rattle.std.proofs.lemmas.List.{append-nil}
use Rattle.free_scan.specs.declared.first_form.program.Operand.{Operand}
use Rattle.free_scan.specs.declared.first_form.program.Sum.{Sum}
use Rattle.free_scan.specs.declared.first_form.program.Statement.{Statement}
use Rattle.free_scan.specs.declared.first_form.program.Statement.TheVariants as statements
use Rattle.rename_ref.specs.declared.first_meaning.Outcome.{Outcome}
use Rattle.rename_ref.specs.declared.first_meaning.Outcome.TheVariants.{Stop, Fault, Spent}
use Rattle.rename_ref.specs.Meaning.{◌>>=◌, Tree, leaf, node, tree_of, Held, Left, step, held, operand_value, combined, value, values, executed, begun, after, run_on}
use Rattle.rename_ref.specs.MeaningLaws.{Continues, MoreStepsOnlyAdd}

-- where the first run goes on or ends otherwise than spent, the second does too, with what more steps make of the value
abbrev GoesOn : {A : Type 0} → (A → A) → Result A Outcome → Result A Outcome → Type 0
GoesOn longer (Ok x) n = n ≡ Ok (longer x)
GoesOn longer (Err Stop) n = n ≡ Err Stop
GoesOn longer (Err (Fault fault)) n = n ≡ Err (Fault fault)
GoesOn longer (Err Spent) n = Unit {0}

goes_same : {A : Type 0} (m : Result A Outcome) → GoesOn (λ x. x) m m
goes_same (Ok x) = refl
goes_same (Err Stop) = refl
goes_same (Err (Fault fault)) = refl
goes_same (Err Spent) = tt

goes_bind : {A B : Type 0} (a : A → A) (b : B → B) (m n : Result A Outcome) (f g : A → Result B Outcome)
    → GoesOn a m n → ((x : A) → GoesOn b (f x) (g (a x))) → GoesOn b (m >>= f) (n >>= g)
goes_bind a b (Ok x) n f g e later = rw e (later x)
goes_bind a b (Err Stop) n f g e later = ap (λ r. r >>= g) e
goes_bind a b (Err (Fault fault)) n f g e later = ap (λ r. r >>= g) e
goes_bind a b (Err Spent) n f g e later = tt

more_left : {A : Type 0} → ℕ → A × ℕ → A × ℕ
more_left more v = (v.0, v.1 + more)

more_after : ℕ → Left → Left
more_after more left = (left.0, left.1, left.2 + more)

step_longer : (more steps : ℕ) → GoesOn (λ left. left + more) (step steps) (step (steps + more))
step_longer more zero = tt
step_longer more (suc left) = let e : suc left + more ≡ suc (left + more) = omega arith in rw e refl

operand_longer : (more : ℕ) (state : Held) (operand : Operand) (steps : ℕ) → GoesOn (more_left more) (operand_value state operand steps) (operand_value state operand (steps + more))
unfolding more_left
operand_longer more state operand steps =
    goes_bind (λ left. left + more) (more_left more) _ _ _ _ (step_longer more steps) (λ left. goes_bind (λ z. z) (more_left more) _ _ _ _ (goes_same (held state operand)) (λ z. refl))

value_longer : (more : ℕ) (state : Held) (tree : Tree) (steps : ℕ) → GoesOn (more_left more) (value state tree steps) (value state tree (steps + more))
unfolding more_left
value_longer more state (leaf operand) steps = operand_longer more state operand steps
value_longer more state (node tree sign operand) steps =
    goes_bind (λ left. left + more) (more_left more) _ _ _ _ (step_longer more steps) (λ left.
    goes_bind (more_left more) (more_left more) _ _ _ _ (value_longer more state tree left) (λ a.
    goes_bind (more_left more) (more_left more) _ _ _ _ (operand_longer more state operand a.1) (λ b.
    goes_bind (λ z. z) (more_left more) _ _ _ _ (goes_same (combined sign a.0 b.0)) (λ z. refl))))

values_longer : (more : ℕ) (state : Held) (sums : List Sum) (steps : ℕ) → GoesOn (more_left more) (values state sums steps) (values state sums (steps + more))
unfolding more_left
values_longer more state [] steps = refl
values_longer more state (sum ∷ sums) steps =
    goes_bind (more_left more) (more_left more) _ _ _ _ (value_longer more state (tree_of sum) steps) (λ first.
    goes_bind (more_left more) (more_left more) _ _ _ _ (values_longer more state sums first.1) (λ others. refl))

executed_longer : (more : ℕ) (state : Held) (statement : Statement) (steps : ℕ) → GoesOn (more_after more) (executed state statement steps) (executed state statement (steps + more))
unfolding more_left more_after
executed_longer more state (statements.Assign target sum) steps = goes_bind (more_left more) (more_after more) _ _ _ _ (value_longer more state (tree_of sum) steps) (λ v. refl)
executed_longer more state (statements.Print items) steps = goes_bind (more_left more) (more_after more) _ _ _ _ (values_longer more state items steps) (λ v. refl)

begun_longer : (more : ℕ) (state : Held) (statement : Statement) (steps : ℕ) → GoesOn (more_after more) (begun state statement steps) (begun state statement (steps + more))
begun_longer more state statement steps =
    goes_bind (λ left. left + more) (more_after more) _ _ _ _ (step_longer more steps) (λ left. executed_longer more state statement left)

-- what was written so far, and more
abbrev Grown : List ℕ → List ℕ × Outcome → Type 0
Grown written ran = (more : List ℕ) × (ran.0 ≡ written ++ more)

grown_after : (written : List ℕ) (result : Result Left Outcome) (rest : Left → List ℕ × Outcome)
    → ((left : Left) → Grown (written ++ left.1) (rest left)) → Grown written (after written result rest)
grown_after written (Err end) rest later = ([], sym (append-nil written))
grown_after written (Ok left) rest later = (left.1 ++ (later left).0, (later left).1 ∙ append_assoc written left.1 (later left).0)

grown : (written : List ℕ) (rest : List Statement) (state : Held) (steps : ℕ) → Grown written (run_on written rest state steps)
grown written [] state steps = ([], sym (append-nil written))
grown written (statement ∷ rest) state steps = grown_after written (begun state statement steps) _ (λ left. grown (written ++ left.1) rest left.0 left.2)

continues_after : (more : ℕ) (written : List ℕ) (m n : Result Left Outcome) (rest : Left → List ℕ × Outcome)
    → GoesOn (more_after more) m n → ((left : Left) → Continues (rest left) (rest (more_after more left))) → Grown written (after written n rest) → Continues (after written m rest) (after written n rest)
continues_after more written (Ok left) n rest e later more_written = rw e (later left)
continues_after more written (Err Stop) n rest e later more_written = rw e refl
continues_after more written (Err (Fault fault)) n rest e later more_written = rw e refl
continues_after more written (Err Spent) n rest e later more_written = more_written

run_on_longer : (more : ℕ) (written : List ℕ) (rest : List Statement) (state : Held) (steps : ℕ) → Continues (run_on written rest state steps) (run_on written rest state (steps + more))
unfolding more_after
run_on_longer more written [] state steps = refl
run_on_longer more written (statement ∷ rest) state steps =
    continues_after more written (begun state statement steps) (begun state statement (steps + more)) (λ left. run_on (written ++ left.1) rest left.0 left.2)
    (begun_longer more state statement steps) (λ left. run_on_longer more (written ++ left.1) rest left.0 left.2) (grown written (statement ∷ rest) state (steps + more))

pub more_steps_only_add : MoreStepsOnlyAdd
more_steps_only_add program steps more = run_on_longer more [] program.statements [] steps
