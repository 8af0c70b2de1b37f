-- A program does the same by whatever names its variables go.
use Rattle.std.proofs.Common.{◌≡◌, ℕ, List, [], ◌∷◌, ◌++◌, map, Result, Ok, Err, refl, ◌∙◌, ap}
use Rattle.std.specs.Map.{lookup}
use Rattle.std.specs.Str.{bytes_eq}
use Rattle.free_scan.specs.declared.first_form.program.Operand.{Operand}
use Rattle.free_scan.specs.declared.first_form.program.Operand.TheVariants as operands
use Rattle.free_scan.specs.declared.first_form.program.Term.{Term}
use Rattle.free_scan.specs.declared.first_form.program.Sum.{Sum}
use Rattle.free_scan.specs.declared.first_form.program.Statement.{Statement}
use Rattle.free_scan.specs.declared.first_form.program.Statement.TheVariants as statements
use Rattle.rename_ref.specs.declared.first_meaning.Outcome.{Outcome}
use Rattle.rename_ref.specs.Meaning.{◌>>=◌, Tree, leaf, node, tree_with, tree_of, Held, Left, step, held, operand_value, value, values, executed, begun, after, run_on}
use Rattle.rename_ref.specs.MeaningLaws.{KeepsNamesApart, RenamingKeepsRuns}
use Rattle.rename_ref.specs.Renaming.{map_operand, map_term, map_sum, map_statement}

-- a run that goes on in the same way with the same values
bind_same : {A B : Type 0} (m n : Result A Outcome) (f g : A → Result B Outcome) → m ≡ n → ((x : A) → f x ≡ g x) → m >>= f ≡ n >>= g
bind_same (Ok x) n f g e same = same x ∙ ap (λ r. r >>= g) e
bind_same (Err end) n f g e same = ap (λ r. r >>= g) e

map_held : (List ℕ → List ℕ) → Held → Held
map_held f [] = []
map_held f (entry ∷ state) = (f entry.0, entry.1) ∷ map_held f state

map_tree : (List ℕ → List ℕ) → Tree → Tree
map_tree f (leaf operand) = leaf (map_operand f operand)
map_tree f (node tree sign operand) = node (map_tree f tree) sign (map_operand f operand)

lookup_mapped : (f : List ℕ → List ℕ) → KeepsNamesApart f → (name : List ℕ) (state : Held) → lookup (bytes_eq (f name)) (map_held f state) ≡ lookup (bytes_eq name) state
unfolding map_held
lookup_mapped f apart name [] = refl
lookup_mapped f apart name (entry ∷ state) = rw (apart name entry.0, lookup_mapped f apart name state)

tree_with_mapped : (f : List ℕ → List ℕ) (tree : Tree) (terms : List Term) → tree_with (map_tree f tree) (map (map_term f) terms) ≡ map_tree f (tree_with tree terms)
unfolding map_tree
tree_with_mapped f tree [] = refl
tree_with_mapped f tree (term ∷ terms) = tree_with_mapped f (node tree term.sign term.operand) terms

held_mapped : (f : List ℕ → List ℕ) → KeepsNamesApart f → (state : Held) (operand : Operand) → held (map_held f state) (map_operand f operand) ≡ held state operand
held_mapped f apart state (operands.Variable name) = rw (lookup_mapped f apart name state)
held_mapped f apart state (operands.Whole n) = refl

operand_mapped : (f : List ℕ → List ℕ) → KeepsNamesApart f → (state : Held) (operand : Operand) (steps : ℕ) → operand_value (map_held f state) (map_operand f operand) steps ≡ operand_value state operand steps
operand_mapped f apart state operand steps = bind_same (step steps) (step steps) _ _ refl (λ left. bind_same _ _ _ _ (held_mapped f apart state operand) (λ z. refl))

value_mapped : (f : List ℕ → List ℕ) → KeepsNamesApart f → (state : Held) (tree : Tree) (steps : ℕ) → value (map_held f state) (map_tree f tree) steps ≡ value state tree steps
unfolding map_tree
value_mapped f apart state (leaf operand) steps = operand_mapped f apart state operand steps
value_mapped f apart state (node tree sign operand) steps =
    bind_same (step steps) (step steps) _ _ refl (λ left. bind_same _ _ _ _ (value_mapped f apart state tree left) (λ a. bind_same _ _ _ _ (operand_mapped f apart state operand a.1) (λ b. refl)))

sum_mapped : (f : List ℕ → List ℕ) → KeepsNamesApart f → (state : Held) (sum : Sum) (steps : ℕ) → value (map_held f state) (tree_of (map_sum f sum)) steps ≡ value state (tree_of sum) steps
unfolding map_tree
sum_mapped f apart state sum steps = ap (λ tree. value (map_held f state) tree steps) (tree_with_mapped f (leaf sum.first) sum.rest) ∙ value_mapped f apart state (tree_of sum) steps

values_mapped : (f : List ℕ → List ℕ) → KeepsNamesApart f → (state : Held) (sums : List Sum) (steps : ℕ) → values (map_held f state) (map (map_sum f) sums) steps ≡ values state sums steps
values_mapped f apart state [] steps = refl
values_mapped f apart state (sum ∷ sums) steps =
    bind_same _ _ _ _ (sum_mapped f apart state sum steps) (λ first. bind_same _ _ _ _ (values_mapped f apart state sums first.1) (λ others. refl))

map_left : (List ℕ → List ℕ) → Result Left Outcome → Result Left Outcome
map_left f (Ok left) = Ok (map_held f left.0, left.1, left.2)
map_left f (Err end) = Err end

bind_mapped : {A : Type 0} (f : List ℕ → List ℕ) (m n : Result A Outcome) (g h : A → Result Left Outcome) → m ≡ n → ((x : A) → g x ≡ map_left f (h x)) → m >>= g ≡ map_left f (n >>= h)
unfolding map_left
bind_mapped f (Ok x) n g h e same = same x ∙ ap (λ r. map_left f (r >>= h)) e
bind_mapped f (Err end) n g h e same = ap (λ r. map_left f (r >>= h)) e

executed_mapped : (f : List ℕ → List ℕ) → KeepsNamesApart f → (state : Held) (statement : Statement) (steps : ℕ) → executed (map_held f state) (map_statement f statement) steps ≡ map_left f (executed state statement steps)
unfolding map_held map_left
executed_mapped f apart state (statements.Assign target sum) steps = bind_mapped f _ _ _ _ (sum_mapped f apart state sum steps) (λ v. refl)
executed_mapped f apart state (statements.Print items) steps = bind_mapped f _ _ _ _ (values_mapped f apart state items steps) (λ v. refl)

begun_mapped : (f : List ℕ → List ℕ) → KeepsNamesApart f → (state : Held) (statement : Statement) (steps : ℕ) → begun (map_held f state) (map_statement f statement) steps ≡ map_left f (begun state statement steps)
begun_mapped f apart state statement steps = bind_mapped f (step steps) (step steps) _ _ refl (λ left. executed_mapped f apart state statement left)

after_mapped : (f : List ℕ → List ℕ) (written : List ℕ) (m n : Result Left Outcome) (g h : Left → List ℕ × Outcome) → m ≡ map_left f n → ((left : Left) → g (map_held f left.0, left.1, left.2) ≡ h left) → after written m g ≡ after written n h
unfolding map_left
after_mapped f written m (Ok left) g h e same = ap (λ r. after written r g) e ∙ same left
after_mapped f written m (Err end) g h e same = ap (λ r. after written r g) e

run_on_mapped : (f : List ℕ → List ℕ) → KeepsNamesApart f → (written : List ℕ) (rest : List Statement) (state : Held) (steps : ℕ) → run_on written (map (map_statement f) rest) (map_held f state) steps ≡ run_on written rest state steps
run_on_mapped f apart written [] state steps = refl
run_on_mapped f apart written (statement ∷ rest) state steps =
    after_mapped f written _ _ _ _ (begun_mapped f apart state statement steps) (λ left. run_on_mapped f apart (written ++ left.1) rest left.0 left.2)

pub renaming_keeps_runs : RenamingKeepsRuns
unfolding map_held
renaming_keeps_runs f apart program steps = run_on_mapped f apart [] program.statements [] steps
