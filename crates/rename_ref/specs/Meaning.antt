-- What a program in first form does within a number of steps. An expression is a tree that leans to the left
-- (Fortran 90, 7.1.3); each node takes one step before its operands, which are evaluated from left to right;
-- each statement takes one step as it begins. The count of steps is this project's own.
use Rattle.std.specs.Prelude.{ℕ, zero, suc, ℤ, pos, ◌+ℤ◌, ◌-ℤ◌, List, [], ◌∷◌, ◌++◌, Result, Ok, Err, if◌then◌else◌}
use Rattle.std.specs.List.{flat_map}
use Rattle.std.specs.Option.{ok_or}
use Rattle.std.specs.Map.{lookup}
use Rattle.std.specs.Str.{bytes_eq}
use Rattle.std.specs.Fmt.{signed_decimal}
use Rattle.ftn_base.specs.Arithmetic.{is_integer}
use Rattle.free_scan.specs.declared.first_form.program.Operand.{Operand}
use Rattle.free_scan.specs.declared.first_form.program.Operand.TheVariants as operands
use Rattle.free_scan.specs.declared.first_form.program.Sign.{Sign}
use Rattle.free_scan.specs.declared.first_form.program.Sign.TheVariants.{Plus, Minus}
use Rattle.free_scan.specs.declared.first_form.program.Term.{Term}
use Rattle.free_scan.specs.declared.first_form.program.Sum.{Sum}
use Rattle.free_scan.specs.declared.first_form.program.Statement.{Statement}
use Rattle.free_scan.specs.declared.first_form.program.Statement.TheVariants as statements
use Rattle.free_scan.specs.declared.first_form.program.Program.{Program}
use Rattle.rename_ref.specs.declared.first_meaning.RunFault.TheVariants.{Undefined, Overflow}
use Rattle.rename_ref.specs.declared.first_meaning.Outcome.{Outcome}
use Rattle.rename_ref.specs.declared.first_meaning.Outcome.TheVariants.{Stop, Fault, Spent}

infixl 10 ◌>>=◌
-- goes on with the value, where the run has not ended
abbrev pub ◌>>=◌ : {A B : Type 0} → Result A Outcome → (A → Result B Outcome) → Result B Outcome
(Ok x) >>= f = f x
(Err end) >>= f = Err end

-- an expression as a tree
pub data Tree : Type 0 where
  leaf : Operand → Tree
  node : Tree → Sign → Operand → Tree

abbrev pub tree_with : Tree → List Term → Tree
tree_with tree [] = tree
tree_with tree (term ∷ terms) = tree_with (node tree term.sign term.operand) terms

abbrev pub tree_of : Sum → Tree
tree_of sum = tree_with (leaf sum.first) sum.rest

-- what the variables hold, a variable that holds nothing left out
abbrev pub Held : Type 0
Held = List (List ℕ × ℤ)

-- one step less, or the end where none is left
abbrev pub step : ℕ → Result ℕ Outcome
step zero = Err Spent
step (suc left) = Ok left

-- 7.1.5.2: the whole number, where it is an integer of 32 bits
abbrev pub kept : ℤ → Result ℤ Outcome
kept z = if is_integer z then Ok z else Err (Fault Overflow)

abbrev pub combined : Sign → ℤ → ℤ → Result ℤ Outcome
combined Plus a b = kept (a +ℤ b)
combined Minus a b = kept (a -ℤ b)

-- a read of a variable that holds nothing is a fault
abbrev pub held : Held → Operand → Result ℤ Outcome
held state (operands.Variable name) = ok_or (lookup (bytes_eq name) state) (Fault Undefined)
held state (operands.Whole n) = Ok (pos n)

-- the operand's value and the steps that are left
abbrev pub operand_value : Held → Operand → ℕ → Result (ℤ × ℕ) Outcome
operand_value state operand steps = step steps >>= (λ left. held state operand >>= (λ z. Ok (z, left)))

abbrev pub value : Held → Tree → ℕ → Result (ℤ × ℕ) Outcome
value state (leaf operand) steps = operand_value state operand steps
value state (node tree sign operand) steps =
    step steps >>= (λ left. value state tree left >>= (λ a. operand_value state operand a.1 >>= (λ b. combined sign a.0 b.0 >>= (λ z. Ok (z, b.1)))))

-- the values of the items of a list, and the steps that are left
abbrev pub values : Held → List Sum → ℕ → Result (List ℤ × ℕ) Outcome
values state [] steps = Ok ([], steps)
values state (sum ∷ sums) steps =
    value state (tree_of sum) steps >>= (λ first. values state sums first.1 >>= (λ others. Ok (first.0 ∷ others.0, others.1)))

-- a blank before each item, and LF
abbrev pub line_of : List ℤ → List ℕ
line_of items = flat_map (λ z. 32 ∷ signed_decimal z) items ++ 10 ∷ []

-- what a statement leaves: what the variables hold, what it wrote, and the steps that are left
abbrev pub Left : Type 0
Left = Held × List ℕ × ℕ

abbrev pub executed : Held → Statement → ℕ → Result Left Outcome
executed state (statements.Assign target sum) steps = value state (tree_of sum) steps >>= (λ v. Ok ((target, v.0) ∷ state, [], v.1))
executed state (statements.Print items) steps = values state items steps >>= (λ v. Ok (state, line_of v.0, v.1))

-- what a statement that begins leaves, at one step
abbrev pub begun : Held → Statement → ℕ → Result Left Outcome
begun state statement steps = step steps >>= (λ left. executed state statement left)

-- the end with what was written so far, or what comes after the statement
abbrev pub after : List ℕ → Result Left Outcome → (Left → List ℕ × Outcome) → List ℕ × Outcome
after written (Err end) rest = (written, end)
after written (Ok left) rest = rest left

-- what was written so far and what the statements write, and the end
abbrev pub run_on : List ℕ → List Statement → Held → ℕ → List ℕ × Outcome
run_on written [] state steps = (written, Stop)
run_on written (statement ∷ rest) state steps =
    after written (begun state statement steps) (λ left. run_on (written ++ left.1) rest left.0 left.2)

-- the output and the end of a run for that many steps
abbrev pub run : Program → ℕ → List ℕ × Outcome
run program steps = run_on [] program.statements [] steps
