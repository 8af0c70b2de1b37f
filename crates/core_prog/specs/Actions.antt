-- Executable statements and constructs of resolved programs as plain trees (Fortran 90, 8.1).
use Rattle.std.specs.Prelude.{ℕ, ℤ, List, [], ◌∷◌, map}
use Rattle.std.specs.Option.{option_map}
use Rattle.ftn_tree.specs.declared.value.Value.{Value}
use Rattle.core_prog.specs.declared.site.Site.{Site}
use Rattle.core_prog.specs.declared.io.Inputs.{Inputs, fold-Inputs}
use Rattle.core_prog.specs.declared.io.Outputs.{Outputs, fold-Outputs}
use Rattle.core_prog.specs.declared.io.Inputs.TheOpen.{Inputs-F}
use Rattle.core_prog.specs.declared.io.Outputs.TheOpen.{Outputs-F}
use Rattle.core_prog.specs.declared.stmt.CaseValues.{CaseValues}
use Rattle.core_prog.specs.declared.stmt.Action.{Action as ActionOf}
use Rattle.core_prog.specs.declared.stmt.Action.TheVariants as acts
use Rattle.core_prog.specs.declared.stmt.Stmt.{Stmt, fold-Stmt}
use Rattle.core_prog.specs.declared.stmt.Arm.{Arm, fold-Arm}
use Rattle.core_prog.specs.declared.stmt.Case.{Case, fold-Case}
use Rattle.core_prog.specs.declared.stmt.Stmt.TheOpen.{Arm-F, Case-F, Stmt-F}
use Rattle.core_prog.specs.Terms.{Term, Passed, Designator, Bound, bound_of, term_of, passed_of, designator_of}

-- items of output: scalars, whole arrays, whole constant arrays
pub data Written : Type 0 where
  no_written : Written
  scalar : Term → Written → Written
  array : Site → ℕ → Written → Written
  constants : Value → List (ℤ × ℤ) → Written → Written

-- items of input: scalars, whole arrays
pub data Wanted : Type 0 where
  no_wanted : Wanted
  one : Designator → Wanted → Wanted
  each : Site → ℕ → Wanted → Wanted

-- action statements (2.1)
pub data Action : Type 0 where
  assign : Designator → Term → Action
  fill : ℕ → Term → Action
  call : Site → ℕ → Passed → Action
  exit : ℕ → Action
  cycle : ℕ → Action
  return : Action
  stop : Action
  continue : Action
  print : Written → Action
  read : Site → Wanted → Action

mutual
  -- action statements and constructs
  pub data Statement : Type 0 where
    does : Action → Statement
    choose : Arms → Block → Statement
    select : Term → Cases → Block → Statement
    -- the variable, its first value, what it goes to, what it grows by
    count : Site → ℕ → Term → Term → Bound → Block → Statement
    while : Term → Block → Statement
    forever : Block → Statement

  pub data Block : Type 0 where
    empty : Block
    row : Statement → Block → Block

  pub data Arms : Type 0 where
    no_arms : Arms
    arm : Term → Block → Arms → Arms

  pub data Cases : Type 0 where
    no_cases : Cases
    case : List CaseValues → Block → Cases → Cases

abbrev pub written_step : Outputs-F Written → Written
written_step Outputs-F.End = no_written
written_step (Outputs-F.Scalar value rest) = scalar (term_of value) rest
written_step (Outputs-F.Array at number rest) = array at number rest
written_step (Outputs-F.Constants value bounds rest) = constants value bounds rest

abbrev pub written_of : Outputs → Written
written_of = fold-Outputs Written written_step

abbrev pub wanted_step : Inputs-F Wanted → Wanted
wanted_step Inputs-F.End = no_wanted
wanted_step (Inputs-F.Scalar of rest) = one (designator_of of) rest
wanted_step (Inputs-F.Array at number rest) = each at number rest

abbrev pub wanted_of : Inputs → Wanted
wanted_of = fold-Inputs Wanted wanted_step

abbrev pub action_of : ActionOf → Action
action_of (acts.Assign target value) = assign (designator_of target) (term_of value)
action_of (acts.Fill number value) = fill number (term_of value)
action_of (acts.Call at procedure args) = call at procedure (passed_of args)
action_of (acts.Exit depth) = exit depth
action_of (acts.Cycle depth) = cycle depth
action_of acts.Return = return
action_of acts.Stop = stop
action_of acts.Continue = continue
action_of (acts.Print items) = print (written_of items)
action_of (acts.Read at items) = read at (wanted_of items)

abbrev pub block_in : List Statement → Block
block_in [] = empty
block_in (first ∷ rest) = row first (block_in rest)

abbrev pub arms_in : List (Term × Block) → Arms
arms_in [] = no_arms
arms_in (first ∷ rest) = arm first.0 first.1 (arms_in rest)

abbrev pub cases_in : List (List CaseValues × Block) → Cases
cases_in [] = no_cases
cases_in (first ∷ rest) = case first.0 first.1 (cases_in rest)

abbrev pub statement_step : Stmt-F Statement (Term × Block) (List CaseValues × Block) → Statement
statement_step (Stmt-F.Action action) = does (action_of action)
statement_step (Stmt-F.If arms otherwise) = choose (arms_in arms) (block_in otherwise)
statement_step (Stmt-F.Select selector cases otherwise) = select (term_of selector) (cases_in cases) (block_in otherwise)
statement_step (Stmt-F.Count at number from to by body) = count at number (term_of from) (term_of to) (bound_of (option_map term_of by)) (block_in body)
statement_step (Stmt-F.While condition body) = while (term_of condition) (block_in body)
statement_step (Stmt-F.Forever body) = forever (block_in body)

abbrev pub arm_step : Arm-F Statement (Term × Block) (List CaseValues × Block) → Term × Block
arm_step here = (term_of here.condition, block_in here.body)

abbrev pub case_step : Case-F Statement (Term × Block) (List CaseValues × Block) → List CaseValues × Block
case_step here = (here.values, block_in here.body)

abbrev pub statement_of : Stmt → Statement
statement_of = fold-Stmt Statement (Term × Block) (List CaseValues × Block) statement_step arm_step case_step

abbrev pub arm_of : Arm → Term × Block
arm_of = fold-Arm Statement (Term × Block) (List CaseValues × Block) statement_step arm_step case_step

abbrev pub case_of : Case → List CaseValues × Block
case_of = fold-Case Statement (Term × Block) (List CaseValues × Block) statement_step arm_step case_step

-- a block, the arms of an IF construct, the cases of a SELECT construct
abbrev pub block_of : List Stmt → Block
block_of statements = block_in (map statement_of statements)

abbrev pub arms_of : List Arm → Arms
arms_of arms = arms_in (map arm_of arms)

abbrev pub cases_of : List Case → Cases
cases_of cases = cases_in (map case_of cases)
