-- Executable statements and constructs with each name replaced by what it denotes (Fortran 90, 7.5, 8.1, 9.4, 12.4). An IF statement is an IF
-- construct with one arm, PRINT and WRITE are one, and EXIT and CYCLE name their DO by the number of others inside it.
use Rattle.std.specs.Prelude.{ℕ, ℤ, ◌==◌, nat_lt, Bool, true, false, if◌then◌else◌, List, [], ◌∷◌, map, flat_map, length, slice_get, position, Option, Some, None}
use Rattle.std.specs.List.{filter}
use Rattle.std.specs.Option.{option_map_or, option_and_then, unwrap_or}
use Rattle.ftn_tree.specs.declared.expr.Expr.{Expr}
use Rattle.ftn_tree.specs.declared.form.Form.{out-Form}
use Rattle.ftn_tree.specs.declared.form.Form.TheOpen.{Form-F}
use Rattle.ftn_tree.specs.declared.parts.CaseRange.{CaseRange}
use Rattle.ftn_tree.specs.declared.parts.CaseRange.TheVariants as range
use Rattle.ftn_tree.specs.declared.parts.DoControl.{DoControl}
use Rattle.ftn_tree.specs.declared.parts.LeaveWord.{LeaveWord}
use Rattle.ftn_tree.specs.declared.parts.LeaveWord.TheVariants as leave
use Rattle.ftn_tree.specs.declared.unit.Block.{Block as BlockTree, fold-Block}
use Rattle.ftn_tree.specs.declared.unit.Block.TheOpen.{Block-F, Arm-F}
use Rattle.ftn_tree.specs.declared.unit.FileTree.{FileTree}
use Rattle.ftn_tree.specs.declared.value.Value.{Value}
use Rattle.ftn_tree.specs.declared.value.Value.TheVariants as value
use Rattle.ftn_tree.specs.Extents.{layer_at}
use Rattle.ftn_tree.specs.Layers.{FormLayer}
use Rattle.ftn_tree.specs.Scopes.{first_token_at}
use Rattle.core_prog.specs.declared.stmt.CaseValues.{CaseValues}
use Rattle.core_prog.specs.Ends.{Cut}
use Rattle.core_prog.specs.States.{Ran, Went, Ended, ends}
use Rattle.core_prog.specs.Programs.{Program}
use Rattle.core_prog.specs.Values.{value_of}
use Rattle.core_prog.specs.Terms.{Term, designator, named, none, no_section, no_bound, bound, Bound}
use Rattle.core_prog.specs.Actions.{Written, no_written, scalar, array, constants, Wanted, no_wanted, one, each, Action, assign, fill, call, exit, cycle, return, stop, continue, print, read, Statement, does, choose, select, count, while, forever, Block, empty, block_in, Arms, no_arms, arm, Cases, no_cases, case}
use Rattle.core_prog.specs.Naming.{Known, site, denoted, meant_by, variable_entities, rank_of, variable_number, procedure_number}
use Rattle.core_prog.specs.ResolvedTerms.{Found, of_variable, of_constant, as_term, as_passed, arrays_of, resolved_expr, resolved_term}

-- ---- constant expressions (7.1.6.1), which need no memory: as many steps as a statement has tokens are enough

abbrev pub nothing_known : Program
nothing_known = record { variables = []; procedures = []; areas = []; main = empty }

abbrev pub value_found : Ran Value → Option Value
value_found (Went v s) = Some v
value_found (Ended e s) = None

abbrev pub constant_value : ℕ → Term → Option Value
constant_value steps term =
    value_found (value_of nothing_known (λ number. ends Cut) term (record { memory = record { cells = []; active = [] }; input = []; output = []; left = steps }))

abbrev pub whole_in : Option Value → Option ℤ
whole_in (Some (value.Whole z)) = Some z
whole_in other = None

-- ---- arms of constructs

pub record ArmFound : Type 0 where
  pub head : ℕ
  pub body : List Statement

-- the constructs around a statement, the innermost first: the entity of its name, if it has one
abbrev pub Around : Type 0
Around = List (Option ℕ)

module _ (known : Known) (file scope : ℕ) where
  abbrev pub found : Expr → Found
  found e = resolved_expr known file scope e

  abbrev pub term : Expr → Term
  term e = resolved_term known file scope e

  abbrev pub bound_of : Option Expr → Bound
  bound_of None = no_bound
  bound_of (Some e) = bound (term e)

  abbrev pub layer : ℕ → Option FormLayer
  layer statement = layer_at known.files file statement

  abbrev pub variable_there : ℕ → ℕ
  variable_there token = unwrap_or (option_and_then (variable_number known) (denoted known file token)) (length (variable_entities known))

  -- as many as the file has tokens
  abbrev pub enough : ℕ
  enough = option_map_or (λ (tree : FileTree). length tree.tokens.items) (slice_get known.files file) 0

  abbrev pub constant_whole : Expr → Option ℤ
  constant_whole e = whole_in (constant_value enough (term e))

  -- a whole array that is a variable
  abbrev pub is_array : ℕ → Bool
  is_array v = nat_lt 0 (option_map_or (rank_of known) (slice_get (variable_entities known) v) 0)

  -- ---- statements

  abbrev pub assigned : Found → Term → Action
  assigned (of_variable (designator at v none no_section)) right = if is_array v then fill v right else assign (designator at v none no_section) right
  assigned (of_variable of) right = assign of right
  assigned other right = continue

  abbrev pub called : ℕ → List Expr → Action
  called token given =
      option_map_or (λ number. option_map_or (λ p. call (site file token) p (as_passed (map found given) (arrays_of known file scope number)))
      (procedure_number known number) continue) (meant_by known file token) continue

  abbrev pub item_written : Found → Written → Written
  item_written (of_variable (designator at v none no_section)) rest = if is_array v then array at v rest else scalar (as_term (of_variable (designator at v none no_section))) rest
  item_written (of_constant (named at v (b ∷ bounds) none no_section)) rest = constants v (b ∷ bounds) rest
  item_written other rest = scalar (as_term other) rest

  abbrev pub written_of : List Expr → Written
  written_of [] = no_written
  written_of (e ∷ rest) = item_written (found e) (written_of rest)

  abbrev pub item_wanted : Found → Wanted → Wanted
  item_wanted (of_variable (designator at v none no_section)) rest = if is_array v then each at v rest else one (designator at v none no_section) rest
  item_wanted (of_variable of) rest = one of rest
  item_wanted other rest = rest

  abbrev pub wanted_of : List Expr → Wanted
  wanted_of [] = no_wanted
  wanted_of (e ∷ rest) = item_wanted (found e) (wanted_of rest)

  abbrev pub same_entity : ℕ → Option ℕ → Bool
  same_entity number None = false
  same_entity number (Some other) = other == number

  -- 8.1.4.4: how many constructs are inside the one that is left
  abbrev pub depth_of : Around → Option ℕ → ℕ
  depth_of loops None = 0
  depth_of loops (Some token) = unwrap_or (option_and_then (λ number. position (same_entity number) loops) (denoted known file token)) (length loops)

  abbrev pub left_by : LeaveWord → ℕ → Action
  left_by leave.Exit depth = exit depth
  left_by leave.Cycle depth = cycle depth

  -- the statements that may stand in an IF statement, by their first token; other ones carry nothing out
  abbrev pub simple_at : ℕ → Around → FormLayer → List Action
  simple_at first loops (Form-F.Assign target right) = assigned (found target) (term right) ∷ []
  simple_at first loops (Form-F.Call name given) = called name (unwrap_or given []) ∷ []
  simple_at first loops (Form-F.Exit word label) = left_by word (depth_of loops label) ∷ []
  simple_at first loops (Form-F.Stop code) = stop ∷ []
  simple_at first loops Form-F.Return = return ∷ []
  simple_at first loops Form-F.Continue = continue ∷ []
  simple_at first loops (Form-F.Print style items) = print (written_of items) ∷ []
  simple_at first loops (Form-F.Read style items) = read (site file first) (wanted_of items) ∷ []
  simple_at first loops other = []

  abbrev pub statements_at : ℕ → Around → Option FormLayer → List Statement
  statements_at first loops (Some (Form-F.If condition at inner)) = choose (arm (term condition) (block_in (map does (simple_at at loops (out-Form inner)))) no_arms) empty ∷ []
  statements_at first loops (Some form) = map does (simple_at first loops form)
  statements_at first loops None = []

  -- ---- constructs

  abbrev pub arm_with : Option FormLayer → Block → Arms → Arms
  arm_with (Some (Form-F.IfThen condition)) turn rest = arm (term condition) turn rest
  arm_with (Some (Form-F.ElseIf joined condition)) turn rest = arm (term condition) turn rest
  arm_with other turn rest = rest

  abbrev pub arms_of : List ArmFound → Arms
  arms_of [] = no_arms
  arms_of (a ∷ rest) = arm_with (layer a.head) (block_in a.body) (arms_of rest)

  abbrev pub is_last : Option FormLayer → Bool
  is_last (Some Form-F.Else) = true
  is_last (Some (Form-F.Case None)) = true
  is_last other = false

  -- the block of ELSE or of CASE DEFAULT
  abbrev pub otherwise_of : List ArmFound → Block
  otherwise_of arms = block_in (flat_map (λ (a : ArmFound). a.body) (filter (λ (a : ArmFound). is_last (layer a.head)) arms))

  abbrev pub values_of : CaseRange → CaseValues
  values_of (range.One e) = record { low = constant_whole e; high = constant_whole e }
  values_of (range.From low) = record { low = constant_whole low; high = None }
  values_of (range.To high) = record { low = None; high = constant_whole high }
  values_of (range.Between low high) = record { low = constant_whole low; high = constant_whole high }

  abbrev pub case_with : Option FormLayer → Block → Cases → Cases
  case_with (Some (Form-F.Case (Some ranges))) turn rest = case (map values_of ranges) turn rest
  case_with other turn rest = rest

  abbrev pub cases_of : List ArmFound → Cases
  cases_of [] = no_cases
  cases_of (a ∷ rest) = case_with (layer a.head) (block_in a.body) (cases_of rest)

  abbrev pub body_of : List ArmFound → Block
  body_of arms = block_in (flat_map (λ (a : ArmFound). a.body) arms)

  abbrev pub do_with : Option DoControl → Block → Statement
  do_with None turn = forever turn
  do_with (Some c) turn = count (site file c.variable) (variable_there c.variable) (term c.from) (term c.to) (bound_of c.step) turn

  abbrev pub construct_at : Option FormLayer → List ArmFound → List Statement
  construct_at (Some (Form-F.IfThen condition)) arms = choose (arms_of arms) (otherwise_of arms) ∷ []
  construct_at (Some (Form-F.Do label control)) arms = do_with control (body_of arms) ∷ []
  construct_at (Some (Form-F.DoWhile label comma condition)) arms = while (term condition) (body_of arms) ∷ []
  construct_at (Some (Form-F.Select joined selector)) arms = select (term selector) (cases_of arms) (otherwise_of arms) ∷ []
  construct_at other arms = []

  -- what is around the statements in a construct
  abbrev pub inside : Around → Option FormLayer → Around
  inside loops (Some (Form-F.Do label control)) = option_and_then (denoted known file) label ∷ loops
  inside loops (Some (Form-F.DoWhile label comma condition)) = option_and_then (denoted known file) label ∷ loops
  inside loops other = loops

  pub record ArmStep : Type 0 where
    pub head : ℕ
    pub body : Around → List Statement

  abbrev pub arm_step : Arm-F (Around → List Statement) ArmStep → ArmStep
  arm_step here = record { head = here.head; body = λ loops. flat_map (λ block. block loops) here.body }

  abbrev pub arm_found : Around → ArmStep → ArmFound
  arm_found loops a = record { head = a.head; body = a.body loops }

  abbrev pub block_step : Block-F (Around → List Statement) ArmStep → Around → List Statement
  block_step (Block-F.Plain statement) = λ loops. statements_at (first_token_at known.files file statement) loops (layer statement)
  block_step (Block-F.Nest opening arms ending) = λ loops. construct_at (layer opening) (map (arm_found (inside loops (layer opening))) arms)

  -- the statements of a scoping unit
  abbrev pub actions_of : List BlockTree → Block
  actions_of blocks = block_in (flat_map (λ block. fold-Block (Around → List Statement) ArmStep block_step arm_step block []) blocks)
