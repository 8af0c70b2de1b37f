-- Values in two CASE lists of one SELECT CASE construct (Fortran 90, 8.1.3.1).
use Rattle.std.specs.Prelude.{ℕ, ◌-◌, ℤ, int_lt, Bool, true, false, not, ◌&&◌, if◌then◌else◌, List, [], ◌∷◌, ◌++◌, map, Option, Some, None}
use Rattle.std.specs.List.{filter, flat_map, list_any}
use Rattle.std.specs.Option.{option_map_or}
use Rattle.ftn_base.specs.declared.fault.FaultKind.TheVariants.{Conflicting}
use Rattle.ftn_tree.specs.declared.expr.Expr.{Expr}
use Rattle.ftn_tree.specs.declared.form.Form.TheOpen.{Form-F}
use Rattle.ftn_tree.specs.declared.parts.CaseRange.{CaseRange}
use Rattle.ftn_tree.specs.declared.parts.CaseRange.TheVariants as range
use Rattle.ftn_tree.specs.declared.unit.Block.{Block, fold-Block}
use Rattle.ftn_tree.specs.declared.unit.Block.TheOpen.{Block-F, Arm-F}
use Rattle.ftn_tree.specs.declared.unit.FileTree.{FileTree}
use Rattle.ftn_tree.specs.declared.unit.Unit.{Unit as UnitTree, fold-Unit}
use Rattle.ftn_tree.specs.declared.unit.Unit.TheOpen.{Unit-F}
use Rattle.ftn_tree.specs.Layers.{FormLayer}
use Rattle.ftn_tree.specs.Extents.{layer_at}
use Rattle.ftn_tree.specs.Expressions.{first_token}
use Rattle.ftn_tree.specs.GlobalNames.{place}
use Rattle.ftn_tree.specs.DeclarationFaults.{Finding, found}
use Rattle.ftn_tree.specs.Constants.{given, whole_in}

-- ---- the constructs of a file (8.1)

-- a construct, by the statement that opens it and those that begin its arms
pub record Construct : Type 0 where
  pub opening : ℕ
  pub heads : List ℕ

abbrev pub block_step : Block-F (List Construct) (ℕ × List Construct) → List Construct
block_step (Block-F.Plain number) = []
block_step (Block-F.Nest opening arms ending) = record { opening = opening; heads = map (λ arm. arm.0) arms } ∷ flat_map (λ arm. arm.1) arms

abbrev pub arm_step : Arm-F (List Construct) (ℕ × List Construct) → ℕ × List Construct
arm_step arm = (arm.head, flat_map (λ block. block) arm.body)

abbrev pub constructs_in : Block → List Construct
constructs_in = fold-Block (List Construct) (ℕ × List Construct) block_step arm_step

abbrev pub unit_step : Unit-F (List Construct) → List Construct
unit_step u = flat_map constructs_in u.body ++ flat_map (λ inner. inner) u.inner

abbrev pub constructs_of : UnitTree → List Construct
constructs_of = fold-Unit (List Construct) unit_step

-- ---- ranges

-- whole numbers from one to another, an end that isn't written being free, and the first token
pub record Span : Type 0 where
  pub first : ℕ
  pub low : Option ℤ
  pub high : Option ℤ

abbrev pub number : List FileTree → ℕ → Expr → Option ℤ
number files file e = whole_in (given files file e).value

abbrev pub span_if : ℕ → Option ℤ → Option ℤ → List Span
span_if first (Some low) (Some high) = if int_lt high low then [] else record { first = first; low = Some low; high = Some high } ∷ []
span_if first _ _ = []

abbrev pub from_low : ℕ → Option ℤ → List Span
from_low first low = option_map_or (λ z. record { first = first; low = Some z; high = None } ∷ []) low []

abbrev pub to_high : ℕ → Option ℤ → List Span
to_high first high = option_map_or (λ z. record { first = first; low = None; high = Some z } ∷ []) high []

-- a range whose ends are integers and that isn't empty. One without a lower end begins at its colon
abbrev pub spans_of : List FileTree → ℕ → CaseRange → List Span
spans_of files file (range.One e) = span_if (first_token e) (number files file e) (number files file e)
spans_of files file (range.From low) = from_low (first_token low) (number files file low)
spans_of files file (range.To high) = to_high (first_token high - 1) (number files file high)
spans_of files file (range.Between low high) = span_if (first_token low) (number files file low) (number files file high)

abbrev pub is_past : Option ℤ → Option ℤ → Bool
is_past (Some low) (Some high) = int_lt high low
is_past _ _ = false

abbrev pub meets : Span → Span → Bool
meets one other = not (is_past one.low other.high) && not (is_past other.low one.high)

-- ---- one construct

abbrev pub is_select_at : Option FormLayer → Bool
is_select_at (Some (Form-F.Select joined selector)) = true
is_select_at _ = false

abbrev pub spans_at : List FileTree → ℕ → Option FormLayer → List Span
spans_at files file (Some (Form-F.Case (Some ranges))) = flat_map (spans_of files file) ranges
spans_at files file _ = []

-- ranges that meet one of an earlier list
abbrev pub met : ℕ → List Span → List (List Span) → List Finding
met file before [] = []
met file before (here ∷ rest) =
    map (λ (s : Span). found Conflicting (place file s.first)) (filter (λ s. list_any (meets s) before) here) ++ met file (before ++ here) rest

abbrev pub construct_findings : List FileTree → ℕ → Construct → List Finding
construct_findings files file c =
    if is_select_at (layer_at files file c.opening) then met file [] (map (λ head. spans_at files file (layer_at files file head)) c.heads) else []

abbrev pub case_findings : List FileTree → ℕ → FileTree → List Finding
case_findings files file tree = flat_map (construct_findings files file) (flat_map constructs_of tree.units)
