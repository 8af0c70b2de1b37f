-- The faults of constants and shapes, and the first of them (Fortran 90, 5.1, 5.2.9, 5.2.10, 5.5.1, 7.1.6.1, 8.1.3.1).
use Rattle.std.specs.Prelude.{ℕ, ℤ, int_lt, ◌==◌, Bool, true, false, ◌&&◌, ◌||◌, if◌then◌else◌, List, [], ◌∷◌, ◌++◌, length, slice_get, Option, Some, None}
use Rattle.std.specs.List.{flat_map, enumerate_from, cons_option}
use Rattle.std.specs.Option.{is_none, option_map, option_map_or, option_and_then}
use Rattle.ftn_base.specs.declared.entity.Shape.{Shape}
use Rattle.ftn_base.specs.declared.fault.Fault.{Fault}
use Rattle.ftn_base.specs.declared.fault.FaultKind.{FaultKind}
use Rattle.ftn_base.specs.declared.fault.FaultKind.TheVariants.{NotConstant, Overflow, Zero, Circular, BadShape}
use Rattle.ftn_tree.specs.declared.expr.Expr.{Expr}
use Rattle.ftn_tree.specs.declared.form.Form.TheOpen.{Form-F}
use Rattle.ftn_tree.specs.declared.parts.DataConstant.{DataConstant}
use Rattle.ftn_tree.specs.declared.parts.DataConstant.TheVariants as constant
use Rattle.ftn_tree.specs.declared.parts.DataGroup.{DataGroup}
use Rattle.ftn_tree.specs.declared.parts.DataValue.{DataValue}
use Rattle.ftn_tree.specs.declared.parts.Designator.{Designator}
use Rattle.ftn_tree.specs.declared.parts.Repeat.{Repeat}
use Rattle.ftn_tree.specs.declared.parts.Repeat.TheVariants as repeat
use Rattle.ftn_tree.specs.declared.table.Extent.{Extent}
use Rattle.ftn_tree.specs.declared.unit.FileTree.{FileTree}
use Rattle.ftn_tree.specs.declared.want.Want.{Want}
use Rattle.ftn_tree.specs.declared.want.Want.TheVariants as want
use Rattle.ftn_tree.specs.Layers.{FormLayer}
use Rattle.ftn_tree.specs.Extents.{scoping, layer_at}
use Rattle.ftn_tree.specs.Scopes.{own_statements}
use Rattle.ftn_tree.specs.Sayings.{sayings}
use Rattle.ftn_tree.specs.GlobalNames.{place}
use Rattle.ftn_tree.specs.DeclarationFaults.{Finding, found, first_finding, fault_of}
use Rattle.ftn_tree.specs.DeclaredEntities.{names_after}
use Rattle.ftn_tree.specs.Meanings.{own}
use Rattle.ftn_tree.specs.NameFaults.{said_of, begins}
use Rattle.ftn_tree.specs.Trees.{refer, no_args, no_section}
use Rattle.ftn_tree.specs.Wants.{Placed, expressions_at}
use Rattle.ftn_tree.specs.Declarations.{written_value}
use Rattle.ftn_tree.specs.KeyKinds.{Datum, datum, datum_of, key_at, kind_of, is_constant}
use Rattle.ftn_tree.specs.Evaluations.{Evaluated, evaluated}
use Rattle.ftn_tree.specs.Constants.{naming_at, known_of, given, whole_in}
use Rattle.ftn_tree.specs.Circles.{constants, tokens_for, constant_at, leads_back}
use Rattle.ftn_tree.specs.Shapes.{shape_of, all_told, breaches_told, has_strays, shape_findings}
use Rattle.ftn_tree.specs.Cases.{case_findings}

-- ---- expressions whose place wants a constant: lengths, values, CASE values

abbrev pub wants_constant : Want → Bool
wants_constant want.Length = true
wants_constant (want.Value name) = true
wants_constant want.Case = true
wants_constant _ = false

abbrev pub placed_told : List FileTree → ℕ → Placed → List Finding
placed_told files file p = if wants_constant p.want then all_told file (given files file p.expr) else []

-- ---- subscripts in EQUIVALENCE and DATA (5.2.9, 5.5.1)

abbrev pub is_outside : ℤ → ℤ × ℤ → Bool
is_outside z (low, high) = int_lt z low || int_lt high z

-- a subscript that is out of the bounds of its dimension
abbrev pub range_told : ℕ → Evaluated → Option (ℤ × ℤ) → List Finding
range_told file e pair =
    if option_map_or (λ z. option_map_or (is_outside z) pair false) (whole_in e.value) false then found BadShape (place file e.first) ∷ [] else []

abbrev pub subscript_told : ℕ → Evaluated → Option (ℤ × ℤ) → List Finding
subscript_told file e pair = (if has_strays e then found NotConstant (place file e.first) ∷ [] else []) ++ (breaches_told file e ++ range_told file e pair)

-- the bounds of the dimension, where there are as many subscripts as dimensions
abbrev pub pair_at : Option Shape → ℕ → ℕ → Option (ℤ × ℤ)
pair_at None count k = None
pair_at (Some shape) count k = if length shape.bounds == count then slice_get shape.bounds k else None

abbrev pub subscripts_told : List FileTree → ℕ → Option Shape → List Expr → List Finding
subscripts_told files file shape subscripts =
    flat_map (λ numbered. subscript_told file (given files file numbered.1) (pair_at shape (length subscripts) numbered.0)) (enumerate_from 0 subscripts)

abbrev pub designator_told : List FileTree → ℕ → Designator → List Finding
designator_told files file d =
    option_map_or (subscripts_told files file (option_and_then (shape_of files) (key_at files file d.name))) d.subscripts []

-- ---- names in the values of DATA (5.2.9)

abbrev pub name_told : List FileTree → ℕ → ℕ → List Finding
name_told files file token = all_told file (evaluated (naming_at files (known_of files) file) (refer token no_args no_section))

abbrev pub repeat_name : Repeat → Option ℕ
repeat_name (repeat.Named token) = Some token
repeat_name _ = None

abbrev pub constant_name : DataConstant → Option ℕ
constant_name (constant.Named token) = Some token
constant_name _ = None

abbrev pub names_of_value : DataValue → List ℕ
names_of_value v = cons_option (option_and_then repeat_name v.repeat) (cons_option (constant_name v.constant) [])

abbrev pub group_told : List FileTree → ℕ → DataGroup → List Finding
group_told files file g =
    flat_map (designator_told files file) g.objects ++ flat_map (name_told files file) (flat_map names_of_value g.values)

-- ---- one statement

abbrev pub designators_told : List FileTree → ℕ → Option FormLayer → List Finding
designators_told files file (Some (Form-F.Equivalence sets)) = flat_map (flat_map (designator_told files file)) sets
designators_told files file (Some (Form-F.Data groups)) = flat_map (group_told files file) groups
designators_told files file _ = []

abbrev pub statement_told : List FileTree → ℕ → ℕ → List Finding
statement_told files file statement =
    flat_map (placed_told files file) (option_map_or expressions_at (layer_at files file statement) []) ++ designators_told files file (layer_at files file statement)

-- ---- named constants

-- 5.2.10: a constant to which nothing gives a value
abbrev pub valueless : List FileTree → Datum → List Finding
valueless files d =
    if is_constant (kind_of files (own d.scope d.name)) && is_none (written_value files d.scope d.name)
    then found NotConstant (place d.scope.file (begins (said_of files d.scope d.name))) ∷ [] else []

-- references of a constant to one that leads back to it
abbrev pub circles : List FileTree → ℕ → Datum → List Finding
circles files number d =
    flat_map (λ token. if leads_back files number (constant_at files d.scope.file token) then found Circular (place d.scope.file token) ∷ [] else [])
    (tokens_for files d)

abbrev pub circular_findings : List FileTree → List Finding
circular_findings files =
    flat_map (λ numbered. option_map_or (circles files numbered.0) (datum_of files numbered.1) []) (enumerate_from 0 (constants files))

-- ---- the project

abbrev pub name_findings : List FileTree → Extent → List ℕ → List Finding
name_findings files e name = shape_findings files (datum e name) ++ valueless files (datum e name)

abbrev pub scope_findings : List FileTree → Extent → List Finding
scope_findings files e =
    flat_map (statement_told files e.file) (own_statements files e) ++ flat_map (name_findings files e) (names_after [] (sayings files e))

abbrev pub constant_findings : List FileTree → List Finding
constant_findings files =
    circular_findings files ++ (flat_map (scope_findings files) (scoping files) ++ flat_map (λ numbered. case_findings files numbered.0 numbered.1) (enumerate_from 0 files))

-- the order of the kinds at one place
abbrev pub constant_rank : FaultKind → ℕ
constant_rank NotConstant = 0
constant_rank Overflow = 1
constant_rank Zero = 2
constant_rank Circular = 3
constant_rank BadShape = 4
constant_rank other = 5

-- the first fault of a project's constants and shapes
abbrev pub constant_fault : List FileTree → Option Fault
constant_fault files = option_map (fault_of files) (first_finding constant_rank (constant_findings files))
