-- The expressions of a statement, in their order, each with what its place wants (this project's own): one line for each form. Of a
-- reference as a whole the arguments and the substring range are parts of the expression, and so is what stands in parentheses.
use Rattle.std.specs.Prelude.{ℕ, List, [], ◌∷◌, ◌++◌, map, Option, Some, None}
use Rattle.std.specs.List.{flat_map}
use Rattle.ftn_tree.specs.declared.expr.Expr.{Expr}
use Rattle.ftn_tree.specs.declared.form.Form.{Form, out-Form}
use Rattle.ftn_tree.specs.declared.form.Form.TheOpen.{Form-F}
use Rattle.ftn_tree.specs.declared.want.Want.{Want}
use Rattle.ftn_tree.specs.declared.want.Want.TheVariants as want
use Rattle.ftn_tree.specs.declared.parts.TypeSpec.{TypeSpec}
use Rattle.ftn_tree.specs.declared.parts.TypeSpec.TheVariants as type
use Rattle.ftn_tree.specs.declared.parts.LengthSelector.{LengthSelector}
use Rattle.ftn_tree.specs.declared.parts.LengthSelector.TheVariants as selector
use Rattle.ftn_tree.specs.declared.parts.CharLength.{CharLength}
use Rattle.ftn_tree.specs.declared.parts.CharLength.TheVariants as star
use Rattle.ftn_tree.specs.declared.parts.LengthValue.{LengthValue}
use Rattle.ftn_tree.specs.declared.parts.LengthValue.TheVariants as lengths
use Rattle.ftn_tree.specs.declared.parts.BoundPair.{BoundPair}
use Rattle.ftn_tree.specs.declared.parts.Attribute.{Attribute}
use Rattle.ftn_tree.specs.declared.parts.AttributeKind.{AttributeKind}
use Rattle.ftn_tree.specs.declared.parts.AttributeKind.TheVariants as attr
use Rattle.ftn_tree.specs.declared.parts.EntityDecl.{EntityDecl}
use Rattle.ftn_tree.specs.declared.parts.ArrayDecl.{ArrayDecl}
use Rattle.ftn_tree.specs.declared.parts.NamedConstant.{NamedConstant}
use Rattle.ftn_tree.specs.declared.parts.CommonGroup.{CommonGroup}
use Rattle.ftn_tree.specs.declared.parts.CommonMember.{CommonMember}
use Rattle.ftn_tree.specs.declared.parts.Designator.{Designator}
use Rattle.ftn_tree.specs.declared.parts.DataGroup.{DataGroup}
use Rattle.ftn_tree.specs.declared.parts.DoControl.{DoControl}
use Rattle.ftn_tree.specs.declared.parts.CaseRange.{CaseRange}
use Rattle.ftn_tree.specs.declared.parts.CaseRange.TheVariants as range
use Rattle.ftn_tree.specs.Layers.{FormLayer}

-- an expression in its place
pub record Placed : Type 0 where
  pub want : Want
  pub expr : Expr

abbrev pub placed : Want → Expr → Placed
placed what e = record { want = what; expr = e }

abbrev pub each_placed : Want → List Expr → List Placed
each_placed what exprs = map (placed what) exprs

abbrev pub if_placed : Want → Option Expr → List Placed
if_placed what None = []
if_placed what (Some e) = placed what e ∷ []

abbrev pub if_each_placed : Want → Option (List Expr) → List Placed
if_each_placed what None = []
if_each_placed what (Some exprs) = each_placed what exprs

-- ---- bounds and lengths (5.1.1.5, 5.1.2.4)

abbrev pub of_bound : BoundPair → List Placed
of_bound pair = if_placed want.Bound pair.low ++ if_placed want.Bound pair.high

abbrev pub of_bounds : List BoundPair → List Placed
of_bounds pairs = flat_map of_bound pairs

abbrev pub of_own_bounds : Option (List BoundPair) → List Placed
of_own_bounds None = []
of_own_bounds (Some pairs) = of_bounds pairs

abbrev pub of_length : LengthValue → List Placed
of_length lengths.Assumed = []
of_length (lengths.Given e) = placed want.Length e ∷ []

abbrev pub of_star : CharLength → List Placed
of_star (star.Whole token number) = []
of_star (star.Paren inner) = of_length inner

abbrev pub of_own_length : Option CharLength → List Placed
of_own_length None = []
of_own_length (Some own) = of_star own

abbrev pub of_selector : LengthSelector → List Placed
of_selector (selector.Star own) = of_star own
of_selector (selector.Paren has_word inner) = of_length inner

abbrev pub of_type : TypeSpec → List Placed
of_type (type.Character (Some own)) = of_selector own
of_type _ = []

abbrev pub of_prefix : Option TypeSpec → List Placed
of_prefix None = []
of_prefix (Some ty) = of_type ty

-- ---- declarations (5.1, 5.2, 5.5)

abbrev pub of_attribute_kind : AttributeKind → List Placed
of_attribute_kind (attr.Dimension pairs) = of_bounds pairs
of_attribute_kind _ = []

abbrev pub of_attribute : Attribute → List Placed
of_attribute a = of_attribute_kind a.kind

abbrev pub of_entity : EntityDecl → List Placed
of_entity e = of_own_bounds e.bounds ++ (of_own_length e.length ++ if_placed (want.Value e.name) e.value)

abbrev pub of_constant : NamedConstant → Placed
of_constant c = placed (want.Value c.name) c.value

abbrev pub of_member : CommonMember → List Placed
of_member m = of_own_bounds m.bounds

abbrev pub of_group : CommonGroup → List Placed
of_group g = flat_map of_member g.members

abbrev pub of_designator : Designator → List Placed
of_designator d = if_each_placed (want.Subscript d.name) d.subscripts

abbrev pub of_designators : List Designator → List Placed
of_designators designators = flat_map of_designator designators

abbrev pub of_data_group : DataGroup → List Placed
of_data_group g = of_designators g.objects

-- ---- constructs (8.1)

abbrev pub of_control : Option DoControl → List Placed
of_control None = []
of_control (Some c) = placed want.Limit c.from ∷ placed want.Limit c.to ∷ if_placed want.Limit c.step

abbrev pub of_range : CaseRange → List Placed
of_range (range.One e) = placed want.Case e ∷ []
of_range (range.From low) = placed want.Case low ∷ []
of_range (range.To high) = placed want.Case high ∷ []
of_range (range.Between low high) = placed want.Case low ∷ placed want.Case high ∷ []

abbrev pub of_ranges : Option (List CaseRange) → List Placed
of_ranges None = []
of_ranges (Some ranges) = flat_map of_range ranges

-- ---- the statements

abbrev pub action_expressions_at : FormLayer → List Placed
action_expressions_at (Form-F.Assign target value) = placed want.Target target ∷ placed want.Assigned value ∷ []
action_expressions_at (Form-F.Call name args) = if_each_placed (want.Argument name) args
action_expressions_at (Form-F.Print style items) = each_placed want.Output items
action_expressions_at (Form-F.Read style items) = each_placed want.Input items
action_expressions_at _ = []

abbrev pub executable_expressions_at : FormLayer → List Placed
executable_expressions_at (Form-F.IfThen condition) = placed want.Condition condition ∷ []
executable_expressions_at (Form-F.ElseIf joined condition) = placed want.Condition condition ∷ []
executable_expressions_at (Form-F.If condition at inner) = placed want.Condition condition ∷ action_expressions_at (out-Form inner)
executable_expressions_at (Form-F.Do label control) = of_control control
executable_expressions_at (Form-F.DoWhile label comma condition) = placed want.Condition condition ∷ []
executable_expressions_at (Form-F.Select joined selector) = placed want.Selector selector ∷ []
executable_expressions_at (Form-F.Case ranges) = of_ranges ranges
executable_expressions_at other = action_expressions_at other

abbrev pub expressions_at : FormLayer → List Placed
expressions_at (Form-F.Function ty name dummies answer) = of_prefix ty
expressions_at (Form-F.Declare ty attributes colons entities) = of_type ty ++ (flat_map of_attribute attributes ++ flat_map of_entity entities)
expressions_at (Form-F.Dimension colons arrays) = flat_map (λ a. of_bounds a.bounds) arrays
expressions_at (Form-F.Parameter constants) = map of_constant constants
expressions_at (Form-F.Data groups) = flat_map of_data_group groups
expressions_at (Form-F.Common groups) = flat_map of_group groups
expressions_at (Form-F.Equivalence sets) = flat_map of_designators sets
expressions_at other = executable_expressions_at other

abbrev pub expressions_of : Form → List Placed
expressions_of form = expressions_at (out-Form form)
