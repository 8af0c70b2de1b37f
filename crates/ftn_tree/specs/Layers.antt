-- One level of a tree, as `out-Expr` and the like open it.
use Rattle.ftn_tree.specs.declared.expr.Expr.{Expr}
use Rattle.ftn_tree.specs.declared.expr.Expr.TheOpen.{Expr-F, Part-F}
use Rattle.ftn_tree.specs.declared.expr.Part.{Part}
use Rattle.ftn_tree.specs.declared.form.Form.{Form}
use Rattle.ftn_tree.specs.declared.form.Form.TheOpen.{Form-F}

abbrev pub ExprLayer : Type 0
ExprLayer = Expr-F Expr Part

abbrev pub PartLayer : Type 0
PartLayer = Part-F Expr Part

abbrev pub FormLayer : Type 0
FormLayer = Form-F Form
