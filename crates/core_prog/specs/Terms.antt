-- Expressions of resolved programs as plain trees (Fortran 90, 7.1). Variables and procedures are told by numbers, constants by values.
use Rattle.std.specs.Prelude.{ℕ, ℤ, List, Option, Some, None}
use Rattle.ftn_tree.specs.declared.value.Value.{Value}
use Rattle.ftn_tree.specs.declared.operator.Operator.{Operator}
use Rattle.core_prog.specs.declared.site.Site.{Site}
use Rattle.ftn_tree.specs.declared.intrinsic.Intrinsic.{Intrinsic}
use Rattle.core_prog.specs.declared.expr.Expr.{Expr, fold-Expr}
use Rattle.core_prog.specs.declared.expr.Actuals.{Actuals, fold-Actuals}
use Rattle.core_prog.specs.declared.expr.Exprs.{Exprs, fold-Exprs}
use Rattle.core_prog.specs.declared.expr.ConstantRef.{ConstantRef, fold-ConstantRef}
use Rattle.core_prog.specs.declared.expr.Substring.{Substring, fold-Substring}
use Rattle.core_prog.specs.declared.expr.VariableRef.{VariableRef, fold-VariableRef}
use Rattle.core_prog.specs.declared.expr.Actuals.TheOpen.{Actuals-F, Expr-F, Exprs-F, ConstantRef-F, Substring-F, VariableRef-F}

mutual
  pub data Term : Type 0 where
    literal : Value → Term
    paren : Term → Term
    unary : Site → Operator → Term → Term
    binary : Site → Operator → Term → Term → Term
    variable : Designator → Term
    constant : Named → Term
    intrinsic : Site → Intrinsic → Terms → Term
    call : Site → ℕ → Passed → Term

  pub data Terms : Type 0 where
    none : Terms
    more : Term → Terms → Terms

  -- a variable, its subscripts, its substring range
  pub data Designator : Type 0 where
    designator : Site → ℕ → Terms → Section → Designator

  -- the value of a named constant, its bounds, the subscripts, the substring range
  pub data Named : Type 0 where
    named : Site → Value → List (ℤ × ℤ) → Terms → Section → Named

  pub data Section : Type 0 where
    no_section : Section
    section : Bound → Bound → Section

  pub data Bound : Type 0 where
    no_bound : Bound
    bound : Term → Bound

  -- actual arguments: values, units of variables, variables to an array's end, constants to an array's end
  pub data Passed : Type 0 where
    no_passed : Passed
    by_value : Term → Passed → Passed
    alone : Designator → Passed → Passed
    to_end : Designator → Passed → Passed
    constants : Named → Passed → Passed

abbrev pub bound_of : Option Term → Bound
bound_of None = no_bound
bound_of (Some term) = bound term

abbrev pub section_of : Option Section → Section
section_of None = no_section
section_of (Some found) = found

abbrev pub term_step : Expr-F Passed Term Terms Named Section Designator → Term
term_step (Expr-F.Literal value) = literal value
term_step (Expr-F.Paren inner) = paren inner
term_step (Expr-F.Unary at operator arg) = unary at operator arg
term_step (Expr-F.Binary at operator left right) = binary at operator left right
term_step (Expr-F.Variable of) = variable of
term_step (Expr-F.Constant of) = constant of
term_step (Expr-F.Intrinsic at function args) = intrinsic at function args
term_step (Expr-F.Call at procedure args) = call at procedure args

abbrev pub terms_step : Exprs-F Passed Term Terms Named Section Designator → Terms
terms_step Exprs-F.End = none
terms_step (Exprs-F.More term rest) = more term rest

abbrev pub designator_step : VariableRef-F Passed Term Terms Named Section Designator → Designator
designator_step ref = designator ref.at ref.variable ref.subscripts (section_of ref.range)

abbrev pub named_step : ConstantRef-F Passed Term Terms Named Section Designator → Named
named_step ref = named ref.at ref.value ref.bounds ref.subscripts (section_of ref.range)

abbrev pub section_step : Substring-F Passed Term Terms Named Section Designator → Section
section_step range = section (bound_of range.low) (bound_of range.high)

abbrev pub passed_step : Actuals-F Passed Term Terms Named Section Designator → Passed
passed_step Actuals-F.NoActuals = no_passed
passed_step (Actuals-F.Value term rest) = by_value term rest
passed_step (Actuals-F.Alone of rest) = alone of rest
passed_step (Actuals-F.Onward of rest) = to_end of rest
passed_step (Actuals-F.Constants of rest) = constants of rest

abbrev pub term_of : Expr → Term
term_of = fold-Expr Passed Term Terms Named Section Designator passed_step term_step terms_step named_step section_step designator_step

abbrev pub terms_of : Exprs → Terms
terms_of = fold-Exprs Passed Term Terms Named Section Designator passed_step term_step terms_step named_step section_step designator_step

abbrev pub designator_of : VariableRef → Designator
designator_of = fold-VariableRef Passed Term Terms Named Section Designator passed_step term_step terms_step named_step section_step designator_step

abbrev pub named_of : ConstantRef → Named
named_of = fold-ConstantRef Passed Term Terms Named Section Designator passed_step term_step terms_step named_step section_step designator_step

abbrev pub range_of : Substring → Section
range_of = fold-Substring Passed Term Terms Named Section Designator passed_step term_step terms_step named_step section_step designator_step

abbrev pub passed_of : Actuals → Passed
passed_of = fold-Actuals Passed Term Terms Named Section Designator passed_step term_step terms_step named_step section_step designator_step
