-- Expressions as plain trees (Fortran 90, 7.1). Each number is that of a token.
use Rattle.std.specs.Prelude.{ℕ, ℤ, Bool, List, [], ◌∷◌, Option, Some, None}
use Rattle.ftn_tree.specs.declared.expr.Expr.{Expr, fold-Expr}
use Rattle.ftn_tree.specs.declared.operator.Operator.{Operator}
use Rattle.ftn_tree.specs.declared.expr.Expr.TheOpen.{Expr-F, Part-F}

mutual
  pub data Tree : Type 0 where
    whole : ℕ → ℤ → Tree
    truth : ℕ → Bool → Tree
    quoted : ℕ → List ℕ → Tree
    paren : ℕ → Tree → Tree
    unary : ℕ → Operator → Tree → Tree
    binary : ℕ → Operator → Tree → Tree → Tree
    -- a name, its list in parentheses, its substring range
    refer : ℕ → Args → Section → Tree

  pub data Args : Type 0 where
    no_args : Args
    args : Trees → Args

  pub data Trees : Type 0 where
    none : Trees
    more : Tree → Trees → Trees

  pub data Section : Type 0 where
    no_section : Section
    section : End → End → Section

  pub data End : Type 0 where
    no_end : End
    end : Tree → End

abbrev pub trees_of : List Tree → Trees
trees_of [] = none
trees_of (tree ∷ trees) = more tree (trees_of trees)

abbrev pub args_of : Option (List Tree) → Args
args_of None = no_args
args_of (Some trees) = args (trees_of trees)

abbrev pub end_of : Option Tree → End
end_of None = no_end
end_of (Some tree) = end tree

abbrev pub section_of : Option Section → Section
section_of None = no_section
section_of (Some found) = found

abbrev pub tree_step : Expr-F Tree Section → Tree
tree_step (Expr-F.Whole token value) = whole token value
tree_step (Expr-F.Truth token value) = truth token value
tree_step (Expr-F.Quoted token value) = quoted token value
tree_step (Expr-F.Paren token inner) = paren token inner
tree_step (Expr-F.Unary op operator arg) = unary op operator arg
tree_step (Expr-F.Binary op operator left right) = binary op operator left right
tree_step (Expr-F.Refer name given part) = refer name (args_of given) (section_of part)

abbrev pub part_step : Part-F Tree Section → Section
part_step part = section (end_of part.low) (end_of part.high)

abbrev pub tree_of : Expr → Tree
tree_of = fold-Expr Tree Section tree_step part_step
