-- References, by the trees of what follows their names.
use Rattle.std.proofs.Common.{◌≡◌, refl, sym, ◌∙◌, ap, ap₂, ℕ, List, [], ◌∷◌, map, Option, Some, None}
use Rattle.ftn_tree.specs.declared.expr.Expr.{Expr}
use Rattle.ftn_tree.specs.declared.expr.Expr.TheVariants as e
use Rattle.ftn_tree.specs.declared.expr.Part.{Part}
use Rattle.ftn_tree.specs.declared.operator.Operator.{Operator}
use Rattle.ftn_tree.specs.Evaluations as spec
use Rattle.ftn_tree.proofs.Inverse.{args_tree, list_tree, part_tree, tree_binary, tree_refer}
use Rattle.const_expr.specs.declared.naming.Naming.{Naming}
use Rattle.const_expr.specs.Namings.{naming_by, evaluated_by, given_by, range_by}

module _ (row : List (Option ℕ)) (namings : List Naming) where
  all_are : (list : List Expr) → map (evaluated_by row namings) list ≡ spec.evaluated_all (naming_by row namings) (list_tree list)
  all_are [] = refl
  all_are (first ∷ rest) = ap (λ more. evaluated_by row namings first ∷ more) (all_are rest)

  given_are : (given : Option (List Expr)) → given_by row namings given ≡ spec.evaluated_args (naming_by row namings) (args_tree given)
  given_are None = refl
  given_are (Some list) = ap Some (all_are list)

  range_is : (part : Option Part) → range_by row namings part ≡ spec.evaluated_section (naming_by row namings) (part_tree part)
  range_is None = refl
  range_is (Some part) = refl

  pub binary_is :
      (op : ℕ) (operator : Operator) (left right expr : Expr) → expr ≡ e.Binary op operator left right →
      spec.binary_operation operator (evaluated_by row namings left) (evaluated_by row namings right) ≡ evaluated_by row namings expr
  binary_is op operator left right expr same =
      sym (ap (spec.evaluated (naming_by row namings)) (tree_binary op operator left right)) ∙ sym (ap (evaluated_by row namings) same)

  pub refer_is :
      (name : ℕ) (given : Option (List Expr)) (part : Option Part) (expr : Expr) → expr ≡ e.Refer name given part →
      spec.reference name (naming_by row namings name) (given_by row namings given) (range_by row namings part) ≡ evaluated_by row namings expr
  refer_is name given part expr same =
      ap₂ (spec.reference name (naming_by row namings name)) (given_are given) (range_is part)
      ∙ sym (ap (spec.evaluated (naming_by row namings)) (tree_refer name given part)) ∙ sym (ap (evaluated_by row namings) same)
