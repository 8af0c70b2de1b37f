-- Trees, and the expressions that they are.
use Rattle.std.proofs.Common.{◌≡◌, refl, sym, ◌∙◌, ap, subst, ℕ, ℤ, Bool, List, [], ◌∷◌, map, Option, Some, None, option_map}
use Rattle.ftn_tree.specs.declared.expr.Expr.{Expr}
use Rattle.ftn_tree.specs.declared.expr.Part.{Part}
use Rattle.ftn_tree.specs.declared.operator.Operator.{Operator}
use Rattle.ftn_tree.specs.declared.expr.Expr.TheVariants as e
use Rattle.ftn_tree.specs.declared.expr.Expr.TheOpen.{Expr-F, Part-F}
use Rattle.ftn_tree.specs.declared.expr.Expr.TheViews.{roll-Expr, roll-Part}
use Rattle.ftn_tree.specs.declared.expr.Expr.TheFolds.{fold-Part, fold-roll-Expr, fold-roll-Part, ind-Expr, map-Expr, map-Part}
use Rattle.ftn_tree.specs.Trees.{Tree, Trees, Args, Section, End, whole, truth, quoted, paren, unary, binary, refer, no_args, args, none, more, no_section, section, no_end, end, trees_of, tree_step, part_step, tree_of}

abbrev mutual
  pub expr_of : Tree → Expr
  expr_of (whole number value) = e.Whole number value
  expr_of (truth number value) = e.Truth number value
  expr_of (quoted number value) = e.Quoted number value
  expr_of (paren number inner) = e.Paren number (expr_of inner)
  expr_of (unary number operator operand) = e.Unary number operator (expr_of operand)
  expr_of (binary number operator left right) = e.Binary number operator (expr_of left) (expr_of right)
  expr_of (refer number given part) = e.Refer number (args_back given) (part_back part)

  pub args_back : Args → Option (List Expr)
  args_back no_args = None
  args_back (args trees) = Some (exprs_of trees)

  pub exprs_of : Trees → List Expr
  exprs_of none = []
  exprs_of (more tree trees) = expr_of tree ∷ exprs_of trees

  pub part_back : Section → Option Part
  part_back no_section = None
  part_back (section low high) = Some (roll-Part (record { low = end_back low; high = end_back high }))

  pub end_back : End → Option Expr
  end_back no_end = None
  end_back (end tree) = Some (expr_of tree)

abbrev pub section_tree : Part → Section
section_tree = fold-Part Tree Section tree_step part_step

abbrev pub part_tree : Option Part → Section
part_tree None = no_section
part_tree (Some part) = section_tree part

abbrev pub end_tree : Option Expr → End
end_tree None = no_end
end_tree (Some found) = end (tree_of found)

abbrev pub list_tree : List Expr → Trees
list_tree [] = none
list_tree (found ∷ rest) = more (tree_of found) (list_tree rest)

abbrev pub args_tree : Option (List Expr) → Args
args_tree None = no_args
args_tree (Some found) = args (list_tree found)

listed : (found : List Expr) → trees_of (map tree_of found) ≡ list_tree found
listed [] = refl
listed (first ∷ rest) = ap (λ trees. more (tree_of first) trees) (listed rest)

pub tree_whole : (number : ℕ) (value : ℤ) → tree_of (e.Whole number value) ≡ whole number value
tree_whole number value = ap tree_of (sym (e.rolls-Whole number value)) ∙ fold-roll-Expr Tree Section tree_step part_step (Expr-F.Whole number value)

pub tree_truth : (number : ℕ) (value : Bool) → tree_of (e.Truth number value) ≡ truth number value
tree_truth number value = ap tree_of (sym (e.rolls-Truth number value)) ∙ fold-roll-Expr Tree Section tree_step part_step (Expr-F.Truth number value)

pub tree_quoted : (number : ℕ) (value : List ℕ) → tree_of (e.Quoted number value) ≡ quoted number value
tree_quoted number value = ap tree_of (sym (e.rolls-Quoted number value)) ∙ fold-roll-Expr Tree Section tree_step part_step (Expr-F.Quoted number value)

pub tree_paren : (number : ℕ) (inner : Expr) → tree_of (e.Paren number inner) ≡ paren number (tree_of inner)
tree_paren number inner = ap tree_of (sym (e.rolls-Paren number inner)) ∙ fold-roll-Expr Tree Section tree_step part_step (Expr-F.Paren number inner)

pub tree_unary : (number : ℕ) (operator : Operator) (operand : Expr) → tree_of (e.Unary number operator operand) ≡ unary number operator (tree_of operand)
tree_unary number operator operand = ap tree_of (sym (e.rolls-Unary number operator operand)) ∙ fold-roll-Expr Tree Section tree_step part_step (Expr-F.Unary number operator operand)

pub tree_binary : (number : ℕ) (operator : Operator) (left right : Expr) → tree_of (e.Binary number operator left right) ≡ binary number operator (tree_of left) (tree_of right)
tree_binary number operator left right = ap tree_of (sym (e.rolls-Binary number operator left right)) ∙ fold-roll-Expr Tree Section tree_step part_step (Expr-F.Binary number operator left right)

refer_step : (number : ℕ) (given : Option (List Expr)) (part : Option Part) → tree_of (e.Refer number given part) ≡ tree_of (roll-Expr (Expr-F.Refer number given part))
refer_step number given part = ap tree_of (sym (e.rolls-Refer number given part))

pub tree_refer : (number : ℕ) (given : Option (List Expr)) (part : Option Part) → tree_of (e.Refer number given part) ≡ refer number (args_tree given) (part_tree part)
tree_refer number None None = refer_step number None None ∙ fold-roll-Expr Tree Section tree_step part_step (Expr-F.Refer number None None)
tree_refer number None (Some part) = refer_step number None (Some part) ∙ fold-roll-Expr Tree Section tree_step part_step (Expr-F.Refer number None (Some part))
tree_refer number (Some given) None =
    refer_step number (Some given) None ∙ fold-roll-Expr Tree Section tree_step part_step (Expr-F.Refer number (Some given) None)
    ∙ ap (λ trees. refer number (args trees) no_section) (listed given)
tree_refer number (Some given) (Some part) =
    refer_step number (Some given) (Some part) ∙ fold-roll-Expr Tree Section tree_step part_step (Expr-F.Refer number (Some given) (Some part))
    ∙ ap (λ trees. refer number (args trees) (section_tree part)) (listed given)

pub tree_part : (low high : Option Expr) → section_tree (roll-Part (record { low = low; high = high })) ≡ section (end_tree low) (end_tree high)
tree_part None None = fold-roll-Part Tree Section tree_step part_step (record { low = None; high = None })
tree_part None (Some high) = fold-roll-Part Tree Section tree_step part_step (record { low = None; high = Some high })
tree_part (Some low) None = fold-roll-Part Tree Section tree_step part_step (record { low = Some low; high = None })
tree_part (Some low) (Some high) = fold-roll-Part Tree Section tree_step part_step (record { low = Some low; high = Some high })

-- each step, where what stands inside is so
module _ (Inner InnerPart : Type 0) (value : Inner → Expr) (part_value : InnerPart → Part)
    (same : (inner : Inner) → expr_of (tree_of (value inner)) ≡ value inner)
    (same_part : (inner : InnerPart) → part_back (section_tree (part_value inner)) ≡ Some (part_value inner)) where
  same_list : (inner : List Inner) → exprs_of (list_tree (map value inner)) ≡ map value inner
  same_list [] = refl
  same_list (first ∷ rest) = ap (λ found. found ∷ exprs_of (list_tree (map value rest))) (same first) ∙ ap (λ found. value first ∷ found) (same_list rest)

  same_end : (inner : Option Inner) → end_back (end_tree (option_map value inner)) ≡ option_map value inner
  same_end None = refl
  same_end (Some inner) = ap Some (same inner)

  same_refer : (number : ℕ) (given : Option (List Expr)) (part : Option Part) → args_back (args_tree given) ≡ given → part_back (part_tree part) ≡ part
      → expr_of (tree_of (roll-Expr (Expr-F.Refer number given part))) ≡ roll-Expr (Expr-F.Refer number given part)
  same_refer number given part same_given same_part =
      ap (λ found. expr_of (tree_of found)) (e.rolls-Refer number given part) ∙ ap expr_of (tree_refer number given part)
      ∙ ap (λ given. e.Refer number given (part_back (part_tree part))) same_given ∙ ap (λ part. e.Refer number given part) same_part ∙ sym (e.rolls-Refer number given part)

  rolled : (made : Expr-F Inner InnerPart) → expr_of (tree_of (roll-Expr (map-Expr Inner InnerPart Expr Part value part_value made))) ≡ roll-Expr (map-Expr Inner InnerPart Expr Part value part_value made)
  rolled (Expr-F.Whole number found) = ap (λ found. expr_of (tree_of found)) (e.rolls-Whole number found) ∙ ap expr_of (tree_whole number found) ∙ sym (e.rolls-Whole number found)
  rolled (Expr-F.Truth number found) = ap (λ found. expr_of (tree_of found)) (e.rolls-Truth number found) ∙ ap expr_of (tree_truth number found) ∙ sym (e.rolls-Truth number found)
  rolled (Expr-F.Quoted number found) = ap (λ found. expr_of (tree_of found)) (e.rolls-Quoted number found) ∙ ap expr_of (tree_quoted number found) ∙ sym (e.rolls-Quoted number found)
  rolled (Expr-F.Paren number inner) =
      ap (λ found. expr_of (tree_of found)) (e.rolls-Paren number (value inner)) ∙ ap expr_of (tree_paren number (value inner))
      ∙ ap (λ found. e.Paren number found) (same inner) ∙ sym (e.rolls-Paren number (value inner))
  rolled (Expr-F.Unary number operator operand) =
      ap (λ found. expr_of (tree_of found)) (e.rolls-Unary number operator (value operand)) ∙ ap expr_of (tree_unary number operator (value operand))
      ∙ ap (λ found. e.Unary number operator found) (same operand) ∙ sym (e.rolls-Unary number operator (value operand))
  rolled (Expr-F.Binary number operator left right) =
      ap (λ found. expr_of (tree_of found)) (e.rolls-Binary number operator (value left) (value right)) ∙ ap expr_of (tree_binary number operator (value left) (value right))
      ∙ ap (λ found. e.Binary number operator found (expr_of (tree_of (value right)))) (same left) ∙ ap (λ found. e.Binary number operator (value left) found) (same right)
      ∙ sym (e.rolls-Binary number operator (value left) (value right))
  rolled (Expr-F.Refer number None None) = same_refer number None None refl refl
  rolled (Expr-F.Refer number None (Some part)) = same_refer number None (Some (part_value part)) refl (same_part part)
  rolled (Expr-F.Refer number (Some given) None) = same_refer number (Some (map value given)) None (ap Some (same_list given)) refl
  rolled (Expr-F.Refer number (Some given) (Some part)) = same_refer number (Some (map value given)) (Some (part_value part)) (ap Some (same_list given)) (same_part part)

  rolled_part : (low high : Option Inner) → part_back (section_tree (roll-Part (record { low = option_map value low; high = option_map value high }))) ≡ Some (roll-Part (record { low = option_map value low; high = option_map value high }))
  rolled_part low high =
      ap part_back (tree_part (option_map value low) (option_map value high))
      ∙ ap (λ found. Some (roll-Part (record { low = found; high = end_back (end_tree (option_map value high)) }))) (same_end low)
      ∙ ap (λ found. Some (roll-Part (record { low = option_map value low; high = found }))) (same_end high)

  mapped_part : (made : Part-F Inner InnerPart) → part_back (section_tree (roll-Part (map-Part Inner InnerPart Expr Part value part_value made))) ≡ Some (roll-Part (map-Part Inner InnerPart Expr Part value part_value made))
  mapped_part made = by made.low made.high where
    by : (low high : Option Inner) → part_back (section_tree (roll-Part (map-Part Inner InnerPart Expr Part value part_value (record { low = low; high = high }))))
        ≡ Some (roll-Part (map-Part Inner InnerPart Expr Part value part_value (record { low = low; high = high })))
    by None None = rolled_part None None
    by None (Some high) = rolled_part None (Some high)
    by (Some low) None = rolled_part (Some low) None
    by (Some low) (Some high) = rolled_part (Some low) (Some high)

abbrev SamePart : Part → Type 0
SamePart part = part_back (section_tree part) ≡ Some part

pub same_expr : (found : Expr) → expr_of (tree_of found) ≡ found
same_expr = ind-Expr (λ found. expr_of (tree_of found) ≡ found) SamePart
    (λ x y is. subst (λ x. expr_of (tree_of (roll-Expr x)) ≡ roll-Expr x) is (rolled _ _ (λ inner. inner.0) (λ inner. inner.0) (λ inner. inner.1) (λ inner. inner.1) y))
    (λ x y is. subst (λ x. part_back (section_tree (roll-Part x)) ≡ Some (roll-Part x)) is (mapped_part _ _ (λ inner. inner.0) (λ inner. inner.0) (λ inner. inner.1) (λ inner. inner.1) y))
