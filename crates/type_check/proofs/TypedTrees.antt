-- The types of expressions, by the trees of what follows names, and by what names are.
use Rattle.std.proofs.Common.{◌≡◌, refl, sym, ◌∙◌, ap, ap₂, Bool, ℕ, ℤ, List, [], ◌∷◌, map, Option, Some, None, option_map}
use Rattle.std.specs.Option.{is_some}
use Rattle.ftn_tree.specs.declared.expr.Expr.{Expr}
use Rattle.ftn_tree.specs.declared.expr.Expr.TheVariants as e
use Rattle.ftn_tree.specs.declared.expr.Part.{Part}
use Rattle.ftn_tree.specs.declared.operator.Operator.{Operator}
use Rattle.ftn_tree.specs.Trees.{Tree, Trees, Args, Section, End, whole, truth, quoted, paren, unary, binary, refer, no_args, args, none, more, no_section, section, no_end, end}
use Rattle.ftn_tree.specs.Procedures.{Sense}
use Rattle.ftn_tree.specs.ExpressionTypes as spec
use Rattle.ftn_tree.specs.ExpressionTypes.{Typed, typed, typed_args, typed_all, typed_section, typed_end, reference_typed}
use Rattle.ftn_tree.proofs.Inverse.{args_tree, list_tree, part_tree, tree_whole, tree_truth, tree_quoted, tree_paren, tree_unary, tree_binary, tree_refer}
use Rattle.name_types.specs.declared.names.Setting.{Setting}
use Rattle.type_check.specs.steps.Kept.{Sight, seen}
use Rattle.name_types.specs.steps.Senses.{sense_by}
use Rattle.type_check.specs.steps.Sights as sights
use Rattle.type_check.specs.steps.Sights.{range_seen}
use Rattle.type_check.specs.steps.Typing.{typed_by, given_by, range_by, referred, arguments_by}
use Rattle.type_check.proofs.SightLaws.{arguments_seen, unary_seen, binary_seen}
use Rattle.type_check.proofs.ReferenceLaws.{reference_seen}

-- ---- what names are decides what expressions are

module _ (s t : ℕ → Bool → Sense) (same : (token : ℕ) (has_args : Bool) → s token has_args ≡ t token has_args) where
  mutual
    pub typed_alike : (tree : Tree) → typed s tree ≡ typed t tree
    typed_alike (whole token z) = refl
    typed_alike (truth token b) = refl
    typed_alike (quoted token text) = refl
    typed_alike (paren token inner) = ap (spec.in_parens token) (typed_alike inner)
    typed_alike (unary op operator arg) = ap (spec.unary_typed op operator) (typed_alike arg)
    typed_alike (binary op operator left right) = ap₂ (spec.binary_typed operator) (typed_alike left) (typed_alike right)
    typed_alike (refer name given part) =
        ap (λ x. reference_typed name x (typed_args s given) (typed_section s part)) (same name (is_some (typed_args s given)))
        ∙ ap₂ (λ ts r. reference_typed name (t name (is_some ts)) ts r) (args_alike given) (section_alike part)

    args_alike : (given : Args) → typed_args s given ≡ typed_args t given
    args_alike no_args = refl
    args_alike (args given) = ap Some (all_alike given)

    all_alike : (trees : Trees) → typed_all s trees ≡ typed_all t trees
    all_alike none = refl
    all_alike (more tree rest) = ap₂ (λ x xs. x ∷ xs) (typed_alike tree) (all_alike rest)

    section_alike : (part : Section) → typed_section s part ≡ typed_section t part
    section_alike no_section = refl
    section_alike (section low high) = ap₂ (λ x y. Some (x, y)) (end_alike low) (end_alike high)

    end_alike : (part : End) → typed_end s part ≡ typed_end t part
    end_alike no_end = refl
    end_alike (end tree) = ap Some (typed_alike tree)

-- ---- by the forms of expressions

module _ (s : Setting) where
  pub whole_is : (token : ℕ) (z : ℤ) (expr : Expr) → expr ≡ e.Whole token z → spec.expression token spec.integer [] [] ≡ typed_by s expr
  whole_is token z expr same = sym (ap (typed (sense_by s)) (tree_whole token z)) ∙ sym (ap (typed_by s) same)

  pub truth_is : (token : ℕ) (b : Bool) (expr : Expr) → expr ≡ e.Truth token b → spec.expression token spec.logical [] [] ≡ typed_by s expr
  truth_is token b expr same = sym (ap (typed (sense_by s)) (tree_truth token b)) ∙ sym (ap (typed_by s) same)

  pub quoted_is : (token : ℕ) (text : List ℕ) (expr : Expr) → expr ≡ e.Quoted token text → spec.expression token spec.character [] [] ≡ typed_by s expr
  quoted_is token text expr same = sym (ap (typed (sense_by s)) (tree_quoted token text)) ∙ sym (ap (typed_by s) same)

  pub paren_is : (token : ℕ) (inner expr : Expr) → expr ≡ e.Paren token inner → spec.in_parens token (typed_by s inner) ≡ typed_by s expr
  paren_is token inner expr same = sym (ap (typed (sense_by s)) (tree_paren token inner)) ∙ sym (ap (typed_by s) same)

  pub unary_is : (op : ℕ) (operator : Operator) (arg expr : Expr) → expr ≡ e.Unary op operator arg → spec.unary_typed op operator (typed_by s arg) ≡ typed_by s expr
  unary_is op operator arg expr same = sym (ap (typed (sense_by s)) (tree_unary op operator arg)) ∙ sym (ap (typed_by s) same)

  pub binary_is :
      (op : ℕ) (operator : Operator) (left right expr : Expr) → expr ≡ e.Binary op operator left right →
      spec.binary_typed operator (typed_by s left) (typed_by s right) ≡ typed_by s expr
  binary_is op operator left right expr same = sym (ap (typed (sense_by s)) (tree_binary op operator left right)) ∙ sym (ap (typed_by s) same)

  all_are : (list : List Expr) → map (typed_by s) list ≡ typed_all (sense_by s) (list_tree list)
  all_are [] = refl
  all_are (first ∷ rest) = ap (λ others. typed_by s first ∷ others) (all_are rest)

  given_are : (given : Option (List Expr)) → given_by s given ≡ typed_args (sense_by s) (args_tree given)
  given_are None = refl
  given_are (Some list) = ap Some (all_are list)

  range_is : (part : Option Part) → range_by s part ≡ typed_section (sense_by s) (part_tree part)
  range_is None = refl
  range_is (Some part) = refl

  refer_is :
      (name : ℕ) (given : Option (List Expr)) (part : Option Part) (expr : Expr) → expr ≡ e.Refer name given part →
      reference_typed name (sense_by s name (is_some (given_by s given))) (given_by s given) (range_by s part) ≡ typed_by s expr
  refer_is name given part expr same =
      ap₂ (λ ts r. reference_typed name (sense_by s name (is_some ts)) ts r) (given_are given) (range_is part)
      ∙ sym (ap (typed (sense_by s)) (tree_refer name given part)) ∙ sym (ap (typed_by s) same)

  is_given : (ts : Option (List Typed)) → is_some (option_map (map seen) ts) ≡ is_some ts
  is_given None = refl
  is_given (Some ts) = refl

  -- ---- by what is kept

  pub unary_made : (op : ℕ) (operator : Operator) (arg expr : Expr) (x y : Sight) → x ≡ seen (typed_by s arg) → y ≡ sights.unary_typed op operator x →
      expr ≡ e.Unary op operator arg → y ≡ seen (typed_by s expr)
  unary_made op operator arg expr x y is made same =
      made ∙ ap (sights.unary_typed op operator) is ∙ sym (unary_seen op operator (typed_by s arg)) ∙ ap seen (unary_is op operator arg expr same)

  pub binary_made :
      (op : ℕ) (operator : Operator) (left right expr : Expr) (x y z : Sight) → x ≡ seen (typed_by s left) → y ≡ seen (typed_by s right) →
      z ≡ sights.binary_typed operator x y → expr ≡ e.Binary op operator left right → z ≡ seen (typed_by s expr)
  binary_made op operator left right expr x y z one other made same =
      made ∙ ap₂ (sights.binary_typed operator) one other ∙ sym (binary_seen operator (typed_by s left) (typed_by s right))
      ∙ ap seen (binary_is op operator left right expr same)

  pub refer_made :
      (name : ℕ) (given : Option (List Expr)) (part : Option Part) (expr : Expr) (xs : Option (List Sight)) (r : sights.Range) →
      xs ≡ option_map (map seen) (given_by s given) → r ≡ range_seen (range_by s part) → expr ≡ e.Refer name given part →
      referred s name xs r ≡ seen (typed_by s expr)
  refer_made name given part expr xs r one other same =
      ap₂ (referred s name) one other
      ∙ ap (λ b. sights.reference_typed name (sense_by s name b) (option_map (map seen) (given_by s given)) (range_seen (range_by s part))) (is_given (given_by s given))
      ∙ sym (reference_seen name (sense_by s name (is_some (given_by s given))) (given_by s given) (range_by s part))
      ∙ ap seen (refer_is name given part expr same)

  pub no_arguments : (given : Option (List Expr)) → option_map (map seen) (given_by s given) ≡ None → map seen (arguments_by s given) ≡ []
  no_arguments None is = refl
  no_arguments (Some list) is = absurd (cc (is))

  arguments_are : (list : List Expr) → map spec.argument (map (typed_by s) list) ≡ map (λ arg. spec.argument (typed_by s arg)) list
  arguments_are [] = refl
  arguments_are (first ∷ rest) = ap (λ others. spec.argument (typed_by s first) ∷ others) (arguments_are rest)

  pub some_arguments :
      (given : Option (List Expr)) (xs : List Sight) → Some xs ≡ option_map (map seen) (given_by s given) → map sights.argument xs ≡ map seen (arguments_by s given)
  some_arguments None xs is = absurd (cc (is))
  some_arguments (Some list) xs is =
      let here : xs ≡ map seen (map (typed_by s) list) = cc (is) in
      ap (map sights.argument) here ∙ sym (arguments_seen (map (typed_by s) list)) ∙ ap (map seen) (arguments_are list)
