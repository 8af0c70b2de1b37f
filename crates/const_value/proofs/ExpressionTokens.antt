-- What an expression gives depends on what the names in it are, and on nothing else.
use Rattle.std.proofs.Common.{◌≡◌, refl, sym, ◌∙◌, ap, ap₂, subst, ℕ, ℤ, Bool, List, [], ◌∷◌, ◌++◌, map, Option, Some, None, Contains, arith}
use Rattle.std.specs.List.{flat_map}
use Rattle.std.proofs.lemmas.List.{map-append}
use Rattle.std.proofs.lemmas.List.Elements.{Contains-append_left, Contains-append_right, Contains-get_or}
use Rattle.ftn_tree.specs.declared.expr.Expr.{Expr}
use Rattle.ftn_tree.specs.declared.expr.Expr.TheVariants as e
use Rattle.ftn_tree.specs.declared.expr.Expr.TheOpen.{Expr-F}
use Rattle.ftn_tree.specs.declared.expr.Expr.TheViews.{roll-Part}
use Rattle.ftn_tree.specs.declared.expr.Expr.TheFolds.{fold-roll-Expr, fold-roll-Part}
use Rattle.ftn_tree.specs.declared.mention.Mention.{Mention}
use Rattle.ftn_tree.specs.declared.operator.Operator.{Operator}
use Rattle.ftn_tree.specs.Evaluations.{Naming, in_parens, unary_operation, binary_operation, reference, evaluated, evaluated_args, evaluated_all, evaluated_section, evaluated_end}
use Rattle.ftn_tree.specs.Expressions.{mentions_step, part_mentions_step, mentions_in, mentions_in_args, mentions_in_bound, mentions_in_part}
use Rattle.ftn_tree.specs.Trees.{Tree, Trees, Args, Section, End, whole, truth, quoted, paren, unary, binary, refer, no_args, args, none, more, no_section, section, no_end, end, tree_of}
use Rattle.ftn_tree.proofs.ExpressionLemmas.{mentions_of_reference}
use Rattle.ftn_tree.proofs.Inverse.{expr_of, args_back, exprs_of, part_back, end_back, same_expr}

abbrev pub token_of : Mention → ℕ
token_of m = m.token

-- ---- the tokens of names in a tree

abbrev mutual
  pub tokens : Tree → List ℕ
  tokens (whole token z) = []
  tokens (truth token t) = []
  tokens (quoted token text) = []
  tokens (paren token inner) = tokens inner
  tokens (unary op operator arg) = tokens arg
  tokens (binary op operator left right) = tokens left ++ tokens right
  tokens (refer name given part) = name ∷ (args_tokens given ++ section_tokens part)

  pub args_tokens : Args → List ℕ
  args_tokens no_args = []
  args_tokens (args given) = all_tokens given

  pub all_tokens : Trees → List ℕ
  all_tokens none = []
  all_tokens (more tree rest) = tokens tree ++ all_tokens rest

  pub section_tokens : Section → List ℕ
  section_tokens no_section = []
  section_tokens (section low high) = end_tokens low ++ end_tokens high

  pub end_tokens : End → List ℕ
  end_tokens no_end = []
  end_tokens (end tree) = tokens tree

-- ---- they are those of its mentions

in_whole : (number : ℕ) (value : ℤ) → mentions_in (e.Whole number value) ≡ []
in_whole number value = ap mentions_in (sym (e.rolls-Whole number value)) ∙ fold-roll-Expr (List Mention) (List Mention) mentions_step part_mentions_step (Expr-F.Whole number value)

in_truth : (number : ℕ) (value : Bool) → mentions_in (e.Truth number value) ≡ []
in_truth number value = ap mentions_in (sym (e.rolls-Truth number value)) ∙ fold-roll-Expr (List Mention) (List Mention) mentions_step part_mentions_step (Expr-F.Truth number value)

in_quoted : (number : ℕ) (value : List ℕ) → mentions_in (e.Quoted number value) ≡ []
in_quoted number value = ap mentions_in (sym (e.rolls-Quoted number value)) ∙ fold-roll-Expr (List Mention) (List Mention) mentions_step part_mentions_step (Expr-F.Quoted number value)

in_paren : (number : ℕ) (inner : Expr) → mentions_in (e.Paren number inner) ≡ mentions_in inner
in_paren number inner = ap mentions_in (sym (e.rolls-Paren number inner)) ∙ fold-roll-Expr (List Mention) (List Mention) mentions_step part_mentions_step (Expr-F.Paren number inner)

in_unary : (number : ℕ) (operator : Operator) (operand : Expr) → mentions_in (e.Unary number operator operand) ≡ mentions_in operand
in_unary number operator operand =
    ap mentions_in (sym (e.rolls-Unary number operator operand)) ∙ fold-roll-Expr (List Mention) (List Mention) mentions_step part_mentions_step (Expr-F.Unary number operator operand)

in_binary : (number : ℕ) (operator : Operator) (left right : Expr) → mentions_in (e.Binary number operator left right) ≡ mentions_in left ++ mentions_in right
in_binary number operator left right =
    ap mentions_in (sym (e.rolls-Binary number operator left right)) ∙ fold-roll-Expr (List Mention) (List Mention) mentions_step part_mentions_step (Expr-F.Binary number operator left right)

in_part : (low high : Option Expr) → mentions_in_part (Some (roll-Part (record { low = low; high = high }))) ≡ mentions_in_bound low ++ mentions_in_bound high
in_part None None = fold-roll-Part (List Mention) (List Mention) mentions_step part_mentions_step (record { low = None; high = None })
in_part None (Some high) = fold-roll-Part (List Mention) (List Mention) mentions_step part_mentions_step (record { low = None; high = Some high })
in_part (Some low) None = fold-roll-Part (List Mention) (List Mention) mentions_step part_mentions_step (record { low = Some low; high = None })
in_part (Some low) (Some high) = fold-roll-Part (List Mention) (List Mention) mentions_step part_mentions_step (record { low = Some low; high = Some high })

both : (one other : List Mention) (xs ys : List ℕ) → map token_of one ≡ xs → map token_of other ≡ ys → map token_of (one ++ other) ≡ xs ++ ys
both one other xs ys is also = map-append token_of one other ∙ ap₂ (λ (x y : List ℕ). x ++ y) is also

mutual
  tree_tokens : (t : Tree) → map token_of (mentions_in (expr_of t)) ≡ tokens t
  tree_tokens (whole token z) = ap (map token_of) (in_whole token z)
  tree_tokens (truth token t) = ap (map token_of) (in_truth token t)
  tree_tokens (quoted token text) = ap (map token_of) (in_quoted token text)
  tree_tokens (paren token inner) = ap (map token_of) (in_paren token (expr_of inner)) ∙ tree_tokens inner
  tree_tokens (unary op operator arg) = ap (map token_of) (in_unary op operator (expr_of arg)) ∙ tree_tokens arg
  tree_tokens (binary op operator left right) =
      ap (map token_of) (in_binary op operator (expr_of left) (expr_of right))
      ∙ both (mentions_in (expr_of left)) (mentions_in (expr_of right)) (tokens left) (tokens right) (tree_tokens left) (tree_tokens right)
  tree_tokens (refer name given part) =
      ap (map token_of) (mentions_of_reference name (args_back given) (part_back part))
      ∙ ap (λ (xs : List ℕ). name ∷ xs)
      (both (mentions_in_args (args_back given)) (mentions_in_part (part_back part)) (args_tokens given) (section_tokens part) (given_tokens given) (part_tokens part))

  given_tokens : (given : Args) → map token_of (mentions_in_args (args_back given)) ≡ args_tokens given
  given_tokens no_args = refl
  given_tokens (args trees) = list_tokens trees

  list_tokens : (trees : Trees) → map token_of (flat_map mentions_in (exprs_of trees)) ≡ all_tokens trees
  list_tokens none = refl
  list_tokens (more tree rest) = both (mentions_in (expr_of tree)) (flat_map mentions_in (exprs_of rest)) (tokens tree) (all_tokens rest) (tree_tokens tree) (list_tokens rest)

  part_tokens : (part : Section) → map token_of (mentions_in_part (part_back part)) ≡ section_tokens part
  part_tokens no_section = refl
  part_tokens (section low high) =
      ap (map token_of) (in_part (end_back low) (end_back high))
      ∙ both (mentions_in_bound (end_back low)) (mentions_in_bound (end_back high)) (end_tokens low) (end_tokens high) (bound_tokens low) (bound_tokens high)

  bound_tokens : (bound : End) → map token_of (mentions_in_bound (end_back bound)) ≡ end_tokens bound
  bound_tokens no_end = refl
  bound_tokens (end tree) = tree_tokens tree

pub tokens_are : (found : Expr) → map token_of (mentions_in found) ≡ tokens (tree_of found)
tokens_are found = ap (λ (x : Expr). map token_of (mentions_in x)) (sym (same_expr found)) ∙ tree_tokens (tree_of found)

-- ---- names that are the same at all these tokens

module _ (f g : ℕ → Naming) where
  abbrev pub Agree : List ℕ → Type 0
  Agree at = (n : ℕ) → Contains at n → f n ≡ g n

  agree_left : (xs ys : List ℕ) → Agree (xs ++ ys) → Agree xs
  agree_left xs ys same n there = same n (Contains-append_left xs ys n there)

  agree_right : (xs ys : List ℕ) → Agree (xs ++ ys) → Agree ys
  agree_right xs ys same n there = same n (Contains-append_right xs ys n there)

  agree_head : (x : ℕ) (xs : List ℕ) → Agree (x ∷ xs) → f x ≡ g x
  agree_head x xs same = same x (Contains-get_or (x ∷ xs) 0 x (omega arith))

  agree_tail : (x : ℕ) (xs : List ℕ) → Agree (x ∷ xs) → Agree xs
  agree_tail x xs same n there = same n (Contains-append_right (x ∷ []) xs n there)

  mutual
    pub tree_agrees : (t : Tree) → Agree (tokens t) → evaluated f t ≡ evaluated g t
    tree_agrees (whole token z) same = refl
    tree_agrees (truth token t) same = refl
    tree_agrees (quoted token text) same = refl
    tree_agrees (paren token inner) same = ap (in_parens token) (tree_agrees inner same)
    tree_agrees (unary op operator arg) same = ap (unary_operation op operator) (tree_agrees arg same)
    tree_agrees (binary op operator left right) same =
        ap₂ (binary_operation operator) (tree_agrees left (agree_left (tokens left) (tokens right) same)) (tree_agrees right (agree_right (tokens left) (tokens right) same))
    tree_agrees (refer name given part) same =
        ap (λ is. reference name is (evaluated_args f given) (evaluated_section f part)) (agree_head name (args_tokens given ++ section_tokens part) same)
        ∙ ap₂ (reference name (g name))
        (args_agree given (agree_left (args_tokens given) (section_tokens part) (agree_tail name (args_tokens given ++ section_tokens part) same)))
        (section_agrees part (agree_right (args_tokens given) (section_tokens part) (agree_tail name (args_tokens given ++ section_tokens part) same)))

    args_agree : (given : Args) → Agree (args_tokens given) → evaluated_args f given ≡ evaluated_args g given
    args_agree no_args same = refl
    args_agree (args trees) same = ap Some (all_agree trees same)

    all_agree : (trees : Trees) → Agree (all_tokens trees) → evaluated_all f trees ≡ evaluated_all g trees
    all_agree none same = refl
    all_agree (more tree rest) same =
        ap₂ (λ x xs. x ∷ xs) (tree_agrees tree (agree_left (tokens tree) (all_tokens rest) same)) (all_agree rest (agree_right (tokens tree) (all_tokens rest) same))

    section_agrees : (part : Section) → Agree (section_tokens part) → evaluated_section f part ≡ evaluated_section g part
    section_agrees no_section same = refl
    section_agrees (section low high) same =
        ap₂ (λ x y. Some (x, y)) (end_agrees low (agree_left (end_tokens low) (end_tokens high) same)) (end_agrees high (agree_right (end_tokens low) (end_tokens high) same))

    end_agrees : (bound : End) → Agree (end_tokens bound) → evaluated_end f bound ≡ evaluated_end g bound
    end_agrees no_end same = refl
    end_agrees (end tree) same = ap Some (tree_agrees tree same)

  -- what an expression gives, where its names are the same
  pub expression_agrees : (found : Expr) → Agree (map token_of (mentions_in found)) → evaluated f (tree_of found) ≡ evaluated g (tree_of found)
  expression_agrees found same = tree_agrees (tree_of found) (subst Agree (tokens_are found) same)
