-- What is known of a name depends on what its own expressions give, and on nothing else.
use Rattle.std.proofs.Common.{◌≡◌, refl, sym, ◌∙◌, ap, ap₂, subst, cond, inl, inr, ℕ, ◌<◌, ℤ, List, [], ◌∷◌, ◌++◌, map, Option, Some, None, Contains, arith}
use Rattle.std.specs.List.{cons_option, flat_map, list_any}
use Rattle.std.specs.Option.{option_map, option_map_or, option_and_then}
use Rattle.std.proofs.lemmas.List.Elements.{Contains-append_cases, Contains-append_left, Contains-append_right, Contains-get_or, Contains-push_cases}
use Rattle.std.proofs.lemmas.List.{map-append}
use Rattle.ftn_base.specs.declared.entity.Ty.{Ty}
use Rattle.ftn_base.specs.declared.entity.Ty.TheVariants as ty
use Rattle.ftn_tree.specs.declared.expr.Expr.{Expr}
use Rattle.ftn_tree.specs.declared.parts.BoundPair.{BoundPair}
use Rattle.ftn_tree.specs.declared.parts.CharLength.{CharLength}
use Rattle.ftn_tree.specs.declared.parts.CharLength.TheVariants as star
use Rattle.ftn_tree.specs.declared.parts.LengthValue.TheVariants as lengths
use Rattle.ftn_tree.specs.declared.parts.TypeSpec.{TypeSpec}
use Rattle.ftn_tree.specs.declared.parts.TypeSpec.TheVariants as type
use Rattle.ftn_tree.specs.declared.unit.FileTree.{FileTree}
use Rattle.ftn_tree.specs.Circles.{expression_in, expressions_for, expressions_of, tokens_for}
use Rattle.ftn_tree.specs.Constants.{all_pairs, bound_pair, bound_value, is_empty_pair, length_by, letter_type, low_value, pair_of, whole_in, with_length, written_length, written_type}
use Rattle.ftn_tree.specs.Declarations.{Declared, length_of, typing_of, written_bounds, written_value}
use Rattle.ftn_tree.specs.Evaluations.{Evaluated, Naming, evaluated}
use Rattle.ftn_tree.specs.Expressions.{mentions_in}
use Rattle.ftn_tree.specs.KeyKinds.{Datum, sort_of}
use Rattle.ftn_tree.specs.NameFaults.{letter_of}
use Rattle.ftn_tree.specs.Sorts.{is_sort, sort_of_value}
use Rattle.ftn_tree.specs.Trees.{tree_of}
use Rattle.const_value.specs.steps.Evaluating.{all_by, bounds_by, declared_by, held_by, pairs_by, value_by}
use Rattle.const_value.proofs.ExpressionTokens.{Agree, expression_agrees, token_of}

module _ (F G : Expr → Evaluated) where
  abbrev pub Same : List Expr → Type 0
  Same es = (x : Expr) → Contains es x → F x ≡ G x

  option_same : (o : Option Expr) (rest : List Expr) → Same (cons_option o rest) → (x : Expr) → o ≡ Some x → F x ≡ G x
  option_same o rest same x is = same x (subst (λ p. Contains (cons_option p rest) x) (sym is) (Contains-get_or (x ∷ rest) 0 x (omega arith)))

  rest_same : (o : Option Expr) (rest : List Expr) → Same (cons_option o rest) → Same rest
  rest_same None rest same x there = same x there
  rest_same (Some y) rest same x there = same x (Contains-append_right (y ∷ []) rest x there)

  left_same : (xs ys : List Expr) → Same (xs ++ ys) → Same xs
  left_same xs ys same x there = same x (Contains-append_left xs ys x there)

  right_same : (xs ys : List Expr) → Same (xs ++ ys) → Same ys
  right_same xs ys same x there = same x (Contains-append_right xs ys x there)

  -- ---- bounds

  low_same : (low : Option Expr) → ((x : Expr) → low ≡ Some x → F x ≡ G x) → low_value F low ≡ low_value G low
  low_same None same = refl
  low_same (Some x) same = ap (λ (v : Evaluated). whole_in v.value) (same x refl)

  high_same : (high : Option Expr) → ((x : Expr) → high ≡ Some x → F x ≡ G x) → bound_value F high ≡ bound_value G high
  high_same None same = refl
  high_same (Some x) same = ap (λ (v : Evaluated). whole_in v.value) (same x refl)

  pair_same : (pair : BoundPair) → Same (expressions_of pair) → bound_pair F pair ≡ bound_pair G pair
  pair_same pair same =
      ap₂ pair_of (low_same pair.low (option_same pair.low (cons_option pair.high []) same))
      (high_same pair.high (option_same pair.high [] (rest_same pair.low (cons_option pair.high []) same)))

  pairs_same : (pairs : List BoundPair) → Same (flat_map expressions_of pairs) → map (bound_pair F) pairs ≡ map (bound_pair G) pairs
  pairs_same [] same = refl
  pairs_same (pair ∷ pairs) same =
      ap₂ (λ x xs. x ∷ xs) (pair_same pair (left_same (expressions_of pair) (flat_map expressions_of pairs) same)) (pairs_same pairs (right_same (expressions_of pair) (flat_map expressions_of pairs) same))

  -- ---- types

  length_same : (length : Option CharLength) → ((x : Expr) → option_and_then expression_in length ≡ Some x → F x ≡ G x) → written_length F length ≡ written_length G length
  length_same None same = refl
  length_same (Some (star.Whole token z)) same = refl
  length_same (Some (star.Paren lengths.Assumed)) same = refl
  length_same (Some (star.Paren (lengths.Given e))) same = ap (λ (v : Evaluated). length_by v.value) (same e refl)

  typing_same : (typing : TypeSpec × Declared) → ((x : Expr) → option_and_then expression_in (length_of typing) ≡ Some x → F x ≡ G x) → written_type F typing ≡ written_type G typing
  typing_same (type.Integer, d) same = refl
  typing_same (type.Logical, d) same = refl
  typing_same (type.Character selector, d) same = ap (option_map ty.Character) (length_same (length_of (type.Character selector, d)) same)

  type_same : (typing : Option (TypeSpec × Declared)) (other : Option Ty) → ((x : Expr) → option_and_then expression_in (option_and_then length_of typing) ≡ Some x → F x ≡ G x)
      → option_map_or (written_type F) typing other ≡ option_map_or (written_type G) typing other
  type_same None other same = refl
  type_same (Some typing) other same = typing_same typing same

  -- ---- values

  written_same : (o : Option Expr) → ((x : Expr) → o ≡ Some x → F x ≡ G x) → option_and_then (λ e. (F e).value) o ≡ option_and_then (λ e. (G e).value) o
  written_same None same = refl
  written_same (Some x) same = ap (λ (v : Evaluated). v.value) (same x refl)

  -- ---- all of a name

  module _ (files : List FileTree) (d : Datum) (same : Same (expressions_for files d)) where
    abbrev of_value : Option Expr
    of_value = written_value files d.scope d.name

    abbrev of_length : Option Expr
    of_length = option_and_then expression_in (option_and_then length_of (typing_of files d.scope d.name))

    abbrev of_bounds : List Expr
    of_bounds = flat_map expressions_of (written_bounds files d.scope d.name)

    pub declared_same : declared_by F files d ≡ declared_by G files d
    declared_same =
        type_same (typing_of files d.scope d.name) (letter_type (letter_of files d.scope d.name))
        (option_same of_length of_bounds (rest_same of_value (cons_option of_length of_bounds) same))

    pub bounds_same : pairs_by F files d ≡ pairs_by G files d
    bounds_same = pairs_same (written_bounds files d.scope d.name) (rest_same of_length of_bounds (rest_same of_value (cons_option of_length of_bounds) same))

    pub value_same : value_by F files d ≡ value_by G files d
    value_same =
        ap (option_and_then (held_by F files d)) (written_same of_value (option_same of_value (cons_option of_length of_bounds) same))
        ∙ ap (λ (t : Option Ty). option_and_then (λ v. cond (is_sort (sort_of_value v) (sort_of files d)) (Some (with_length t v)) None) (option_and_then (λ e. (G e).value) of_value)) declared_same

    known_bounds : bounds_by F files d ≡ bounds_by G files d
    known_bounds =
        ap₂ (λ (t : Option Ty) (pairs : List (Option (ℤ × ℤ))). cond (list_any is_empty_pair pairs) None (option_and_then (λ declared. all_pairs pairs) t)) declared_same bounds_same

    pub known_same : all_by F files d ≡ all_by G files d
    known_same = ap₂ (λ v b. record { value = v; bounds = b }) value_same known_bounds

-- ---- where names are the same at the tokens of these expressions

module _ (f g : ℕ → Naming) where
  expressions_agree : (es : List Expr) → Agree f g (map token_of (flat_map mentions_in es)) → Same (λ e. evaluated f (tree_of e)) (λ e. evaluated g (tree_of e)) es
  expressions_agree [] same x there = absurd (let less : there.0 < 0 = there.1 in omega arith)
  expressions_agree (e ∷ es) same x there = elim (Contains-append_cases (e ∷ []) es x there) [
    | inl here ↦ subst (λ y. evaluated f (tree_of y) ≡ evaluated g (tree_of y)) (only here) (expression_agrees f g e (λ n at. same n (subst (λ ns. Contains ns n) (sym joined) (Contains-append_left ours others n at))))
    | inr later ↦ expressions_agree es (λ n at. same n (subst (λ ns. Contains ns n) (sym joined) (Contains-append_right ours others n at))) x later
  ]
    where
      ours : List ℕ
      ours = map token_of (mentions_in e)

      others : List ℕ
      others = map token_of (flat_map mentions_in es)

      joined : map token_of (flat_map mentions_in (e ∷ es)) ≡ ours ++ others
      joined = map-append token_of (mentions_in e) (flat_map mentions_in es)

      only : Contains (e ∷ []) x → e ≡ x
      only here = elim (Contains-push_cases [] e x here) [
        | inl none ↦ absurd (let less : none.0 < 0 = none.1 in omega arith)
        | inr same ↦ same
      ]

  pub tokens_agree : (files : List FileTree) (d : Datum) → Agree f g (tokens_for files d) → Same (λ e. evaluated f (tree_of e)) (λ e. evaluated g (tree_of e)) (expressions_for files d)
  tokens_agree files d same = expressions_agree (expressions_for files d) same
