-- Bounds are read as they are written.
use Rattle.std.proofs.Common.{◌≡◌, refl, ℕ, List, Option, Some, None, ◌⊎◌, inl, inr}
use Rattle.ftn_tree.specs.declared.token.Token.{Token}
use Rattle.ftn_tree.specs.declared.expr.Expr.{Expr}
use Rattle.ftn_tree.specs.declared.parts.BoundPair.{BoundPair}
use Rattle.ftn_tree.specs.declared.lexeme.Lexeme.TheVariants.{Open, Close, Comma, Colon, Times}
use Rattle.ftn_tree.specs.Lexemes.{same_lexeme}
use Rattle.ftn_tree.specs.Phrases.{mark_at}
use Rattle.ftn_tree.specs.Grammar.{expr}
use Rattle.ftn_tree.specs.SpecificationForms as form
use Rattle.ftn_tree.proofs.PhraseLaws.{drop_end, add_end}
use Rattle.expr_parse.specs.steps.Input.{Input, sees}
use Rattle.expr_parse.proofs.Pieces.{Piece, Apart, reread, option, seq}
use Rattle.expr_parse.proofs.AllKinds.{apart}
use Rattle.expr_parse.proofs.Tokens.{only, none_of, mark_piece, bare_made, bare_back, after_mark, before_mark, parens}
use Rattle.expr_parse.proofs.Lists.{list}
use Rattle.expr_parse.proofs.Operands.{ReadsExpressions, goes_on}
use Rattle.spec_parse.specs.steps.Bounds as spec
use Rattle.spec_parse.specs.steps.Bounds.{upper_bound, rest_of_bound, bound, bounds}
use Rattle.spec_parse.proofs.Choices.{choice, checked_piece}
use Rattle.spec_parse.proofs.Seen.{seen, unseen, after_mark_first}
use Rattle.spec_parse.proofs.Lengths.{starts_no_times}
use Rattle.spec_parse.proofs.TypePieces.{operand, itself}

module _ (laws : ReadsExpressions) where
  pub upper_back : (c : Option Expr) (at : ℕ) (tokens : List Token) → form.upper_bound c at tokens
      → ((n : ℕ) × (spec.no_bound n ≡ c) × mark_at n Times at tokens) ⊎ ((e : Expr) × (Some e ≡ c) × expr e at tokens)
  upper_back None at tokens says = let (n, says_n) = bare_back Times at tokens says in inl (n, refl, says_n)
  upper_back (Some e) at tokens says = inr (e, refl, says)

  abbrev pub upper_choice : Piece (Option Expr)
  upper_choice = choice (sees Times) (mark_piece Times) spec.no_bound (operand laws) Some form.upper_bound (bare_made Times) (λ e at tokens says. says) upper_back none_of
      (seen (mark_piece Times) Times refl (itself Times)) (unseen (operand laws) Times refl starts_no_times)

  pub upper_read : (i : Input) → upper_bound i ≡ upper_choice.read i
  unfolding upper_bound
  upper_read i = refl

  abbrev pub upper_piece : Piece (Option Expr)
  upper_piece = reread upper_choice upper_bound upper_read

  abbrev pub colon_piece : Piece (Option Expr)
  colon_piece = after_mark Colon upper_piece

  abbrev pub maybe_colon : Piece (Option (Option Expr))
  maybe_colon = option colon_piece Colon refl (after_mark_first Colon upper_piece)

  pub rest_read : (i : Input) → rest_of_bound i ≡ maybe_colon.read i
  unfolding rest_of_bound
  rest_read i = refl

  abbrev pub rest_piece : Piece (Option (Option Expr))
  rest_piece = reread maybe_colon rest_of_bound rest_read

  pub colon_no_more : Apart (only Colon) goes_on
  unfolding same_lexeme
  colon_no_more = apart (only Colon) goes_on refl

  abbrev pub pair_piece : Piece (Expr × Option (Option Expr))
  pair_piece = seq (operand laws) rest_piece colon_no_more

  pub pair_made : (b : Expr × Option (Option Expr)) (at : ℕ) (tokens : List Token) → pair_piece.phrase b at tokens → form.bound (spec.pair_of b) at tokens
  pair_made (first, None) at tokens says = drop_end (expr first) at tokens says
  pair_made (first, Some high) at tokens says = says

  pub bound_back_by : (low high : Option Expr) (at : ℕ) (tokens : List Token) → form.bound_by low high at tokens
      → ((n : ℕ) × (spec.assumed n ≡ spec.pair low high) × mark_at n Times at tokens) ⊎ ((b : Expr × Option (Option Expr)) × (spec.pair_of b ≡ spec.pair low high) × pair_piece.phrase b at tokens)
  bound_back_by None None at tokens says = let (n, says_n) = bare_back Times at tokens says in inl (n, refl, says_n)
  bound_back_by None (Some high) at tokens says = inr ((high, None), refl, add_end (expr high) at tokens says)
  bound_back_by (Some low) high at tokens says = inr ((low, Some high), refl, says)

  pub pair_no_times : Apart pair_piece.first (only Times)
  unfolding same_lexeme
  pair_no_times = apart pair_piece.first (only Times) refl

  abbrev pub bound_choice : Piece BoundPair
  bound_choice = choice (sees Times) (mark_piece Times) spec.assumed pair_piece spec.pair_of form.bound (bare_made Times) pair_made (λ c. bound_back_by c.low c.high) none_of
      (seen (mark_piece Times) Times refl (itself Times)) (unseen pair_piece Times refl pair_no_times)

  pub bound_read : (i : Input) → bound i ≡ bound_choice.read i
  unfolding bound
  bound_read i = refl

  abbrev pub bound_piece : Piece BoundPair
  bound_piece = reread bound_choice bound bound_read

  pub comma_no_bound : Apart (only Comma) bound_piece.more
  unfolding same_lexeme
  comma_no_bound = apart (only Comma) bound_piece.more refl

  abbrev pub bound_list : Piece (List BoundPair)
  bound_list = list bound_piece refl comma_no_bound

  pub close_no_bound : Apart (only Close) bound_list.more
  unfolding same_lexeme
  close_no_bound = apart (only Close) bound_list.more refl

  abbrev pub bounds_checked : Piece (List BoundPair)
  bounds_checked = checked_piece form.are_dimensions (parens bound_list close_no_bound)

  pub bounds_read : (i : Input) → bounds i ≡ bounds_checked.read i
  unfolding bounds
  bounds_read i = refl

  -- bounds in their parentheses
  abbrev pub bounds_piece : Piece (List BoundPair)
  bounds_piece = reread bounds_checked bounds bounds_read

  -- bounds, where a parenthesis comes next
  abbrev pub maybe_bounds_piece : Piece (Option (List BoundPair))
  maybe_bounds_piece = option bounds_piece Open refl (after_mark_first Open (before_mark bound_list Close close_no_bound))
