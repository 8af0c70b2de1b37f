-- Lists of expressions in executable statements, as pieces.
use Rattle.std.proofs.Common.{◌≡◌, refl, ◌∙◌, ap, ℕ, Bool, true, false, ◌||◌, List, [], ◌∷◌, Option, Some, None, if◌then◌else◌, ◌⊎◌, inl, inr}
use Rattle.std.proofs.Math.Bool.{or-true}
use Rattle.ftn_tree.specs.declared.token.Token.{Token}
use Rattle.ftn_tree.specs.declared.expr.Expr.{Expr}
use Rattle.ftn_tree.specs.declared.lexeme.Lexeme.{Lexeme}
use Rattle.ftn_tree.specs.declared.lexeme.Lexeme.TheVariants.{Whole, Quoted, Open, Close, Comma, Times}
use Rattle.ftn_tree.specs.Lexemes.{lexeme_of, same_lexeme}
use Rattle.ftn_tree.specs.Phrases.{token, maybe, commas, commas_or_none}
use Rattle.ftn_tree.specs.ExecutableForms.{stop_code}
use Rattle.expr_parse.specs.steps.Input.{Input, and_then, pure, holds_first, taken_if, sees, expect}
use Rattle.expr_parse.specs.steps.Combinators.{◌<$>◌}
use Rattle.expr_parse.proofs.Pieces.{Piece, Apart, one, mapped, reread}
use Rattle.expr_parse.proofs.AllKinds.{apart}
use Rattle.expr_parse.proofs.Tokens.{only, is_kind, same_is, is_same, after_mark, parens}
use Rattle.expr_parse.proofs.Lists.{list}
use Rattle.expr_parse.proofs.Commas.{tail}
use Rattle.expr_parse.proofs.Parens.{parenthesized_list}
use Rattle.expr_parse.proofs.Ends.{unless_done}
use Rattle.expr_parse.proofs.Operands.{starts, goes_on, opens, ReadsExpressions, expression_piece, ReadsReferences, reference_piece}
use Rattle.exec_parse.specs.steps.Lists.{none_or_all}
use Rattle.exec_parse.specs.steps.Actions as read

-- ---- facts on kinds

pub comma_expression : Apart (only Comma) goes_on
unfolding same_lexeme
comma_expression = apart (only Comma) goes_on refl

pub close_expression : Apart (only Close) goes_on
unfolding same_lexeme
close_expression = apart (only Close) goes_on refl

pub expression_close : Apart starts (only Close)
unfolding same_lexeme
expression_close = apart starts (only Close) refl

pub close_expressions : Apart (only Close) (λ kind. goes_on kind || only Comma kind)
unfolding same_lexeme
close_expressions = apart (only Close) (λ kind. goes_on kind || only Comma kind) refl

pub comma_reference : Apart (only Comma) opens
unfolding same_lexeme
comma_reference = apart (only Comma) opens refl

-- ---- lists to the end

module _ {A : Type 0} (piece : Piece A) (filled : piece.empty ≡ false) (kept : Apart (only Comma) piece.more) where
  abbrev pub some : Piece (Option (List A))
  some = unless_done (list piece filled kept) refl

  pub made : (a : Option (List A)) (at : ℕ) (tokens : List Token) → maybe (commas piece.phrase) a at tokens → commas_or_none piece.phrase (none_or_all a) at tokens
  made None at tokens says = says
  made (Some []) at tokens says = absurd says
  made (Some (a ∷ rest)) at tokens says = says

  pub back : (b : List A) (at : ℕ) (tokens : List Token) → commas_or_none piece.phrase b at tokens → (a : Option (List A)) × (none_or_all a ≡ b) × maybe (commas piece.phrase) a at tokens
  back [] at tokens says = (None, refl, says)
  back (a ∷ rest) at tokens says = (Some (a ∷ rest), refl, says)

  -- none or more, with commas between them, up to the statement's end
  abbrev pub list_to_end : Piece (List A)
  list_to_end = mapped some none_or_all (commas_or_none piece.phrase) made back

-- `( *, * )` and a piece
abbrev pub stars_piece : {A : Type 0} → Piece A → Piece A
stars_piece piece = after_mark Open (after_mark Times (after_mark Comma (after_mark Times (after_mark Close piece))))

-- ---- the code of STOP

abbrev pub is_code : Token → Bool
is_code here = is_kind Whole here || is_kind Quoted here

abbrev pub code_first : Lexeme → Bool
code_first kind = only Whole kind || only Quoted kind

pub is_first : (here : Token) → is_code here ≡ true → code_first (lexeme_of here) ≡ true
is_first here e = e

pub code_made : (n at : ℕ) (tokens : List Token) → token (λ at here. (n ≡ at) × (is_code here ≡ true)) at tokens → stop_code n at tokens
code_made n at tokens (here, is_one, (number, is)) = (here, is_one, (number, by (is_kind Whole here) refl is)) where
  by : (whole : Bool) → is_kind Whole here ≡ whole → (whole || is_kind Quoted here) ≡ true → (lexeme_of here ≡ Whole) ⊎ (lexeme_of here ≡ Quoted)
  by true e is = inl (same_is (lexeme_of here) Whole e)
  by false e is = inr (same_is (lexeme_of here) Quoted is)

pub code_back : (n at : ℕ) (tokens : List Token) → stop_code n at tokens → (m : ℕ) × (m ≡ n) × token (λ at here. (m ≡ at) × (is_code here ≡ true)) at tokens
code_back n at tokens (here, is_one, (number, is)) = (n, refl, (here, is_one, (number, by is))) where
  by : (lexeme_of here ≡ Whole) ⊎ (lexeme_of here ≡ Quoted) → is_code here ≡ true
  by (inl e) = ap (λ whole. whole || is_kind Quoted here) (is_same (lexeme_of here) Whole e)
  by (inr e) = ap (λ quoted. is_kind Whole here || quoted) (is_same (lexeme_of here) Quoted e) ∙ or-true (is_kind Whole here)

choice : (a b : Bool) (i : Input) → (if a then taken_if a i else taken_if b i) ≡ and_then (taken_if (a || b) i) (λ n. pure n)
choice true b i = refl
choice false true i = refl
choice false false i = refl

code_in : (rest : List Token) (i : Input)
    → (if holds_first (is_kind Whole) rest then taken_if (holds_first (is_kind Whole) rest) i else taken_if (holds_first (is_kind Quoted) rest) i)
    ≡ and_then (taken_if (holds_first is_code rest) i) (λ n. pure n)
code_in [] i = refl
code_in (here ∷ rest) i = choice (is_kind Whole here) (is_kind Quoted here) i

pub read_code : (i : Input) → read.stop_code i ≡ ((λ n. n) <$> (λ i. taken_if (holds_first is_code i.rest) i)) i
unfolding read.stop_code sees expect
read_code i = code_in i.rest i

abbrev pub code_piece : Piece ℕ
code_piece = reread (mapped (one is_code code_first is_first) (λ n. n) stop_code code_made code_back) read.stop_code read_code

-- ---- lists of expressions and references

module _ (laws : ReadsExpressions) where
  abbrev pub condition_piece : Piece Expr
  condition_piece = parens (expression_piece laws) close_expression

  abbrev pub arguments_piece : Piece (List Expr)
  arguments_piece = parenthesized_list (expression_piece laws) refl comma_expression expression_close close_expressions

  abbrev pub items_after_comma : Piece (List Expr)
  items_after_comma = tail (expression_piece laws) comma_expression

  abbrev pub items_to_end : Piece (List Expr)
  items_to_end = list_to_end (expression_piece laws) refl comma_expression

module _ (laws : ReadsReferences) where
  abbrev pub variables_after_comma : Piece (List Expr)
  variables_after_comma = tail (reference_piece laws) comma_reference

  abbrev pub variables_to_end : Piece (List Expr)
  variables_to_end = list_to_end (reference_piece laws) refl comma_reference
