-- Expressions and references as pieces, from their laws.
use Rattle.std.proofs.Common.{◌≡◌, refl, sym, ◌∙◌, ap, subst, ℕ, ◌+◌, Bool, true, false, List, [], ◌∷◌, ◌++◌, length, Option, Some, None, ◌⊎◌, inl}
use Rattle.ftn_tree.specs.declared.token.Token.{Token}
use Rattle.ftn_tree.specs.declared.expr.Expr.{Expr}
use Rattle.ftn_tree.specs.declared.lexeme.Lexeme.{Lexeme}
use Rattle.ftn_tree.specs.declared.lexeme.Lexeme.TheVariants as lexeme
use Rattle.ftn_tree.specs.Lexemes.{lexeme_of}
use Rattle.ftn_tree.specs.Levels.{Binding, Prefix, between, before}
use Rattle.ftn_tree.specs.Trees.{Tree, whole, truth, quoted, paren, unary, binary, refer, tree_of}
use Rattle.ftn_tree.specs.Grammar.{Spells, IsExpression, expr, IsBefore, truth_lexeme}
use Rattle.ftn_tree.specs.Grammar as grammar
use Rattle.expr_parse.specs.steps.Input.{Input, input}
use Rattle.expr_parse.specs.steps.Reading.{expression, reference}
use Rattle.expr_parse.proofs.Pieces.{Piece, Took, begins, begins_after}

-- what an expression begins with
abbrev pub starts : Lexeme → Bool
starts lexeme.Word = true
starts lexeme.Whole = true
starts lexeme.Quoted = true
starts lexeme.True = true
starts lexeme.False = true
starts lexeme.Open = true
starts lexeme.Plus = true
starts lexeme.Minus = true
starts lexeme.Not = true
starts _ = false

abbrev pub is_some : Option Binding → Bool
is_some None = false
is_some (Some how) = true

-- what an expression would go on with
abbrev pub goes_on : Lexeme → Bool
goes_on lexeme.Open = true
goes_on kind = is_some (between kind)

one_token : (kind : Lexeme) (here : Token) (tokens : List Token) → starts kind ≡ true → tokens ≡ here ∷ [] → lexeme_of here ≡ kind → begins starts tokens ≡ true
one_token kind here tokens e split is = subst (λ tokens. begins starts tokens ≡ true) (sym split) (ap starts is ∙ e)

first_part : (before after tokens : List Token) → tokens ≡ before ++ after → begins starts before ≡ true → begins starts tokens ≡ true
first_part before after tokens split e = subst (λ tokens. begins starts tokens ≡ true) (sym split) (begins_after starts before after e)

truth_starts : (value : Bool) → starts (truth_lexeme value) ≡ true
truth_starts true = refl
truth_starts false = refl

sign_starts : (kind : Lexeme) (how : Prefix) → before kind ≡ Some how → starts kind ≡ true
sign_starts lexeme.Plus how e = refl
sign_starts lexeme.Minus how e = refl
sign_starts lexeme.Not how e = refl
sign_starts _ how e = absurd (cc e)

pub begun_tree : (tree : Tree) (level at : ℕ) (tokens : List Token) → Spells tree level at tokens → begins starts tokens ≡ true
begun_tree (whole number value) level at tokens (zero_level, (here, split, (is_at, number_is))) = one_token lexeme.Whole here tokens refl split number_is.digits
begun_tree (truth number value) level at tokens (zero_level, (here, split, (is_at, is))) = one_token (truth_lexeme value) here tokens (truth_starts value) split is
begun_tree (quoted number value) level at tokens (zero_level, (here, split, (is_at, is, value_is))) = one_token lexeme.Quoted here tokens refl split is
begun_tree (paren number inner) level at tokens (zero_level, (before, after, split, (here, is_one, (is_at, is)), rest)) = first_part before after tokens split (one_token lexeme.Open here before refl is_one is)
begun_tree (unary number operator operand) level at tokens (how, is_operator, is_level, k, small, (before, after, split, (here, is_one, (is_at, is)), rest)) =
    first_part before after tokens split (one_token (lexeme_of here) here before (sign_starts (lexeme_of here) how is) is_one refl)
begun_tree (binary number operator left right) level at tokens (how, is_operator, is_level, j, left_small, k, right_small, (before, after, split, says, rest)) = first_part before after tokens split (begun_tree left j at before says)
begun_tree (refer number given part) level at tokens (zero_level, (before, after, split, (here, is_one, (is_at, is)), rest)) = first_part before after tokens split (one_token lexeme.Word here before refl is_one is)

pub begun_expr : (e : Expr) (at : ℕ) (tokens : List Token) → expr e at tokens → (begins starts tokens ≡ true) ⊎ ((tokens ≡ []) × (false ≡ true))
begun_expr e at tokens (level, small, says) = inl (begun_tree (tree_of e) level at tokens says)

-- that expressions are read so
pub record ReadsExpressions : Type 0 where
  pub sound : (i : Input) (e : Expr) (j : Input) → expression i ≡ Some (e, j) → Took (expr e) i j
  pub complete : (e : Expr) (at : ℕ) (tokens rest : List Token) → expr e at tokens → begins goes_on rest ≡ false → expression (input at (tokens ++ rest)) ≡ Some (e, input (at + length tokens) rest)

abbrev pub expression_piece : ReadsExpressions → Piece Expr
expression_piece laws = record {
  phrase = expr;
  read = expression;
  first = starts;
  empty = false;
  more = goes_on;
  begun = begun_expr;
  sound = laws.sound;
  complete = laws.complete;
}

abbrev pub name_first : Lexeme → Bool
name_first lexeme.Word = true
name_first _ = false

-- what a reference would go on with
abbrev pub opens : Lexeme → Bool
opens lexeme.Open = true
opens _ = false

-- that references are read so
pub record ReadsReferences : Type 0 where
  pub begun : (e : Expr) (at : ℕ) (tokens : List Token) → grammar.reference e at tokens → begins name_first tokens ≡ true
  pub sound : (i : Input) (e : Expr) (j : Input) → reference i ≡ Some (e, j) → Took (grammar.reference e) i j
  pub complete : (e : Expr) (at : ℕ) (tokens rest : List Token) → grammar.reference e at tokens → begins opens rest ≡ false → reference (input at (tokens ++ rest)) ≡ Some (e, input (at + length tokens) rest)

abbrev pub reference_piece : ReadsReferences → Piece Expr
reference_piece laws = record {
  phrase = grammar.reference;
  read = reference;
  first = name_first;
  empty = false;
  more = opens;
  begun = λ e at tokens says. inl (laws.begun e at tokens says);
  sound = laws.sound;
  complete = laws.complete;
}
