-- The laws of the readers of expressions and of references.
use Rattle.std.proofs.Common.{◌≡◌, refl, sym, ◌∙◌, ap, subst, ℕ, ◌+◌, true, false, not, List, [], ◌∷◌, ◌++◌, length, Some}
use Rattle.std.proofs.lemmas.Bool.{not-true, not_from_false}
use Rattle.std.proofs.Math.Nat.{le-suc}
use Rattle.ftn_tree.specs.declared.token.Token.{Token}
use Rattle.ftn_tree.specs.declared.expr.Expr.{Expr, out-Expr}
use Rattle.ftn_tree.specs.declared.expr.Expr.TheVariants as exprs
use Rattle.ftn_tree.specs.declared.expr.Expr.TheOpen.{Expr-F}
use Rattle.ftn_tree.specs.declared.expr.Expr.TheViews.{roll-Expr, roll-out-Expr}
use Rattle.ftn_tree.specs.declared.lexeme.Lexeme.{Lexeme}
use Rattle.ftn_tree.specs.declared.lexeme.Lexeme.TheVariants as lexeme
use Rattle.ftn_tree.specs.Lexemes.{lexeme_of, same_lexeme}
use Rattle.ftn_tree.specs.Levels.{between, loosest}
use Rattle.ftn_tree.specs.Trees.{Tree, Args, Section, refer, tree_of}
use Rattle.ftn_tree.specs.Phrases.{Phrase, ◌·◌, name}
use Rattle.ftn_tree.specs.Expressions.{is_reference, is_reference_at}
use Rattle.ftn_tree.specs.Layers.{ExprLayer}
use Rattle.ftn_tree.specs.Grammar.{SpellsArgs, SpellsSection, IsExpression, expr}
use Rattle.ftn_tree.specs.Grammar as grammar
use Rattle.expr_parse.specs.steps.Input.{input, sees, peek}
use Rattle.expr_parse.specs.steps.Reading as reading
use Rattle.expr_parse.proofs.Pieces.{Piece, Took, begins}
use Rattle.expr_parse.proofs.AllKinds.{within}
use Rattle.expr_parse.proofs.Operands.{goes_on, opens, name_first, ReadsExpressions, ReadsReferences, expression_piece, reference_piece}
use Rattle.ftn_tree.proofs.Inverse.{expr_of, args_tree, part_tree, same_expr, tree_refer}
use Rattle.expr_parse.proofs.Stops.{Stops, looser}
use Rattle.expr_parse.proofs.SoundLevels.{sound_expression, sound_reference}
use Rattle.expr_parse.proofs.CompleteRules.{complete_named}
use Rattle.expr_parse.proofs.CompleteLevels.{complete_read, complete_expression}

-- ---- what follows

unopened_kind : (kind : Lexeme) → goes_on kind ≡ false → same_lexeme kind lexeme.Open ≡ false
unfolding same_lexeme
unopened_kind kind e = not-true (same_lexeme kind lexeme.Open) (within (λ kind. not (goes_on kind)) (λ kind. not (same_lexeme kind lexeme.Open)) refl kind (not_from_false (goes_on kind) e))

loose_kind : (kind : Lexeme) → goes_on kind ≡ false → looser loosest (between kind) ≡ true
loose_kind kind e = within (λ kind. not (goes_on kind)) (λ kind. looser loosest (between kind)) refl kind (not_from_false (goes_on kind) e)

stops_whole : (at : ℕ) (rest : List Token) → begins goes_on rest ≡ false → Stops loosest (input at rest)
unfolding sees peek
stops_whole at [] e = record { unopened = refl; loose = refl }
stops_whole at (here ∷ rest) e = record { unopened = unopened_kind (lexeme_of here) e; loose = loose_kind (lexeme_of here) e }

closed_kind : (kind : Lexeme) → opens kind ≡ false → same_lexeme kind lexeme.Open ≡ false
unfolding same_lexeme
closed_kind kind e = not-true (same_lexeme kind lexeme.Open) (within (λ kind. not (opens kind)) (λ kind. not (same_lexeme kind lexeme.Open)) refl kind (not_from_false (opens kind) e))

unopened : (at : ℕ) (rest : List Token) → begins opens rest ≡ false → sees lexeme.Open (input at rest) ≡ false
unfolding sees
unopened at [] e = refl
unopened at (here ∷ rest) e = closed_kind (lexeme_of here) e

took_all : (phrase : Phrase) (at : ℕ) (tokens rest : List Token) → phrase at tokens → Took phrase (input at (tokens ++ rest)) (input (at + length tokens) rest)
took_all phrase at tokens rest says = record { tokens = tokens; rest = refl; at = refl; says = says }

-- ---- expressions

read_expression : (found : Expr) (at : ℕ) (tokens rest : List Token) → expr found at tokens → begins goes_on rest ≡ false → reading.expression (input at (tokens ++ rest)) ≡ Some (found, input (at + length tokens) rest)
read_expression found at tokens rest says stops =
    complete_expression (tree_of found) (input at (tokens ++ rest)) (input (at + length tokens) rest) (took_all (expr found) at tokens rest says) (stops_whole (at + length tokens) rest stops)
    ∙ ap (λ found. Some (found, input (at + length tokens) rest)) (same_expr found)

pub expression_laws : ReadsExpressions
expression_laws = record { sound = sound_expression; complete = read_expression }

abbrev pub expressions : Piece Expr
expressions = expression_piece expression_laws

-- ---- references

-- a reference has a name, maybe a list, and maybe a range
record ReferTree (found : Expr) : Type 0 where
  number : ℕ
  list : Args
  range : Section
  is : tree_of found ≡ refer number list range

refer_tree : (found : Expr) → is_reference found ≡ true → ReferTree found
refer_tree found e = by (out-Expr found) (roll-out-Expr found) e where
  by : (layer : ExprLayer) → roll-Expr layer ≡ found → is_reference_at layer ≡ true → ReferTree found
  by (Expr-F.Refer number list part) is e = record {
    number = number;
    list = args_tree list;
    range = part_tree part;
    is = ap tree_of (sym is ∙ exprs.rolls-Refer number list part) ∙ tree_refer number list part;
  }
  by _ is e = absurd (cc e)

spelled_refer : (number : ℕ) (list : Args) (range : Section) (at : ℕ) (tokens : List Token) → IsExpression (refer number list range) at tokens → (name number · SpellsArgs list · SpellsSection range) at tokens
spelled_refer number list range at tokens (level, small, (zero_level, says)) = says

reference_says : (found : Expr) (of : ReferTree found) (at : ℕ) (tokens : List Token) → expr found at tokens → (name of.number · SpellsArgs of.list · SpellsSection of.range) at tokens
reference_says found of at tokens says = spelled_refer of.number of.list of.range at tokens (subst (λ (tree : Tree). IsExpression tree at tokens) of.is says)

begun_reference : (found : Expr) (at : ℕ) (tokens : List Token) → grammar.reference found at tokens → begins name_first tokens ≡ true
begun_reference found at tokens (is, says) = by (refer_tree found is) where
  by : ReferTree found → begins name_first tokens ≡ true
  by of = by_name (reference_says found of at tokens says) where
    by_name : (name of.number · SpellsArgs of.list · SpellsSection of.range) at tokens → begins name_first tokens ≡ true
    by_name (before, after, split, (here, one, (number, is_word)), rest) =
        subst (λ tokens. begins name_first tokens ≡ true) (sym (split ∙ ap (λ before. before ++ after) one)) (ap name_first is_word)

read_reference : (found : Expr) (at : ℕ) (tokens rest : List Token) → grammar.reference found at tokens → begins opens rest ≡ false → reading.reference (input at (tokens ++ rest)) ≡ Some (found, input (at + length tokens) rest)
unfolding reading.reference
read_reference found at tokens rest (is, says) stops = by (refer_tree found is) where
  turns : ℕ
  turns = length (tokens ++ rest)

  by : ReferTree found → reading.named (reading.read (length (tokens ++ rest))) (input at (tokens ++ rest)) ≡ Some (found, input (at + length tokens) rest)
  by of =
      let phrase = name of.number · SpellsArgs of.list · SpellsSection of.range in
      (complete_named (reading.read turns) turns (complete_read turns) of.number of.list of.range (input at (tokens ++ rest)) (input (at + length tokens) rest)
      (took_all phrase at tokens rest (reference_says found of at tokens says)) (le-suc turns) (unopened (at + length tokens) rest stops)).1
      ∙ ap (λ found. Some (found, input (at + length tokens) rest)) (sym (ap expr_of of.is) ∙ same_expr found)

pub reference_laws : ReadsReferences
reference_laws = record { begun = begun_reference; sound = sound_reference; complete = read_reference }

abbrev pub references : Piece Expr
references = reference_piece reference_laws
