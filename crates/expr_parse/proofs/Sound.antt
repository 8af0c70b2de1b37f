-- What is read is the expression of exactly the tokens that were taken.
use Rattle.std.proofs.Common.{◌≡◌, refl, sym, subst, ℕ, pos, Bool, true, false, List, [], ◌∷◌, Option, Some, None, if◌then◌else◌}
use Rattle.std.specs.Prelude.{nat_le}
use Rattle.std.proofs.lemmas.Bool.{leb-true}
use Rattle.ftn_base.specs.Limits.{greatest_integer}
use Rattle.ftn_tree.specs.declared.token.Token.{Token}
use Rattle.ftn_tree.specs.declared.expr.Expr.{Expr}
use Rattle.ftn_tree.specs.declared.expr.Expr.TheVariants as exprs
use Rattle.ftn_tree.specs.declared.lexeme.Lexeme.{Lexeme}
use Rattle.ftn_tree.specs.declared.lexeme.Lexeme.TheVariants as lexeme
use Rattle.ftn_tree.specs.Lexemes.{lexeme_of}
use Rattle.ftn_tree.specs.Breaks.{number_of}
use Rattle.ftn_tree.specs.Trees.{Tree, whole, truth, quoted, tree_of}
use Rattle.ftn_tree.specs.Phrases.{Phrase, token}
use Rattle.ftn_tree.specs.Grammar.{IsNumber, truth_lexeme, Spells}
use Rattle.expr_parse.specs.steps.Input.{Input, after}
use Rattle.expr_parse.specs.steps.Reading as reading
use Rattle.expr_parse.proofs.Pieces.{Took}
use Rattle.ftn_tree.proofs.Inverse.{tree_whole, tree_truth, tree_quoted}
use Rattle.expr_parse.proofs.Takes.{retold, token_took, given}

-- ---- constants

pub spelled : (tree : Tree) (found : Expr) (phrase : Phrase) (i j : Input) → tree_of found ≡ tree → ((at : ℕ) (tokens : List Token) → phrase at tokens → Spells tree 0 at tokens) → Took phrase i j → Took (Spells (tree_of found) 0) i j
spelled tree found phrase i j is tell took = retold phrase (Spells (tree_of found) 0) i j (λ at tokens says. subst (λ tree. Spells tree 0 at tokens) (sym is) (tell at tokens says)) took

module _ (i : Input) (here : Token) (rest : List Token) (row : i.rest ≡ here ∷ rest) (found : Expr) (j : Input) where
  read_as : (tree : Tree) (holds : ℕ → Token → Type 0) (made : Expr) → tree_of made ≡ tree → ((at : ℕ) (tokens : List Token) → token holds at tokens → Spells tree 0 at tokens) → holds i.at here
      → ◌≡◌ {A = Option (Expr × Input)} (Some (made, after i)) (Some (found, j)) → Took (Spells (tree_of found) 0) i j
  read_as tree holds made is tell says e =
      given (λ found. Spells (tree_of found) 0) made found i (after i) j e (spelled tree made (token holds) i (after i) is tell (token_took holds i here rest row says))

  read_whole : lexeme_of here ≡ lexeme.Whole → (small : Bool) → nat_le (number_of here.value) greatest_integer ≡ small
      → reading.take_one (reading.whole_at i.at (if small then Some (pos (number_of here.value)) else None)) i ≡ Some (found, j) → Took (Spells (tree_of found) 0) i j
  read_whole kind true small e =
      let value = pos (number_of here.value) in
      read_as (whole i.at value) (λ at here. (i.at ≡ at) × IsNumber here value) (exprs.Whole i.at value) (tree_whole i.at value) (λ at tokens says. (refl, says))
      (refl, record { digits = kind; value_is = refl; small = leb-true (number_of here.value) greatest_integer small }) e
  read_whole kind false small e = absurd (cc e)

  read_truth : (value : Bool) → lexeme_of here ≡ truth_lexeme value → ◌≡◌ {A = Option (Expr × Input)} (Some (exprs.Truth i.at value, after i)) (Some (found, j)) → Took (Spells (tree_of found) 0) i j
  read_truth value kind e =
      read_as (truth i.at value) (λ at here. (i.at ≡ at) × (lexeme_of here ≡ truth_lexeme value)) (exprs.Truth i.at value) (tree_truth i.at value) (λ at tokens says. (refl, says)) (refl, kind) e

  by_kind : (kind : Lexeme) → lexeme_of here ≡ kind → reading.take_one (reading.constant_by kind i.at here.value) i ≡ Some (found, j) → Took (Spells (tree_of found) 0) i j
  unfolding reading.whole_value
  by_kind lexeme.Whole kind e = read_whole kind (nat_le (number_of here.value) greatest_integer) refl e
  by_kind lexeme.True kind e = read_truth true kind e
  by_kind lexeme.False kind e = read_truth false kind e
  by_kind lexeme.Quoted kind e =
      read_as (quoted i.at here.value) (λ at there. (i.at ≡ at) × (lexeme_of there ≡ lexeme.Quoted) × (here.value ≡ there.value)) (exprs.Quoted i.at here.value) (tree_quoted i.at here.value)
      (λ at tokens says. (refl, says)) (refl, kind, refl) e
  by_kind _ kind e = absurd (cc e)

pub sound_constant : (i : Input) (found : Expr) (j : Input) → reading.constant i ≡ Some (found, j) → Took (Spells (tree_of found) 0) i j
unfolding reading.constant
sound_constant i found j e = by i.rest refl e where
  by : (row : List Token) → i.rest ≡ row → reading.constant_in row i ≡ Some (found, j) → Took (Spells (tree_of found) 0) i j
  by [] is e = absurd (cc e)
  by (here ∷ rest) is e = by_kind i here rest is found j (lexeme_of here) refl e
