-- Whole numbers, and LEN before a length.
use Rattle.std.proofs.Common.{◌≡◌, refl, sym, ◌∙◌, ap, subst, arith, ℕ, ◌+◌, ℤ, Bool, true, false, List, [], ◌∷◌, ◌++◌, length, Some, None, ◌⊎◌, inl, inr, codes}
use Rattle.std.proofs.lemmas.Grind.{common_steps}
use Rattle.std.proofs.lemmas.Option.{some_pair_parts}
use Rattle.std.proofs.lemmas.Bool.{and_left, and_right, and_from}
use denote.Hole.Carrier
use Rattle.ftn_tree.specs.declared.token.Token.{Token}
use Rattle.ftn_tree.specs.declared.expr.Expr.{Expr, out-Expr}
use Rattle.ftn_tree.specs.declared.expr.Expr.TheOpen.{Expr-F}
use Rattle.ftn_tree.specs.declared.expr.Expr.TheVariants as made
use Rattle.ftn_tree.specs.declared.expr.Expr.TheViews.{roll-Expr, roll-out-Expr}
use Rattle.ftn_tree.specs.Layers.{ExprLayer}
use Rattle.ftn_tree.specs.declared.lexeme.Lexeme.{Lexeme}
use Rattle.ftn_tree.specs.declared.lexeme.Lexeme.TheVariants.{Word, Whole, Open, Times, Equals}
use Rattle.ftn_tree.specs.Lexemes.{lexeme_of, same_lexeme, is_word}
use Rattle.ftn_tree.specs.declared.expr.Expr.TheFolds.{fold-roll-Expr}
use Rattle.ftn_tree.specs.Trees.{Tree, Section, whole, refer, no_args, no_section, tree_step, part_step}
use Rattle.ftn_tree.specs.Phrases.{Phrase}
use Rattle.ftn_tree.specs.Grammar.{expr, Spells}
use Rattle.ftn_tree.specs.TypeForms as form
use Rattle.ftn_tree.proofs.Inverse.{tree_whole, tree_refer}
use Rattle.expr_parse.specs.steps.Input.{input, sees_word, peek_second}
use Rattle.expr_parse.proofs.Pieces.{Apart, begins}
use Rattle.expr_parse.proofs.AllKinds.{apart}
use Rattle.expr_parse.proofs.Tokens.{only, is_same, same_is}
use Rattle.expr_parse.proofs.Operands.{ReadsExpressions, starts, goes_on, begun_expr}
use Rattle.spec_parse.specs.steps.Types.{whole_of, whole_at, sees_len, is_equals_at}
use Rattle.spec_parse.proofs.Seen.{hidden}

-- ---- facts on kinds

pub starts_no_times : Apart starts (only Times)
unfolding same_lexeme
starts_no_times = apart starts (only Times) refl

pub whole_no_word : Apart (only Whole) (only Word)
unfolding same_lexeme
whole_no_word = apart (only Whole) (only Word) refl

pub whole_no_open : Apart (only Whole) (only Open)
unfolding same_lexeme
whole_no_open = apart (only Whole) (only Open) refl

pub open_no_times : Apart (only Open) (only Times)
unfolding same_lexeme
open_no_times = apart (only Open) (only Times) refl

equals_no_more : Apart (only Equals) goes_on
unfolding same_lexeme
equals_no_more = apart (only Equals) goes_on refl

equals_same : (kind : Lexeme) → is_equals_at (Some kind) ≡ only Equals kind
unfolding same_lexeme
equals_same Equals = refl
equals_same _ = refl

pub times_no_word : Apart (only Times) (only Word)
unfolding same_lexeme
times_no_word = apart (only Times) (only Word) refl

-- ---- whole numbers

spells_whole : (number : ℕ) (value : ℤ) (level at : ℕ) (tokens : List Token) → Spells (whole number value) level at tokens → form.whole_number number value at tokens
spells_whole number value level at tokens (zero_level, says) = says

pub is_whole : (number : ℕ) (value : ℤ) (at : ℕ) (tokens : List Token) → expr (roll-Expr (Expr-F.Whole number value)) at tokens → form.whole_number number value at tokens
is_whole number value at tokens (level, small, says) = spells_whole number value level at tokens
    (subst (λ tree. Spells tree level at tokens) (fold-roll-Expr Tree Section tree_step part_step (Expr-F.Whole number value)) says)

pub whole_is : (number : ℕ) (value : ℤ) (at : ℕ) (tokens : List Token) → form.whole_number number value at tokens → expr (made.Whole number value) at tokens
whole_is number value at tokens says = (0, omega arith, subst (λ tree. Spells tree 0 at tokens) (sym (tree_whole number value)) (refl, says))

abbrev pub number_phrase : ℕ × ℤ → Phrase
number_phrase both = form.whole_number both.0 both.1

number_made_at : (layer : ExprLayer) (both : ℕ × ℤ) (at : ℕ) (tokens : List Token) → whole_at layer ≡ Some both → expr (roll-Expr layer) at tokens → form.whole_number both.0 both.1 at tokens
number_made_at (Expr-F.Whole number value) both at tokens is says =
    let same = some_pair_parts {A = ℕ} {B = ℤ} number both.0 value both.1 is in
    subst (λ value. form.whole_number both.0 value at tokens) same.1 (subst (λ number. form.whole_number number value at tokens) same.0 (is_whole number value at tokens says))
number_made_at _ both at tokens is says = absurd (cc is)

pub number_made : (e : Expr) (both : ℕ × ℤ) (at : ℕ) (tokens : List Token) → whole_of e ≡ Some both → expr e at tokens → form.whole_number both.0 both.1 at tokens
number_made e both at tokens is says = number_made_at (out-Expr e) both at tokens is (subst (λ e. expr e at tokens) (sym (roll-out-Expr e)) says)

pub number_back : (both : ℕ × ℤ) (at : ℕ) (tokens : List Token) → form.whole_number both.0 both.1 at tokens → (e : Expr) × (whole_of e ≡ Some both) × expr e at tokens
unfolding out-Expr denote.Hole.Carrier.out
number_back both at tokens says = (made.Whole both.0 both.1, refl, whole_is both.0 both.1 at tokens says)

pub number_begun : (both : ℕ × ℤ) (at : ℕ) (tokens : List Token) → form.whole_number both.0 both.1 at tokens → (begins (only Whole) tokens ≡ true) ⊎ ((tokens ≡ []) × (false ≡ true))
number_begun both at tokens (here, split, (is_at, is_number)) = inl (subst (λ tokens. begins (only Whole) tokens ≡ true) (sym split) (is_same (lexeme_of here) Whole is_number.digits))

-- ---- LEN and `=`

-- a word, `=` and more
pub shows_len : (here equals : Token) (at : ℕ) (rest : List Token) → is_word (codes "len") here ≡ true → lexeme_of equals ≡ Equals → sees_len (input at (here ∷ equals ∷ rest)) ≡ true
unfolding sees_len sees_word peek_second
shows_len here equals at rest is e = and_from (is_word (codes "len") here) (is_equals_at (Some (lexeme_of equals))) is (equals_same (lexeme_of equals) ∙ is_same (lexeme_of equals) Equals e)

-- no `=` comes second
no_equals : (here : Token) (at : ℕ) (rest : List Token) → begins (only Equals) rest ≡ false → sees_len (input at (here ∷ rest)) ≡ false
unfolding sees_len sees_word peek_second
no_equals here at [] e = and_right (is_word (codes "len") here) false refl
no_equals here at (second ∷ rest) e = and_right (is_word (codes "len") here) (is_equals_at (Some (lexeme_of second))) (equals_same (lexeme_of second) ∙ e)

-- the first token is no word
pub no_len : (here : Token) (at : ℕ) (rest : List Token) → only Word (lexeme_of here) ≡ false → sees_len (input at (here ∷ rest)) ≡ false
unfolding sees_len
no_len here at rest e = and_left (sees_word (codes "len") (input at (here ∷ rest))) (is_equals_at (peek_second (input at (here ∷ rest)))) (hidden (codes "len") at (here ∷ rest) e)

name_spelled : (here : Token) (at : ℕ) → lexeme_of here ≡ Word → Spells (refer at no_args no_section) 0 at (here ∷ [])
name_spelled here at is = (refl, (here ∷ [], [], refl, (here, refl, (refl, is)), ([], [], refl, refl, refl)))

name_alone : (here : Token) (at : ℕ) → lexeme_of here ≡ Word → expr (made.Refer at None None) at (here ∷ [])
name_alone here at is = (0, omega arith, subst (λ tree. Spells tree 0 at (here ∷ [])) (sym (tree_refer at None None)) (name_spelled here at is))

module _ (laws : ReadsExpressions) where
  -- two tokens are read as one
  one_too_many : (e : Expr) (here equals : Token) (at : ℕ) (more rest : List Token) → only Word (lexeme_of here) ≡ true → only Equals (lexeme_of equals) ≡ true
      → expr e at (here ∷ equals ∷ more) → begins goes_on rest ≡ false → ⊥
  one_too_many e here equals at more rest is_name is_equals says stops =
      let whole = laws.complete e at (here ∷ equals ∷ more) rest says stops in
      let one = laws.complete (made.Refer at None None) at (here ∷ []) (equals ∷ (more ++ rest)) (name_alone here at (same_is (lexeme_of here) Word is_name)) (equals_no_more (lexeme_of equals) is_equals) in
      let same = some_pair_parts e (made.Refer at None None) (input (at + length (here ∷ equals ∷ more)) rest) (input (at + length (here ∷ [])) (equals ∷ (more ++ rest))) (sym whole ∙ one) in
      let place : at + length (here ∷ equals ∷ more) ≡ at + length (here ∷ []) = ap (λ i. i.at) same.1 in
      longer place where
        longer : at + length (here ∷ equals ∷ more) ≡ at + length (here ∷ []) → ⊥
        longer place = grind (arith, common_steps)

  -- an expression doesn't begin with LEN and `=`
  pub expression_no_len : (e : Expr) (at : ℕ) (tokens rest : List Token) → expr e at tokens → begins goes_on rest ≡ false → begins (only Equals) rest ≡ false → sees_len (input at (tokens ++ rest)) ≡ false
  expression_no_len e at [] rest says stops none = nothing_begins (begun_expr e at [] says) where
    nothing_begins : (begins starts [] ≡ true) ⊎ ((◌≡◌ {A = List Token} [] []) × (false ≡ true)) → sees_len (input at rest) ≡ false
    nothing_begins (inl e) = absurd (cc e)
    nothing_begins (inr e) = absurd (cc e.1)
  expression_no_len e at (here ∷ []) rest says stops none = no_equals here at rest none
  expression_no_len e at (here ∷ second ∷ more) rest says stops none = by (only Word (lexeme_of here)) (only Equals (lexeme_of second)) refl refl where
    by : (named equals : Bool) → only Word (lexeme_of here) ≡ named → only Equals (lexeme_of second) ≡ equals → sees_len (input at (here ∷ second ∷ (more ++ rest))) ≡ false
    by false equals is_name is_equals = no_len here at (second ∷ (more ++ rest)) is_name
    by true false is_name is_equals = no_equals here at (second ∷ (more ++ rest)) is_equals
    by true true is_name is_equals = absurd (one_too_many e here second at more rest is_name is_equals says stops)
