-- Tokens with which an expression doesn't go on.
use Rattle.std.proofs.Common.{◌≡◌, refl, sym, ◌∙◌, ap, subst, arith, ℕ, suc, ◌≤◌, ◌<◌, Bool, true, false, ◌&&◌, List, [], ◌∷◌, ◌++◌, length, Option, Some, None, lt_of_le_of_lt}
use Rattle.std.specs.Prelude.{nat_le, nat_lt, if◌then◌else◌}
use Rattle.std.proofs.lemmas.Bool.{ltb-true, lt-ltb, lt-leb}
use Rattle.ftn_tree.specs.declared.token.Token.{Token}
use Rattle.ftn_tree.specs.declared.lexeme.Lexeme.{Lexeme}
use Rattle.ftn_tree.specs.declared.lexeme.Lexeme.TheVariants as lexeme
use Rattle.ftn_tree.specs.Lexemes.{lexeme_of, same_lexeme}
use Rattle.ftn_tree.specs.Levels.{Binding, Prefix, between, before}
use Rattle.ftn_tree.specs.Trees.{Tree, whole, truth, quoted, paren, unary, binary, refer}
use Rattle.ftn_tree.specs.Grammar.{IsBetween, truth_lexeme, Spells}
use Rattle.expr_parse.specs.steps.Input.{Input, holds_first, first_lexeme, sees, peek}
use Rattle.expr_parse.specs.steps.Operators.{next_operator, next_sign, only_between, only_before, between_at, before_at}
use Rattle.expr_parse.proofs.Pieces.{Took, Apart, begins, begins_after}
use Rattle.expr_parse.proofs.AllKinds.{apart}
use Rattle.expr_parse.proofs.Tokens.{only, same_is}
use Rattle.expr_parse.proofs.Operands.{starts, begun_tree}
use Rattle.expr_parse.proofs.Takes.{TookOne, peek_here, peek_seen, sees_here}
use Rattle.expr_parse.proofs.Bindings.{level_some, each_sign}

-- an operator that binds more loosely than that level, or none
abbrev pub looser : ℕ → Option Binding → Bool
looser most None = true
looser most (Some how) = nat_lt most how.level

-- an expression of at most that level ends there
pub record Stops (most : ℕ) (i : Input) : Type 0 where
  pub unopened : sees lexeme.Open i ≡ false
  pub loose : looser most (between_at (peek i)) ≡ true

pub weaker : (most less : ℕ) (i : Input) → less ≤ most → Stops most i → Stops less i
weaker most less i small stops = record { unopened = stops.unopened; loose = by (between_at (peek i)) stops.loose } where
  by : (how : Option Binding) → looser most how ≡ true → looser less how ≡ true
  by None e = refl
  by (Some how) e = lt-ltb less how.level (lt_of_le_of_lt small (ltb-true most how.level e))

pub no_operator : (most own : ℕ) (i : Input) → Stops most i → next_operator most own i ≡ None
unfolding next_operator
no_operator most own i stops = by (between_at (peek i)) stops.loose where
  by : (how : Option Binding) → looser most how ≡ true → only_between most own how ≡ None
  by None e = refl
  by (Some how) e =
      ap (λ fits. if fits && nat_le own how.left then Some how else None) (lt-leb how.level most (ltb-true most how.level e))

pub no_power : (most : ℕ) (i : Input) → 1 ≤ most → Stops most i → sees lexeme.Power i ≡ false
no_power most i some stops = by (sees lexeme.Power i) refl where
  contrary : nat_lt most 1 ≡ true → ⊥
  contrary e = let small : most < 1 = ltb-true most 1 e in absurd (omega arith)

  by : (there : Bool) → sees lexeme.Power i ≡ there → there ≡ false
  by true e = absurd (contrary (sym (ap (λ kind. looser most (between_at kind)) (peek_seen lexeme.Power i e)) ∙ stops.loose))
  by false e = refl

pub sees_peeked : (kind other : Lexeme) (i : Input) → peek i ≡ Some kind → sees other i ≡ same_lexeme kind other
unfolding peek sees
sees_peeked kind other i e = by i.rest e where
  lexeme_or : Lexeme → Option Lexeme → Lexeme
  lexeme_or first None = first
  lexeme_or first (Some found) = found

  by : (row : List Token) → first_lexeme row ≡ Some kind → holds_first (λ here. same_lexeme (lexeme_of here) other) row ≡ same_lexeme kind other
  by [] e = absurd (cc e)
  by (here ∷ rest) e = let is : lexeme_of here ≡ kind = cc e in ap (λ kind. same_lexeme kind other) is

pub stops_at : (kind : Lexeme) (most : ℕ) (i : Input) → between kind ≡ None → same_lexeme kind lexeme.Open ≡ false → peek i ≡ Some kind → Stops most i
stops_at kind most i none unopened e = record {
  unopened = sees_peeked kind lexeme.Open i e ∙ unopened;
  loose = ap (λ kind. looser most (between_at kind)) e ∙ ap (looser most) none;
}

pub stops_close : (most : ℕ) (i : Input) → peek i ≡ Some lexeme.Close → Stops most i
unfolding same_lexeme
stops_close most i e = stops_at lexeme.Close most i refl refl e

pub stops_comma : (most : ℕ) (i : Input) → peek i ≡ Some lexeme.Comma → Stops most i
unfolding same_lexeme
stops_comma most i e = stops_at lexeme.Comma most i refl refl e

pub stops_colon : (most : ℕ) (i : Input) → peek i ≡ Some lexeme.Colon → Stops most i
unfolding same_lexeme
stops_colon most i e = stops_at lexeme.Colon most i refl refl e

pub close_no_colon : (i : Input) → peek i ≡ Some lexeme.Close → sees lexeme.Colon i ≡ false
unfolding same_lexeme
close_no_colon i e = sees_peeked lexeme.Close lexeme.Colon i e

pub close_no_comma : (i : Input) → peek i ≡ Some lexeme.Close → sees lexeme.Comma i ≡ false
unfolding same_lexeme
close_no_comma i e = sees_peeked lexeme.Close lexeme.Comma i e

pub comma_no_colon : (i : Input) → peek i ≡ Some lexeme.Comma → sees lexeme.Colon i ≡ false
unfolding same_lexeme
comma_no_colon i e = sees_peeked lexeme.Comma lexeme.Colon i e

pub colon_no_close : (i : Input) → peek i ≡ Some lexeme.Colon → sees lexeme.Close i ≡ false
unfolding same_lexeme
colon_no_close i e = sees_peeked lexeme.Colon lexeme.Close i e

-- an operand ends at an operator of a greater level
pub stops_operator : (holds : ℕ → Token → Type 0) (how : Binding) (most : ℕ) (i j : Input) (one : TookOne holds i j) → IsBetween one.here how → most < how.level → Stops most i
stops_operator holds how most i j one is small = record { unopened = by (sees lexeme.Open i) refl; loose = ap (λ kind. looser most (between_at kind)) peeked ∙ ap (looser most) is ∙ lt-ltb most how.level small } where
  peeked : peek i ≡ Some (lexeme_of one.here)
  peeked = peek_here i one.here j.rest one.row

  by : (there : Bool) → sees lexeme.Open i ≡ there → there ≡ false
  by true e = absurd (cc (sym (ap between (same_is (lexeme_of one.here) lexeme.Open (sym (sees_here lexeme.Open i one.here j.rest one.row) ∙ e))) ∙ is))
  by false e = refl

-- ---- what an expression begins with

begun : (tree : Tree) (level : ℕ) (i j : Input) → Took (Spells tree level) i j → begins starts i.rest ≡ true
begun tree level i j took = subst (λ row. begins starts row ≡ true) (sym took.rest) (begins_after starts took.tokens j.rest (begun_tree tree level i.at took.tokens took.says))

starts_no_close : Apart starts (only lexeme.Close)
unfolding same_lexeme
starts_no_close = apart starts (only lexeme.Close) refl

pub starts_no_colon : Apart starts (only lexeme.Colon)
unfolding same_lexeme
starts_no_colon = apart starts (only lexeme.Colon) refl

unseen : (kind : Lexeme) (i : Input) → Apart starts (only kind) → begins starts i.rest ≡ true → sees kind i ≡ false
unfolding sees
unseen kind i apart e = by i.rest e where
  by : (row : List Token) → begins starts row ≡ true → holds_first (λ here. same_lexeme (lexeme_of here) kind) row ≡ false
  by [] e = refl
  by (here ∷ rest) e = apart (lexeme_of here) e

pub begun_no_close : (tree : Tree) (level : ℕ) (i j : Input) → Took (Spells tree level) i j → sees lexeme.Close i ≡ false
begun_no_close tree level i j took = unseen lexeme.Close i starts_no_close (begun tree level i j took)

pub begun_no_colon : (tree : Tree) (level : ℕ) (i j : Input) → Took (Spells tree level) i j → sees lexeme.Colon i ≡ false
begun_no_colon tree level i j took = unseen lexeme.Colon i starts_no_colon (begun tree level i j took)

pub begun_some : (tree : Tree) (level : ℕ) (i j : Input) → Took (Spells tree level) i j → length i.rest ≤ 0 → ⊥
begun_some tree level i j took none = by i.rest (begun tree level i j took) none where
  by : (row : List Token) → begins starts row ≡ true → length row ≤ 0 → ⊥
  by [] e none = absurd (cc e)
  by (here ∷ rest) e none = absurd (omega arith)

-- ---- a primary, or a chain of powers, begins with no operator

abbrev no_sign : Option Prefix → Bool
no_sign None = true
no_sign (Some how) = false

abbrev unsigned : Lexeme → Bool
unsigned kind = no_sign (before kind)

one_token : (kind : Lexeme) (here : Token) (tokens : List Token) → unsigned kind ≡ true → tokens ≡ here ∷ [] → lexeme_of here ≡ kind → begins unsigned tokens ≡ true
one_token kind here tokens e split is = subst (λ tokens. begins unsigned tokens ≡ true) (sym split) (ap unsigned is ∙ e)

first_part : (before after tokens : List Token) → tokens ≡ before ++ after → begins unsigned before ≡ true → begins unsigned tokens ≡ true
first_part before after tokens split e = subst (λ tokens. begins unsigned tokens ≡ true) (sym split) (begins_after unsigned before after e)

truth_unsigned : (value : Bool) → unsigned (truth_lexeme value) ≡ true
truth_unsigned true = refl
truth_unsigned false = refl

too_great : (level limit : ℕ) → level ≤ 1 → level ≡ suc limit → 2 ≤ limit → ⊥
too_great level limit a b c = absurd (omega arith)

small_left : (level made left j : ℕ) → level ≤ 1 → level ≡ made → left ≤ made → j ≤ left → j ≤ 1
small_left level made left j a b c d = omega arith

unsigned_tree : (tree : Tree) (level at : ℕ) (tokens : List Token) → level ≤ 1 → Spells tree level at tokens → begins unsigned tokens ≡ true
unsigned_tree (whole number value) level at tokens small (zero_level, (here, split, (is_at, number_is))) = one_token lexeme.Whole here tokens refl split number_is.digits
unsigned_tree (truth number value) level at tokens small (zero_level, (here, split, (is_at, is))) = one_token (truth_lexeme value) here tokens (truth_unsigned value) split is
unsigned_tree (quoted number value) level at tokens small (zero_level, (here, split, (is_at, is, value_is))) = one_token lexeme.Quoted here tokens refl split is
unsigned_tree (paren number inner) level at tokens small (zero_level, (before, after, split, (here, is_one, (is_at, is)), rest)) = first_part before after tokens split (one_token lexeme.Open here before refl is_one is)
unsigned_tree (unary number operator operand) level at tokens small (how, is_operator, is_level, k, small_operand, (before, after, split, (here, is_one, (is_at, is)), rest)) =
    let facts = each_sign (lexeme_of here) how is in absurd (too_great level how.operand small (is_level ∙ facts.above) facts.some)
unsigned_tree (binary number operator left right) level at tokens small (how, is_operator, is_level, j, j_small, k, k_small, (before, after, split, says, (op_tokens, right_tokens, op_split, (op, op_one, (op_at, op_is)), rest))) =
    first_part before after tokens split (unsigned_tree left j at before (small_left level how.level how.left j small is_level (level_some (lexeme_of op) how op_is).1 j_small) says)
unsigned_tree (refer number given part) level at tokens small (zero_level, (before, after, split, (here, is_one, (is_at, is)), rest)) = first_part before after tokens split (one_token lexeme.Word here before refl is_one is)

pub no_sign_before : (tree : Tree) (level most : ℕ) (i j : Input) → level ≤ 1 → Took (Spells tree level) i j → next_sign most i ≡ None
unfolding next_sign peek
no_sign_before tree level most i j small took =
    by i.rest (subst (λ row. begins unsigned row ≡ true) (sym took.rest) (begins_after unsigned took.tokens j.rest (unsigned_tree tree level i.at took.tokens small took.says))) where
      by_sign : (how : Option Prefix) → no_sign how ≡ true → only_before most how ≡ None
      by_sign None e = refl
      by_sign (Some how) e = absurd (cc e)

      by : (row : List Token) → begins unsigned row ≡ true → only_before most (before_at (first_lexeme row)) ≡ None
      by [] e = refl
      by (here ∷ rest) e = by_sign (before (lexeme_of here)) e
