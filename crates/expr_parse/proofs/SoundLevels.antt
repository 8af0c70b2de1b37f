-- What is read of any level is of its form.
use Rattle.std.proofs.Common.{◌≡◌, refl, sym, ◌∙◌, ap, subst, arith, lit≤, ℕ, zero, suc, ◌≤◌, Bool, true, false, List, [], ◌∷◌, ◌++◌, length, Option, Some, None, if◌then◌else◌, le_trans, le_refl}
use Rattle.std.proofs.lemmas.Option.{some_pair_parts}
use Rattle.ftn_tree.specs.declared.expr.Expr.{Expr}
use Rattle.ftn_tree.specs.declared.expr.Expr.TheVariants as exprs
use Rattle.ftn_tree.specs.declared.lexeme.Lexeme.TheVariants as lexeme
use Rattle.ftn_tree.specs.declared.operator.Operator.TheVariants as ops
use Rattle.ftn_tree.specs.Lexemes.{lexeme_of}
use Rattle.ftn_tree.specs.Levels.{Binding, Prefix, between, loosest}
use Rattle.ftn_tree.specs.Trees.{tree_of}
use Rattle.ftn_tree.specs.Phrases.{◌·◌, token}
use Rattle.ftn_tree.specs.Grammar.{IsBetween, IsBefore, Spells, expr}
use Rattle.ftn_tree.specs.Grammar as grammar
use Rattle.expr_parse.specs.steps.Input.{Input, Reader, ◌>>=◌, after, sees}
use Rattle.expr_parse.specs.steps.Operators.{next_operator, next_sign, chained}
use Rattle.expr_parse.specs.steps.Reading as reading
use Rattle.expr_parse.proofs.Pieces.{Took, bind_some, took_both}
use Rattle.expr_parse.proofs.Lists as lists
use Rattle.expr_parse.proofs.Chains.{chained_last}
use Rattle.ftn_tree.proofs.Inverse.{tree_unary, tree_binary}
use Rattle.expr_parse.proofs.Takes.{retold, took_token, token_took, given}
use Rattle.expr_parse.proofs.Bindings.{power, right_some, each_sign, operator_is, sign_is}
use Rattle.expr_parse.proofs.SoundRules.{Upto, IsSound, took_expr, sound_primary, sound_named}

spells_binary : (number : ℕ) (left right : Expr) (how : Binding) (j k : ℕ) (i m : Input) → j ≤ how.left → k ≤ how.right
    → Took (Spells (tree_of left) j · token (λ at here. (number ≡ at) × IsBetween here how) · Spells (tree_of right) k) i m
    → Took (Spells (tree_of (exprs.Binary number how.operator left right)) how.level) i m
spells_binary number left right how j k i m left_small right_small took =
    retold (Spells (tree_of left) j · token (λ at here. (number ≡ at) × IsBetween here how) · Spells (tree_of right) k) (Spells (tree_of (exprs.Binary number how.operator left right)) how.level) i m
    (λ at tokens says. subst (λ tree. Spells tree how.level at tokens) (sym (tree_binary number how.operator left right)) (how, refl, refl, j, left_small, k, right_small, says)) took

module _ (read : ℕ → Reader Expr) (sound : IsSound read) where
  -- the last operand of a chain, which is to the right of those that were there
  record PowersRead (steps : List (Expr × ℕ)) (i : Input) (found : Expr) (j : Input) : Type 0 where
    last : Expr
    is : chained steps last ≡ found
    level : ℕ
    small : level ≤ 1
    took : Took (Spells (tree_of last) level) i j

  abbrev goes_on : ℕ → List (Expr × ℕ) → Expr → Reader Expr
  goes_on n steps operand k = if sees lexeme.Power k then reading.powers_from read n (steps ++ (operand, k.at) ∷ []) (after k) else Some (chained steps operand, k)

  sound_powers : (n : ℕ) (steps : List (Expr × ℕ)) (i : Input) (found : Expr) (j : Input) → reading.powers_from read n steps i ≡ Some (found, j) → PowersRead steps i found j
  unfolding reading.powers_from
  sound_powers zero steps i found j got = absurd (cc got)
  sound_powers (suc n) steps i found j got =
      let (operand, k, read_operand, rest) = bind_some (reading.primary read i) (goes_on n steps) found j got in
      by (λ operand k rest. sound_powers n (steps ++ (operand, k.at) ∷ []) (after k) found j rest) operand k (sound_primary read sound i operand k read_operand) (sees lexeme.Power k) refl rest where
        by : ((operand : Expr) (k : Input) → reading.powers_from read n (steps ++ (operand, k.at) ∷ []) (after k) ≡ Some (found, j) → PowersRead (steps ++ (operand, k.at) ∷ []) (after k) found j)
            → (operand : Expr) (k : Input) → Took (Spells (tree_of operand) 0) i k → (there : Bool) → sees lexeme.Power k ≡ there
            → (if there then reading.powers_from read n (steps ++ (operand, k.at) ∷ []) (after k) else Some (chained steps operand, k)) ≡ Some (found, j) → PowersRead steps i found j
        by onward operand k took true there got =
            let later = onward operand k got in
            let here = took_token (λ at here. lexeme_of here ≡ lexeme.Power) k (after k) (lists.took_mark lexeme.Power k there) in
            let op = token_took (λ at here. (k.at ≡ at) × IsBetween here power) k here.here (after k).rest here.row (refl, ap between here.says) in
            record {
              last = exprs.Binary k.at ops.Power operand later.last;
              is = sym (chained_last steps (operand, k.at) later.last) ∙ later.is;
              level = 1;
              small = lit≤ tt;
              took = spells_binary k.at operand later.last power 0 later.level i j (lit≤ tt) later.small
                  (took_both (Spells (tree_of operand) 0) (token (λ at here. (k.at ≡ at) × IsBetween here power) · Spells (tree_of later.last) later.level) i k j took
                  (took_both (token (λ at here. (k.at ≡ at) × IsBetween here power)) (Spells (tree_of later.last) later.level) k (after k) j op later.took));
            }
        by onward operand k took false there got =
            let same = some_pair_parts (chained steps operand) found k j got in
            record { last = operand; is = same.0; level = 0; small = lit≤ tt; took = subst (λ j. Took (Spells (tree_of operand) 0) i j) same.1 took }

  found_upto : (most level : ℕ) (made found : Expr) (i j k : Input) → level ≤ most → Took (Spells (tree_of made) level) i j → ◌≡◌ {A = Option (Expr × Input)} (Some (made, j)) (Some (found, k)) → Upto most found i k
  found_upto most level made found i j k small took got = record { level = level; small = small; took = given (λ found. Spells (tree_of found) level) made found i j k got took }

  sound_climb : (n most own level : ℕ) (left : Expr) (i j : Input) (found : Expr) (k : Input) → level ≤ own → level ≤ most → Took (Spells (tree_of left) level) i j
      → reading.climb read n most own left j ≡ Some (found, k) → Upto most found i k
  unfolding reading.climb
  sound_climb zero most own level left i j found k by_own by_most took got = found_upto most level left found i j k by_most took got
  sound_climb (suc n) most own level left i j found k by_own by_most took got =
      by (λ right how m. sound_climb n most how.level how.level (exprs.Binary j.at how.operator left right) i m found k (le_refl how.level)) (next_operator most own j) refl got where
        by : ((right : Expr) (how : Binding) (m : Input) → how.level ≤ most → Took (Spells (tree_of (exprs.Binary j.at how.operator left right)) how.level) i m
            → reading.climb read n most how.level (exprs.Binary j.at how.operator left right) m ≡ Some (found, k) → Upto most found i k)
            → (next : Option Binding) → next_operator most own j ≡ next
            → reading.go_on read next left (λ how. read how.right >>= (λ right. reading.climb read n most how.level (exprs.Binary j.at how.operator left right))) j ≡ Some (found, k) → Upto most found i k
        by onward None is got = found_upto most level left found i j k by_most took got
        by onward (Some how) is got =
            let (right, m, read_right, rest) = bind_some (read how.right (after j)) (λ right. reading.climb read n most how.level (exprs.Binary j.at how.operator left right)) found k got in
            let op = operator_is most own how j is in
            let right_took = sound how.right (after j) right m (right_some (lexeme_of op.here) how op.is) read_right in
            let op_took = token_took (λ at here. (j.at ≡ at) × IsBetween here how) j op.here op.rest op.row (refl, op.is) in
            onward right how m op.fits
            (spells_binary j.at left right how level right_took.level i m (le_trans by_own op.left) right_took.small
            (took_both (Spells (tree_of left) level) (token (λ at here. (j.at ≡ at) × IsBetween here how) · Spells (tree_of right) right_took.level) i j m took
            (took_both (token (λ at here. (j.at ≡ at) × IsBetween here how)) (Spells (tree_of right) right_took.level) j (after j) m op_took right_took.took)))
            rest

  small_first : (level most : ℕ) → level ≤ 1 → 1 ≤ most → level ≤ most
  small_first level most a b = omega arith

  limit_some : (level limit : ℕ) → 2 ≤ limit → 1 ≤ limit
  limit_some level limit some = omega arith

  sound_level : IsSound (reading.level read)
  unfolding reading.level reading.operators reading.powers
  sound_level most i found j some got = by (next_sign most i) refl got where
    by : (sign : Option Prefix) → next_sign most i ≡ sign → reading.level_by read most sign i ≡ Some (found, j) → Upto most found i j
    by None is got =
        let (first, k, read_first, rest) = bind_some (reading.powers read i) (reading.operators read most 1) found j got in
        let powers = sound_powers (length i.rest) [] i first k read_first in
        sound_climb (length k.rest) most 1 powers.level first i k found j powers.small (small_first powers.level most powers.small some)
        (subst (λ first. Took (Spells (tree_of first) powers.level) i k) powers.is powers.took) rest
    by (Some how) is got =
        let (operand, k, read_operand, rest) = bind_some (read how.operand (after i)) (λ operand. reading.operators read most how.level (exprs.Unary i.at how.operator operand)) found j got in
        let sign = sign_is most how i is in
        let facts = each_sign (lexeme_of sign.here) how sign.is in
        let operand_took = sound how.operand (after i) operand k (limit_some how.level how.operand facts.some) read_operand in
        let op = token_took (λ at here. (i.at ≡ at) × IsBefore here how) i sign.here sign.rest sign.row (refl, sign.is) in
        let phrase = token (λ at here. (i.at ≡ at) × IsBefore here how) · Spells (tree_of operand) operand_took.level in
        let took = retold phrase (Spells (tree_of (exprs.Unary i.at how.operator operand)) how.level) i k
        (λ at tokens says. subst (λ tree. Spells tree how.level at tokens) (sym (tree_unary i.at how.operator operand)) (how, refl, refl, operand_took.level, operand_took.small, says))
        (took_both (token (λ at here. (i.at ≡ at) × IsBefore here how)) (Spells (tree_of operand) operand_took.level) i (after i) k op operand_took.took) in
        sound_climb (length k.rest) most how.level how.level (exprs.Unary i.at how.operator operand) i k found j (le_refl how.level) sign.fits took rest

sound_read : (n : ℕ) → IsSound (reading.read n)
unfolding reading.read
sound_read zero most i found j some got = absurd (cc got)
sound_read (suc n) most i found j some got = sound_level (reading.read n) (sound_read n) most i found j some got

pub sound_expression : (i : Input) (found : Expr) (j : Input) → reading.expression i ≡ Some (found, j) → Took (expr found) i j
unfolding reading.expression
sound_expression i found j got = took_expr found i j (sound_read (length i.rest) loosest i found j (lit≤ tt) got)

no_level : (found : Expr) (i j : Input) → Took (Spells (tree_of found) 0) i j → Took (expr found) i j
no_level found i j took = retold (Spells (tree_of found) 0) (expr found) i j (λ at tokens says. (0, lit≤ tt, says)) took

pub sound_reference : (i : Input) (found : Expr) (j : Input) → reading.reference i ≡ Some (found, j) → Took (grammar.reference found) i j
unfolding reading.reference
sound_reference i found j got =
    let named = sound_named (reading.read (length i.rest)) (sound_read (length i.rest)) i found j got in
    retold (expr found) (grammar.reference found) i j (λ at tokens says. (named.is, says)) (no_level found i j named.took)
