-- Facts on how operators bind.
use Rattle.std.proofs.Common.{◌≡◌, refl, ◌∙◌, ap, subst, arith, lit≤, ℕ, suc, ◌≤◌, Bool, true, false, ◌&&◌, List, [], ◌∷◌, Option, Some, None, ◌⊎◌, inl, inr}
use Rattle.std.specs.Prelude.{nat_le, if◌then◌else◌}
use Rattle.std.proofs.lemmas.Option.{same_Some}
use Rattle.std.proofs.lemmas.Bool.{leb-true, and_parts, le-leb}
use Rattle.ftn_tree.specs.declared.token.Token.{Token}
use Rattle.ftn_tree.specs.declared.lexeme.Lexeme.{Lexeme}
use Rattle.ftn_tree.specs.declared.operator.Operator.{Operator}
use Rattle.ftn_tree.specs.declared.operator.Operator.TheVariants as ops
use Rattle.ftn_tree.specs.declared.lexeme.Lexeme.TheVariants as lexeme
use Rattle.ftn_tree.specs.Lexemes.{lexeme_of}
use Rattle.ftn_tree.specs.Levels.{Binding, Prefix, between, before}
use Rattle.ftn_tree.specs.Grammar.{IsBetween, IsBefore}
use Rattle.expr_parse.specs.steps.Input.{Input, first_lexeme, peek}
use Rattle.expr_parse.specs.steps.Operators.{next_operator, next_sign, only_between, only_before, between_at, before_at, fits_between}

-- an operator that makes an expression of a greater level than that of its right operand
pub record Ordinary (how : Binding) : Type 0 where
  pub level : how.level ≡ suc how.right
  pub right : 1 ≤ how.right
  pub left : how.left ≤ how.level
  pub left_some : 1 ≤ how.left

abbrev pub power : Binding
power = record { operator = ops.Power; level = 1; left = 0; right = 1 }

abbrev how_or : Binding → Option Binding → Binding
how_or other None = other
how_or other (Some how) = how

abbrev Either : Binding → Type 0
Either how = (power ≡ how) ⊎ Ordinary how

by_numbers : (op : Operator) (level left right : ℕ) (how : Binding) → ◌≡◌ {A = Option Binding} (Some (record { operator = op; level = level; left = left; right = right })) (Some how) → level ≡ suc right → 1 ≤ right → left ≤ level → 1 ≤ left → Either how
by_numbers op level left right how e a b c d = inr (subst Ordinary (same_Some _ how e) (record { level = a; right = b; left = c; left_some = d }))

pub each_binding : (kind : Lexeme) (how : Binding) → between kind ≡ Some how → Either how
each_binding lexeme.Power how e = inl (same_Some _ how e)
each_binding lexeme.Times how e = by_numbers ops.Times 2 2 1 how e refl (lit≤ tt) (lit≤ tt) (lit≤ tt)
each_binding lexeme.Divide how e = by_numbers ops.Divide 2 2 1 how e refl (lit≤ tt) (lit≤ tt) (lit≤ tt)
each_binding lexeme.Plus how e = by_numbers ops.Plus 3 3 2 how e refl (lit≤ tt) (lit≤ tt) (lit≤ tt)
each_binding lexeme.Minus how e = by_numbers ops.Minus 3 3 2 how e refl (lit≤ tt) (lit≤ tt) (lit≤ tt)
each_binding lexeme.Concat how e = by_numbers ops.Concat 4 4 3 how e refl (lit≤ tt) (lit≤ tt) (lit≤ tt)
each_binding lexeme.Eq how e = by_numbers ops.Eq 5 4 4 how e refl (lit≤ tt) (lit≤ tt) (lit≤ tt)
each_binding lexeme.Ne how e = by_numbers ops.Ne 5 4 4 how e refl (lit≤ tt) (lit≤ tt) (lit≤ tt)
each_binding lexeme.Lt how e = by_numbers ops.Lt 5 4 4 how e refl (lit≤ tt) (lit≤ tt) (lit≤ tt)
each_binding lexeme.Le how e = by_numbers ops.Le 5 4 4 how e refl (lit≤ tt) (lit≤ tt) (lit≤ tt)
each_binding lexeme.Gt how e = by_numbers ops.Gt 5 4 4 how e refl (lit≤ tt) (lit≤ tt) (lit≤ tt)
each_binding lexeme.Ge how e = by_numbers ops.Ge 5 4 4 how e refl (lit≤ tt) (lit≤ tt) (lit≤ tt)
each_binding lexeme.And how e = by_numbers ops.And 7 7 6 how e refl (lit≤ tt) (lit≤ tt) (lit≤ tt)
each_binding lexeme.Or how e = by_numbers ops.Or 8 8 7 how e refl (lit≤ tt) (lit≤ tt) (lit≤ tt)
each_binding lexeme.Eqv how e = by_numbers ops.Eqv 9 9 8 how e refl (lit≤ tt) (lit≤ tt) (lit≤ tt)
each_binding lexeme.Neqv how e = by_numbers ops.Neqv 9 9 8 how e refl (lit≤ tt) (lit≤ tt) (lit≤ tt)
each_binding _ how e = absurd (cc e)

other_binding : {A : Type 0} (op : Operator) (level left right : ℕ) → ◌≡◌ {A = Option Binding} (Some (record { operator = op; level = level; left = left; right = right })) (Some power) → 2 ≤ level → A
other_binding op level left right e above = absurd (contrary (ap (λ (how : Binding). how.level) (same_Some _ power e))) where
  contrary : level ≡ 1 → ⊥
  contrary is = absurd (omega arith)

pub only_power : (kind : Lexeme) → between kind ≡ Some power → kind ≡ lexeme.Power
only_power lexeme.Power e = refl
only_power lexeme.Times e = other_binding ops.Times 2 2 1 e (lit≤ tt)
only_power lexeme.Divide e = other_binding ops.Divide 2 2 1 e (lit≤ tt)
only_power lexeme.Plus e = other_binding ops.Plus 3 3 2 e (lit≤ tt)
only_power lexeme.Minus e = other_binding ops.Minus 3 3 2 e (lit≤ tt)
only_power lexeme.Concat e = other_binding ops.Concat 4 4 3 e (lit≤ tt)
only_power lexeme.Eq e = other_binding ops.Eq 5 4 4 e (lit≤ tt)
only_power lexeme.Ne e = other_binding ops.Ne 5 4 4 e (lit≤ tt)
only_power lexeme.Lt e = other_binding ops.Lt 5 4 4 e (lit≤ tt)
only_power lexeme.Le e = other_binding ops.Le 5 4 4 e (lit≤ tt)
only_power lexeme.Gt e = other_binding ops.Gt 5 4 4 e (lit≤ tt)
only_power lexeme.Ge e = other_binding ops.Ge 5 4 4 e (lit≤ tt)
only_power lexeme.And e = other_binding ops.And 7 7 6 e (lit≤ tt)
only_power lexeme.Or e = other_binding ops.Or 8 8 7 e (lit≤ tt)
only_power lexeme.Eqv e = other_binding ops.Eqv 9 9 8 e (lit≤ tt)
only_power lexeme.Neqv e = other_binding ops.Neqv 9 9 8 e (lit≤ tt)
only_power _ e = absurd (cc e)

pub right_some : (kind : Lexeme) (how : Binding) → between kind ≡ Some how → 1 ≤ how.right
right_some kind how e = by (each_binding kind how e) where
  by : Either how → 1 ≤ how.right
  by (inl is) = subst (λ how. 1 ≤ how.right) is (lit≤ tt)
  by (inr ordinary) = ordinary.right

-- only `**` makes an expression of level 1
pub level_some : (kind : Lexeme) (how : Binding) → between kind ≡ Some how → (1 ≤ how.level) × (how.left ≤ how.level)
level_some kind how e = by (each_binding kind how e) where
  by : Either how → (1 ≤ how.level) × (how.left ≤ how.level)
  by (inl is) = subst (λ how. (1 ≤ how.level) × (how.left ≤ how.level)) is (lit≤ tt, lit≤ tt)
  by (inr ordinary) = (above how.level how.right ordinary.level ordinary.right, ordinary.left) where
    above : (level right : ℕ) → level ≡ suc right → 1 ≤ right → 1 ≤ level
    above level right e some = omega arith

pub record IsSign (how : Prefix) : Type 0 where
  pub above : how.level ≡ suc how.operand
  pub some : 2 ≤ how.operand

abbrev prefix_or : Prefix → Option Prefix → Prefix
prefix_or other None = other
prefix_or other (Some how) = how

by_prefix : (op : Operator) (level operand : ℕ) (how : Prefix) → ◌≡◌ {A = Option Prefix} (Some (record { operator = op; level = level; operand = operand })) (Some how) → level ≡ suc operand → 2 ≤ operand → IsSign how
by_prefix op level operand how e a b = subst IsSign (same_Some _ how e) (record { above = a; some = b })

pub each_sign : (kind : Lexeme) (how : Prefix) → before kind ≡ Some how → IsSign how
each_sign lexeme.Plus how e = by_prefix ops.Plus 3 2 how e refl (lit≤ tt)
each_sign lexeme.Minus how e = by_prefix ops.Minus 3 2 how e refl (lit≤ tt)
each_sign lexeme.Not how e = by_prefix ops.Not 6 5 how e refl (lit≤ tt)
each_sign _ how e = absurd (cc e)

-- ---- the next operator

pub record NextOperator (most own : ℕ) (how : Binding) (i : Input) : Type 0 where
  pub here : Token
  pub rest : List Token
  pub row : i.rest ≡ here ∷ rest
  pub is : IsBetween here how
  pub fits : how.level ≤ most
  pub left : own ≤ how.left

pub operator_is : (most own : ℕ) (how : Binding) (i : Input) → next_operator most own i ≡ Some how → NextOperator most own how i
unfolding next_operator peek
operator_is most own how i e = by_row i.rest refl e where
  by_fit : (here : Token) (rest : List Token) → i.rest ≡ here ∷ rest → (found : Binding) → between (lexeme_of here) ≡ Some found → (fits : Bool) → fits_between most own found ≡ fits
      → (if fits then Some found else None) ≡ Some how → NextOperator most own how i
  by_fit here rest row found is true fits e =
      let both = and_parts (nat_le found.level most) (nat_le own found.left) fits in
      subst (λ how. NextOperator most own how i) (same_Some found how e)
      (record { here = here; rest = rest; row = row; is = is; fits = leb-true found.level most both.0; left = leb-true own found.left both.1 })
  by_fit here rest row found is false fits e = absurd (cc e)

  by_how : (here : Token) (rest : List Token) → i.rest ≡ here ∷ rest → (found : Option Binding) → between (lexeme_of here) ≡ found → only_between most own found ≡ Some how → NextOperator most own how i
  by_how here rest row None is e = absurd (cc e)
  by_how here rest row (Some found) is e = by_fit here rest row found is (fits_between most own found) refl e

  by_row : (row : List Token) → i.rest ≡ row → only_between most own (between_at (first_lexeme row)) ≡ Some how → NextOperator most own how i
  by_row [] row e = absurd (cc e)
  by_row (here ∷ rest) row e = by_how here rest row (between (lexeme_of here)) refl e

pub record Sign (most : ℕ) (how : Prefix) (i : Input) : Type 0 where
  pub here : Token
  pub rest : List Token
  pub row : i.rest ≡ here ∷ rest
  pub is : IsBefore here how
  pub fits : how.level ≤ most

pub sign_is : (most : ℕ) (how : Prefix) (i : Input) → next_sign most i ≡ Some how → Sign most how i
unfolding next_sign peek
sign_is most how i e = by_row i.rest refl e where
  by_fit : (here : Token) (rest : List Token) → i.rest ≡ here ∷ rest → (found : Prefix) → before (lexeme_of here) ≡ Some found → (fits : Bool) → nat_le found.level most ≡ fits
      → (if fits then Some found else None) ≡ Some how → Sign most how i
  by_fit here rest row found is true fits e =
      subst (λ how. Sign most how i) (same_Some found how e) (record { here = here; rest = rest; row = row; is = is; fits = leb-true found.level most fits })
  by_fit here rest row found is false fits e = absurd (cc e)

  by_how : (here : Token) (rest : List Token) → i.rest ≡ here ∷ rest → (found : Option Prefix) → before (lexeme_of here) ≡ found → only_before most found ≡ Some how → Sign most how i
  by_how here rest row None is e = absurd (cc e)
  by_how here rest row (Some found) is e = by_fit here rest row found is (nat_le found.level most) refl e

  by_row : (row : List Token) → i.rest ≡ row → only_before most (before_at (first_lexeme row)) ≡ Some how → Sign most how i
  by_row [] row e = absurd (cc e)
  by_row (here ∷ rest) row e = by_how here rest row (before (lexeme_of here)) refl e

-- the other way round: such an operator is taken
pub operator_here : (most own : ℕ) (how : Binding) (i : Input) (here : Token) (rest : List Token) → i.rest ≡ here ∷ rest → IsBetween here how → how.level ≤ most → own ≤ how.left → next_operator most own i ≡ Some how
unfolding next_operator peek
operator_here most own how i here rest row is fits left =
    ap (λ row. only_between most own (between_at (first_lexeme row))) row ∙ ap (only_between most own) is
    ∙ ap (λ fits. if fits && nat_le own how.left then Some how else None) (le-leb how.level most fits) ∙ ap (λ fits. if fits then Some how else None) (le-leb own how.left left)

pub sign_here : (most : ℕ) (how : Prefix) (i : Input) (here : Token) (rest : List Token) → i.rest ≡ here ∷ rest → IsBefore here how → how.level ≤ most → next_sign most i ≡ Some how
unfolding next_sign peek
sign_here most how i here rest row is fits =
    ap (λ row. only_before most (before_at (first_lexeme row))) row ∙ ap (only_before most) is ∙ ap (λ fits. if fits then Some how else None) (le-leb how.level most fits)
