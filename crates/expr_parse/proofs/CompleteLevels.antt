-- Tokens that have the form of an expression are read as it.
use Rattle.std.proofs.Common.{◌≡◌, refl, sym, ◌∙◌, ap, subst, arith, lit≤, ℕ, zero, suc, ◌≤◌, ◌<◌, true, false, List, [], ◌∷◌, ◌++◌, length, Some, ◌⊎◌, inl, inr, if◌then◌else◌, le_refl}
use Rattle.std.proofs.Math.Nat.{le_step}
use Rattle.ftn_tree.specs.declared.token.Token.{Token}
use Rattle.ftn_tree.specs.declared.expr.Expr.{Expr}
use Rattle.ftn_tree.specs.declared.expr.Expr.TheVariants as exprs
use Rattle.ftn_tree.specs.declared.lexeme.Lexeme.{Lexeme}
use Rattle.ftn_tree.specs.declared.lexeme.Lexeme.TheVariants as lexeme
use Rattle.ftn_tree.specs.declared.operator.Operator.{Operator}
use Rattle.ftn_tree.specs.Lexemes.{lexeme_of}
use Rattle.ftn_tree.specs.Levels.{Binding, Prefix, before, loosest}
use Rattle.ftn_tree.specs.Trees.{Tree, whole, truth, quoted, paren, unary, binary, refer}
use Rattle.ftn_tree.specs.Phrases.{Phrase, ◌·◌, token, mark, mark_at, name}
use Rattle.ftn_tree.specs.Grammar.{IsBetween, IsBefore, IsNumber, some_level, Spells, SpellsArgs, SpellsSection, IsExpression}
use Rattle.expr_parse.specs.steps.Input.{Input, Reader, Outcome, ◌>>=◌, after, sees, peek}
use Rattle.expr_parse.specs.steps.Operators.{next_operator, chained}
use Rattle.expr_parse.specs.steps.Reading as reading
use Rattle.expr_parse.proofs.Pieces.{Took, bind_is}
use Rattle.expr_parse.proofs.Tokens.{is_same}
use Rattle.expr_parse.proofs.Chains.{chained_last}
use Rattle.ftn_tree.proofs.Inverse.{expr_of, args_back, part_back}
use Rattle.expr_parse.proofs.Takes.{split_took, retold, no_longer, TookOne, took_token, peek_here, sees_here}
use Rattle.expr_parse.proofs.Bindings.{Ordinary, power, only_power, each_binding, level_some, each_sign, operator_here, sign_here}
use Rattle.expr_parse.proofs.Stops.{Stops, weaker, no_operator, no_power, stops_operator, no_sign_before, begun_some}
use Rattle.expr_parse.proofs.CompleteRules.{IsComplete, constant_here, whole_is, complete_parens, complete_named, fewer}

-- the tokens of a binary operator and of its operands
record BinaryTook (number : ℕ) (operator : Operator) (left right : Tree) (level : ℕ) (i j : Input) : Type 0 where
  how : Binding
  is_operator : operator ≡ how.operator
  is_level : level ≡ how.level
  left_level : ℕ
  left_small : left_level ≤ how.left
  right_level : ℕ
  right_small : right_level ≤ how.right
  op_at : Input
  right_at : Input
  took_left : Took (Spells left left_level) i op_at
  op : TookOne (λ at here. (number ≡ at) × IsBetween here how) op_at right_at
  took_right : Took (Spells right right_level) right_at j

took_binary : (number : ℕ) (operator : Operator) (left right : Tree) (level : ℕ) (i j : Input) → Took (Spells (binary number operator left right) level) i j → BinaryTook number operator left right level i j
took_binary number operator left right level i j took = by took.says where
  by : Spells (binary number operator left right) level i.at took.tokens → BinaryTook number operator left right level i j
  by (how, is_operator, is_level, l, left_small, r, right_small, says) =
      let op = token (λ at here. (number ≡ at) × IsBetween here how) in
      let outer = split_took (Spells left l) (op · Spells right r) i j (record { tokens = took.tokens; rest = took.rest; at = took.at; says = says }) in
      let inner = split_took op (Spells right r) outer.middle j outer.second in
      record {
        how = how;
        is_operator = is_operator;
        is_level = is_level;
        left_level = l;
        left_small = left_small;
        right_level = r;
        right_small = right_small;
        op_at = outer.middle;
        right_at = inner.middle;
        took_left = outer.first;
        op = took_token (λ at here. (number ≡ at) × IsBetween here how) outer.middle inner.middle inner.first;
        took_right = inner.second;
      }

record UnaryTook (number : ℕ) (operator : Operator) (operand : Tree) (level : ℕ) (i j : Input) : Type 0 where
  how : Prefix
  is_operator : operator ≡ how.operator
  is_level : level ≡ how.level
  operand_level : ℕ
  operand_small : operand_level ≤ how.operand
  operand_at : Input
  op : TookOne (λ at here. (number ≡ at) × IsBefore here how) i operand_at
  took : Took (Spells operand operand_level) operand_at j

took_unary : (number : ℕ) (operator : Operator) (operand : Tree) (level : ℕ) (i j : Input) → Took (Spells (unary number operator operand) level) i j → UnaryTook number operator operand level i j
took_unary number operator operand level i j took = by took.says where
  by : Spells (unary number operator operand) level i.at took.tokens → UnaryTook number operator operand level i j
  by (how, is_operator, is_level, k, small, says) =
      let op = token (λ at here. (number ≡ at) × IsBefore here how) in
      let parts = split_took op (Spells operand k) i j (record { tokens = took.tokens; rest = took.rest; at = took.at; says = says }) in
      record {
        how = how;
        is_operator = is_operator;
        is_level = is_level;
        operand_level = k;
        operand_small = small;
        operand_at = parts.middle;
        op = took_token (λ at here. (number ≡ at) × IsBefore here how) i parts.middle parts.first;
        took = parts.second;
      }

-- what follows a level that is 0, told of the rest
at_zero : (tree : Tree) (level : ℕ) (phrase : Phrase) (i j : Input) → ((at : ℕ) (tokens : List Token) → Spells tree level at tokens → phrase at tokens) → Took (Spells tree level) i j → Took phrase i j
at_zero tree level phrase i j tell took = retold (Spells tree level) phrase i j tell took

no_primary : (level made : ℕ) → level ≡ 0 → level ≡ made → 1 ≤ made → ⊥
no_primary level made a b c = absurd (omega arith)

no_sign_level : (level limit : ℕ) → level ≡ 0 → level ≡ suc limit → ⊥
no_sign_level level limit a b = absurd (omega arith)

no_sign_low : (level limit : ℕ) → level ≤ 1 → level ≡ suc limit → 2 ≤ limit → ⊥
no_sign_low level limit a b c = absurd (omega arith)

module _ (read : ℕ → Reader Expr) (n : ℕ) (complete : IsComplete read n) where
  primary_is : (kind : Lexeme) (i : Input) (gives : Outcome Expr) → peek i ≡ Some kind → reading.primary_by read (Some kind) i ≡ gives → reading.primary read i ≡ gives
  unfolding reading.primary
  primary_is kind i gives peeked is = ap (λ kind. reading.primary_by read kind i) peeked ∙ is

  complete_primary : (tree : Tree) (level : ℕ) (i j : Input) → level ≡ 0 → Took (Spells tree level) i j → length i.rest ≤ suc n → sees lexeme.Open j ≡ false → reading.primary read i ≡ Some (expr_of tree, j)
  complete_primary (whole number value) level i j zero_level took small unopened =
      let holds = λ (at : ℕ) (here : Token). (number ≡ at) × IsNumber here value in
      let one = took_token holds i j (at_zero (whole number value) level (token holds) i j (λ at tokens (is, says). says) took) in
      let peeked = peek_here i one.here j.rest one.row ∙ ap Some one.says.1.digits in
      primary_is lexeme.Whole i (Some (exprs.Whole number value, j)) peeked
      (constant_here i one.here j.rest lexeme.Whole one.row one.says.1.digits ∙ whole_is i.at i j one.here number value one.says.0 one.next one.says.1)
  complete_primary (truth number true) level i j zero_level took small unopened =
      let holds = λ (at : ℕ) (here : Token). (number ≡ at) × (lexeme_of here ≡ lexeme.True) in
      let one = took_token holds i j (at_zero (truth number true) level (token holds) i j (λ at tokens (is, says). says) took) in
      primary_is lexeme.True i (Some (exprs.Truth number true, j)) (peek_here i one.here j.rest one.row ∙ ap Some one.says.1)
      (constant_here i one.here j.rest lexeme.True one.row one.says.1 ∙ ap (λ number. Some (exprs.Truth number true, after i)) (sym one.says.0) ∙ ap (λ next. Some (exprs.Truth number true, next)) one.next)
  complete_primary (truth number false) level i j zero_level took small unopened =
      let holds = λ (at : ℕ) (here : Token). (number ≡ at) × (lexeme_of here ≡ lexeme.False) in
      let one = took_token holds i j (at_zero (truth number false) level (token holds) i j (λ at tokens (is, says). says) took) in
      primary_is lexeme.False i (Some (exprs.Truth number false, j)) (peek_here i one.here j.rest one.row ∙ ap Some one.says.1)
      (constant_here i one.here j.rest lexeme.False one.row one.says.1 ∙ ap (λ number. Some (exprs.Truth number false, after i)) (sym one.says.0) ∙ ap (λ next. Some (exprs.Truth number false, next)) one.next)
  complete_primary (quoted number value) level i j zero_level took small unopened =
      let holds = λ (at : ℕ) (here : Token). (number ≡ at) × (lexeme_of here ≡ lexeme.Quoted) × (value ≡ here.value) in
      let one = took_token holds i j (at_zero (quoted number value) level (token holds) i j (λ at tokens (is, says). says) took) in
      primary_is lexeme.Quoted i (Some (exprs.Quoted number value, j)) (peek_here i one.here j.rest one.row ∙ ap Some one.says.1)
      (constant_here i one.here j.rest lexeme.Quoted one.row one.says.1
      ∙ ap (λ number. Some (exprs.Quoted number one.here.value, after i)) (sym one.says.0) ∙ ap (λ value. Some (exprs.Quoted number value, after i)) (sym one.says.2)
      ∙ ap (λ next. Some (exprs.Quoted number value, next)) one.next)
  complete_primary (paren number inner) level i j zero_level took small unopened =
      let phrase = mark_at number lexeme.Open · some_level (Spells inner) · mark lexeme.Close in
      let (peeked, is) = complete_parens read n complete number inner i j (at_zero (paren number inner) level phrase i j (λ at tokens (is, says). says) took) small in
      primary_is lexeme.Open i (Some (exprs.Paren number (expr_of inner), j)) peeked is
  complete_primary (unary number operator operand) level i j zero_level took small unopened =
      let parts = took_unary number operator operand level i j took in
      let facts = each_sign (lexeme_of parts.op.here) parts.how parts.op.says.1 in
      absurd (no_sign_level level parts.how.operand zero_level (parts.is_level ∙ facts.above))
  complete_primary (binary number operator left right) level i j zero_level took small unopened =
      let parts = took_binary number operator left right level i j took in
      absurd (no_primary level parts.how.level zero_level parts.is_level (level_some (lexeme_of parts.op.here) parts.how parts.op.says.1).0)
  complete_primary (refer number given part) level i j zero_level took small unopened =
      let phrase = name number · SpellsArgs given · SpellsSection part in
      let (peeked, is) = complete_named read n complete number given part i j (at_zero (refer number given part) level phrase i j (λ at tokens (is, says). says) took) small unopened in
      primary_is lexeme.Word i (Some (exprs.Refer number (args_back given) (part_back part), j)) peeked is

  -- ---- chains of `**`

  abbrev goes_on : ℕ → List (Expr × ℕ) → Expr → Reader Expr
  goes_on turns steps operand k = if sees lexeme.Power k then reading.powers_from read turns (steps ++ (operand, k.at) ∷ []) (after k) else Some (chained steps operand, k)

  last_operand : (tree : Tree) (level limit turns : ℕ) (steps : List (Expr × ℕ)) (i j : Input) → level ≡ 0 → Took (Spells tree level) i j → length i.rest ≤ suc n → length i.rest ≤ turns → 1 ≤ limit → Stops limit j
      → reading.powers_from read turns steps i ≡ Some (chained steps (expr_of tree), j)
  unfolding reading.powers_from
  last_operand tree level limit zero steps i j zero_level took small enough some stops = absurd (begun_some tree level i j took enough)
  last_operand tree level limit (suc turns) steps i j zero_level took small enough some stops =
      let answer = Some (chained steps (expr_of tree), j) in
      bind_is (reading.primary read i) (goes_on turns steps) (expr_of tree) j answer (complete_primary tree level i j zero_level took small stops.unopened)
      (ap (λ there. if there then reading.powers_from read turns (steps ++ (expr_of tree, j.at) ∷ []) (after j) else Some (chained steps (expr_of tree), j)) (no_power limit j some stops))

  next_operand : (number : ℕ) (operator : Operator) (left right : Tree) (level turns : ℕ) (steps : List (Expr × ℕ)) (i j : Input) (parts : BinaryTook number operator left right level i j) → power ≡ parts.how → length i.rest ≤ suc n
      → reading.powers_from read turns (steps ++ (expr_of left, number) ∷ []) parts.right_at ≡ Some (chained (steps ++ (expr_of left, number) ∷ []) (expr_of right), j)
      → reading.powers_from read (suc turns) steps i ≡ Some (chained steps (exprs.Binary number operator (expr_of left) (expr_of right)), j)
  unfolding reading.powers_from
  next_operand number operator left right level turns steps i j parts is small onward =
      let answer = Some (chained steps (exprs.Binary number operator (expr_of left) (expr_of right)), j) in
      let k = parts.op_at in
      let holds = λ (at : ℕ) (here : Token). (number ≡ at) × IsBetween here parts.how in
      let stops = stops_operator holds parts.how 0 k parts.right_at parts.op parts.op.says.1 (level_some (lexeme_of parts.op.here) parts.how parts.op.says.1).0 in
      let left_zero = none_left parts.left_level parts.how.left parts.left_small (sym (ap (λ (how : Binding). how.left) is)) in
      let seen = sees_here lexeme.Power k parts.op.here parts.right_at.rest parts.op.row ∙ is_same (lexeme_of parts.op.here) lexeme.Power (only_power (lexeme_of parts.op.here) (parts.op.says.1 ∙ ap Some (sym is))) in
      bind_is (reading.primary read i) (goes_on turns steps) (expr_of left) k answer (complete_primary left parts.left_level i k left_zero parts.took_left small stops.unopened)
      (ap (λ there. if there then reading.powers_from read turns (steps ++ (expr_of left, k.at) ∷ []) (after k) else Some (chained steps (expr_of left), k)) seen
      ∙ ap (λ at. reading.powers_from read turns (steps ++ (expr_of left, at) ∷ []) (after k)) (sym parts.op.says.0)
      ∙ ap (λ next. reading.powers_from read turns (steps ++ (expr_of left, number) ∷ []) next) parts.op.next
      ∙ onward ∙ ap (λ all. Some (all, j)) (chained_last steps (expr_of left, number) (expr_of right))
      ∙ ap (λ operator. Some (chained steps (exprs.Binary number operator (expr_of left) (expr_of right)), j)) (ap (λ (how : Binding). how.operator) is ∙ sym parts.is_operator)) where
        none_left : (level left : ℕ) → level ≤ left → left ≡ 0 → level ≡ 0
        none_left level left small e = omega arith

  fewer_turns : (longer left right turns : ℕ) → left ≤ longer → left ≡ suc right → longer ≤ suc turns → right ≤ turns
  fewer_turns longer left right turns a b c = omega arith

  no_turn : (longer left right : ℕ) → left ≤ longer → left ≡ suc right → longer ≤ 0 → ⊥
  no_turn longer left right a b c = absurd (omega arith)

  -- where an operator's level is 1, it is `**`
  power_is : (how : Binding) (level : ℕ) → (power ≡ how) ⊎ Ordinary how → level ≤ 1 → level ≡ how.level → power ≡ how
  power_is how level (inl is) small is_level = is
  power_is how level (inr ordinary) small is_level = absurd (contrary how.level how.right ordinary.level ordinary.right) where
    contrary : (made right : ℕ) → made ≡ suc right → 1 ≤ right → ⊥
    contrary made right a b = absurd (omega arith)

  chain : (tree : Tree) (level limit turns : ℕ) (steps : List (Expr × ℕ)) (i j : Input) → level ≤ 1 → Took (Spells tree level) i j → length i.rest ≤ suc n → length i.rest ≤ turns → 1 ≤ limit → Stops limit j
      → reading.powers_from read turns steps i ≡ Some (chained steps (expr_of tree), j)
  chain (whole number value) level limit turns steps i j low took small enough some stops = last_operand (whole number value) level limit turns steps i j took.says.0 took small enough some stops
  chain (truth number value) level limit turns steps i j low took small enough some stops = last_operand (truth number value) level limit turns steps i j took.says.0 took small enough some stops
  chain (quoted number value) level limit turns steps i j low took small enough some stops = last_operand (quoted number value) level limit turns steps i j took.says.0 took small enough some stops
  chain (paren number inner) level limit turns steps i j low took small enough some stops = last_operand (paren number inner) level limit turns steps i j took.says.0 took small enough some stops
  chain (refer number given part) level limit turns steps i j low took small enough some stops = last_operand (refer number given part) level limit turns steps i j took.says.0 took small enough some stops
  chain (unary number operator operand) level limit turns steps i j low took small enough some stops =
      let parts = took_unary number operator operand level i j took in
      let facts = each_sign (lexeme_of parts.op.here) parts.how parts.op.says.1 in
      absurd (no_sign_low level parts.how.operand low (parts.is_level ∙ facts.above) facts.some)
  chain (binary number operator left right) level limit zero steps i j low took small enough some stops =
      let parts = took_binary number operator left right level i j took in
      absurd (no_turn (length i.rest) (length parts.op_at.rest) (length parts.right_at.rest) (no_longer (Spells left parts.left_level) i parts.op_at parts.took_left) parts.op.shorter enough)
  chain (binary number operator left right) level limit (suc turns) steps i j low took small enough some stops =
      let parts = took_binary number operator left right level i j took in
      let is = power_is parts.how level (each_binding (lexeme_of parts.op.here) parts.how parts.op.says.1) low parts.is_level in
      let before_op = no_longer (Spells left parts.left_level) i parts.op_at parts.took_left in
      let right_low = subst (λ (how : Binding). parts.right_level ≤ how.right) (sym is) parts.right_small in
      next_operand number operator left right level turns steps i j parts is small
      (chain right parts.right_level limit turns (steps ++ (expr_of left, number) ∷ []) parts.right_at j right_low parts.took_right
      (fewer_turns (length i.rest) (length parts.op_at.rest) (length parts.right_at.rest) (suc n) before_op parts.op.shorter (more_turns (length i.rest) small))
      (fewer_turns (length i.rest) (length parts.op_at.rest) (length parts.right_at.rest) turns before_op parts.op.shorter enough) some stops) where
        more_turns : (longer : ℕ) → longer ≤ suc n → longer ≤ suc (suc n)
        more_turns longer small = omega arith

  -- ---- operators between operands

  -- what was read of the tree, and goes on from there
  record Climbs (tree : Tree) (level most : ℕ) (i j : Input) : Type 0 where
    turns : ℕ
    own : ℕ
    enough : length j.rest ≤ turns
    own_small : (bound : ℕ) → 1 ≤ bound → level ≤ bound → own ≤ bound
    is : reading.level read most i ≡ reading.climb read turns most own (expr_of tree) j

  low_climbs : (tree : Tree) (level most limit : ℕ) (i j : Input) → level ≤ 1 → Took (Spells tree level) i j → length i.rest ≤ suc n → 1 ≤ limit → Stops limit j → Climbs tree level most i j
  unfolding reading.level reading.operators reading.powers
  low_climbs tree level most limit i j low took small some stops = record {
    turns = length j.rest;
    own = 1;
    enough = le_refl (length j.rest);
    own_small = λ bound one below. one;
    is = ap (λ sign. reading.level_by read most sign i) (no_sign_before tree level most i j low took)
        ∙ bind_is (reading.powers read i) (reading.operators read most 1) (expr_of tree) j (reading.climb read (length j.rest) most 1 (expr_of tree) j)
        (chain tree level limit (length i.rest) [] i j low took small (le_refl (length i.rest)) some stops) refl;
  }

  sign_climbs : (number : ℕ) (operator : Operator) (operand : Tree) (level most limit : ℕ) (i j : Input) → Took (Spells (unary number operator operand) level) i j → length i.rest ≤ suc n → level ≤ most → level ≤ suc limit → Stops limit j → Climbs (unary number operator operand) level most i j
  unfolding reading.level reading.operators
  sign_climbs number operator operand level most limit i j took small fits edge stops =
      let parts = took_unary number operator operand level i j took in
      let how = parts.how in
      let facts = each_sign (lexeme_of parts.op.here) how parts.op.says.1 in
      let read_operand = complete operand parts.operand_level how.operand parts.operand_at j (one_of how.operand facts.some) parts.took parts.operand_small
      (fewer (length i.rest) (length parts.operand_at.rest) n parts.op.shorter small) (weaker limit how.operand j (at_edge level limit how.operand edge (parts.is_level ∙ facts.above)) stops) in
      record {
        turns = length j.rest;
        own = how.level;
        enough = le_refl (length j.rest);
        own_small = λ bound one below. subst (λ level. level ≤ bound) parts.is_level below;
        is = ap (λ sign. reading.level_by read most sign i) (sign_here most how i parts.op.here parts.operand_at.rest parts.op.row parts.op.says.1 (subst (λ level. level ≤ most) parts.is_level fits))
            ∙ ap (λ next. (read how.operand >>= (λ operand. reading.operators read most how.level (exprs.Unary i.at how.operator operand))) next) parts.op.next
            ∙ bind_is (read how.operand parts.operand_at) (λ operand. reading.operators read most how.level (exprs.Unary i.at how.operator operand)) (expr_of operand) j
            (reading.climb read (length j.rest) most how.level (exprs.Unary i.at how.operator (expr_of operand)) j) read_operand refl
            ∙ ap (λ number. reading.climb read (length j.rest) most how.level (exprs.Unary number how.operator (expr_of operand)) j) (sym parts.op.says.0)
            ∙ ap (λ operator. reading.climb read (length j.rest) most how.level (exprs.Unary number operator (expr_of operand)) j) (sym parts.is_operator);
      } where
        one_of : (limit : ℕ) → 2 ≤ limit → 1 ≤ limit
        one_of limit some = omega arith

        at_edge : (level limit operand_limit : ℕ) → level ≤ suc limit → level ≡ suc operand_limit → operand_limit ≤ limit
        at_edge level limit operand_limit a b = omega arith

  -- one turn: an operator and its right operand
  climb_on : (number : ℕ) (operator : Operator) (left right : Tree) (level most limit : ℕ) (i j : Input) (parts : BinaryTook number operator left right level i j) → Ordinary parts.how → length i.rest ≤ suc n → level ≤ most → level ≤ suc limit → Stops limit j
      → Climbs left parts.left_level most i parts.op_at → Climbs (binary number operator left right) level most i j
  unfolding reading.climb
  climb_on number operator left right level most limit i j parts ordinary small fits edge stops before = by before.turns before.enough before.is where
    k : Input
    k = parts.op_at

    next_is : next_operator most before.own k ≡ Some parts.how
    next_is = operator_here most before.own parts.how k parts.op.here parts.right_at.rest parts.op.row parts.op.says.1 (subst (λ level. level ≤ most) parts.is_level fits)
        (before.own_small parts.how.left ordinary.left_some parts.left_small)

    few : (longer left right : ℕ) → left ≤ longer → left ≡ suc right → longer ≤ suc n → right ≤ n
    few longer left right a b c = omega arith

    at_edge : (level limit made right : ℕ) → level ≤ suc limit → level ≡ made → made ≡ suc right → right ≤ limit
    at_edge level limit made right a b c = omega arith

    read_right : read parts.how.right parts.right_at ≡ Some (expr_of right, j)
    read_right = complete right parts.right_level parts.how.right parts.right_at j ordinary.right parts.took_right parts.right_small
        (few (length i.rest) (length k.rest) (length parts.right_at.rest) (no_longer (Spells left parts.left_level) i k parts.took_left) parts.op.shorter small)
        (weaker limit parts.how.right j (at_edge level limit parts.how.level parts.how.right edge parts.is_level ordinary.level) stops)

    by : (turns : ℕ) → length k.rest ≤ turns → reading.level read most i ≡ reading.climb read turns most before.own (expr_of left) k → Climbs (binary number operator left right) level most i j
    by zero enough is = absurd (contrary (length k.rest) (length parts.right_at.rest) parts.op.shorter enough) where
      contrary : (left right : ℕ) → left ≡ suc right → left ≤ 0 → ⊥
      contrary left right a b = absurd (omega arith)
    by (suc turns) enough is = record {
      turns = turns;
      own = parts.how.level;
      enough = turns_left (length k.rest) (length parts.right_at.rest) (length j.rest) turns parts.op.shorter (no_longer (Spells right parts.right_level) parts.right_at j parts.took_right) enough;
      own_small = λ bound one below. subst (λ level. level ≤ bound) parts.is_level below;
      is = is
          ∙ ap (λ next. reading.go_on read next (expr_of left) (λ how. read how.right >>= (λ right. reading.climb read turns most how.level (exprs.Binary k.at how.operator (expr_of left) right))) k) next_is
          ∙ ap (λ next. (read parts.how.right >>= (λ right. reading.climb read turns most parts.how.level (exprs.Binary k.at parts.how.operator (expr_of left) right))) next) parts.op.next
          ∙ bind_is (read parts.how.right parts.right_at) (λ right. reading.climb read turns most parts.how.level (exprs.Binary k.at parts.how.operator (expr_of left) right)) (expr_of right) j
          (reading.climb read turns most parts.how.level (exprs.Binary k.at parts.how.operator (expr_of left) (expr_of right)) j) read_right refl
          ∙ ap (λ number. reading.climb read turns most parts.how.level (exprs.Binary number parts.how.operator (expr_of left) (expr_of right)) j) (sym parts.op.says.0)
          ∙ ap (λ operator. reading.climb read turns most parts.how.level (exprs.Binary number operator (expr_of left) (expr_of right)) j) (sym parts.is_operator);
    } where
      turns_left : (left right last turns : ℕ) → left ≡ suc right → last ≤ right → left ≤ suc turns → last ≤ turns
      turns_left left right last turns a b c = omega arith

  lowest : (level : ℕ) → level ≡ 0 → level ≤ 1
  lowest level e = omega arith

  -- the tree is read, where what follows can't go on with its right edge
  spine : (tree : Tree) (level most limit : ℕ) (i j : Input) → Took (Spells tree level) i j → length i.rest ≤ suc n → level ≤ most → 1 ≤ limit → level ≤ suc limit → Stops limit j → Climbs tree level most i j
  spine (whole number value) level most limit i j took small fits some edge stops = low_climbs (whole number value) level most limit i j (lowest level took.says.0) took small some stops
  spine (truth number value) level most limit i j took small fits some edge stops = low_climbs (truth number value) level most limit i j (lowest level took.says.0) took small some stops
  spine (quoted number value) level most limit i j took small fits some edge stops = low_climbs (quoted number value) level most limit i j (lowest level took.says.0) took small some stops
  spine (paren number inner) level most limit i j took small fits some edge stops = low_climbs (paren number inner) level most limit i j (lowest level took.says.0) took small some stops
  spine (refer number given part) level most limit i j took small fits some edge stops = low_climbs (refer number given part) level most limit i j (lowest level took.says.0) took small some stops
  spine (unary number operator operand) level most limit i j took small fits some edge stops = sign_climbs number operator operand level most limit i j took small fits edge stops
  spine (binary number operator left right) level most limit i j took small fits some edge stops =
      by parts (λ limit some edge stops. spine left parts.left_level most limit i parts.op_at parts.took_left small (left_fits parts.left_level parts.how.left parts.how.level level most parts.left_small (level_some (lexeme_of parts.op.here) parts.how parts.op.says.1).1 parts.is_level fits) some edge stops)
      (each_binding (lexeme_of parts.op.here) parts.how parts.op.says.1) where
        parts : BinaryTook number operator left right level i j
        parts = took_binary number operator left right level i j took

        left_fits : (left_level left made level most : ℕ) → left_level ≤ left → left ≤ made → level ≡ made → level ≤ most → left_level ≤ most
        left_fits left_level left made level most a b c d = omega arith

        left_edge : (left_level left made right : ℕ) → left_level ≤ left → left ≤ made → made ≡ suc right → left_level ≤ suc right
        left_edge left_level left made right a b c = omega arith

        below : (made right : ℕ) → made ≡ suc right → right < made
        below made right e = omega arith

        one_level : (level made : ℕ) → level ≡ made → 1 ≡ made → level ≤ 1
        one_level level made a b = omega arith

        by : (parts : BinaryTook number operator left right level i j) → ((limit : ℕ) → 1 ≤ limit → parts.left_level ≤ suc limit → Stops limit parts.op_at → Climbs left parts.left_level most i parts.op_at)
            → (power ≡ parts.how) ⊎ Ordinary parts.how → Climbs (binary number operator left right) level most i j
        by parts onward (inl is) = low_climbs (binary number operator left right) level most limit i j (one_level level parts.how.level parts.is_level (ap (λ (how : Binding). how.level) is)) took small some stops
        by parts onward (inr ordinary) =
            let holds = λ (at : ℕ) (here : Token). (number ≡ at) × IsBetween here parts.how in
            climb_on number operator left right level most limit i j parts ordinary small fits edge stops
            (onward parts.how.right ordinary.right (left_edge parts.left_level parts.how.left parts.how.level parts.how.right parts.left_small ordinary.left ordinary.level)
            (stops_operator holds parts.how parts.how.right parts.op_at parts.right_at parts.op parts.op.says.1 (below parts.how.level parts.how.right ordinary.level)))

  climb_ends : (turns most own : ℕ) (left : Expr) (j : Input) → Stops most j → reading.climb read turns most own left j ≡ Some (left, j)
  unfolding reading.climb
  climb_ends zero most own left j stops = refl
  climb_ends (suc turns) most own left j stops =
      ap (λ next. reading.go_on read next left (λ how. read how.right >>= (λ right. reading.climb read turns most how.level (exprs.Binary j.at how.operator left right))) j) (no_operator most own j stops)

  complete_level : IsComplete (reading.level read) (suc n)
  complete_level tree level most i j some took fits small stops =
      let climbs = spine tree level most most i j took small fits some (le_step fits) stops in
      climbs.is ∙ climb_ends climbs.turns most climbs.own (expr_of tree) j stops

pub complete_read : (n : ℕ) → IsComplete (reading.read n) n
unfolding reading.read
complete_read zero tree level most i j some took fits small stops = absurd (begun_some tree level i j took small)
complete_read (suc n) tree level most i j some took fits small stops = complete_level (reading.read n) n (complete_read n) tree level most i j some took fits small stops

pub complete_expression : (tree : Tree) (i j : Input) → Took (IsExpression tree) i j → Stops loosest j → reading.expression i ≡ Some (expr_of tree, j)
unfolding reading.expression
complete_expression tree i j took stops = by took.says where
  by : IsExpression tree i.at took.tokens → reading.read (length i.rest) loosest i ≡ Some (expr_of tree, j)
  by (level, fits, says) = complete_read (length i.rest) tree level loosest i j (lit≤ tt) (record { tokens = took.tokens; rest = took.rest; at = took.at; says = says }) fits (le_refl (length i.rest)) stops
