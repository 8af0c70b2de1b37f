-- Tokens that have the form of a primary are read as it, where this holds of the expressions inside.
use Rattle.std.proofs.Common.{◌≡◌, refl, sym, ◌∙◌, ap, subst, arith, lit≤, ℕ, zero, suc, ◌≤◌, ℤ, pos, Bool, true, false, List, [], ◌∷◌, ◌++◌, length, Option, Some, None, append_assoc, if◌then◌else◌, le_trans, le_refl}
use Rattle.std.proofs.lemmas.Bool.{le-leb}
use Rattle.std.proofs.lemmas.List.{append-nil}
use Rattle.ftn_base.specs.Limits.{greatest_integer}
use Rattle.ftn_tree.specs.declared.token.Token.{Token}
use Rattle.ftn_tree.specs.declared.expr.Expr.{Expr}
use Rattle.ftn_tree.specs.declared.expr.Expr.TheVariants as exprs
use Rattle.ftn_tree.specs.declared.expr.Expr.TheViews.{roll-Part}
use Rattle.ftn_tree.specs.declared.lexeme.Lexeme.{Lexeme}
use Rattle.ftn_tree.specs.declared.lexeme.Lexeme.TheVariants as lexeme
use Rattle.ftn_tree.specs.Lexemes.{lexeme_of}
use Rattle.ftn_tree.specs.Levels.{loosest}
use Rattle.ftn_tree.specs.Breaks.{number_of}
use Rattle.ftn_tree.specs.Trees.{Tree, Trees, Args, Section, End, no_args, args, none, more, no_section, section, no_end, end}
use Rattle.ftn_tree.specs.Phrases.{nothing, ◌·◌, mark, mark_at, name, in_parens}
use Rattle.ftn_tree.specs.Grammar.{IsNumber, some_level, Spells, SpellsArgs, SpellsMore, SpellsSection, SpellsEnd}
use Rattle.expr_parse.specs.steps.Input.{Input, Reader, ◌>>=◌, ◌>>◌, pure, after, after_if, sees, expect, eat, peek}
use Rattle.expr_parse.specs.steps.Combinators.{◌<$>◌, each_after_comma_from}
use Rattle.expr_parse.specs.steps.Reading as reading
use Rattle.expr_parse.proofs.Pieces.{Took, bind_is}
use Rattle.ftn_tree.proofs.Inverse.{expr_of, args_back, exprs_of, part_back, end_back}
use Rattle.expr_parse.proofs.Takes.{split_took, took_nothing, no_longer, Seen, took_mark, took_mark_at}
use Rattle.expr_parse.proofs.Stops.{Stops, stops_close, stops_comma, stops_colon, close_no_colon, close_no_comma, comma_no_colon, colon_no_close, begun_no_close, begun_no_colon}

abbrev pub IsComplete : (ℕ → Reader Expr) → ℕ → Type 0
IsComplete read n = (tree : Tree) (level most : ℕ) (i j : Input) → 1 ≤ most → Took (Spells tree level) i j → level ≤ most → length i.rest ≤ n → Stops most j → read most i ≡ Some (expr_of tree, j)

-- ---- constants

pub whole_is : (at : ℕ) (i j : Input) (here : Token) (number : ℕ) (value : ℤ) → number ≡ i.at → after i ≡ j → IsNumber here value
    → reading.take_one (reading.whole_at i.at (reading.whole_value here.value)) i ≡ Some (exprs.Whole number value, j)
unfolding reading.whole_value
whole_is at i j here number value is_at next is =
    ap (λ small. reading.take_one (reading.whole_at i.at (if small then Some (pos (number_of here.value)) else None)) i) (le-leb (number_of here.value) greatest_integer is.small)
    ∙ ap (λ number. Some (exprs.Whole number (pos (number_of here.value)), after i)) (sym is_at)
    ∙ ap (λ value. Some (exprs.Whole number value, after i)) (sym is.value_is)
    ∙ ap (λ next. Some (exprs.Whole number value, next)) next

pub constant_here : (i : Input) (here : Token) (rest : List Token) (kind : Lexeme) → i.rest ≡ here ∷ rest → lexeme_of here ≡ kind → reading.constant i ≡ reading.take_one (reading.constant_by kind i.at here.value) i
unfolding reading.constant
constant_here i here rest kind row is = ap (λ row. reading.constant_in row i) row ∙ ap (λ kind. reading.take_one (reading.constant_by kind i.at here.value) i) is

pub fewer : (longer rest n : ℕ) → longer ≡ suc rest → longer ≤ suc n → rest ≤ n
fewer longer rest n e small = omega arith

module _ (read : ℕ → Reader Expr) (n : ℕ) (complete : IsComplete read n) where
  complete_some : (tree : Tree) (i j : Input) → Took (some_level (Spells tree)) i j → length i.rest ≤ n → Stops loosest j → read loosest i ≡ Some (expr_of tree, j)
  complete_some tree i j took small stops = by took.says where
    by : some_level (Spells tree) i.at took.tokens → read loosest i ≡ Some (expr_of tree, j)
    by (level, fits, says) = complete tree level loosest i j (lit≤ tt) (record { tokens = took.tokens; rest = took.rest; at = took.at; says = says }) fits small stops

  some_no_close : (tree : Tree) (i j : Input) → Took (some_level (Spells tree)) i j → sees lexeme.Close i ≡ false
  some_no_close tree i j took = by took.says where
    by : some_level (Spells tree) i.at took.tokens → sees lexeme.Close i ≡ false
    by (level, fits, says) = begun_no_close tree level i j (record { tokens = took.tokens; rest = took.rest; at = took.at; says = says })

  some_no_colon : (tree : Tree) (i j : Input) → Took (some_level (Spells tree)) i j → sees lexeme.Colon i ≡ false
  some_no_colon tree i j took = by took.says where
    by : some_level (Spells tree) i.at took.tokens → sees lexeme.Colon i ≡ false
    by (level, fits, says) = begun_no_colon tree level i j (record { tokens = took.tokens; rest = took.rest; at = took.at; says = says })

  pub complete_parens : (number : ℕ) (inner : Tree) (i j : Input) → Took (mark_at number lexeme.Open · some_level (Spells inner) · mark lexeme.Close) i j → length i.rest ≤ suc n
      → (peek i ≡ Some lexeme.Open) × (reading.parenthesized read i ≡ Some (exprs.Paren number (expr_of inner), j))
  unfolding reading.parenthesized
  complete_parens number inner i j took small =
      let outer = split_took (mark_at number lexeme.Open) (some_level (Spells inner) · mark lexeme.Close) i j took in
      let inside = split_took (some_level (Spells inner)) (mark lexeme.Close) outer.middle j outer.second in
      let (is_at, opened) = took_mark_at number lexeme.Open i outer.middle outer.first in
      let closed = took_mark lexeme.Close inside.middle j inside.second in
      let few = fewer (length i.rest) (length outer.middle.rest) n opened.shorter small in
      let answer = Some (exprs.Paren i.at (expr_of inner), j) in (
        opened.peeked,
        bind_is (expect lexeme.Open i) (λ at. read loosest >>= (λ inner. expect lexeme.Close >> pure (exprs.Paren at inner))) i.at outer.middle answer opened.expected
            (bind_is (read loosest outer.middle) (λ inner. expect lexeme.Close >> pure (exprs.Paren i.at inner)) (expr_of inner) inside.middle answer
            (complete_some inner outer.middle inside.middle inside.first few (stops_close loosest inside.middle closed.peeked))
            (bind_is (expect lexeme.Close inside.middle) (λ at. pure (exprs.Paren i.at (expr_of inner))) inside.middle.at j answer closed.expected refl))
            ∙ ap (λ number. Some (exprs.Paren number (expr_of inner), j)) (sym is_at),
      )

  -- ---- substring ranges

  complete_end : (until : Lexeme) (bound : End) (i j : Input) → ((tree : Tree) (i j : Input) → Took (some_level (Spells tree)) i j → sees until i ≡ false)
      → Took (SpellsEnd bound) i j → length i.rest ≤ n → sees until j ≡ true → Stops loosest j → reading.bound read until i ≡ Some (end_back bound, j)
  unfolding reading.bound
  complete_end until no_end i j other took small seen stops =
      let same = took_nothing i j took in
      ap (λ i. if sees until i then Some (None, i) else (Some <$> read loosest) i) same ∙ ap (λ there. if there then Some (None, j) else (Some <$> read loosest) j) seen
  complete_end until (end tree) i j other took small seen stops =
      ap (λ there. if there then Some (None, i) else (Some <$> read loosest) i) (other tree i j took)
      ∙ bind_is (read loosest i) (λ found. pure (Some found)) (expr_of tree) j (Some (Some (expr_of tree), j)) (complete_some tree i j took small stops) refl

  -- a range in its parentheses
  record RangeTook (low high : End) (i j : Input) : Type 0 where
    first : Input
    colon : Input
    after_colon : Input
    close : Input
    opened : Seen lexeme.Open i first
    took_low : Took (SpellsEnd low) first colon
    split : Seen lexeme.Colon colon after_colon
    took_high : Took (SpellsEnd high) after_colon close
    closed : Seen lexeme.Close close j

  took_range : (low high : End) (i j : Input) → Took (in_parens (SpellsEnd low · mark lexeme.Colon · SpellsEnd high)) i j → RangeTook low high i j
  took_range low high i j took =
      let inside = SpellsEnd low · mark lexeme.Colon · SpellsEnd high in
      let outer = split_took (mark lexeme.Open) (inside · mark lexeme.Close) i j took in
      let inner = split_took inside (mark lexeme.Close) outer.middle j outer.second in
      let lows = split_took (SpellsEnd low) (mark lexeme.Colon · SpellsEnd high) outer.middle inner.middle inner.first in
      let highs = split_took (mark lexeme.Colon) (SpellsEnd high) lows.middle inner.middle lows.second in
      record {
        first = outer.middle;
        colon = lows.middle;
        after_colon = highs.middle;
        close = inner.middle;
        opened = took_mark lexeme.Open i outer.middle outer.first;
        took_low = lows.first;
        split = took_mark lexeme.Colon lows.middle highs.middle highs.first;
        took_high = highs.second;
        closed = took_mark lexeme.Close inner.middle j inner.second;
      }

  complete_part : (low high : End) (i j : Input) (range : RangeTook low high i j) → length range.after_colon.rest ≤ n
      → reading.part_from read (end_back low) range.colon ≡ Some (roll-Part (record { low = end_back low; high = end_back high }), j)
  unfolding reading.part_from
  complete_part low high i j range small =
      let close = λ (bound : Option Expr). expect lexeme.Close >> pure (roll-Part (record { low = end_back low; high = bound })) in
      let answer = Some (roll-Part (record { low = end_back low; high = end_back high }), j) in
      let found = Some (end_back high, range.close) in
      let bound = complete_end lexeme.Close high range.after_colon range.close some_no_close range.took_high small range.closed.seen (stops_close loosest range.close range.closed.peeked) in
      bind_is ((expect lexeme.Colon >> reading.bound read lexeme.Close) range.colon) close (end_back high) range.close answer
      (bind_is (expect lexeme.Colon range.colon) (λ at. reading.bound read lexeme.Close) range.colon.at range.after_colon found range.split.expected bound)
      (bind_is (expect lexeme.Close range.close) (λ at. pure (roll-Part (record { low = end_back low; high = end_back high }))) range.close.at j answer range.closed.expected refl)

  low_is : (low high : End) (i j : Input) (range : RangeTook low high i j) → length i.rest ≤ suc n → reading.bound read lexeme.Colon range.first ≡ Some (end_back low, range.colon)
  low_is low high i j range small =
      complete_end lexeme.Colon low range.first range.colon some_no_colon range.took_low (fewer (length i.rest) (length range.first.rest) n range.opened.shorter small) range.split.seen (stops_colon loosest range.colon range.split.peeked)

  few_after : (low high : End) (i j : Input) (range : RangeTook low high i j) → length i.rest ≤ suc n → length range.after_colon.rest ≤ n
  few_after low high i j range small = by (length i.rest) (length range.first.rest) (length range.colon.rest) (length range.after_colon.rest) range.opened.shorter (no_longer (SpellsEnd low) range.first range.colon range.took_low) range.split.shorter small where
    by : (longer first colon last : ℕ) → longer ≡ suc first → colon ≤ first → colon ≡ suc last → longer ≤ suc n → last ≤ n
    by longer first colon last a b c d = omega arith

  complete_with_args : (number : ℕ) (list : List Expr) (part : Section) (i j : Input) → Took (SpellsSection part) i j → length i.rest ≤ suc n → sees lexeme.Open j ≡ false
      → reading.with_args read number list i ≡ Some (exprs.Refer number (Some list) (part_back part), j)
  unfolding reading.with_args
  complete_with_args number list no_section i j took small unopened =
      let same = took_nothing i j took in
      let choice = λ (there : Bool). if there then (reading.bound read lexeme.Colon >>= reading.part_from read >>= (λ part. pure (exprs.Refer number (Some list) (Some part)))) else pure (exprs.Refer number (Some list) None) in
      ap (λ i. choice (sees lexeme.Open i) (after_if (sees lexeme.Open i) i)) same ∙ ap (λ there. choice there (after_if there j)) unopened
  complete_with_args number list (section low high) i j took small unopened =
      let range = took_range low high i j took in
      let choice = λ (there : Bool). if there then (reading.bound read lexeme.Colon >>= reading.part_from read >>= (λ part. pure (exprs.Refer number (Some list) (Some part)))) else pure (exprs.Refer number (Some list) None) in
      let part = roll-Part (record { low = end_back low; high = end_back high }) in
      let answer = Some (exprs.Refer number (Some list) (Some part), j) in
      let found = Some (part, j) in
      ap (λ there. choice there (after_if there i)) range.opened.seen
      ∙ ap (λ k. choice true k) range.opened.next
      ∙ bind_is ((reading.bound read lexeme.Colon >>= reading.part_from read) range.first) (λ part. pure (exprs.Refer number (Some list) (Some part))) part j answer
      (bind_is (reading.bound read lexeme.Colon range.first) (reading.part_from read) (end_back low) range.colon found (low_is low high i j range small) (complete_part low high i j range (few_after low high i j range small)))
      refl

  -- ---- lists

  item_stops : (rest : Trees) (i j : Input) → Took (SpellsMore rest) i j → peek j ≡ Some lexeme.Close → Stops loosest i
  item_stops none i j took closed = stops_close loosest i (ap peek (took_nothing i j took) ∙ closed)
  item_stops (more next rest) i j took closed =
      let parts = split_took (mark lexeme.Comma) (some_level (Spells next) · SpellsMore rest) i j took in
      stops_comma loosest i (took_mark lexeme.Comma i parts.middle parts.first).peeked

  no_turn : (longer rest : ℕ) → longer ≡ suc rest → longer ≤ 0 → ⊥
  no_turn longer rest e small = absurd (omega arith)

  complete_list : (rest : Trees) (turns : ℕ) (found : List Expr) (i j : Input) → Took (SpellsMore rest) i j → length i.rest ≤ n → length i.rest ≤ turns → peek j ≡ Some lexeme.Close
      → each_after_comma_from (read loosest) turns found i ≡ Some (found ++ exprs_of rest, j)
  unfolding each_after_comma_from
  complete_list none zero found i j took small enough closed = ap (λ i. Some (found, i)) (took_nothing i j took) ∙ ap (λ all. Some (all, j)) (sym (append-nil found))
  complete_list none (suc turns) found i j took small enough closed =
      let choice = λ (there : Bool). if there then (read loosest >>= (λ a. each_after_comma_from (read loosest) turns (found ++ a ∷ []))) else pure found in
      ap (λ i. choice (sees lexeme.Comma i) (after_if (sees lexeme.Comma i) i)) (took_nothing i j took)
      ∙ ap (λ there. choice there (after_if there j)) (close_no_comma j closed) ∙ ap (λ all. Some (all, j)) (sym (append-nil found))
  complete_list (more next rest) zero found i j took small enough closed =
      let parts = split_took (mark lexeme.Comma) (some_level (Spells next) · SpellsMore rest) i j took in
      absurd (no_turn (length i.rest) (length parts.middle.rest) (took_mark lexeme.Comma i parts.middle parts.first).shorter enough)
  complete_list (more next rest) (suc turns) found i j took small enough closed =
      let choice = λ (there : Bool). if there then (read loosest >>= (λ a. each_after_comma_from (read loosest) turns (found ++ a ∷ []))) else pure found in
      let parts = split_took (mark lexeme.Comma) (some_level (Spells next) · SpellsMore rest) i j took in
      let items = split_took (some_level (Spells next)) (SpellsMore rest) parts.middle j parts.second in
      let comma = took_mark lexeme.Comma i parts.middle parts.first in
      let answer = Some ((found ++ expr_of next ∷ []) ++ exprs_of rest, j) in
      let few = up_one (length i.rest) (length parts.middle.rest) n comma.shorter small in
      let shorter = no_longer (some_level (Spells next)) parts.middle items.middle items.first in
      ap (λ there. choice there (after_if there i)) comma.seen ∙ ap (λ k. choice true k) comma.next
      ∙ bind_is (read loosest parts.middle) (λ a. each_after_comma_from (read loosest) turns (found ++ a ∷ [])) (expr_of next) items.middle answer
      (complete_some next parts.middle items.middle items.first few (item_stops rest items.middle j items.second closed))
      (complete_list rest turns (found ++ expr_of next ∷ []) items.middle j items.second
      (le_trans shorter few)
      (le_trans shorter (fewer (length i.rest) (length parts.middle.rest) turns comma.shorter enough)) closed)
      ∙ ap (λ all. Some (all, j)) (append_assoc found (expr_of next ∷ []) (exprs_of rest)) where
        up_one : (longer rest n : ℕ) → longer ≡ suc rest → longer ≤ n → rest ≤ n
        up_one longer rest n e small = omega arith

  -- ---- references

  complete_range : (number : ℕ) (low high : End) (i j : Input) → Took (SpellsSection (section low high)) i j → length i.rest ≤ suc n
      → (range : RangeTook low high i j) → reading.group read number range.first ≡ Some (exprs.Refer number None (part_back (section low high)), j)
  unfolding reading.group
  complete_range number low high i j took small range =
      let choice = λ (there : Bool). if there then reading.with_args read number [] else (reading.bound read lexeme.Colon >>= reading.group_from read number) in
      let part = roll-Part (record { low = end_back low; high = end_back high }) in
      let answer = Some (exprs.Refer number None (Some part), j) in
      let inner = bind_is (reading.part_from read (end_back low) range.colon) (λ part. pure (exprs.Refer number None (Some part))) part j answer (complete_part low high i j range (few_after low high i j range small)) refl in
      ap (λ there. choice there (after_if there range.first)) (no_close low range.first range.colon range.took_low range.split.peeked)
      ∙ bind_is (reading.bound read lexeme.Colon range.first) (reading.group_from read number) (end_back low) range.colon answer (low_is low high i j range small) (by low range.colon range.split.seen inner) where
        no_close : (low : End) (i j : Input) → Took (SpellsEnd low) i j → peek j ≡ Some lexeme.Colon → sees lexeme.Close i ≡ false
        no_close no_end i j took colon = colon_no_close i (ap peek (took_nothing i j took) ∙ colon)
        no_close (end tree) i j took colon = some_no_close tree i j took

        by : (low : End) (k : Input) → sees lexeme.Colon k ≡ true → reading.with_part read number (end_back low) k ≡ Some (exprs.Refer number None (Some (roll-Part (record { low = end_back low; high = end_back high }))), j)
            → reading.group_from read number (end_back low) k ≡ Some (exprs.Refer number None (Some (roll-Part (record { low = end_back low; high = end_back high }))), j)
        by no_end k seen inner = inner
        by (end tree) k seen inner = ap (λ there. if there then reading.with_part read number (Some (expr_of tree)) k else reading.args_from read number (expr_of tree) k) seen ∙ inner

  complete_no_args : (number : ℕ) (part : Section) (k l j : Input) → Seen lexeme.Close k l → Took (SpellsSection part) l j → length l.rest ≤ suc n → sees lexeme.Open j ≡ false
      → reading.group read number k ≡ Some (exprs.Refer number (Some []) (part_back part), j)
  unfolding reading.group
  complete_no_args number part k l j closed took small unopened =
      let choice = λ (there : Bool). if there then reading.with_args read number [] else (reading.bound read lexeme.Colon >>= reading.group_from read number) in
      ap (λ there. choice there (after_if there k)) closed.seen ∙ ap (λ l. choice true l) closed.next ∙ complete_with_args number [] part l j took small unopened

  list_no_colon : (rest : Trees) (i j : Input) → Took (SpellsMore rest) i j → peek j ≡ Some lexeme.Close → sees lexeme.Colon i ≡ false
  list_no_colon none i j took closed = close_no_colon i (ap peek (took_nothing i j took) ∙ closed)
  list_no_colon (more next rest) i j took closed =
      let parts = split_took (mark lexeme.Comma) (some_level (Spells next) · SpellsMore rest) i j took in
      comma_no_colon i (took_mark lexeme.Comma i parts.middle parts.first).peeked

  complete_args : (number : ℕ) (first : Tree) (rest : Trees) (part : Section) (k m l j : Input) → Took (some_level (Spells first) · SpellsMore rest) k m → Seen lexeme.Close m l → Took (SpellsSection part) l j
      → length k.rest ≤ n → length l.rest ≤ suc n → sees lexeme.Open j ≡ false → reading.group read number k ≡ Some (exprs.Refer number (Some (expr_of first ∷ exprs_of rest)) (part_back part), j)
  unfolding reading.group reading.args_from reading.bound
  complete_args number first rest part k m l j took closed took_part small small_part unopened =
      let choice = λ (there : Bool). if there then reading.with_args read number [] else (reading.bound read lexeme.Colon >>= reading.group_from read number) in
      let parts = split_took (some_level (Spells first)) (SpellsMore rest) k m took in
      let p = parts.middle in
      let answer = Some (exprs.Refer number (Some (expr_of first ∷ exprs_of rest)) (part_back part), j) in
      let found = Some (Some (expr_of first), p) in
      let few = le_trans (no_longer (some_level (Spells first)) k p parts.first) small in
      let read_first : reading.bound read lexeme.Colon k ≡ found =
      ap (λ there. if there then Some (None, k) else (Some <$> read loosest) k) (some_no_colon first k p parts.first)
      ∙ bind_is (read loosest k) (λ found. pure (Some found)) (expr_of first) p found (complete_some first k p parts.first small (item_stops rest p m parts.second closed.peeked)) refl in
      ap (λ there. choice there (after_if there k)) (some_no_close first k p parts.first)
      ∙ bind_is (reading.bound read lexeme.Colon k) (reading.group_from read number) (Some (expr_of first)) p answer read_first
      (ap (λ there. if there then reading.with_part read number (Some (expr_of first)) p else reading.args_from read number (expr_of first) p) (list_no_colon rest p m parts.second closed.peeked)
      ∙ bind_is (reading.list_from read (expr_of first) p) (λ list. expect lexeme.Close >> reading.with_args read number list) (expr_of first ∷ exprs_of rest) m answer
      (complete_list rest (length p.rest) (expr_of first ∷ []) p m parts.second few (le_refl (length p.rest)) closed.peeked)
      (bind_is (expect lexeme.Close m) (λ at. reading.with_args read number (expr_of first ∷ exprs_of rest)) m.at l answer closed.expected
      (complete_with_args number (expr_of first ∷ exprs_of rest) part l j took_part small_part unopened)))

  complete_group : (number : ℕ) (given : Args) (part : Section) (i l j : Input) → Took (SpellsArgs given) i l → Took (SpellsSection part) l j → length i.rest ≤ suc n → sees lexeme.Open j ≡ false
      → (if sees lexeme.Open i then reading.group read number else pure (exprs.Refer number None None)) (after_if (sees lexeme.Open i) i) ≡ Some (exprs.Refer number (args_back given) (part_back part), j)
  complete_group number no_args no_section i l j took took_part small unopened =
      let choice = λ (there : Bool). if there then reading.group read number else pure (exprs.Refer number None None) in
      ap (λ i. choice (sees lexeme.Open i) (after_if (sees lexeme.Open i) i)) (took_nothing i l took ∙ took_nothing l j took_part) ∙ ap (λ there. choice there (after_if there j)) unopened
  complete_group number no_args (section low high) i l j took took_part small unopened =
      let choice = λ (there : Bool). if there then reading.group read number else pure (exprs.Refer number None None) in
      let range = took_range low high l j took_part in
      let same = took_nothing i l took in
      ap (λ i. choice (sees lexeme.Open i) (after_if (sees lexeme.Open i) i)) same
      ∙ ap (λ there. choice there (after_if there l)) range.opened.seen ∙ ap (λ k. choice true k) range.opened.next
      ∙ complete_range number low high l j took_part (subst (λ (i : Input). length i.rest ≤ suc n) same small) range
  complete_group number (args none) part i l j took took_part small unopened =
      let choice = λ (there : Bool). if there then reading.group read number else pure (exprs.Refer number None None) in
      let outer = split_took (mark lexeme.Open) (nothing · mark lexeme.Close) i l took in
      let inner = split_took nothing (mark lexeme.Close) outer.middle l outer.second in
      let opened = took_mark lexeme.Open i outer.middle outer.first in
      let closed = took_mark lexeme.Close inner.middle l inner.second in
      let same = took_nothing outer.middle inner.middle inner.first in
      ap (λ there. choice there (after_if there i)) opened.seen ∙ ap (λ k. choice true k) opened.next ∙ ap (λ k. choice true k) same
      ∙ complete_no_args number part inner.middle l j closed took_part (le_trans (no_longer (SpellsArgs (args none)) i l took) small) unopened
  complete_group number (args (more first rest)) part i l j took took_part small unopened =
      let choice = λ (there : Bool). if there then reading.group read number else pure (exprs.Refer number None None) in
      let list = some_level (Spells first) · SpellsMore rest in
      let outer = split_took (mark lexeme.Open) (list · mark lexeme.Close) i l took in
      let inner = split_took list (mark lexeme.Close) outer.middle l outer.second in
      let opened = took_mark lexeme.Open i outer.middle outer.first in
      let closed = took_mark lexeme.Close inner.middle l inner.second in
      ap (λ there. choice there (after_if there i)) opened.seen ∙ ap (λ k. choice true k) opened.next
      ∙ complete_args number first rest part outer.middle inner.middle l j inner.first closed took_part (fewer (length i.rest) (length outer.middle.rest) n opened.shorter small)
      (le_trans (no_longer (SpellsArgs (args (more first rest))) i l took) small) unopened

  pub complete_named : (number : ℕ) (given : Args) (part : Section) (i j : Input) → Took (name number · SpellsArgs given · SpellsSection part) i j → length i.rest ≤ suc n → sees lexeme.Open j ≡ false
      → (peek i ≡ Some lexeme.Word) × (reading.named read i ≡ Some (exprs.Refer number (args_back given) (part_back part), j))
  unfolding reading.named
  complete_named number given part i j took small unopened =
      let outer = split_took (name number) (SpellsArgs given · SpellsSection part) i j took in
      let inner = split_took (SpellsArgs given) (SpellsSection part) outer.middle j outer.second in
      let (is_at, named) = took_mark_at number lexeme.Word i outer.middle outer.first in
      let answer = Some (exprs.Refer i.at (args_back given) (part_back part), j) in (
        named.peeked,
        bind_is (expect lexeme.Word i) (λ number. eat lexeme.Open >>= (λ has_group. if has_group then reading.group read number else pure (exprs.Refer number None None))) i.at outer.middle answer named.expected
            (complete_group i.at given part outer.middle inner.middle j inner.first inner.second (le_trans (no_longer (name number) i outer.middle outer.first) small) unopened)
            ∙ ap (λ number. Some (exprs.Refer number (args_back given) (part_back part), j)) (sym is_at),
      )
