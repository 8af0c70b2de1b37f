-- The walk over the objects of a group of DATA with its values finds the values that go to elements of another type.
use Rattle.std.proofs.Common.{◌≡◌, ℕ, ◌+◌, ◌-◌, ◌^◌, ◌<◌, ◌≤◌, min, max, nat_lt, Bool, true, false, cond, ◌&&◌, ◌||◌, List, [], ◌∷◌, map, filter, length, drop, get_or, Option, Some, None, option_map, refl, sym, ap, ap₂, ◌∙◌, arith}
use Rattle.std.specs.Option.{unwrap_or}
use Rattle.std.proofs.lemmas.Bool.{le-ltb}
use Rattle.std.proofs.lemmas.List.{drop-map, drop_more, drop_all}
use Rattle.ftn_base.specs.declared.fault.FaultKind.TheVariants.{WrongType}
use Rattle.ftn_tree.specs.DeclarationFaults.{Finding}
use Rattle.ftn_tree.specs.DataTypes.{Counted, Run, count_or_none, differ, end_of, is_wrong, runs_from, wrong_values}
use Rattle.ftn_tree.specs.ExpressionTypes.{if_told}
use Rattle.type_check.specs.steps.DataBy.{limited}
use Rattle.type_check.specs.steps.DataRuns.{AreWalked, run_from, wrong_told}
use Rattle.type_check.specs.steps.Noted.{noted}

pub further : (objects : List Counted) (at from position next : ℕ) → AreWalked objects at from position → position ≤ next → AreWalked objects at from next
further objects at from position next walked le = λ run after. walked run (omega (arith, le, after))

-- runs that begin where a run ends, and later
pub beyond : (objects : List Counted) (from : ℕ) (run : Run) → end_of run ≤ from → is_wrong (runs_from from objects) run ≡ false
beyond [] from run le = refl
beyond (c ∷ rest) from run le =
    let apart : min (from + count_or_none c) (run.from + run.count) ≤ max from run.from = omega (arith, le) in
    let later : run.from + run.count ≤ from + count_or_none c = omega (arith, le) in
    ap₂ (λ a b. (a && differ c.sort run.sort) || b) (le-ltb (max from run.from) (min (from + count_or_none c) (run.from + run.count)) apart) (beyond rest (from + count_or_none c) run later)

-- values after its end don't meet an object
past : (c : Counted) (rest : List Counted) (from : ℕ) (run : Run) → from + count_or_none c ≤ run.from → is_wrong (runs_from from (c ∷ rest)) run ≡ is_wrong (runs_from (from + count_or_none c) rest) run
past c rest from run le =
    let apart : min (from + count_or_none c) (run.from + run.count) ≤ max from run.from = omega (arith, le) in
    ap (λ a. (a && differ c.sort run.sort) || is_wrong (runs_from (from + count_or_none c) rest) run) (le-ltb (max from run.from) (min (from + count_or_none c) (run.from + run.count)) apart)

or_moved : (a b d : Bool) → a || (b || d) ≡ (a || b) || d
or_moved true b d = refl
or_moved false b d = refl

or_none : (a : Bool) → a || false ≡ a
or_none true = refl
or_none false = refl

pub none_more : (objects : List Counted) (at from : ℕ) (run : Run) (whole wrong : Bool) → length objects ≤ at → whole ≡ wrong || is_wrong (runs_from from (drop at objects)) run → wrong ≡ whole
none_more objects at from run whole wrong le is = sym (is ∙ ap (λ xs. wrong || is_wrong (runs_from from xs) run) (drop_all at objects le) ∙ or_none wrong)

pub drop_next : {X : Type 0} (f : X → Counted) (xs : List X) (at : ℕ) (x : X) → at < length xs → x ≡ get_or xs at x → drop at (map f xs) ≡ f x ∷ drop (at + 1) (map f xs)
drop_next f xs at x less is =
    drop-map f at xs ∙ ap (map f) (drop_more xs at x less ∙ ap (λ y. y ∷ drop (at + 1) xs) (sym is)) ∙ ap (λ ys. f x ∷ ys) (sym (drop-map f (at + 1) xs))

unwrap_limited : (o : Option ℕ) → unwrap_or (option_map limited o) 0 ≡ limited (unwrap_or o 0)
unwrap_limited None = omega arith
unwrap_limited (Some n) = refl

pub next_position : (from : ℕ) (due kept : Option ℕ) (n next : ℕ) → kept ≡ option_map limited due → n ≡ unwrap_or kept 0 → next ≡ limited (from + n) → next ≡ limited (from + limited (unwrap_or due 0))
next_position from due kept n next same is sum = sum ∙ ap (λ k. limited (from + k)) (is ∙ ap (λ o. unwrap_or o 0) same ∙ unwrap_limited due)

module _ (objects : List Counted) (at from : ℕ) (c : Counted) (next_is : drop at objects ≡ c ∷ drop (at + 1) objects) where
  abbrev here : ℕ → Run → Bool
  here next run = nat_lt (max from run.from) (min next (run.from + run.count)) && differ c.sort run.sort

  module _ (run : Run) (next : ℕ) (fits : run.from + run.count < 2 ^ 128 - 1) (sum : next ≡ limited (from + limited (count_or_none c))) where
    same : min next (run.from + run.count) ≡ min (from + count_or_none c) (run.from + run.count)
    same = omega (arith, fits, sum)

    one_more : (whole wrong : Bool) → whole ≡ wrong || is_wrong (runs_from from (drop at objects)) run
        → whole ≡ (wrong || here next run) || is_wrong (runs_from (from + count_or_none c) (drop (at + 1) objects)) run
    one_more whole wrong is =
        is ∙ ap (λ xs. wrong || is_wrong (runs_from from xs) run) next_is
        ∙ ap (λ m. wrong || ((nat_lt (max from run.from) m && differ c.sort run.sort) || is_wrong (runs_from (from + count_or_none c) (drop (at + 1) objects)) run)) (sym same)
        ∙ or_moved wrong (here next run) (is_wrong (runs_from (from + count_or_none c) (drop (at + 1) objects)) run)

    -- the object ends no later than the values
    pub turn_wrong : (whole wrong : Bool) → next ≤ run.from + run.count → whole ≡ wrong || is_wrong (runs_from from (drop at objects)) run
        → whole ≡ (wrong || here next run) || is_wrong (runs_from next (drop (at + 1) objects)) run
    turn_wrong whole wrong le is =
        let exact : from + count_or_none c ≡ next = omega (arith, fits, sum, le) in
        one_more whole wrong is ∙ ap (λ k. (wrong || here next run) || is_wrong (runs_from k (drop (at + 1) objects)) run) exact

    pub turn_walked : next ≤ run.from + run.count → AreWalked objects at from (run.from + run.count) → AreWalked objects (at + 1) next (run.from + run.count)
    turn_walked le walked = λ other after.
        let exact : from + count_or_none c ≡ next = omega (arith, fits, sum, le) in
        let over : from + count_or_none c ≤ other.from = omega (arith, exact, le, after) in
        walked other after ∙ ap (λ xs. is_wrong (runs_from from xs) other) next_is ∙ past c (drop (at + 1) objects) from other over
        ∙ ap (λ k. is_wrong (runs_from k (drop (at + 1) objects)) other) exact

    -- it ends later
    pub last_wrong : (whole wrong : Bool) → run.from + run.count < next → whole ≡ wrong || is_wrong (runs_from from (drop at objects)) run → wrong || here next run ≡ whole
    last_wrong whole wrong less is =
        let over : run.from + run.count ≤ from + count_or_none c = omega (arith, fits, sum, less) in
        sym (one_more whole wrong is ∙ ap (λ b. (wrong || here next run) || b) (beyond (drop (at + 1) objects) (from + count_or_none c) run over) ∙ or_none (wrong || here next run))

-- ---- the values, one after the other

wrong_next : (file : ℕ) (first : Option Finding) (objects : List Run) (from : ℕ) (c : Counted) (rest : List Counted)
    → noted file first (wrong_values objects (runs_from from (c ∷ rest))) ≡ noted file (noted file first (wrong_told objects from c)) (wrong_values objects (runs_from (from + count_or_none c) rest))
wrong_next file first objects from c rest = by (is_wrong objects (run_from from c)) where
  by : (b : Bool) → noted file first (map (λ (run : Run). (WrongType, run.token)) (cond b (run_from from c ∷ filter (is_wrong objects) (runs_from (from + count_or_none c) rest)) (filter (is_wrong objects) (runs_from (from + count_or_none c) rest))))
      ≡ noted file (noted file first (if_told b WrongType c.token)) (wrong_values objects (runs_from (from + count_or_none c) rest))
  by true = refl
  by false = refl

pub wrong_turn : {X : Type 0} (file : ℕ) (objects : List Run) (f : X → Counted) (xs : List X) (at from next : ℕ) (x : X) (first before after : Option Finding) → at < length xs → x ≡ get_or xs at x
    → first ≡ noted file before (wrong_values objects (runs_from from (map f (drop at xs)))) → after ≡ noted file before (wrong_told objects from (f x)) → next ≡ from + count_or_none (f x)
    → first ≡ noted file after (wrong_values objects (runs_from next (map f (drop (at + 1) xs))))
wrong_turn file objects f xs at from next x first before after less is so_far one sum =
    so_far ∙ ap (λ ys. noted file before (wrong_values objects (runs_from from (map f ys)))) (drop_more xs at x less ∙ ap (λ y. y ∷ drop (at + 1) xs) (sym is))
    ∙ wrong_next file before objects from (f x) (map f (drop (at + 1) xs))
    ∙ ap₂ (λ o k. noted file o (wrong_values objects (runs_from k (map f (drop (at + 1) xs))))) (sym one) (sym sum)
