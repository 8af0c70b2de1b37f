-- One value, and one object, of DATA after the other.
use Rattle.std.proofs.Common.{◌≡◌, refl, sym, ◌∙◌, ap, ap₂, subst, cond, inl, inr, ◌⊎◌, ℕ, ℤ, zero, suc, ◌+◌, ◌-◌, ◌<◌, ◌≤◌, ◌^◌, Bool, true, false, List, [], ◌∷◌, ◌++◌, map, length, get_or, drop, Option, Some, None, append_assoc, append-nil, arith}
use Rattle.std.specs.Prelude.{◌&&◌, min, max, nat_lt, slice_get}
use Rattle.std.specs.List.{cons_option}
use Rattle.std.specs.Option.{option_map, option_and_then}
use Rattle.std.proofs.lemmas.Bool.{and_parts, cases_lt, le-ltb, lt-ltb, ltb-true}
use Rattle.std.proofs.lemmas.List.{drop_more, get_or-map, length-map, map-append}
use Rattle.std.proofs.lemmas.Option.{slice_get-get_or, slice_get-map}
use Rattle.ftn_tree.specs.declared.expr.Expr.{Expr}
use Rattle.ftn_tree.specs.Evaluations.{Evaluated}
use Rattle.ftn_tree.specs.declared.parts.DataValue.{DataValue}
use Rattle.ftn_tree.specs.declared.parts.Designator.{Designator}
use Rattle.ftn_tree.specs.declared.unit.FileTree.{FileTree}
use Rattle.ftn_tree.specs.declared.unit.Statement.{Statement}
use Rattle.ftn_tree.specs.declared.value.Given.{Given}
use Rattle.decl_table.specs.steps.Rows.{Row}
use Rattle.const_value.specs.steps.FirstFault.{sight_at}
use Rattle.ftn_tree.specs.Constants.{whole_in}
use Rattle.ftn_base.specs.declared.entity.Ty.{Ty}
use Rattle.ftn_tree.specs.declared.value.Value.{Value}
use Rattle.const_expr.specs.declared.naming.Naming.{Naming}
use Rattle.const_expr.specs.Namings.{evaluated_by}
use Rattle.const_value.specs.declared.given_runs.Run.{Run}
use Rattle.const_value.specs.declared.givens.Supply.{Supply}
use Rattle.const_value.specs.declared.measured.Measured.{Measured}
use Rattle.const_value.specs.declared.project.Project.{Project}
use Rattle.const_value.specs.declared.view.View.{View}
use Rattle.const_value.specs.steps.Giving.{AreRowed, Object, SupplyAs, end_of, given_if, meeting, next_from, next_whole, object_given, object_of, objects_given, part_by, files_fit, files_given, fits_from, repeat_by, shared_by, statement_fits, statement_given, statements_fit, statements_given, supplies_from, wholes_by}
use Rattle.const_value.specs.steps.GivingSeen.{ArePast, supply_seen}
use Rattle.const_value.specs.steps.Measuring as measuring
use Rattle.const_value.specs.steps.Measuring.{given}
use Rattle.const_value.specs.steps.Projects.{row_in, sort_of, written_at}
use Rattle.const_value.specs.steps.References.{file_of}
use Rattle.const_value.specs.steps.Telling.{Sight}

-- ---- subscripts

pub wholes_more : (evaluate : Expr → Evaluated) (all : List Expr) (i : ℕ) (e : Expr) (z : ℤ) (found more : List ℤ) → i < length all → e ≡ get_or all i e → whole_in (evaluate e).value ≡ Some z → more ≡ found ++ z ∷ []
    → wholes_by evaluate all ≡ option_map (λ rest. found ++ rest) (wholes_by evaluate (drop i all)) → wholes_by evaluate all ≡ option_map (λ rest. more ++ rest) (wholes_by evaluate (drop (i + 1) all))
wholes_more evaluate all i e z found more less at is pushed before =
    before ∙ ap (λ es. option_map (λ rest. found ++ rest) (wholes_by evaluate es)) (drop_more all i e less ∙ ap (λ x. x ∷ drop (i + 1) all) (sym at))
    ∙ ap (λ o. option_map (λ rest. found ++ rest) (next_whole o (wholes_by evaluate (drop (i + 1) all)))) is ∙ by (wholes_by evaluate (drop (i + 1) all))
    ∙ ap (λ zs. option_map (λ rest. zs ++ rest) (wholes_by evaluate (drop (i + 1) all))) (sym pushed)
  where
    by : (o : Option (List ℤ)) → option_map (λ rest. found ++ rest) (next_whole (Some z) o) ≡ option_map (λ rest. (found ++ z ∷ []) ++ rest) o
    by None = refl
    by (Some rest) = ap Some (sym (append_assoc found (z ∷ []) rest))

pub wholes_none : (evaluate : Expr → Evaluated) (all : List Expr) (i : ℕ) (e : Expr) (found : List ℤ) → i < length all → e ≡ get_or all i e → whole_in (evaluate e).value ≡ None
    → wholes_by evaluate all ≡ option_map (λ rest. found ++ rest) (wholes_by evaluate (drop i all)) → None ≡ wholes_by evaluate all
wholes_none evaluate all i e found less at is before =
    sym (before ∙ ap (λ es. option_map (λ rest. found ++ rest) (wholes_by evaluate es)) (drop_more all i e less ∙ ap (λ x. x ∷ drop (i + 1) all) (sym at))
    ∙ ap (λ o. option_map (λ rest. found ++ rest) (next_whole o (wholes_by evaluate (drop (i + 1) all)))) is)

-- ---- values, each from where the one before it ends

abbrev pub AreRowedTo : ℕ → List SupplyAs → ℕ → Type 0
AreRowedTo from [] end = from ≡ end
AreRowedTo from (supply ∷ rest) end = (supply.run.from ≡ from) × (from + supply.run.count ≤ 2 ^ 64 - 1) × AreRowedTo (from + supply.run.count) rest end

pub rowed_more : (from : ℕ) (supplies : List SupplyAs) (end : ℕ) (supply : SupplyAs) (next : ℕ) → AreRowedTo from supplies end → supply.run.from ≡ end → end + supply.run.count ≡ next → next ≤ 2 ^ 64 - 1
    → AreRowedTo from (supplies ++ supply ∷ []) next
rowed_more from [] end supply next rowed begins is fits =
    (begins ∙ sym rowed, subst (λ k. k ≤ 2 ^ 64 - 1) (sym (ap (λ k. k + supply.run.count) rowed ∙ is)) fits, ap (λ k. k + supply.run.count) rowed ∙ is)
rowed_more from (one ∷ supplies) end supply next rowed begins is fits = (rowed.0, rowed.1, rowed_more (from + one.run.count) supplies end supply next rowed.2 begins is fits)

pub rowed_all : (from : ℕ) (supplies : List SupplyAs) (end : ℕ) → AreRowedTo from supplies end → AreRowed from supplies
rowed_all from [] end rowed = tt
rowed_all from (one ∷ supplies) end rowed = (rowed.0, rowed.1, rowed_all (from + one.run.count) supplies end rowed.2)

-- ---- nothing is given by values that end before an object, or begin behind it

no_meeting : (o r : Run) → end_of r ≤ o.from → meeting o r ≡ None
no_meeting o r past = ap (λ b. cond b (Some (record { from = max o.from r.from; count = min (end_of o) (end_of r) - max o.from r.from })) None) none where
  none : nat_lt (max o.from r.from) (min (end_of o) (end_of r)) ≡ false
  none = le-ltb (max o.from r.from) (min (end_of o) (end_of r)) (omega (arith, past))

behind_meeting : (o r : Run) → end_of o ≤ r.from → meeting o r ≡ None
behind_meeting o r past = ap (λ b. cond b (Some (record { from = max o.from r.from; count = min (end_of o) (end_of r) - max o.from r.from })) None) none where
  none : nat_lt (max o.from r.from) (min (end_of o) (end_of r)) ≡ false
  none = le-ltb (max o.from r.from) (min (end_of o) (end_of r)) (omega (arith, past))

module _ (s : Sight) (o : Object) where
  one_none : (supply : SupplyAs) → meeting o.run supply.run ≡ None → shared_by s o supply ≡ None
  one_none supply none = ap (option_and_then (part_by s o supply.constant)) none

  -- those before that place
  pub past_none : (at : ℕ) (supplies : List SupplyAs) → ArePast o.run.from at supplies → object_given s o supplies ≡ object_given s o (drop at supplies)
  past_none zero supplies past = refl
  past_none (suc at) [] past = refl
  past_none (suc at) (supply ∷ supplies) past =
      ap (λ g. cons_option g (object_given s o supplies)) (one_none supply (no_meeting o.run supply.run (past 0 supply (omega arith) refl)))
      ∙ past_none at supplies (λ i one less is. past (suc i) one (omega arith) is)

  -- all of them, from that position on
  pub behind_none : (from : ℕ) (supplies : List SupplyAs) → AreRowed from supplies → end_of o.run ≤ from → object_given s o supplies ≡ []
  behind_none from [] rowed over = refl
  behind_none from (supply ∷ supplies) rowed over =
      ap (λ g. cons_option g (object_given s o supplies)) (one_none supply (behind_meeting o.run supply.run (subst (λ k. end_of o.run ≤ k) (sym rowed.0) over)))
      ∙ behind_none (from + supply.run.count) supplies rowed.2 (omega (arith, over))

  -- what stands from that place on
  rowed_drop : (from at : ℕ) (supplies : List SupplyAs) (supply : SupplyAs) → AreRowed from supplies → slice_get supplies at ≡ Some supply → AreRowed supply.run.from (drop at supplies)
  rowed_drop from zero [] supply rowed is = absurd (cc is)
  rowed_drop from zero (one ∷ supplies) supply rowed is =
      let same : one ≡ supply = cc is in
      subst (λ k. AreRowed k (one ∷ supplies)) (sym rowed.0 ∙ ap (λ (x : SupplyAs). x.run.from) same) rowed
  rowed_drop from (suc at) [] supply rowed is = absurd (cc is)
  rowed_drop from (suc at) (one ∷ supplies) supply rowed is = rowed_drop (from + one.run.count) at supplies supply rowed.2 is

  pub rest_none : (at : ℕ) (supplies : List SupplyAs) (supply : SupplyAs) → AreRowed 0 supplies → slice_get supplies at ≡ Some supply → end_of o.run ≤ supply.run.from → object_given s o (drop at supplies) ≡ []
  rest_none at supplies supply rowed is over = behind_none supply.run.from (drop at supplies) (rowed_drop 0 at supplies supply rowed is) over

  -- behind a value that goes beyond the object
  end_exact : (from at : ℕ) (supplies : List SupplyAs) (supply : SupplyAs) → AreRowed from supplies → slice_get supplies at ≡ Some supply
      → AreRowed (end_of supply.run) (drop (at + 1) supplies)
  end_exact from at supplies supply rowed is = by from at supplies rowed is where
    by : (from at : ℕ) (supplies : List SupplyAs) → AreRowed from supplies → slice_get supplies at ≡ Some supply → AreRowed (end_of supply.run) (drop (at + 1) supplies)
    by from at [] rowed is = absurd (cc is)
    by from zero (one ∷ supplies) rowed is =
        let same : one ≡ supply = cc is in
        let fits : one.run.from + one.run.count ≤ 2 ^ 64 - 1 = subst (λ k. k + one.run.count ≤ 2 ^ 64 - 1) (sym rowed.0) rowed.1 in
        let exact : from + one.run.count ≡ end_of one.run = ap (λ k. k + one.run.count) (sym rowed.0) ∙ whole (one.run.from + one.run.count) fits in
        subst (λ (x : SupplyAs). AreRowed (end_of x.run) supplies) same (subst (λ k. AreRowed k supplies) exact rowed.2)
      where
        whole : (n : ℕ) → n ≤ 2 ^ 64 - 1 → n ≡ min n (2 ^ 64 - 1)
        whole n fits = omega (arith, fits)
    by from (suc at) (one ∷ supplies) rowed is =
        let same : suc (at + 1) ≡ suc at + 1 = omega arith in
        subst (λ k. AreRowed (end_of supply.run) (drop k (one ∷ supplies))) same (by (from + one.run.count) at supplies rowed.2 is)

  pub beyond_none : (at : ℕ) (supplies : List SupplyAs) (supply : SupplyAs) → AreRowed 0 supplies → slice_get supplies at ≡ Some supply → end_of o.run < end_of supply.run
      → object_given s o (drop (at + 1) supplies) ≡ []
  beyond_none at supplies supply rowed is over = behind_none (end_of supply.run) (drop (at + 1) supplies) (end_exact 0 at supplies supply rowed is) (omega (arith, over))

  pub object_more : (at : ℕ) (supplies : List SupplyAs) (supply : SupplyAs) (first found more : List Given) (made : Option Given) → at < length supplies → supply ≡ get_or supplies at supply → made ≡ shared_by s o supply
      → more ≡ found ++ cons_option made [] → first ≡ found ++ object_given s o (drop at supplies) → first ≡ more ++ object_given s o (drop (at + 1) supplies)
  object_more at supplies supply first found more made less here is pushed before =
      before ∙ ap (λ xs. found ++ object_given s o xs) (drop_more supplies at supply less ∙ ap (λ x. x ∷ drop (at + 1) supplies) (sym here))
      ∙ ap (λ g. found ++ cons_option g (object_given s o (drop (at + 1) supplies))) (sym is) ∙ by made ∙ ap (λ xs. xs ++ object_given s o (drop (at + 1) supplies)) (sym pushed)
    where
      by : (g : Option Given) → found ++ cons_option g (object_given s o (drop (at + 1) supplies)) ≡ (found ++ cons_option g []) ++ object_given s o (drop (at + 1) supplies)
      by None = ap (λ xs. xs ++ object_given s o (drop (at + 1) supplies)) (sym (append-nil found))
      by (Some g) = sym (append_assoc found (g ∷ []) (object_given s o (drop (at + 1) supplies)))

pub past_more : (position at : ℕ) (supplies : List SupplyAs) (supply : SupplyAs) → ArePast position at supplies → slice_get supplies at ≡ Some supply → end_of supply.run ≤ position → ArePast position (at + 1) supplies
past_more position at supplies supply past is over i one less there = by (cases_lt i at) where
  by : (i < at) ⊎ (at ≤ i) → end_of one.run ≤ position
  by (inl before) = past i one before there
  by (inr after) =
      let same : i ≡ at = omega arith in
      let here : one ≡ supply = cc (there, ap (slice_get supplies) same, is) in
      subst (λ (x : SupplyAs). end_of x.run ≤ position) (sym here) over

pub past_up : (one other at : ℕ) (supplies : List SupplyAs) → ArePast one at supplies → one ≤ other → ArePast other at supplies
past_up one other at supplies past le i supply less is = let before : end_of supply.run ≤ one = past i supply less is in omega (arith, before, le)

-- ---- objects

pub objects_more : (s : Sight) (scope : ℕ) (supplies : List SupplyAs) (from i : ℕ) (designators : List Designator) (d : Designator) (o : Option Object) (first found more : List Given) (next : ℕ)
    → i < length designators → d ≡ get_or designators i d → o ≡ object_of s scope d from → more ≡ found ++ given_if s o supplies → next ≡ next_from o from
    → first ≡ found ++ objects_given s scope supplies from (drop i designators) → first ≡ more ++ objects_given s scope supplies next (drop (i + 1) designators)
objects_more s scope supplies from i designators d o first found more next less at is made step before =
    before ∙ ap (λ ds. found ++ objects_given s scope supplies from ds) (drop_more designators i d less ∙ ap (λ x. x ∷ drop (i + 1) designators) (sym at))
    ∙ ap (λ p. found ++ (given_if s p supplies ++ objects_given s scope supplies (next_from p from) (drop (i + 1) designators))) (sym is)
    ∙ sym (append_assoc found (given_if s o supplies) (objects_given s scope supplies (next_from o from) (drop (i + 1) designators)))
    ∙ ap₂ (λ xs k. xs ++ objects_given s scope supplies k (drop (i + 1) designators)) (sym made) (sym step)

pub past_end : (o : Run) (at : ℕ) (supplies : List SupplyAs) → ArePast o.from at supplies → ArePast (end_of o) at supplies
past_end o at supplies past i supply less is =
    let before : end_of supply.run ≤ o.from = past i supply less is in
    by supply.run.from supply.run.count o.from o.count before
  where
    by : (a b f n : ℕ) → min (a + b) (2 ^ 64 - 1) ≤ f → min (a + b) (2 ^ 64 - 1) ≤ min (f + n) (2 ^ 64 - 1)
    by a b f n le = omega (arith, le)

-- ---- values and objects as they are kept

pub seen_at : (supplies : List Supply) (at : ℕ) (x : Supply) → at < length supplies → x ≡ get_or supplies at x → slice_get (map supply_seen supplies) at ≡ Some (supply_seen x)
seen_at supplies at x less is = slice_get-map supply_seen supplies at ∙ ap (option_map supply_seen) (slice_get-get_or supplies at x less ∙ ap Some (sym is))

pub seen_here : (supplies : List Supply) (at : ℕ) (x : Supply) → at < length supplies → x ≡ get_or supplies at x → supply_seen x ≡ get_or (map supply_seen supplies) at (supply_seen x)
seen_here supplies at x less is = ap supply_seen is ∙ sym (get_or-map supply_seen supplies at x (supply_seen x) less)

pub seen_within : (supplies : List Supply) (at : ℕ) → at < length supplies → at < length (map supply_seen supplies)
seen_within supplies at less = subst (λ n. at < n) (sym (length-map supplies supply_seen)) less

pub seen_end : (s : Sight) (o : Object) (supplies : List Supply) (at : ℕ) → length supplies ≤ at → object_given s o (drop at (map supply_seen supplies)) ≡ []
seen_end s o supplies at over = ap (object_given s o) (drop-past (map supply_seen supplies) at (subst (λ n. n ≤ at) (sym (length-map supplies supply_seen)) over)) where
  drop-past : {X : Type 0} (xs : List X) (n : ℕ) → length xs ≤ n → drop n xs ≡ []
  drop-past [] zero le = refl
  drop-past [] (suc n) le = refl
  drop-past (x ∷ xs) zero le = absurd (omega (arith, le))
  drop-past (x ∷ xs) (suc n) le = drop-past xs n (omega (arith, le))

pub supplies_more : (s : Sight) (values : List DataValue) (i from next : ℕ) (v : DataValue) (count : ℕ) (all : List SupplyAs) (before : List SupplyAs) (supply : SupplyAs) → i < length values → v ≡ get_or values i v
    → count ≡ repeat_by s v.repeat → from + count ≡ next → supply ≡ record { constant = v.constant; run = record { from = from; count = count } }
    → all ≡ before ++ supplies_from s from (drop i values) → all ≡ (before ++ supply ∷ []) ++ supplies_from s next (drop (i + 1) values)
supplies_more s values i from next v count all before supply less at often ends made is =
    is ∙ ap (λ vs. before ++ supplies_from s from vs) (drop_more values i v less ∙ ap (λ x. x ∷ drop (i + 1) values) (sym at))
    ∙ ap (λ k. before ++ record { constant = v.constant; run = record { from = from; count = k } } ∷ supplies_from s (from + k) (drop (i + 1) values)) (sym often)
    ∙ ap₂ (λ x n. before ++ x ∷ supplies_from s n (drop (i + 1) values)) (sym made) ends
    ∙ sym (append_assoc before (supply ∷ []) (supplies_from s next (drop (i + 1) values)))

pub whole_value : (view own : View) (p : Project) (namings : List Naming) (n : ℕ) (known : Option Ty) (value : Option Value) → own.project.now ≡ p → own.names.row.now ≡ row_in p.rows.items (file_of p.names.items n)
    → own.names.namings.now ≡ namings
    → value ≡ measuring.value_of (given own) (sort_of own.project.now.bound.now own.project.now.names.items own.project.now.written.items n) known (written_at own.project.now.written.items n).value
    → value ≡ measuring.value_of (evaluated_by (row_in p.rows.items (file_of p.names.items n)) namings) (sort_of p.bound.now p.names.items p.written.items n) known (written_at p.written.items n).value
whole_value view own p namings n known value project row kept is =
    is
    ∙ ap₂ (λ (e : Expr → Evaluated) (q : Project). measuring.value_of e (sort_of q.bound.now q.names.items q.written.items n) known (written_at q.written.items n).value) (ap₂ (λ r ns. evaluated_by r ns) row kept) project

pub supplies_pushed : (s : Sight) (values : List DataValue) (i from next : ℕ) (v : DataValue) (count : ℕ) (all : List SupplyAs) (old new : List Supply) (x : Supply) → new ≡ old ++ x ∷ []
    → supply_seen x ≡ record { constant = v.constant; run = record { from = from; count = count } } → i < length values → v ≡ get_or values i v → count ≡ repeat_by s v.repeat → from + count < 2 ^ 64
    → next ≡ from + count → all ≡ map supply_seen old ++ supplies_from s from (drop i values) → AreRowedTo 0 (map supply_seen old) from
    → record {
      same : all ≡ map supply_seen new ++ supplies_from s next (drop (i + 1) values);
      rowed : AreRowedTo 0 (map supply_seen new) next;
    }
supplies_pushed s values i from next v count all old new x pushed made less at often fits ends is rowed =
    let seen : map supply_seen new ≡ map supply_seen old ++ supply_seen x ∷ [] = ap (map supply_seen) pushed ∙ map-append supply_seen old (x ∷ []) in
    let within : next ≤ 2 ^ 64 - 1 = omega (arith, fits, ends) in
    let more : all ≡ (map supply_seen old ++ supply_seen x ∷ []) ++ supplies_from s next (drop (i + 1) values) =
    supplies_more s values i from next v count all (map supply_seen old) (supply_seen x) less at often (sym ends) made is in
    let begins : (supply_seen x).run.from ≡ from = ap (λ (y : SupplyAs). y.run.from) made in
    let counts : from + (supply_seen x).run.count ≡ next = ap (λ (y : SupplyAs). from + y.run.count) made ∙ sym ends in
    record {
      same = more ∙ ap (λ xs. xs ++ supplies_from s next (drop (i + 1) values)) (sym seen);
      rowed = subst (λ xs. AreRowedTo 0 xs next) (sym seen) (rowed_more 0 (map supply_seen old) from (supply_seen x) next rowed begins counts within);
    }

-- ---- statements and files

pub statements_more : (s : Sight) (rows : List Row) (bodies : List Bool) (statements : List Statement) (i at next : ℕ) (x : Statement) (first found more : List Given) → i < length statements → x ≡ get_or statements i x
    → more ≡ found ++ statement_given s rows bodies at x → next ≡ at + 1 → first ≡ found ++ statements_given s rows bodies at (drop i statements) → first ≡ more ++ statements_given s rows bodies next (drop (i + 1) statements)
statements_more s rows bodies statements i at next x first found more less here made step is =
    is ∙ ap (λ xs. found ++ statements_given s rows bodies at xs) (drop_more statements i x less ∙ ap (λ y. y ∷ drop (i + 1) statements) (sym here))
    ∙ sym (append_assoc found (statement_given s rows bodies at x) (statements_given s rows bodies (at + 1) (drop (i + 1) statements)))
    ∙ ap₂ (λ xs k. xs ++ statements_given s rows bodies k (drop (i + 1) statements)) (sym made) (sym step)

pub files_more : (p : Project) (known : List Measured) (namings : List Naming) (rows : List Row) (bodies : List Bool) (files : List FileTree) (i file next : ℕ) (tree : FileTree) (first found more : List Given) → i < length files
    → tree ≡ get_or files i tree → more ≡ found ++ statements_given (sight_at p known namings file) rows bodies 0 tree.statements → next ≡ file + 1
    → first ≡ found ++ files_given p known namings rows bodies file (drop i files) → first ≡ more ++ files_given p known namings rows bodies next (drop (i + 1) files)
files_more p known namings rows bodies files i file next tree first found more less here made step is =
    is ∙ ap (λ xs. found ++ files_given p known namings rows bodies file xs) (drop_more files i tree less ∙ ap (λ y. y ∷ drop (i + 1) files) (sym here))
    ∙ sym (append_assoc found (statements_given (sight_at p known namings file) rows bodies 0 tree.statements) (files_given p known namings rows bodies (file + 1) (drop (i + 1) files)))
    ∙ ap₂ (λ xs k. xs ++ files_given p known namings rows bodies k (drop (i + 1) files)) (sym made) (sym step)

pub statements_fit_more : (s : Sight) (rows : List Row) (bodies : List Bool) (statements : List Statement) (i at next : ℕ) (x : Statement) (all : Bool) → i < length statements → x ≡ get_or statements i x
    → statement_fits s rows bodies at x ≡ true → next ≡ at + 1 → all ≡ statements_fit s rows bodies at (drop i statements) → all ≡ statements_fit s rows bodies next (drop (i + 1) statements)
statements_fit_more s rows bodies statements i at next x all less here fits step is =
    is ∙ ap (λ xs. statements_fit s rows bodies at xs) (drop_more statements i x less ∙ ap (λ y. y ∷ drop (i + 1) statements) (sym here))
    ∙ ap₂ (λ b k. b && statements_fit s rows bodies k (drop (i + 1) statements)) fits (sym step)

pub files_fit_more : (p : Project) (known : List Measured) (namings : List Naming) (rows : List Row) (bodies : List Bool) (files : List FileTree) (i file next : ℕ) (tree : FileTree) (all : Bool) → i < length files
    → tree ≡ get_or files i tree → statements_fit (sight_at p known namings file) rows bodies 0 tree.statements ≡ true → next ≡ file + 1
    → all ≡ files_fit p known namings rows bodies file (drop i files) → all ≡ files_fit p known namings rows bodies next (drop (i + 1) files)
files_fit_more p known namings rows bodies files i file next tree all less here fits step is =
    is ∙ ap (λ xs. files_fit p known namings rows bodies file xs) (drop_more files i tree less ∙ ap (λ y. y ∷ drop (i + 1) files) (sym here))
    ∙ ap₂ (λ b k. b && files_fit p known namings rows bodies k (drop (i + 1) files)) fits (sym step)

pub values_fit_more : (s : Sight) (values : List DataValue) (i from next : ℕ) (v : DataValue) (count : ℕ) (all : Bool) → i < length values → v ≡ get_or values i v → count ≡ repeat_by s v.repeat
    → from + count < 2 ^ 64 → next ≡ from + count → all ≡ fits_from s from (drop i values) → all ≡ fits_from s next (drop (i + 1) values)
values_fit_more s values i from next v count all less here often fits step is =
    is ∙ ap (fits_from s from) (drop_more values i v less ∙ ap (λ y. y ∷ drop (i + 1) values) (sym here))
    ∙ ap (λ k. nat_lt (from + k) (2 ^ 64) && fits_from s (from + k) (drop (i + 1) values)) (sym often)
    ∙ ap₂ (λ b k. b && fits_from s k (drop (i + 1) values)) (lt-ltb (from + count) (2 ^ 64) fits) (sym step)

-- numbers of 64 bits are kept as they are
pub rowed_fits : (s : Sight) (from : ℕ) (values : List DataValue) → fits_from s from values ≡ true → AreRowed from (supplies_from s from values)
rowed_fits s from [] fits = tt
rowed_fits s from (v ∷ values) fits =
    let parts = and_parts (nat_lt (from + repeat_by s v.repeat) (2 ^ 64)) (fits_from s (from + repeat_by s v.repeat) values) fits in
    let less : from + repeat_by s v.repeat < 2 ^ 64 = ltb-true (from + repeat_by s v.repeat) (2 ^ 64) parts.0 in
    (refl, omega (arith, less), rowed_fits s (from + repeat_by s v.repeat) values parts.1)
