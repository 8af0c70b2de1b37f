-- Faults of uses on cycles: none where no module lies on a cycle; else those in the least module on one are told by marks, and those in others
-- come later.
use Rattle.std.proofs.Common.{◌≡◌, ℕ, zero, suc, ◌+◌, ◌-◌, ◌<◌, ◌≤◌, ◌==◌, nat_eq, Bool, true, false, cond, List, [], ◌∷◌, ◌++◌, filter, map, length, get_or, Option, Some, None, slice_get, Contains, ◌⊎◌, inl, inr, refl, sym, ap, ap₂, subst, ◌∙◌, append_assoc, arith}
use Rattle.std.specs.Prelude.{◌&&◌, ◌||◌, nat_lt, nat_le}
use Rattle.std.specs.List.{cons_option, filter_map, flat_map, last_or, list_any, position, range_with_len, AllByRecursion as Each}
use Rattle.std.specs.Option.{is_some, option_and_then, option_map, option_map_or, unwrap_or}
use Rattle.std.proofs.lemmas.Bool.{and_parts, cases_Bool, cases_eq, cases_lt, eqb-true}
use Rattle.std.proofs.lemmas.Bool.Decides.{nat_tests}
use Rattle.std.proofs.lemmas.List.{length-map}
use Rattle.std.proofs.lemmas.List.Concat.{flat_map-append}
use Rattle.std.proofs.lemmas.List.Folds.{Any-from_list_any, list_any_at}
use Rattle.std.proofs.lemmas.Map.Views.{Contains-from_any}
use Rattle.std.proofs.lemmas.Option.{slice_get-get_or}
use Rattle.ftn_base.specs.ModuleCycles.{IsOnCycle}
use Rattle.ftn_base.specs.ModuleUses.{Uses, used_by}
use Rattle.ftn_base.specs.declared.fault.FaultKind.TheVariants.{Cycle}
use Rattle.ftn_tree.specs.declared.table.Extent.{Extent}
use Rattle.ftn_tree.specs.declared.unit.FileTree.{FileTree}
use Rattle.ftn_tree.specs.DeclarationFaults.{Finding, before_in_place, first_finding, found}
use Rattle.ftn_tree.specs.Bindings.{module_token}
use Rattle.ftn_tree.specs.Extents.{encloses, host_of, layer_at, same_extent, scoping}
use Rattle.ftn_tree.specs.GlobalNames.{has_no_host, place, program_units}
use Rattle.ftn_tree.specs.Meanings.{is_module, module_numbered}
use Rattle.ftn_tree.specs.NameFaults.{UseStatement, cycle_use, is_on_cycle, leads_to, module_uses, unknown_use, use_findings, use_rank, use_statement_at, use_statements, used_number}
use Rattle.ftn_tree.specs.Projects.{AreTrees}
use Rattle.ftn_tree.specs.Scopes.{all_statements, first_token_at, scope_kind}
use Rattle.decl_table.proofs.Arounds.{ordered_units, split_at}
use Rattle.decl_table.proofs.Chains.{none_of}
use Rattle.decl_table.proofs.Hosts.{after_it, before_it}
use Rattle.decl_table.proofs.Order.{Comes, Ordered, Within, ordered_filter, statements_in}
use Rattle.decl_table.specs.steps.Spelled.{Each as Every}
use Rattle.scope_bind.specs.steps.Cycles.{IsLeastOn}
use Rattle.scope_bind.specs.steps.Globals.{unit_at}
use Rattle.scope_bind.specs.steps.UseFaults.{is_marked, use_by, uses_by}
use Rattle.scope_bind.proofs.FirstsKept.{Has, each_back, each_front, has_back, has_front, place_fails, place_turns, skip_in}
use Rattle.scope_bind.proofs.Leading.{cycle_leads, leads_cycle, same_number}
use Rattle.scope_bind.proofs.Listed.{uses_of}
use Rattle.scope_bind.proofs.Members.{IsIn, all_in, any_filter_map, each_at, each_filter, each_of, each_passed, each_weaker, is_in, place_found}
use Rattle.scope_bind.proofs.StatementTokens.{tokens_rise}
use Rattle.scope_bind.proofs.Units.{found as found_at, member_number}

-- ---- lists

from_every : {A : Type 0} (P : A → Type 0) (xs : List A) → Every P xs → Each P xs
from_every P [] all = tt
from_every P (x ∷ xs) all = (all.0, from_every P xs all.1)

flat_alike : {A B : Type 0} (f g : A → List B) (xs : List A) → Each (λ x. f x ≡ g x) xs → flat_map f xs ≡ flat_map g xs
flat_alike f g [] all = refl
flat_alike f g (x ∷ xs) all = ap₂ (λ a b. a ++ b) all.0 (flat_alike f g xs all.1)

none_passes : {A : Type 0} (test : A → Bool) (xs : List A) → filter test xs ≡ [] → Each (λ x. test x ≡ false) xs
none_passes test [] e = tt
none_passes test (x ∷ xs) e = by (test x) refl e (none_passes test xs)
  where
    by : (b : Bool) → test x ≡ b → cond b (x ∷ filter test xs) (filter test xs) ≡ [] → (filter test xs ≡ [] → Each (λ y. test y ≡ false) xs) → Each (λ y. test y ≡ false) (x ∷ xs)
    by true is e rest = absurd cc
    by false is e rest = (is, rest e)

each_range : (a n : ℕ) → Each (λ k. (a ≤ k) × (k < a + n)) (range_with_len a n)
each_range a zero = tt
each_range a (suc n) =
    ((omega arith, omega arith), each_weaker (λ k. (a + 1 ≤ k) × (k < a + 1 + n)) (λ k. (a ≤ k) × (k < a + suc n)) (λ k in_it. let low : a + 1 ≤ k = in_it.0 in let high : k < a + 1 + n = in_it.1 in (omega arith, omega arith)) (range_with_len (a + 1) n) (each_range (a + 1) n))

each_placed : {A : Type 0} (xs : List A) → Each (λ x. (j : ℕ) × (slice_get xs j ≡ Some x)) xs
each_placed [] = tt
each_placed {A} (x ∷ xs) =
    ((0, refl), each_weaker (λ y. (j : ℕ) × (slice_get xs j ≡ Some y)) (λ y. (j : ℕ) × (slice_get (x ∷ xs) j ≡ Some y)) (λ y at. (suc at.0, at.1)) xs (each_placed xs))

has_flat : {A B : Type 0} (f : A → List B) (xs : List A) (k : ℕ) (x : A) (y : B) → slice_get xs k ≡ Some x → Has (f x) y → Has (flat_map f xs) y
has_flat f [] k x y at has = absurd cc
has_flat f (w ∷ xs) zero x y at has = let same : x ≡ w = cc in has_front (f w) (flat_map f xs) y (subst (λ v. Has (f v) y) same has)
has_flat f (w ∷ xs) (suc k) x y at has = has_back (f w) (flat_map f xs) y (has_flat f xs k x y at has)

pub each_filter_map : {A B : Type 0} (Q : B → Type 0) (g : A → Option B) (xs : List A) → Each (λ x. (y : B) → g x ≡ Some y → Q y) xs → Each Q (filter_map g xs)
each_filter_map Q g [] all = tt
each_filter_map {A} {B} Q g (x ∷ xs) all = by (g x) refl (each_filter_map Q g xs all.1)
  where
    by : (o : Option B) → g x ≡ o → Each Q (filter_map g xs) → Each Q (cons_option o (filter_map g xs))
    by None is rest = rest
    by (Some y) is rest = (all.0 y is, rest)

-- ---- order of extents

Apart : Extent → Extent → Type 0
Apart one other = (one.file < other.file) ⊎ ((one.file ≡ other.file) × (one.opening < other.opening))

comes_apart : (one other : Extent) → Comes one other → Apart one other
unfolding Apart
comes_apart one other (inl less) = inl less
comes_apart one other (inr side) = inr (side.0, side.1)

not_both : (one other : Extent) → Apart one other → Apart other one → ⊥
unfolding Apart
not_both one other (inl less) (inl more) = omega arith
not_both one other (inl less) (inr side) = let same : other.file ≡ one.file = side.0 in omega arith
not_both one other (inr side) (inl less) = let same : one.file ≡ other.file = side.0 in omega arith
not_both one other (inr side) (inr back) = let less : one.opening < other.opening = side.1 in let more : other.opening < one.opening = back.1 in omega arith

not_itself : (one : Extent) → Apart one one → ⊥
not_itself one apart = not_both one one apart apart

same_apart : (one other : Extent) → Apart one other → same_extent one other ≡ false
unfolding Apart
same_apart one other (inl less) = grind (arith, nat_tests)
same_apart one other (inr side) = let less : one.opening < other.opening = side.1 in grind (arith, nat_tests)

apart_same : (one other : Extent) → Apart other one → same_extent one other ≡ false
unfolding Apart
apart_same one other (inl less) = grind (arith, nat_tests)
apart_same one other (inr side) = let less : other.opening < one.opening = side.1 in grind (arith, nat_tests)

ordered_at : (count : ℕ → ℕ) (es : List Extent) (i j : ℕ) (a b : Extent) → Ordered count es → slice_get es i ≡ Some a → slice_get es j ≡ Some b → i < j → Apart a b
ordered_at count [] i j a b order here there lt = absurd cc
ordered_at count (e ∷ es) i zero a b order here there lt = absurd (omega arith)
ordered_at count (e ∷ es) zero (suc j) a b order here there lt =
    let same : e ≡ a = cc in
    subst (λ x. Apart x b) same (comes_apart e b (each_at (Comes e) es j b (from_every (Comes e) es order.1) there))
ordered_at count (e ∷ es) (suc i) (suc j) a b order here there lt = ordered_at count es i j a b order.2 here there (omega arith)

module _ (files : List FileTree) (are : AreTrees files) where
  units_ordered : Ordered (λ file. statements_in file files) (program_units files)
  units_ordered = ordered_filter (λ file. statements_in file files) (has_no_host files) (scoping files) (ordered_units files are)

  modules_ordered : Ordered (λ file. statements_in file files) (module_numbered files)
  modules_ordered = ordered_filter (λ file. statements_in file files) (λ e. is_module (scope_kind files e)) (program_units files) units_ordered

  -- a module has one number
  same_module : (u m : ℕ) (x e : Extent) → slice_get (module_numbered files) u ≡ Some x → slice_get (module_numbered files) m ≡ Some e → same_extent e x ≡ true → (u ≡ m) × (x ≡ e)
  same_module u m x e here there same = by (cases_lt u m) (cases_lt m u)
    where
      by : (u < m) ⊎ (m ≤ u) → (m < u) ⊎ (u ≤ m) → (u ≡ m) × (x ≡ e)
      by (inl less) other = absurd (let none : same_extent e x ≡ false = apart_same e x (ordered_at (λ file. statements_in file files) (module_numbered files) u m x e modules_ordered here there less) in cc)
      by (inr _) (inl less) = absurd (let none : same_extent e x ≡ false = same_apart e x (ordered_at (λ file. statements_in file files) (module_numbered files) m u e x modules_ordered there here less) in cc)
      by (inr le) (inr ge) = let equal : u ≡ m = omega arith in (equal, let one : slice_get (module_numbered files) m ≡ Some x = subst (λ (k : ℕ). slice_get (module_numbered files) k ≡ Some x) equal here in cc)

  -- a program unit that is as a module is it
  outer_is : (e x : Extent) → (j : ℕ) × (slice_get (scoping files) j ≡ Some e) → (i : ℕ) × (slice_get (scoping files) i ≡ Some x) → same_extent e x ≡ true → x ≡ e
  outer_is e x here there same = by (cases_lt there.0 here.0) (cases_lt here.0 there.0)
    where
      by : (there.0 < here.0) ⊎ (here.0 ≤ there.0) → (here.0 < there.0) ⊎ (there.0 ≤ here.0) → x ≡ e
      by (inl less) other = absurd (let none : same_extent e x ≡ false = apart_same e x (ordered_at (λ file. statements_in file files) (scoping files) there.0 here.0 x e (ordered_units files are) there.1 here.1 less) in cc)
      by (inr _) (inl less) = absurd (let none : same_extent e x ≡ false = same_apart e x (ordered_at (λ file. statements_in file files) (scoping files) here.0 there.0 e x (ordered_units files are) here.1 there.1 less) in cc)
      by (inr le) (inr ge) = let equal : there.0 ≡ here.0 = omega arith in let one : slice_get (scoping files) here.0 ≡ Some x = subst (λ (k : ℕ). slice_get (scoping files) k ≡ Some x) equal there.1 in cc

  abbrev IsPlaced : Extent → Type 0
  IsPlaced e = (j : ℕ) × (slice_get (scoping files) j ≡ Some e)

  pub outer_placed : Each IsPlaced (program_units files)
  outer_placed = each_filter IsPlaced (has_no_host files) (scoping files) (each_placed (scoping files))

  modules_placed : Each IsPlaced (module_numbered files)
  modules_placed = each_filter IsPlaced (λ e. is_module (scope_kind files e)) (program_units files) outer_placed

  -- ---- a use on a cycle

  -- the module in which it stands lies on one
  tells_cycle : (e : Extent) → IsPlaced e → (one : UseStatement) → IsIn (use_statements files e) one → (user used : Option ℕ) → position (same_extent e) (module_numbered files) ≡ user
      → used_number files e.file one ≡ used → is_on_cycle files user used ≡ true → (u : ℕ) × (slice_get (module_numbered files) u ≡ Some e) × IsOnCycle (module_uses files) u
  tells_cycle e here one there None used at names is = absurd (let no_cycle : false ≡ true = is in cc)
  tells_cycle e here one there (Some u) None at names is = absurd (let no_cycle : false ≡ true = is in cc)
  tells_cycle e here one there (Some u) (Some v) at names is =
      let (less, x, module_at, same) = found_at (same_extent e) (module_numbered files) u at in
      let equal : x ≡ e = outer_is e x here (each_at IsPlaced (module_numbered files) u x modules_placed module_at) same in
      let unit : slice_get (module_numbered files) u ≡ Some e = module_at ∙ ap Some equal in
      let listed : list_any (nat_eq v) (filter_map (used_number files e.file) (use_statements files e)) ≡ true =
      sym (any_filter_map (nat_eq v) (used_number files e.file) (use_statements files e))
      ∙ is_in (use_statements files e) one there (λ w. option_map_or (nat_eq v) (used_number files e.file w) false) (ap (λ o. option_map_or (nat_eq v) o false) names ∙ same_number v) in
      (u, unit, leads_cycle (module_uses files) u v (subst (λ l. Contains l v) (sym (uses_of files u e unit)) (Contains-from_any eqb-true v (filter_map (used_number files e.file) (use_statements files e)) listed)) is)

  abbrev token_of : Extent → UseStatement → ℕ
  token_of e one = first_token_at files e.file one.statement

  not_found : (e : Extent) (one : UseStatement) → (is_on_cycle files (position (same_extent e) (module_numbered files)) (used_number files e.file one) ≡ true → ⊥)
      → cycle_use files e one ≡ []
  not_found e one none = by (is_on_cycle files (position (same_extent e) (module_numbered files)) (used_number files e.file one)) refl
    where
      by : (b : Bool) → is_on_cycle files (position (same_extent e) (module_numbered files)) (used_number files e.file one) ≡ b → cond b (found Cycle (place e.file (token_of e one)) ∷ []) [] ≡ []
      by true is = absurd (none is)
      by false is = refl

  -- no marks, no fault but of an unknown module
  unmarked : (e : Extent) (one : UseStatement) → use_by files e [] one ≡ unknown_use files e one ++ []
  unmarked e one = by (used_number files e.file one)
    where
      by : (used : Option ℕ) → (unknown_use files e one ++ cond (is_marked [] used) (found Cycle (place e.file (token_of e one)) ∷ []) []) ≡ unknown_use files e one ++ []
      by None = refl
      by (Some v) = refl

  abbrev all_of : Extent → List Finding
  all_of e = flat_map (λ one. unknown_use files e one ++ cycle_use files e one) (use_statements files e)

  abbrev plain_of : Extent → List Finding
  plain_of e = flat_map (use_by files e []) (use_statements files e)

  no_cycle_here : (e : Extent) → IsPlaced e → ((u : ℕ) → slice_get (module_numbered files) u ≡ Some e → IsOnCycle (module_uses files) u → ⊥) → all_of e ≡ plain_of e
  no_cycle_here e here none =
      flat_alike (λ one. unknown_use files e one ++ cycle_use files e one) (use_by files e []) (use_statements files e)
      (each_weaker (IsIn (use_statements files e)) (λ one. (unknown_use files e one ++ cycle_use files e one) ≡ use_by files e [] one)
      (λ one there. ap (λ l. unknown_use files e one ++ l) (not_found e one (λ is.
      let cycle = tells_cycle e here one there (position (same_extent e) (module_numbered files)) (used_number files e.file one) refl refl is in
      none cycle.0 cycle.1 cycle.2)) ∙ sym (unmarked e one))
      (use_statements files e) (all_in (use_statements files e)))

  -- without a cycle
  pub no_cycles : ((number : ℕ) → IsOnCycle (module_uses files) number → ⊥) → use_findings files ≡ flat_map (uses_by files None []) (program_units files)
  no_cycles none =
      flat_alike all_of (uses_by files None []) (program_units files)
      (each_weaker IsPlaced (λ e. all_of e ≡ plain_of e) (λ e here. no_cycle_here e here (λ u at cycle. none u cycle)) (program_units files) outer_placed)

  -- ---- the least module on a cycle

  module _ (m scope : ℕ) (least : IsLeastOn (module_uses files) m) (e : Extent) (at : slice_get (module_numbered files) m ≡ Some e) (unit : unit_at files scope ≡ e)
      (marks : List Bool) (told : (first : ℕ) → first < length (module_uses files) → slice_get marks first ≡ Some (leads_to (module_uses files) first m)) where
    position_here : position (same_extent e) (module_numbered files) ≡ Some m
    position_here = by (position (same_extent e) (module_numbered files)) refl
      where
        itself : same_extent e e ≡ true
        itself = ap₂ (λ a b. a && b) (same_number e.file) (same_number e.opening)

        by : (found : Option ℕ) → position (same_extent e) (module_numbered files) ≡ found → found ≡ Some m
        by None none = absurd (
            let some : is_some (position (same_extent e) (module_numbered files)) ≡ true =
            place_found (same_extent e) (module_numbered files) (is_in (module_numbered files) e (each_at (IsIn (module_numbered files)) (module_numbered files) m e (all_in (module_numbered files)) at) (same_extent e) itself) in
            let no_place : is_some {T = ℕ} None ≡ true = ap is_some (sym none) ∙ some in
            cc)
        by (Some u) is =
            let (less, x, there, same) = found_at (same_extent e) (module_numbered files) u is in
            ap Some (same_module u m x e there at same).0

    marked_is : (used : Option ℕ) → ((v : ℕ) → used ≡ Some v → v < length (module_uses files)) → is_on_cycle files (Some m) used ≡ is_marked marks used
    marked_is None below = refl
    marked_is (Some v) below = sym (ap (λ o. unwrap_or o false) (told v (below v refl)))

    used_below : (one : UseStatement) (v : ℕ) → used_number files e.file one ≡ Some v → v < length (module_uses files)
    used_below one v is =
        subst (λ (n : ℕ). v < n) (sym (length-map (module_numbered files) (λ x. filter_map (used_number files x.file) (use_statements files x)))) ((found_at _ (module_numbered files) v is).0)

    -- in the module itself
    here_alike : all_of e ≡ flat_map (use_by files e marks) (use_statements files e)
    here_alike =
        flat_alike (λ one. unknown_use files e one ++ cycle_use files e one) (use_by files e marks) (use_statements files e)
        (each_of (λ one. (unknown_use files e one ++ cycle_use files e one) ≡ use_by files e marks one)
        (λ one. ap (λ b. unknown_use files e one ++ cond b (found Cycle (place e.file (token_of e one)) ∷ []) [])
        (ap (λ user. is_on_cycle files user (used_number files e.file one)) position_here ∙ marked_is (used_number files e.file one) (λ v is. used_below one v is)))
        (use_statements files e))

    -- a use in it that leads back
    back : (k : ℕ) × (one : UseStatement) × (slice_get (use_statements files e) k ≡ Some one) × (is_marked marks (used_number files e.file one) ≡ true)
    back =
        let cycle = cycle_leads (module_uses files) m least.on in
        let v : ℕ = cycle.0 in
        let listed : Contains (filter_map (used_number files e.file) (use_statements files e)) v = subst (λ l. Contains l v) (uses_of files m e at) cycle.1 in
        let some : list_any (λ w. option_map_or (nat_eq v) (used_number files e.file w) false) (use_statements files e) ≡ true =
        any_filter_map (nat_eq v) (used_number files e.file) (use_statements files e)
        ∙ list_any_at (nat_eq v) (filter_map (used_number files e.file) (use_statements files e)) listed.0 v listed.1 (ap (nat_eq v) listed.2 ∙ same_number v) in
        let one = Any-from_list_any (λ w. option_map_or (nat_eq v) (used_number files e.file w) false) (use_statements files e) some in (
          one.0,
          one.1,
          slice_get-get_or (use_statements files e) one.0 one.1 one.2 ∙ ap Some one.3,
          leads_back v cycle.2 (used_number files e.file one.1) one.4 (λ w is. used_below one.1 w is),
        )
      where
        leads_back : (v : ℕ) → leads_to (module_uses files) v m ≡ true → (used : Option ℕ) → option_map_or (nat_eq v) used false ≡ true → ((w : ℕ) → used ≡ Some w → w < length (module_uses files))
            → is_marked marks used ≡ true
        leads_back v leads None named below = absurd (let no_number : false ≡ true = named in cc)
        leads_back v leads (Some w) named below =
            let same : v ≡ w = eqb-true v w named in
            ap (λ o. unwrap_or o false) (told w (below w refl)) ∙ subst (λ n. leads_to (module_uses files) n m ≡ true) same leads

    first_back : Finding
    first_back = found Cycle (place e.file (token_of e back.1))

    has_back_here : Has (flat_map (use_by files e marks) (use_statements files e)) first_back
    unfolding first_back
    has_back_here =
        has_flat (use_by files e marks) (use_statements files e) back.0 back.1 (found Cycle (place e.file (token_of e back.1))) back.2
        (has_back (unknown_use files e back.1) (cond (is_marked marks (used_number files e.file back.1)) (found Cycle (place e.file (token_of e back.1)) ∷ []) []) (found Cycle (place e.file (token_of e back.1)))
        (subst (λ b. Has (cond b (found Cycle (place e.file (token_of e back.1)) ∷ []) []) (found Cycle (place e.file (token_of e back.1)))) (sym back.3) (λ P all. all.0)))

    -- ---- what comes later

    statement_is : (file st : ℕ) (one : UseStatement) → use_statement_at files file st ≡ Some one → one.statement ≡ st
    statement_is file st one is = by (option_and_then module_token (layer_at files file st)) is
      where
        by : (token : Option ℕ) → ◌≡◌ {A = Option UseStatement} (option_map (λ name. record { statement = st; name = name }) token) (Some one) → one.statement ≡ st
        by None is = absurd cc
        by (Some name) is = let same : one ≡ record { statement = st; name = name } = cc in ap (λ (u : UseStatement). u.statement) same

    abbrev StandsIn : Extent → UseStatement → Type 0
    StandsIn x one = (x.opening ≤ one.statement) × (one.statement ≤ x.ending)

    stand_in : (x : Extent) → Within (λ file. statements_in file files) x → Each (StandsIn x) (use_statements files x)
    stand_in x within =
        each_filter_map (StandsIn x) (use_statement_at files x.file) (all_statements x)
        (each_weaker (λ st. (x.opening ≤ st) × (st < x.opening + (x.ending + 1 - x.opening))) (λ st. (one : UseStatement) → use_statement_at files x.file st ≡ Some one → StandsIn x one)
        (λ st in_it one is.
        let same : one.statement ≡ st = statement_is x.file st one is in
        let low : x.opening ≤ st = in_it.0 in
        let high : st < x.opening + (x.ending + 1 - x.opening) = in_it.1 in
        let long : x.opening < x.ending = within.0 in
        (omega arith, omega arith))
        (all_statements x) (each_range x.opening (x.ending + 1 - x.opening)))

    abbrev Later : Extent → Type 0
    Later x = Comes e x × (has_no_host files x ≡ true) × Within (λ file. statements_in file files) x

    here_placed : IsPlaced e
    here_placed = each_at IsPlaced (module_numbered files) m e modules_placed at

    not_inside : (x : Extent) → has_no_host files x ≡ true → encloses x.file x.opening e ≡ false
    not_inside x alone = by (host_of files x) refl alone
      where
        by : (host : Option Extent) → host_of files x ≡ host → option_map_or (λ h. false) host true ≡ true → encloses x.file x.opening e ≡ false
        by (Some h) is alone = absurd (let no_way : false ≡ true = alone in cc)
        by None is alone =
            each_at (λ p. encloses x.file x.opening p ≡ false) (scoping files) here_placed.0 e
            (none_passes (encloses x.file x.opening) (scoping files) (none_of (encloses x.file x.opening) None (scoping files) is)) here_placed.1

    apart_from : (x : Extent) → Later x → (e.file < x.file) ⊎ ((e.file ≡ x.file) × (e.ending < x.opening))
    apart_from x later = by later.0 (not_inside x later.1) later.2
      where
        by : Comes e x → encloses x.file x.opening e ≡ false → Within (λ file. statements_in file files) x → (e.file < x.file) ⊎ ((e.file ≡ x.file) × (e.ending < x.opening))
        by (inl less) outside within = inl less
        by (inr (same, less, inr apart)) outside within = inr (same, apart)
        by (inr (same, less, inl inside)) outside within = absurd (
            let long : x.opening < x.ending = within.0 in
            let covered : x.opening ≤ e.ending = omega arith in
            let early : e.opening ≤ x.opening = omega arith in
            let encloses_it : encloses x.file x.opening e ≡ true = grind (arith, nat_tests) in
            cc)

    behind : (a b p q r : ℕ) → (b < a) ⊎ ((b ≡ a) × (q ≤ p)) → (nat_lt a b || ((a == b) && (nat_lt p q || ((p == q) && nat_lt r r)))) ≡ false
    behind a b p q r (inl less) = grind (arith, nat_tests)
    behind a b p q r (inr side) = let le : q ≤ p = side.1 in grind (arith, nat_tests)

    here_within : Within (λ file. statements_in file files) e
    here_within =
        let (a, b, whole, long) = split_at (module_numbered files) m e at in
        (after_it (λ file. statements_in file files) a e b (subst (Ordered (λ file. statements_in file files)) whole modules_ordered)).0

    later_token : (x : Extent) → Later x → (one : UseStatement) → StandsIn x one → (e.file < x.file) ⊎ ((e.file ≡ x.file) × (token_of e back.1 ≤ token_of x one))
    later_token x later one stands = by (apart_from x later)
      where
        by : (e.file < x.file) ⊎ ((e.file ≡ x.file) × (e.ending < x.opening)) → (e.file < x.file) ⊎ ((e.file ≡ x.file) × (token_of e back.1 ≤ token_of x one))
        by (inl less) = inl less
        by (inr side) =
            let first : StandsIn e back.1 = each_at (StandsIn e) (use_statements files e) back.0 back.1 (stand_in e here_within) back.2 in
            let low : back.1.statement ≤ e.ending = first.1 in
            let high : x.opening ≤ one.statement = stands.0 in
            let last : one.statement ≤ x.ending = stands.1 in
            let less : e.ending < x.opening = side.1 in
            let ends : x.ending < statements_in x.file files = later.2.1 in
            let within : one.statement < statements_in x.file files = omega arith in
            let ordered : back.1.statement ≤ one.statement = omega arith in
            inr (side.0, subst (λ (f : ℕ). first_token_at files f back.1.statement ≤ token_of x one) (sym side.0) (tokens_rise files are x.file back.1.statement one.statement ordered within))

    later_behind : (x : Extent) → Later x → (one : UseStatement) → StandsIn x one → Each (λ f. before_in_place use_rank f first_back ≡ false) (cycle_use files x one)
    unfolding first_back
    later_behind x later one stands = by (is_on_cycle files (position (same_extent x) (module_numbered files)) (used_number files x.file one))
      where
        by : (b : Bool) → Each (λ f. before_in_place use_rank f (found Cycle (place e.file (token_of e back.1))) ≡ false) (cond b (found Cycle (place x.file (token_of x one)) ∷ []) [])
        by true = (behind x.file e.file (token_of x one) (token_of e back.1) 1 (later_token x later one stands), tt)
        by false = tt

    plain_less : (x : Extent) → UseStatement → List Finding
    plain_less x one = cond (is_marked [] (used_number files x.file one)) (found Cycle (place x.file (token_of x one)) ∷ []) []

    nothing_less : (x : Extent) (one : UseStatement) → plain_less x one ≡ []
    unfolding plain_less
    nothing_less x one = by (used_number files x.file one)
      where
        by : (used : Option ℕ) → cond (is_marked [] used) (found Cycle (place x.file (token_of x one)) ∷ []) [] ≡ []
        by None = refl
        by (Some v) = refl

    skip_unit : (x : Extent) → Later x → (xs ys : List Finding) → Has xs first_back → first_finding use_rank (xs ++ (all_of x ++ ys)) ≡ first_finding use_rank (xs ++ (plain_of x ++ ys))
    unfolding plain_less
    skip_unit x later xs ys has =
        skip_in (before_in_place use_rank) (place_turns use_rank) (place_fails use_rank) (unknown_use files x) (cycle_use files x) (plain_less x) (nothing_less x) first_back (use_statements files x) xs ys has
        (each_weaker (StandsIn x) (λ one. Each (λ f. before_in_place use_rank f first_back ≡ false) (cycle_use files x one)) (later_behind x later) (use_statements files x) (stand_in x later.2))

    skip_units : (post : List Extent) → Each Later post → (xs : List Finding) → Has xs first_back → first_finding use_rank (xs ++ flat_map all_of post) ≡ first_finding use_rank (xs ++ flat_map plain_of post)
    skip_units [] all xs has = refl
    skip_units (x ∷ post) all xs has =
        skip_unit x all.0 xs (flat_map all_of post) has
        ∙ ap (first_finding use_rank) (sym (append_assoc xs (plain_of x) (flat_map all_of post)))
        ∙ skip_units post all.1 (xs ++ plain_of x) (has_front xs (plain_of x) first_back has)
        ∙ ap (first_finding use_rank) (append_assoc xs (plain_of x) (flat_map plain_of post))

    -- ---- all units

    abbrev told_of : Extent → List Finding
    told_of x = uses_by files (Some scope) marks x

    other_told : (x : Extent) → same_extent x e ≡ false → plain_of x ≡ told_of x
    other_told x other = sym (ap (λ b. flat_map (use_by files x (cond b marks [])) (use_statements files x)) (ap (same_extent x) unit ∙ other))

    here_told : all_of e ≡ told_of e
    here_told =
        here_alike ∙ sym (ap (λ b. flat_map (use_by files e (cond b marks [])) (use_statements files e))
        (ap (same_extent e) unit ∙ ap₂ (λ a b. a && b) (same_number e.file) (same_number e.opening)))

    earlier_told : (x : Extent) → IsPlaced x → Comes x e → all_of x ≡ told_of x
    earlier_told x here comes =
        no_cycle_here x here none ∙ other_told x (same_apart x e (comes_apart x e comes))
      where
        none : (u : ℕ) → slice_get (module_numbered files) u ≡ Some x → IsOnCycle (module_uses files) u → ⊥
        none u there cycle = by (cases_lt u m) (cases_lt m u)
          where
            by : (u < m) ⊎ (m ≤ u) → (m < u) ⊎ (u ≤ m) → ⊥
            by (inl less) other = least.least u less cycle
            by (inr _) (inl less) =
                not_both x e (comes_apart x e comes) (ordered_at (λ file. statements_in file files) (module_numbered files) m u e x modules_ordered at there less)
            by (inr le) (inr ge) =
                let equal : u ≡ m = omega arith in
                let one : slice_get (module_numbered files) m ≡ Some x = subst (λ (k : ℕ). slice_get (module_numbered files) k ≡ Some x) equal there in
                let same : x ≡ e = cc in
                not_itself e (comes_apart e e (subst (λ y. Comes y e) same comes))

    ordered_within : (es : List Extent) → Ordered (λ file. statements_in file files) es → Each (Within (λ file. statements_in file files)) es
    ordered_within [] order = tt
    ordered_within (x ∷ es) order = (order.0, ordered_within es order.2)

    each_both : {A : Type 0} (P Q : A → Type 0) (xs : List A) → Each P xs → Each Q xs → Each (λ x. P x × Q x) xs
    each_both P Q [] one two = tt
    each_both P Q (x ∷ xs) one two = ((one.0, two.0), each_both P Q xs one.1 two.1)

    abbrev IsOuter : Extent → Type 0
    IsOuter x = (IsPlaced x × (has_no_host files x ≡ true)) × Within (λ file. statements_in file files) x

    outer_are : Each IsOuter (program_units files)
    outer_are =
        each_both (λ x. IsPlaced x × (has_no_host files x ≡ true)) (Within (λ file. statements_in file files)) (program_units files)
        (each_passed IsPlaced (has_no_host files) (scoping files) (each_placed (scoping files))) (ordered_within (program_units files) units_ordered)

    number_here : (k : ℕ) × (slice_get (program_units files) k ≡ Some e)
    number_here =
        each_at (λ x. (k : ℕ) × (slice_get (program_units files) k ≡ Some x)) (module_numbered files) m e
        (each_filter (λ x. (k : ℕ) × (slice_get (program_units files) k ≡ Some x)) (λ x. is_module (scope_kind files x)) (program_units files) (each_placed (program_units files))) at

    -- the marks tell the first fault
    pub cycles_told : first_finding use_rank (flat_map (uses_by files (Some scope) marks) (program_units files)) ≡ first_finding use_rank (use_findings files)
    cycles_told =
        let (pre, post, whole, long) = split_at (program_units files) number_here.0 e number_here.1 in
        let order : Ordered (λ file. statements_in file files) (pre ++ e ∷ post) = subst (Ordered (λ file. statements_in file files)) whole units_ordered in
        let outer : Each IsOuter (pre ++ e ∷ post) = subst (λ us. Each IsOuter us) whole outer_are in
        let before : Each (λ x. Comes x e) pre = from_every (λ x. Comes x e) pre (before_it (λ file. statements_in file files) pre e post order) in
        let after : Each (Comes e) post = from_every (Comes e) post (after_it (λ file. statements_in file files) pre e post order).1 in
        let outer_front : Each IsOuter pre = each_front IsOuter pre (e ∷ post) outer in
        let outer_back : Each IsOuter post = (each_back IsOuter pre (e ∷ post) outer).1 in
        let later : Each Later post =
        each_weaker (λ x. Comes e x × IsOuter x) Later (λ x both. (both.0, both.1.0.1, both.1.1)) post (each_both (Comes e) IsOuter post after outer_back) in
        let front : flat_map all_of pre ≡ flat_map told_of pre =
        flat_alike all_of told_of pre (each_weaker (λ x. Comes x e × IsOuter x) (λ x. all_of x ≡ told_of x) (λ x both. earlier_told x both.1.0.0 both.0) pre (each_both (λ x. Comes x e) IsOuter pre before outer_front)) in
        let rest : flat_map plain_of post ≡ flat_map told_of post =
        flat_alike plain_of told_of post (each_weaker (Comes e) (λ x. plain_of x ≡ told_of x) (λ x comes. other_told x (apart_same x e (comes_apart e x comes))) post after) in
        let has : Has (flat_map told_of pre ++ told_of e) first_back =
        has_back (flat_map told_of pre) (told_of e) first_back (subst (λ l. Has l first_back) (sym here_alike ∙ here_told) has_back_here) in
        ap (λ us. first_finding use_rank (flat_map told_of us)) whole
        ∙ ap (first_finding use_rank) (flat_map-append told_of pre (e ∷ post) ∙ sym (append_assoc (flat_map told_of pre) (told_of e) (flat_map told_of post)) ∙ ap (λ l. (flat_map told_of pre ++ told_of e) ++ l) (sym rest))
        ∙ sym (skip_units post later (flat_map told_of pre ++ told_of e) has)
        ∙ ap (first_finding use_rank) (append_assoc (flat_map told_of pre) (told_of e) (flat_map all_of post) ∙ ap₂ (λ a b. a ++ (b ++ flat_map all_of post)) (sym front) (sym here_told) ∙ sym (flat_map-append all_of pre (e ∷ post)))
        ∙ ap (λ us. first_finding use_rank (flat_map all_of us)) (sym whole)

    some_first : (xs : List Finding) → Has xs first_back → is_some (first_finding use_rank xs) ≡ true
    some_first [] has = absurd (has (λ _. ⊥) tt)
    some_first (x ∷ xs) has = refl

    -- there is one
    pub cycle_found : is_some (first_finding use_rank (use_findings files)) ≡ true
    cycle_found =
        ap is_some (sym cycles_told)
        ∙ some_first (flat_map told_of (program_units files))
        (has_flat told_of (program_units files) number_here.0 e first_back number_here.1 (subst (λ l. Has l first_back) (sym here_alike ∙ here_told) has_back_here))
