-- The units around a statement are the extents that cover it.
use Rattle.std.proofs.Common.{◌≡◌, ◌≢◌, ◌⊎◌, inl, inr, refl, sym, ◌∙◌, ap, subst, ◌≤◌, ◌<◌, ℕ, zero, suc, ◌+◌, ◌==◌, nat_le, Bool, true, false, not, ◌&&◌, cond, if◌then◌else◌, List, [], ◌∷◌, ◌++◌, length, map, reverse, slice_get, Option, Some, None, option_map, true≢false, arith}
use Rattle.std.specs.List.{All, filter, find, flat_map, last_or}
use Rattle.std.specs.Option.{option_or}
use Rattle.std.proofs.lemmas.Bool.{and_left, and_right, eq-eqb, eqb-true, leb-false, leb-true, lt-leb, ne_eqb}
use Rattle.std.proofs.lemmas.List.{append-nil, length-append, reverse-append}
use Rattle.std.proofs.lemmas.List.Elements.{All-head, All-tail, filter-append}
use Rattle.std.proofs.lemmas.List.Folds.{flat_map-map, find-append}
use Rattle.ftn_tree.specs.declared.mark.Mark.{Mark}
use Rattle.ftn_tree.specs.declared.mark.Title.{Title}
use Rattle.ftn_tree.specs.declared.table.Extent.{Extent}
use Rattle.ftn_tree.specs.declared.unit.Block.{Block}
use Rattle.ftn_tree.specs.declared.unit.Block.TheVariants.{Plain, Nest}
use Rattle.ftn_tree.specs.declared.unit.FileTree.{FileTree}
use Rattle.ftn_tree.specs.declared.unit.Unit.{Unit as UnitTree, roll-Unit}
use Rattle.ftn_tree.specs.declared.unit.Unit.TheFolds.{fold-roll-Unit}
use Rattle.ftn_tree.specs.Around.{around, around_step, units_around}
use Rattle.ftn_tree.specs.Extents.{extent_step, extents_in, extents_from, extents, layer_at, is_interface_at, is_interface, covers, scope_of}
use Rattle.ftn_tree.specs.Marks.{is_construct, begins_arm}
use Rattle.ftn_tree.specs.Nesting.{Row, none, stands, nest, spelled, Held, held, with_statement, with_nest, unit, arm, arms_of, Nested}
use Rattle.ftn_tree.specs.Projects.{IsSomeTree, AreTrees}
use Rattle.ftn_tree.proofs.AroundLemmas.{around_unit}

-- ---- the extents of units

abbrev pub own : ℕ → ℕ → ℕ → Extent
own file opening ending = record { file = file; opening = opening; ending = ending }

pub rolled_extents : (file opening ending : ℕ) (inner : List UnitTree) (body : List Block) →
    extents_in file (roll-Unit (record { opening = opening; ending = ending; inner = inner; body = body })) ≡ own file opening ending ∷ flat_map (extents_in file) inner
rolled_extents file opening ending inner body =
    fold-roll-Unit (List Extent) (extent_step file) (record { opening = opening; ending = ending; inner = inner; body = body })
    ∙ ap (λ more. own file opening ending ∷ more) (flat_map-map (λ (inner : List Extent). inner) (extents_in file) inner)

-- those that cover a statement of a file
abbrev covering : ℕ → ℕ → ℕ → List UnitTree → List Extent
covering file k of units = filter (covers file k) (flat_map (extents_in of) units)

covering_unit : (file k of opening ending : ℕ) (h : Held) (after : List UnitTree)
    → covering file k of (unit opening ending h ∷ after) ≡ cond (covers file k (own of opening ending)) (own of opening ending ∷ covering file k of h.units) (covering file k of h.units) ++ covering file k of after
covering_unit file k of opening ending h after =
    ap (λ es. filter (covers file k) (es ++ flat_map (extents_in of) after)) (rolled_extents of opening ending h.units h.blocks)
    ∙ filter-append (covers file k) (own of opening ending ∷ flat_map (extents_in of) h.units) (flat_map (extents_in of) after)

-- ---- what holds of all units that rows hold

-- the units of one of two
abbrev chosen : Bool → Held → Held → List UnitTree
chosen b one other = let held : Held = if b then one else other in held.units

module _ (P : ℕ → ℕ → List UnitTree → Type 0) (nothing : (at : ℕ) → P at at []) (wider : (low from high : ℕ) (units : List UnitTree) → low ≤ from → P from high units → P low high units)
    (one : (at ending high : ℕ) (h : Held) (after : List UnitTree) → at < ending → ending < high → P (at + 1) ending h.units → P (ending + 1) high after → P at high (unit at ending h ∷ after)) where
  with_statement_of : (at high : ℕ) (m : Mark) (after : Held) → P (at + 1) high after.units → P at high (with_statement at m after).units
  with_statement_of at high m after holds = by (begins_arm m) where
    by : (begins : Bool) → P at high (chosen begins (record { units = after.units; blocks = []; arms = arm at after.blocks ∷ after.arms }) (record { units = after.units; blocks = Plain at ∷ after.blocks; arms = after.arms }))
    by true = wider at (at + 1) high after.units (omega arith) holds
    by false = wider at (at + 1) high after.units (omega arith) holds

  with_nest_of : (at ending high : ℕ) (what : Title) (inside after : Held) → at < ending → ending < high → P (at + 1) ending inside.units → P (ending + 1) high after.units
      → P at high (with_nest at what inside ending after).units
  with_nest_of at ending high what inside after order last within holds = by (is_construct what.word) where
    by : (construct : Bool) → P at high (chosen construct (record { units = after.units; blocks = Nest at (arms_of at what inside) ending ∷ after.blocks; arms = after.arms })
        (record { units = unit at ending inside ∷ after.units; blocks = after.blocks; arms = after.arms }))
    by true = wider at (ending + 1) high after.units (omega arith) holds
    by false = one at ending high inside after.units order last within holds

  pub of_row : (at high : ℕ) (row : Row) → at + length (spelled row) ≡ high → P at high (held at row).units
  of_row at high none long = subst (λ n. P at n []) (same at high long) (nothing at) where
    same : (at high : ℕ) → at + 0 ≡ high → at ≡ high
    same at high long = omega arith
  of_row at high (stands m rest) long = with_statement_of at high m (held (at + 1) rest) (of_row (at + 1) high rest (next at high (length (spelled rest)) long)) where
    next : (at high n : ℕ) → at + suc n ≡ high → at + 1 + n ≡ high
    next at high n long = omega arith
  of_row at high (nest what inside end rest) long =
      let ending : ℕ = at + 1 + length (spelled inside) in
      let whole : at + 1 + length (spelled inside) + 1 + length (spelled rest) ≡ high = all (length-append (spelled inside) (end ∷ spelled rest)) in
      with_nest_of at (at + 1 + length (spelled inside)) high what (held (at + 1) inside) (held (at + 1 + length (spelled inside) + 1) rest)
      (omega arith) (omega (arith, whole)) (of_row (at + 1) (at + 1 + length (spelled inside)) inside refl) (of_row (at + 1 + length (spelled inside) + 1) high rest whole)
    where
      all : length (spelled inside ++ end ∷ spelled rest) ≡ length (spelled inside) + suc (length (spelled rest)) → at + 1 + length (spelled inside) + 1 + length (spelled rest) ≡ high
      all parts = omega (arith, long)

-- ---- of another file

apart : (file of k opening ending : ℕ) → (of == file) ≡ false → covers file k (own of opening ending) ≡ false
apart file of k opening ending other = ap (λ (b : Bool). (b && nat_le opening k) && nat_le k ending) other

none_there : (file of k : ℕ) → (of == file) ≡ false → (row : Row) → covering file k of (held 0 row).units ≡ []
none_there file of k other row = of_row (λ low high units. covering file k of units ≡ []) (λ at. refl) (λ low from high units less is. is) one 0 (0 + length (spelled row)) row refl where
  one : (at ending high : ℕ) (h : Held) (after : List UnitTree) → at < ending → ending < high → covering file k of h.units ≡ [] → covering file k of after ≡ [] → covering file k of (unit at ending h ∷ after) ≡ []
  one at ending high h after order last within more =
      covering_unit file k of at ending h after
      ∙ ap (λ b. cond b (own of at ending ∷ covering file k of h.units) (covering file k of h.units) ++ covering file k of after) (apart file of k at ending other)
      ∙ ap (λ es. es ++ covering file k of after) within
      ∙ more

-- ---- of that file

abbrev opening_of : Extent → ℕ
opening_of e = e.opening

abbrev turned : List Extent → List ℕ
turned es = reverse (map opening_of es)

-- of units that stand from one statement up to another
record Tied (file k low high : ℕ) (units : List UnitTree) : Type 0 where
  are : units_around units k ≡ turned (covering file k file units)
  outside : (k < low) ⊎ (high ≤ k) → covering file k file units ≡ []

covers_by : (file k opening ending : ℕ) → covers file k (own file opening ending) ≡ (nat_le opening k && nat_le k ending)
covers_by file k opening ending = ap (λ (b : Bool). (b && nat_le opening k) && nat_le k ending) (eq-eqb file file refl)

around_other : (k opening ending : ℕ) (h : Held) → (nat_le opening k && nat_le k ending) ≡ false → around k (unit opening ending h) ≡ []
around_other k opening ending h isnt =
    fold-roll-Unit (List ℕ) (around_step k) (record { opening = opening; ending = ending; inner = h.units; body = h.blocks })
    ∙ ap (λ (b : Bool). if b then flat_map (λ (inner : List ℕ). inner) (map (around k) h.units) ++ opening ∷ [] else []) isnt

tied : (file k : ℕ) (row : Row) → Tied file k 0 (0 + length (spelled row)) (held 0 row).units
tied file k row = of_row (Tied file k) nothing wider one 0 (0 + length (spelled row)) row refl where
  nothing : (at : ℕ) → Tied file k at at []
  nothing at = record { are = refl; outside = λ out. refl }

  wider : (low from high : ℕ) (units : List UnitTree) → low ≤ from → Tied file k from high units → Tied file k low high units
  wider low from high units less holds = record { are = holds.are; outside = by } where
    by : (k < low) ⊎ (high ≤ k) → covering file k file units ≡ []
    by (inl before) = holds.outside (inl (omega arith))
    by (inr after) = holds.outside (inr after)

  one : (at ending high : ℕ) (h : Held) (after : List UnitTree) → at < ending → ending < high → Tied file k (at + 1) ending h.units → Tied file k (ending + 1) high after
      → Tied file k at high (unit at ending h ∷ after)
  one at ending high h after order last within more = record { are = cases (nat_le at k) (nat_le k ending) refl refl; outside = beyond } where
    first : Extent
    first = own file at ending

    split : (b : Bool) → (nat_le at k && nat_le k ending) ≡ b
        → covering file k file (unit at ending h ∷ after) ≡ cond b (first ∷ covering file k file h.units) (covering file k file h.units) ++ covering file k file after
    split b is =
        covering_unit file k file at ending h after
        ∙ ap (λ b. cond b (first ∷ covering file k file h.units) (covering file k file h.units) ++ covering file k file after) (covers_by file k at ending ∙ is)

    passed : (nat_le at k && nat_le k ending) ≡ false → covering file k file h.units ≡ [] → units_around (unit at ending h ∷ after) k ≡ turned (covering file k file (unit at ending h ∷ after))
    passed isnt inner =
        ap (λ (l : List ℕ). l ++ units_around after k) (around_other k at ending h isnt)
        ∙ more.are
        ∙ ap turned (sym (split false isnt ∙ ap (λ es. es ++ covering file k file after) inner))

    inside : nat_le at k ≡ true → nat_le k ending ≡ true → covering file k file after ≡ [] → units_around (unit at ending h ∷ after) k ≡ turned (covering file k file (unit at ending h ∷ after))
    inside low up later =
        ap (λ (l : List ℕ). l ++ units_around after k) (around_unit k (record { opening = at; ending = ending; inner = h.units; body = h.blocks }) low up)
        ∙ ap (λ (l : List ℕ). (units_around h.units k ++ at ∷ []) ++ l) (more.are ∙ ap turned later)
        ∙ append-nil (units_around h.units k ++ at ∷ [])
        ∙ ap (λ (l : List ℕ). l ++ at ∷ []) within.are
        ∙ sym (reverse-append (at ∷ []) (map opening_of (covering file k file h.units)))
        ∙ ap turned (sym (split true (ap (λ (b : Bool). b && nat_le k ending) low ∙ up) ∙ ap (λ es. (first ∷ covering file k file h.units) ++ es) later ∙ append-nil (first ∷ covering file k file h.units)))

    under : k ≤ ending → k < ending + 1
    under less = omega arith

    before_all : k < at → k < at + 1
    before_all less = omega arith

    past_all : ending < k → ending ≤ k
    past_all less = omega arith

    cases : (low up : Bool) → nat_le at k ≡ low → nat_le k ending ≡ up → units_around (unit at ending h ∷ after) k ≡ turned (covering file k file (unit at ending h ∷ after))
    cases true true low up = inside low up (more.outside (inl (under (leb-true k ending up))))
    cases false up low is = passed (and_left (nat_le at k) (nat_le k ending) low) (within.outside (inl (before_all (leb-false at k low))))
    cases true false low up = passed (and_right (nat_le at k) (nat_le k ending) up) (within.outside (inr (past_all (leb-false k ending up))))

    empty : (nat_le at k && nat_le k ending) ≡ false → covering file k file h.units ≡ [] → covering file k file after ≡ [] → covering file k file (unit at ending h ∷ after) ≡ []
    empty isnt inner later = split false isnt ∙ ap (λ es. es ++ covering file k file after) inner ∙ later

    beyond : (k < at) ⊎ (high ≤ k) → covering file k file (unit at ending h ∷ after) ≡ []
    beyond (inl less) = empty (and_left (nat_le at k) (nat_le k ending) (lt-leb at k less)) (within.outside (inl (before_all less))) (more.outside (inl (sooner less))) where
      sooner : k < at → k < ending + 1
      sooner less = omega arith
    beyond (inr past) = empty (and_right (nat_le at k) (nat_le k ending) (lt-leb k ending (past_end past))) (within.outside (inr (past_all (past_end past)))) (more.outside (inr past)) where
      past_end : high ≤ k → ending < k
      past_end past = omega arith

-- ---- of a project

row_of : (tree : FileTree) → IsSomeTree tree → (row : Row) × ((held 0 row).units ≡ tree.units)
row_of tree (edition, text, short, (clean, is)) = by is.nested where
  by : {same : ℕ → ℕ → Bool} {marks : List Mark} → Nested same marks tree.units → (row : Row) × ((held 0 row).units ≡ tree.units)
  by (row, nests, spells, units) = (row, units)

others_none : (file of k : ℕ) (tree : FileTree) → (of == file) ≡ false → IsSomeTree tree → covering file k of tree.units ≡ []
others_none file of k tree other is = let (row, units) = row_of tree is in ap (covering file k of) (sym units) ∙ none_there file of k other row

later_none : (file of k : ℕ) (trees : List FileTree) → file < of → All IsSomeTree trees → filter (covers file k) (extents_from of trees) ≡ []
later_none file of k [] less all = refl
later_none file of k (tree ∷ trees) less all =
    filter-append (covers file k) (flat_map (extents_in of) tree.units) (extents_from (of + 1) trees)
    ∙ ap (λ es. es ++ filter (covers file k) (extents_from (of + 1) trees)) (others_none file of k tree (differ of less) (All-head IsSomeTree tree trees all))
    ∙ later_none file (of + 1) k trees (omega arith) (All-tail IsSomeTree tree trees all)
  where
    differ : (of : ℕ) → file < of → (of == file) ≡ false
    differ of less = ne_eqb of file (λ same. absurd (omega arith))

in_its_file : (file of at k : ℕ) (trees : List FileTree) (tree : FileTree) → of + at ≡ file → All IsSomeTree trees → slice_get trees at ≡ Some tree
    → filter (covers file k) (extents_from of trees) ≡ covering file k file tree.units
in_its_file file of at k [] tree is all there = let e : None ≡ Some tree = there in absurd (cc e)
in_its_file file of zero k (first ∷ trees) tree is all there =
    let e : Some first ≡ Some tree = there in
    let same : first ≡ tree = cc e in
    filter-append (covers file k) (flat_map (extents_in of) first.units) (extents_from (of + 1) trees)
    ∙ ap (λ es. covering file k of first.units ++ es) (later_none file (of + 1) k trees (omega arith) (All-tail IsSomeTree first trees all))
    ∙ append-nil (covering file k of first.units)
    ∙ ap (λ (t : FileTree). covering file k of t.units) same
    ∙ ap (λ of. covering file k of tree.units) (here of file is)
  where
    here : (of file : ℕ) → of + 0 ≡ file → of ≡ file
    here of file is = omega arith
in_its_file file of (suc at) k (first ∷ trees) tree is all there =
    filter-append (covers file k) (flat_map (extents_in of) first.units) (extents_from (of + 1) trees)
    ∙ ap (λ es. es ++ filter (covers file k) (extents_from (of + 1) trees)) (others_none file of k first (differ is) (All-head IsSomeTree first trees all))
    ∙ in_its_file file (of + 1) at k trees tree (omega arith) (All-tail IsSomeTree first trees all) there
  where
    differ : of + suc at ≡ file → (of == file) ≡ false
    differ is = ne_eqb of file (λ same. absurd (omega arith))

-- the units around a statement are the extents that cover it, the innermost first
pub around_covers : (files : List FileTree) (file k : ℕ) (tree : FileTree) → AreTrees files → slice_get files file ≡ Some tree
    → units_around tree.units k ≡ reverse (map (λ (e : Extent). e.opening) (filter (covers file k) (extents files)))
around_covers files file k tree are there =
    let (row, units) = row_of tree (All-get files file tree are.trees there) in
    ap (λ (units : List UnitTree). units_around units k) (sym units)
    ∙ (tied file k row).are
    ∙ ap (λ (units : List UnitTree). turned (covering file k file units)) units
    ∙ ap turned (sym (in_its_file file 0 file k files tree (none_more file) are.trees there))
  where
    none_more : (file : ℕ) → 0 + file ≡ file
    none_more file = omega arith

    All-get : (files : List FileTree) (file : ℕ) (tree : FileTree) → All IsSomeTree files → slice_get files file ≡ Some tree → IsSomeTree tree
    All-get [] file tree all there = let e : None ≡ Some tree = there in absurd (cc e)
    All-get (first ∷ files) zero tree all there = let e : Some first ≡ Some tree = there in subst IsSomeTree (cc e) (All-head IsSomeTree first files all)
    All-get (first ∷ files) (suc file) tree all there = All-get files file tree (All-tail IsSomeTree first files all) there

-- ---- its scoping unit

filters_swap : {A : Type 0} (p q : A → Bool) (xs : List A) → filter p (filter q xs) ≡ filter q (filter p xs)
filters_swap p q [] = refl
filters_swap p q (x ∷ xs) = by (filters_swap p q xs) (p x) (q x) refl refl where
  left : (a b : Bool) → p x ≡ a → q x ≡ b → filter p (filter q (x ∷ xs)) ≡ cond b (cond a (x ∷ filter p (filter q xs)) (filter p (filter q xs))) (filter p (filter q xs))
  left a true pa qb = ap (λ b. filter p (cond b (x ∷ filter q xs) (filter q xs))) qb ∙ ap (λ a. cond a (x ∷ filter p (filter q xs)) (filter p (filter q xs))) pa
  left a false pa qb = ap (λ b. filter p (cond b (x ∷ filter q xs) (filter q xs))) qb

  right : (a b : Bool) → p x ≡ a → q x ≡ b → filter q (filter p (x ∷ xs)) ≡ cond a (cond b (x ∷ filter q (filter p xs)) (filter q (filter p xs))) (filter q (filter p xs))
  right true b pa qb = ap (λ a. filter q (cond a (x ∷ filter p xs) (filter p xs))) pa ∙ ap (λ b. cond b (x ∷ filter q (filter p xs)) (filter q (filter p xs))) qb
  right false b pa qb = ap (λ a. filter q (cond a (x ∷ filter p xs) (filter p xs))) pa

  by : filter p (filter q xs) ≡ filter q (filter p xs) → (a b : Bool) → p x ≡ a → q x ≡ b → filter p (filter q (x ∷ xs)) ≡ filter q (filter p (x ∷ xs))
  by more true true pa qb = left true true pa qb ∙ ap (λ l. x ∷ l) more ∙ sym (right true true pa qb)
  by more true false pa qb = left true false pa qb ∙ more ∙ sym (right true false pa qb)
  by more false true pa qb = left false true pa qb ∙ more ∙ sym (right false true pa qb)
  by more false false pa qb = left false false pa qb ∙ more ∙ sym (right false false pa qb)

-- the last that passes is the first from behind
last_is_first : {A B : Type 0} (p : B → Bool) (f : A → B) (o : Option A) (xs : List A)
    → option_or (find p (reverse (map f xs))) (option_map f o) ≡ option_map f (last_or o (filter (λ x. p (f x)) xs))
last_is_first p f o [] = refl
last_is_first p f o (x ∷ xs) =
    ap (λ l. option_or (find p l) (option_map f o)) (reverse-append (f x ∷ []) (map f xs))
    ∙ ap (λ one. option_or one (option_map f o)) (find-append p (reverse (map f xs)) (f x ∷ []))
    ∙ by (last_is_first p f (Some x) xs) (last_is_first p f o xs) (p (f x)) refl
  where
    keeps : {B : Type 0} (one : Option B) (b : B) (o : Option B) → option_or (option_or one (Some b)) o ≡ option_or one (Some b)
    keeps None b o = refl
    keeps (Some a) b o = refl

    drops : {B : Type 0} (one o : Option B) → option_or (option_or one None) o ≡ option_or one o
    drops None o = refl
    drops (Some a) o = refl

    by : option_or (find p (reverse (map f xs))) (Some (f x)) ≡ option_map f (last_or (Some x) (filter (λ x. p (f x)) xs))
        → option_or (find p (reverse (map f xs))) (option_map f o) ≡ option_map f (last_or o (filter (λ x. p (f x)) xs))
        → (passes : Bool) → p (f x) ≡ passes
        → option_or (option_or (find p (reverse (map f xs))) (cond (p (f x)) (Some (f x)) None)) (option_map f o) ≡ option_map f (last_or o (cond (p (f x)) (x ∷ filter (λ x. p (f x)) xs) (filter (λ x. p (f x)) xs)))
    by this more true is = rw is (keeps (find p (reverse (map f xs))) (f x) (option_map f o) ∙ this)
    by this more false is = rw is (drops (find p (reverse (map f xs))) (option_map f o) ∙ more)

first_found : {A B : Type 0} (p : B → Bool) (f : A → B) (xs : List A) → option_map f (last_or None (filter (λ x. p (f x)) xs)) ≡ find p (reverse (map f xs))
first_found p f xs = sym (last_is_first p f None xs) ∙ or_none (find p (reverse (map f xs))) where
  or_none : {B : Type 0} (o : Option B) → option_or o None ≡ o
  or_none None = refl
  or_none (Some b) = refl

-- what covers a statement of the file is of the file
judged : (files : List FileTree) (file k : ℕ) (es : List Extent)
    → filter (λ e. not (is_interface files e)) (filter (covers file k) es) ≡ filter (λ (e : Extent). not (is_interface_at (layer_at files file e.opening))) (filter (covers file k) es)
judged files file k [] = refl
judged files file k (e ∷ es) = by (judged files file k es) (e.file == file) refl (covers file k e) refl where
  other : (e.file == file) ≡ false → covers file k e ≡ false
  other isnt = ap (λ (b : Bool). (b && nat_le e.opening k) && nat_le k e.ending) isnt

  same : (e.file == file) ≡ true → e.file ≡ file
  same is = eqb-true e.file file is

  by : filter (λ e. not (is_interface files e)) (filter (covers file k) es) ≡ filter (λ (e : Extent). not (is_interface_at (layer_at files file e.opening))) (filter (covers file k) es)
      → (of_it : Bool) → (e.file == file) ≡ of_it → (passes : Bool) → covers file k e ≡ passes
      → filter (λ e. not (is_interface files e)) (cond (covers file k e) (e ∷ filter (covers file k) es) (filter (covers file k) es))
      ≡ filter (λ (e : Extent). not (is_interface_at (layer_at files file e.opening))) (cond (covers file k e) (e ∷ filter (covers file k) es) (filter (covers file k) es))
  by more of_it is false fails = rw fails more
  by more false is true holds = absurd (true≢false (sym holds ∙ other is))
  by more true is true holds =
      rw holds
      (ap (λ n. cond (not (is_interface_at (layer_at files n e.opening))) (e ∷ filter (λ e. not (is_interface files e)) (filter (covers file k) es)) (filter (λ e. not (is_interface files e)) (filter (covers file k) es))) (same is)
      ∙ ap (λ l. cond (not (is_interface_at (layer_at files file e.opening))) (e ∷ l) l) more)

-- the scoping unit of a statement is the first of the units around it that is no interface block
pub scope_around : (files : List FileTree) (file k : ℕ) (tree : FileTree) → AreTrees files → slice_get files file ≡ Some tree
    → option_map (λ (e : Extent). e.opening) (scope_of files file k) ≡ find (λ opening. not (is_interface_at (layer_at files file opening))) (units_around tree.units k)
scope_around files file k tree are there =
    ap (λ es. option_map (λ (e : Extent). e.opening) (last_or None es)) (filters_swap (covers file k) (λ e. not (is_interface files e)) (extents files) ∙ judged files file k (extents files))
    ∙ first_found (λ opening. not (is_interface_at (layer_at files file opening))) (λ (e : Extent). e.opening) (filter (covers file k) (extents files))
    ∙ ap (find (λ opening. not (is_interface_at (layer_at files file opening)))) (sym (around_covers files file k tree are there))
