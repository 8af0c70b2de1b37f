-- A program unit is no interface body: no file begins with an interface block.
use Rattle.std.proofs.Common.{◌≡◌, ℕ, suc, ◌+◌, ◌<◌, Bool, true, false, cond, List, [], ◌∷◌, ◌++◌, drop, filter, length, Option, Some, None, slice_get, option_map, refl, sym, ap, subst, ◌∙◌, arith}
use Rattle.std.specs.Prelude.{not}
use Rattle.std.specs.List.{flat_map, last_or, prefix_len, AllByRecursion as Each}
use Rattle.std.specs.Option.{option_and_then, option_map_or}
use Rattle.std.proofs.lemmas.Bool.Decides.{nat_tests}
use Rattle.std.proofs.lemmas.List.Elements.{filter-append}
use Rattle.std.proofs.lemmas.Option.{get_or_from_slice_get, slice_get-map, slice_get_within}
use Rattle.ftn_tree.specs.declared.form.Form.{Form, out-Form}
use Rattle.ftn_tree.specs.declared.form.Form.TheOpen.{Form-F}
use Rattle.ftn_tree.specs.declared.mark.Content.TheVariants as content
use Rattle.ftn_tree.specs.declared.mark.Mark.{Mark}
use Rattle.ftn_tree.specs.declared.mark.Mark.TheVariants as mark
use Rattle.ftn_tree.specs.declared.mark.Section.TheVariants as section
use Rattle.ftn_tree.specs.declared.mark.Title.{Title}
use Rattle.ftn_tree.specs.declared.parts.EndWord.{EndWord}
use Rattle.ftn_tree.specs.declared.parts.EndWord.TheVariants as word
use Rattle.ftn_tree.specs.declared.table.Extent.{Extent}
use Rattle.ftn_tree.specs.declared.unit.Block.TheVariants.{Plain, Nest}
use Rattle.ftn_tree.specs.declared.unit.FileTree.{FileTree}
use Rattle.ftn_tree.specs.declared.unit.Statement.{Statement}
use Rattle.ftn_tree.specs.Extents.{encloses, extents, extents_from, extents_in, form_in, host_of, innermost, is_interface, is_interface_at, is_some_interface, scoping}
use Rattle.ftn_tree.specs.Layers.{FormLayer}
use Rattle.ftn_tree.specs.Marks.{action_at, begins_arm, belongs, is_construct, is_unit, mark_at, mark_of, opens, opens_unit}
use Rattle.ftn_tree.specs.NestFaults.{marks_of}
use Rattle.ftn_tree.specs.Nesting.{Held, Nested, Row, arm, arms_of, heads, held, nest, none, spelled, stands, unit, with_statement}
use Rattle.ftn_tree.specs.Projects.{AreTrees, IsSomeTree}
use Rattle.ftn_tree.specs.Regions.{in_order}
use Rattle.ftn_tree.proofs.Surrounding.{own, rolled_extents}
use Rattle.decl_table.proofs.Rising.{Rise, row_rises}
use Rattle.const_value.proofs.Members.{each_append}
use Rattle.const_value.proofs.NamedPlaces.{get_behind}
use Rattle.const_value.proofs.RealTokens.{AreNoBodies}

-- ---- lists

each_left : {A : Type 0} (P : A → Type 0) (xs ys : List A) → Each P (xs ++ ys) → Each P xs
each_left P [] ys all = tt
each_left P (x ∷ xs) ys all = (all.0, each_left P xs ys all.1)

each_right : {A : Type 0} (P : A → Type 0) (xs ys : List A) → Each P (xs ++ ys) → Each P ys
each_right P [] ys all = all
each_right P (x ∷ xs) ys all = each_right P xs ys all.1

filter_empty : {A : Type 0} (test : A → Bool) (xs : List A) → filter test xs ≡ [] → Each (λ x. test x ≡ false) xs
filter_empty test [] is = tt
filter_empty {A} test (x ∷ xs) is = by (test x) refl is (filter_empty test xs) where
  by : (b : Bool) → test x ≡ b → cond b (x ∷ filter test xs) (filter test xs) ≡ [] → (filter test xs ≡ [] → Each (λ y. test y ≡ false) xs) → (test x ≡ false) × Each (λ y. test y ≡ false) xs
  by true passes is rest = absurd (cc is)
  by false fails is rest = (fails, rest is)

none_pass : {A : Type 0} (test : A → Bool) (xs : List A) → Each (λ x. test x ≡ false) xs → filter test xs ≡ []
none_pass test [] all = refl
none_pass test (x ∷ xs) all = ap (λ b. cond b (x ∷ filter test xs) (filter test xs)) all.0 ∙ none_pass test xs all.1

last_none : {A : Type 0} (xs : List A) → last_or None xs ≡ None → xs ≡ []
last_none [] is = refl
last_none {A} (x ∷ xs) is = absurd (later xs x is) where
  later : (ys : List A) (y : A) → last_or (Some y) ys ≡ None → ⊥
  later [] y is = cc is
  later (z ∷ ys) y is = later ys z is

-- ---- the statements of a row that hold units alone

all_belong : (marks : List Mark) → in_order (section.Any content.Unit ∷ []) marks ≡ true → Each (λ m. opens_unit m ≡ true) marks
all_belong [] is = tt
all_belong (m ∷ marks) is = by (opens_unit m) refl is (all_belong marks) where
  by : (b : Bool) → opens_unit m ≡ b → in_order [] (drop (cond b (1 + prefix_len (belongs content.Unit) marks) 0) (m ∷ marks)) ≡ true → (in_order (section.Any content.Unit ∷ []) marks ≡ true → Each (λ m. opens_unit m ≡ true) marks)
      → (opens_unit m ≡ true) × Each (λ m. opens_unit m ≡ true) marks
  by true is_one is rest = let same : suc (prefix_len (belongs content.Unit) marks) ≡ 1 + prefix_len (belongs content.Unit) marks = omega arith in (is_one, rest (ap (λ n. in_order [] (drop n (m ∷ marks))) same ∙ is))
  by false fails is rest = absurd (cc is)

-- ---- an opening of a unit is none of an interface block

no_interface_word : (name : Option ℕ) (what : Title) → mark.Open what ≡ opens word.Interface name → is_unit what.word ≡ true → ⊥
no_interface_word name what same is =
    let words : what.word ≡ word.Interface = cc same in
    let no : is_unit word.Interface ≡ true = sym (ap is_unit words) ∙ is in
    cc no

no_interface : (form : Form) (what : Title) → mark_of form ≡ mark.Open what → is_unit what.word ≡ true → is_interface_at (Some (out-Form form)) ≡ false
no_interface form what is unit_word = by (out-Form form) refl where
  by : (layer : FormLayer) → out-Form form ≡ layer → is_interface_at (Some layer) ≡ false
  by (Form-F.Interface name) same =
      let marked : mark_of form ≡ opens word.Interface name = ap (λ l. mark_at (out-Form (action_at form l))) same ∙ ap mark_at same in
      absurd (no_interface_word name what (sym is ∙ marked) unit_word)
  by other same = refl

not_construct : (which : EndWord) → is_unit which ≡ true → is_construct which ≡ false
not_construct word.If is = absurd (cc is)
not_construct word.Do is = absurd (cc is)
not_construct word.Select is = absurd (cc is)
not_construct other is = refl

module _ (files : List FileTree) (e : Extent) where
  -- it isn't around the extent
  abbrev IsApart : Extent → Type 0
  IsApart x = encloses e.file e.opening x ≡ false

  module _ (file : ℕ) (tree : FileTree) (there : slice_get files file ≡ Some tree) where
    -- what is inside one that isn't around the extent isn't either
    within : (at ending : ℕ) → IsApart (own file at ending) → (low : ℕ) → at < low → (es : List Extent) → Rise file low ending es → Each IsApart es
    within at ending apart low less [] rise = tt
    within at ending apart low less (x ∷ es) (is, first, order, last, beside, more) =
        (by (encloses e.file e.opening x) refl, within at ending apart (x.opening + 1) (omega (arith, less, first)) es more)
      where
        around : x.file ≡ file → at < x.opening → x.ending < ending → encloses e.file e.opening x ≡ true → encloses e.file e.opening (own file at ending) ≡ true
        around same before after inside = grind (arith, nat_tests)

        by : (b : Bool) → encloses e.file e.opening x ≡ b → encloses e.file e.opening x ≡ false
        by true inside = absurd (cc (apart, around is (omega (arith, less, first)) last inside))
        by false outside = outside

    -- the marks from that statement on
    abbrev Marked : ℕ → Row → Type 0
    Marked at row = (k : ℕ) (m : Mark) → slice_get (spelled row) k ≡ Some m → (s : Statement) × (slice_get tree.statements (at + k) ≡ Some s) × (mark_of s.form ≡ m)

    stood : (at : ℕ) (m : Mark) (after : Held) → flat_map (extents_in file) (with_statement at m after).units ≡ flat_map (extents_in file) after.units
    stood at m after = by (begins_arm m) where
      by : (begins : Bool) → flat_map (extents_in file) ((cond {A = Held} begins (record { units = after.units; blocks = []; arms = arm at after.blocks ∷ after.arms }) (record { units = after.units; blocks = Plain at ∷ after.blocks; arms = after.arms })).units)
          ≡ flat_map (extents_in file) after.units
      by true = refl
      by false = refl

    row_apart : (at : ℕ) (row : Row) → Each (λ m. opens_unit m ≡ true) (heads row) → Marked at row
        → Each IsApart (filter (λ x. not (is_interface files x)) (flat_map (extents_in file) (held at row).units)) → Each IsApart (flat_map (extents_in file) (held at row).units)
    row_apart at none units marked apart = tt
    row_apart at (stands m rest) units marked apart =
        subst (Each IsApart) (sym (stood at m (held (at + 1) rest)))
        (row_apart (at + 1) rest units.1 (λ k x is. let (s, here, mark_is) = marked (suc k) x is in (s, ap (slice_get tree.statements) (next at k) ∙ here, mark_is))
        (subst (λ xs. Each IsApart (filter (λ x. not (is_interface files x)) xs)) (stood at m (held (at + 1) rest)) apart))
      where
        next : (at k : ℕ) → at + 1 + k ≡ at + suc k
        next at k = omega arith
    row_apart at (nest what inside end rest) units marked apart =
        subst (Each IsApart) (sym opened)
        (each_append IsApart (own file at (at + 1 + length (spelled inside)) ∷ flat_map (extents_in file) (held (at + 1) inside).units)
        (flat_map (extents_in file) (held (at + 1 + length (spelled inside) + 1) rest).units) first
        (row_apart (at + 1 + length (spelled inside) + 1) rest units.1 later
        (each_right IsApart (filter (λ x. not (is_interface files x)) (own file at (at + 1 + length (spelled inside)) ∷ flat_map (extents_in file) (held (at + 1) inside).units)) _ split)))
      where
        opened : flat_map (extents_in file) (held at (nest what inside end rest)).units
            ≡ (own file (at) (at + 1 + length (spelled inside)) ∷ flat_map (extents_in file) (held (at + 1) inside).units) ++ flat_map (extents_in file) (held (at + 1 + length (spelled inside) + 1) rest).units
        opened =
            ap (λ b. flat_map (extents_in file) ((cond {A = Held} b
            (record { units = (held (at + 1 + length (spelled inside) + 1) rest).units; blocks = Nest at (arms_of at what (held (at + 1) inside)) (at + 1 + length (spelled inside)) ∷ (held (at + 1 + length (spelled inside) + 1) rest).blocks; arms = (held (at + 1 + length (spelled inside) + 1) rest).arms })
            (record { units = unit at (at + 1 + length (spelled inside)) (held (at + 1) inside) ∷ (held (at + 1 + length (spelled inside) + 1) rest).units; blocks = (held (at + 1 + length (spelled inside) + 1) rest).blocks; arms = (held (at + 1 + length (spelled inside) + 1) rest).arms })).units))
            (not_construct what.word units.0)
            ∙ ap (λ xs. xs ++ flat_map (extents_in file) (held (at + 1 + length (spelled inside) + 1) rest).units) (rolled_extents file at (at + 1 + length (spelled inside)) (held (at + 1) inside).units (held (at + 1) inside).blocks)

        split : Each IsApart (filter (λ x. not (is_interface files x)) (own file at (at + 1 + length (spelled inside)) ∷ flat_map (extents_in file) (held (at + 1) inside).units)
            ++ filter (λ x. not (is_interface files x)) (flat_map (extents_in file) (held (at + 1 + length (spelled inside) + 1) rest).units))
        split =
            subst (Each IsApart)
            (ap (filter (λ x. not (is_interface files x))) opened
            ∙ filter-append (λ x. not (is_interface files x)) (own file at (at + 1 + length (spelled inside)) ∷ flat_map (extents_in file) (held (at + 1) inside).units) (flat_map (extents_in file) (held (at + 1 + length (spelled inside) + 1) rest).units))
            apart

        -- its opening is none of an interface block
        plain : is_interface files (own file at (at + 1 + length (spelled inside))) ≡ false
        plain =
            let (s, here, mark_is) = marked 0 (mark.Open what) refl in
            ap (λ o. is_interface_at (option_map out-Form (option_and_then (form_in at) o))) there
            ∙ ap (λ o. is_interface_at (option_map out-Form (option_map (λ (s : Statement). s.form) o))) (ap (slice_get tree.statements) (plus at) ∙ here)
            ∙ no_interface s.form what mark_is units.0
          where
            plus : (at : ℕ) → at ≡ at + 0
            plus at = omega arith

        itself : IsApart (own file at (at + 1 + length (spelled inside)))
        itself = by (is_interface files (own file at (at + 1 + length (spelled inside)))) plain (each_left IsApart (filter (λ x. not (is_interface files x)) (own file at (at + 1 + length (spelled inside)) ∷ flat_map (extents_in file) (held (at + 1) inside).units)) _ split) where
          by : (b : Bool) → b ≡ false
              → Each IsApart (cond (not b) (own file at (at + 1 + length (spelled inside)) ∷ filter (λ x. not (is_interface files x)) (flat_map (extents_in file) (held (at + 1) inside).units)) (filter (λ x. not (is_interface files x)) (flat_map (extents_in file) (held (at + 1) inside).units)))
              → IsApart (own file at (at + 1 + length (spelled inside)))
          by false is all = all.0
          by true is all = absurd (cc is)

        first : Each IsApart (own file at (at + 1 + length (spelled inside)) ∷ flat_map (extents_in file) (held (at + 1) inside).units)
        first = (itself, within at (at + 1 + length (spelled inside)) itself (at + 1) (omega arith) (flat_map (extents_in file) (held (at + 1) inside).units) (row_rises file (at + 1) inside))

        later : (k : ℕ) (m : Mark) → slice_get (spelled rest) k ≡ Some m → (s : Statement) × (slice_get tree.statements (at + 1 + length (spelled inside) + 1 + k) ≡ Some s) × (mark_of s.form ≡ m)
        later k m is =
            let (s, here, mark_is) = marked (suc (length (spelled inside) + suc k)) m (get_behind (spelled inside) (end ∷ spelled rest) (suc k) ∙ is) in
            (s, ap (slice_get tree.statements) (next at (length (spelled inside)) k) ∙ here, mark_is)
          where
            next : (at n k : ℕ) → at + 1 + n + 1 + k ≡ at + suc (n + suc k)
            next at n k = omega arith

    tree_apart : IsSomeTree tree → Each IsApart (filter (λ x. not (is_interface files x)) (flat_map (extents_in file) tree.units)) → Each IsApart (flat_map (extents_in file) tree.units)
    tree_apart (edition, text, short, (clean, is)) apart = by is.nested where
      by : {same : ℕ → ℕ → Bool} → Nested same (marks_of tree.statements) tree.units → Each IsApart (flat_map (extents_in file) tree.units)
      by (row, nests, spells, units) =
          subst (λ all. Each IsApart (flat_map (extents_in file) all)) units
          (row_apart 0 row (all_belong (heads row) nests.order) marked (subst (λ all. Each IsApart (filter (λ x. not (is_interface files x)) (flat_map (extents_in file) all))) (sym units) apart))
        where
          marked : (k : ℕ) (m : Mark) → slice_get (spelled row) k ≡ Some m → (s : Statement) × (slice_get tree.statements (0 + k) ≡ Some s) × (mark_of s.form ≡ m)
          marked k m is = of (slice_get tree.statements k) refl (sym (slice_get-map (λ (s : Statement). mark_of s.form) tree.statements k) ∙ ap (λ ms. slice_get ms k) (sym spells) ∙ is) where
            zero_plus : (k : ℕ) → 0 + k ≡ k
            zero_plus k = omega arith

            of : (o : Option Statement) → slice_get tree.statements k ≡ o → option_map (λ (s : Statement). mark_of s.form) o ≡ Some m → (s : Statement) × (slice_get tree.statements (0 + k) ≡ Some s) × (mark_of s.form ≡ m)
            of None here is = absurd (cc is)
            of (Some s) here is = (s, ap (slice_get tree.statements) (zero_plus k) ∙ here, cc is)

  trees_apart : (at : ℕ) (trees : List FileTree) → ((k : ℕ) (x : FileTree) → slice_get trees k ≡ Some x → (slice_get files (at + k) ≡ Some x) × IsSomeTree x)
      → Each IsApart (filter (λ x. not (is_interface files x)) (extents_from at trees)) → Each IsApart (extents_from at trees)
  trees_apart at [] stand apart = tt
  trees_apart at (tree ∷ trees) stand apart =
      let split : Each IsApart (filter (λ x. not (is_interface files x)) (flat_map (extents_in at) tree.units) ++ filter (λ x. not (is_interface files x)) (extents_from (at + 1) trees)) =
      subst (Each IsApart) (filter-append (λ x. not (is_interface files x)) (flat_map (extents_in at) tree.units) (extents_from (at + 1) trees)) apart in
      let (there, some) = stand 0 tree refl in
      each_append IsApart (flat_map (extents_in at) tree.units) (extents_from (at + 1) trees)
      (tree_apart at tree (ap (slice_get files) (plus at) ∙ there) some (each_left IsApart (filter (λ x. not (is_interface files x)) (flat_map (extents_in at) tree.units)) _ split))
      (trees_apart (at + 1) trees (λ k x is. let (here, also) = stand (suc k) x is in (ap (slice_get files) (next at k) ∙ here, also))
      (each_right IsApart (filter (λ x. not (is_interface files x)) (flat_map (extents_in at) tree.units)) _ split))
    where
      plus : (at : ℕ) → at ≡ at + 0
      plus at = omega arith

      next : (at k : ℕ) → at + 1 + k ≡ at + suc k
      next at k = omega arith

-- a scoping unit without a host is no interface body
pub no_bodies : (files : List FileTree) → AreTrees files → AreNoBodies files
no_bodies files are e there outer kind = ap (is_some_interface files) alone where
  zero_plus : (k : ℕ) → 0 + k ≡ k
  zero_plus k = omega arith

  no_host : (o : Option Extent) → option_map_or (λ (h : Extent). false) o true ≡ true → o ≡ None
  no_host None is = refl
  no_host (Some h) is = absurd (cc is)

  around : Each (λ x. encloses e.file e.opening x ≡ false) (scoping files)
  around = filter_empty (encloses e.file e.opening) (scoping files) (last_none (filter (encloses e.file e.opening) (scoping files)) (no_host (host_of files e) outer))

  apart : Each (λ x. encloses e.file e.opening x ≡ false) (extents files)
  apart =
      trees_apart files e 0 files
      (λ k x is. (ap (slice_get files) (zero_plus k) ∙ is, subst IsSomeTree (get_or_from_slice_get files k x x is) (are.trees k x (slice_get_within files k x is)))) around

  alone : innermost (encloses e.file e.opening) (extents files) ≡ None
  alone = ap (last_or None) (none_pass (encloses e.file e.opening) (extents files) apart)
