-- All names are measured: constants each after those to which it refers, then all others.
use Rattle.std.proofs.Common.{◌≡◌, ◌≢◌, refl, sym, ◌∙◌, ap, ap₂, subst, cond, inl, inr, ◌⊎◌, ℕ, zero, suc, ◌<◌, Bool, true, false, List, [], ◌∷◌, ◌++◌, map, length, get_or, set, fold, Option, Some, None, Contains, All, append-nil, append_assoc, length-set, arith}
use Rattle.std.specs.Prelude.{◌&&◌, not, slice_get}
use Rattle.std.specs.List.{list_any, range_with_len}
use Rattle.std.specs.Option.{option_map, option_map_or, option_and_then, unwrap_or}
use Rattle.std.proofs.lemmas.Bool.{and_parts, cases_eq}
use Rattle.std.proofs.lemmas.List.{length-map}
use Rattle.std.proofs.lemmas.List.Elements.{All-contains, All-head, All-tail, Contains-append_right, Contains-get_or, Contains-push_cases}
use Rattle.std.proofs.lemmas.List.Folds.{list_any_at}
use Rattle.std.proofs.lemmas.List.FromFn.{get_or-map-range_with_len, length-map-range_with_len}
use Rattle.std.proofs.lemmas.Option.{slice_get-get_or, slice_get_within}
use Rattle.ftn_base.specs.ModuleUses.{Uses, used_by}
use Rattle.ftn_tree.specs.declared.table.EntityKind.{EntityKind}
use Rattle.ftn_tree.specs.declared.table.EntityKind.TheVariants as entity_kinds
use Rattle.ftn_tree.specs.declared.unit.FileTree.{FileTree}
use Rattle.ftn_tree.specs.declared.intrinsic.Intrinsic.{Intrinsic}
use Rattle.ftn_tree.specs.Bindings.{bound_entities}
use Rattle.ftn_tree.specs.Circles.{expressions_for, is_circular, tokens_for}
use Rattle.ftn_tree.specs.Constants.{Known, constant_if, evaluated_in, function_if, known_of, naming_at, naming_of, not_known}
use Rattle.ftn_tree.specs.Evaluations as names
use Rattle.ftn_tree.specs.Intrinsics.{function_named}
use Rattle.ftn_tree.specs.KeyKinds as kinds
use Rattle.ftn_tree.specs.KeyKinds.{Datum, datum_of, is_constant, key_at, kind_of}
use Rattle.ftn_tree.specs.Meanings.{Key, unit, own, block, intrinsic_function}
use Rattle.const_expr.specs.declared.naming.Naming.{Naming}
use Rattle.const_expr.specs.declared.naming.Naming.TheVariants as kept
use Rattle.const_expr.specs.Namings as namings
use Rattle.const_expr.specs.Namings.{entity_in, evaluated_by, naming_by}
use Rattle.const_value.specs.declared.circles.Circles.{Circles}
use Rattle.const_value.specs.declared.measured.Measured.{Measured}
use Rattle.const_value.specs.declared.project.Project.{Project}
use Rattle.const_value.specs.steps.Components.{IsFinishOrder, IsHeld, Leads, up_to}
use Rattle.const_value.specs.steps.Gathered.{entity_index, key_number, own_entity}
use Rattle.const_value.specs.steps.Known.{constant_naming, measured_of, naming_as, naming_due, naming_seen, own_datum}
use Rattle.const_value.specs.steps.Knowing as knowing
use Rattle.const_value.specs.steps.Knowing.{Knowing, function_naming, is_valued, measure, measure_all, measure_constant, measure_other, measured_at, naming_by_kind, naming_for, nothing, publish, put_naming}
use Rattle.const_value.specs.steps.Labelling.{AreLabels}
use Rattle.const_value.specs.steps.Names.{all_data}
use Rattle.const_value.specs.steps.Numbered.{AreEntities, AreNumbered, IsEntity, IsNamed, name_uses}
use Rattle.const_value.specs.steps.Projects.{entity_of, name_of, rank_of, row_in}
use Rattle.const_value.specs.steps.References as references
use Rattle.const_value.specs.steps.References.{file_of, leads_back}
use Rattle.const_value.specs.steps.Tied.{AreTied}
use Rattle.const_value.proofs.CircularNames.{circular_is, leads_on_circle, name_use_at}
use Rattle.const_value.proofs.ExpressionsFor.{Same, tokens_agree}
use Rattle.const_value.proofs.Labelling.{held_at}
use Rattle.const_value.proofs.Leading.{leads_itself}
use Rattle.const_value.proofs.MeasuredNames.{constant_measured, no_value, other_measured, published}
use Rattle.const_value.proofs.Rounds.{circular_unknown, named_alike}
use Rattle.const_value.proofs.Searching.{none_in}

-- ---- places in lists

get_set_same : {X : Type 0} (xs : List X) (i : ℕ) (y : X) → i < length xs → slice_get (set xs i y) i ≡ Some y
get_set_same [] i y less = absurd (omega arith)
get_set_same (x ∷ xs) zero y less = refl
get_set_same (x ∷ xs) (suc i) y less = get_set_same xs i y (omega arith)

get_set_other : {X : Type 0} (xs : List X) (i j : ℕ) (y : X) → j ≢ i → slice_get (set xs i y) j ≡ slice_get xs j
get_set_other [] i j y apart = refl
get_set_other (x ∷ xs) zero zero y apart = absurd (apart refl)
get_set_other (x ∷ xs) zero (suc j) y apart = refl
get_set_other (x ∷ xs) (suc i) zero y apart = refl
get_set_other (x ∷ xs) (suc i) (suc j) y apart = get_set_other xs i j y (λ same. apart (ap suc same))

pub same_some : {X : Type 0} (a b : X) → Some a ≡ Some b → a ≡ b
same_some a b is = cc is

-- a list by what is at each place
pub from_places : {X Y : Type 0} (f : X → Y) (all : List X) (ys : List Y) → length ys ≡ length all → ((n : ℕ) (x : X) → slice_get all n ≡ Some x → slice_get ys n ≡ Some (f x)) → ys ≡ map f all
from_places f [] [] sized each = refl
from_places f [] (y ∷ ys) sized each = absurd (omega (arith, sized))
from_places f (x ∷ all) [] sized each = absurd (omega (arith, sized))
from_places f (x ∷ all) (y ∷ ys) sized each =
    ap₂ (λ a others. a ∷ others) (same_some y (f x) (each 0 x refl)) (from_places f all ys (omega (arith, sized)) (λ n z is. each (suc n) z is))

record There {X : Type 0} (xs : List X) (n : ℕ) : Type 0 where
  value : X
  is : slice_get xs n ≡ Some value

there_at : {X : Type 0} (xs : List X) (n : ℕ) → n < length xs → There xs n
there_at [] n less = absurd (omega arith)
there_at (x ∷ xs) zero less = record { value = x; is = refl }
there_at (x ∷ xs) (suc n) less = let rest = there_at xs n (omega arith) in record { value = rest.value; is = rest.is }

not_true : (b : Bool) → not b ≡ true → b ≡ false
not_true true is = absurd (cc is)
not_true false is = refl

abbrev pub unknown : Key → Known
unknown key = not_known

-- ---- before anything is known

function_seen : (o : Option Intrinsic) → naming_seen (function_naming o) ≡ function_if o
function_seen None = refl
function_seen (Some function) = refl

module _ (files : List FileTree) (p : Project) (c : Circles) (tied : AreTied files p c) (numbered : AreNumbered files) (entities : AreEntities files) where
  abbrev V : List (List ℕ)
  V = name_uses files

  finish : IsFinishOrder V c.order.items
  finish = subst (λ u. IsFinishOrder u c.order.items) tied.uses tied.circles.order

  labels : AreLabels V c.labels.items
  labels = subst (λ u. AreLabels u c.labels.items) tied.uses tied.circles.labels

  circular_at : (n : ℕ) → references.is_circular c n ≡ list_any (leads_back c n) (used_by V n)
  circular_at n = ap (λ u. list_any (leads_back c n) (used_by u n)) (tied.circles.uses ∙ tied.uses)

  V_sized : length V ≡ length (all_data files)
  V_sized = length-map (all_data files) _

  -- ---- names of constants that aren't defined by themselves

  record Valued (n : ℕ) (d : Datum) : Type 0 where
    x : ℕ
    named : IsNamed files (own d.scope d.name) x n
    alone : is_circular files (own d.scope d.name) ≡ false
    test : references.is_circular c n ≡ false

  circular_of : (key : Key) (x n : ℕ) → IsNamed files key x n → references.is_circular c n ≡ is_circular files key
  circular_of key x n named = circular_at n ∙ circular_is files numbered c.labels.items labels x n (record { key = key; is = named })

  valued_from : (n : ℕ) (d : Datum) → slice_get (all_data files) n ≡ Some d → is_valued p c n ≡ true → Valued n d
  valued_from n d there is =
      let parts = and_parts (references.is_constant p n) (not (references.is_circular c n)) is in
      let kind : is_constant (kind_of files (own d.scope d.name)) ≡ true = sym (tied.each n d there).constant ∙ parts.0 in
      let test : references.is_circular c n ≡ false = not_true (references.is_circular c n) parts.1 in
      let (x, named) = numbered.named n d there kind in
      record { x = x; named = named; alone = sym (circular_of (own d.scope d.name) x n named) ∙ test; test = test }

  valued_by : (n : ℕ) (d : Datum) → slice_get (all_data files) n ≡ Some d → is_constant (kind_of files (own d.scope d.name)) ≡ true → references.is_circular c n ≡ false → is_valued p c n ≡ true
  valued_by n d there kind alone = ap₂ (λ a b. a && not b) ((tied.each n d there).constant ∙ kind) alone

  -- it refers to none that leads back to it
  no_way_back : (n : ℕ) (d : Datum) (v : Valued n d) (m : ℕ) → Uses V n m → Leads V m n → ⊥
  no_way_back n d v m use_of one =
      let here : leads_back c n m ≡ true = leads_on_circle files numbered c.labels.items labels v.x n m (record { key = own d.scope d.name; is = v.named }) use_of one in
      let at : leads_back c n (get_or (used_by V n) use_of.0 m) ≡ true = ap (leads_back c n) use_of.2 ∙ here in
      let some : list_any (leads_back c n) (used_by V n) ≡ true = list_any_at (leads_back c n) (used_by V n) use_of.0 m use_of.1 at in
      absurd (cc (some, circular_at n, v.test))

  -- so what it refers to comes before it
  comes_before : (done : List ℕ) (n : ℕ) (rest : List ℕ) (d : Datum) → c.order.items ≡ done ++ n ∷ rest → Valued n d → (m : ℕ) → Uses V n m → Contains done m
  comes_before done n rest d is v m use_of = elim (held_at V [] done n rest (subst (λ xs. IsHeld V [] xs) is finish.held) m use_of) [
    | inl there ↦ elim (Contains-push_cases done n m there) [
      | inl before ↦ before
      | inr same ↦ absurd (no_way_back n d v m use_of (subst (λ k. Leads V k n) same (leads_itself V n)))
    ]
    | inr all ↦ absurd (no_way_back n d v m use_of (All-head (Leads V m) n (up_to m rest) all))
  ]

  -- ---- entities

  index_is : (key : Key) (i : ℕ) → key_number files key ≡ Some i → entity_index files key ≡ i
  index_is key i is = ap (λ o. unwrap_or o 0) is

  one_entity : (i : ℕ) (one other : Key) → IsEntity files i one → IsEntity files i other → naming_of files (known_of files) (Some one) ≡ naming_of files (known_of files) (Some other)
  one_entity i one other e f =
      let same : e.entity ≡ f.entity = same_some e.entity f.entity (sym e.there ∙ f.there) in
      sym (e.naming (known_of files)) ∙ ap (λ entity. naming_due files (known_of files) entity) same ∙ f.naming (known_of files)

  entity_at : (file token : ℕ) (key : Key) (i : ℕ) → key_at files file token ≡ Some key → key_number files key ≡ Some i → IsEntity files i key
  entity_at file token key i at is =
      let (j, number, e) = entities.tokens file token key at in
      subst (λ k. IsEntity files k key) (same_some j i (sym number ∙ is)) e

  -- what an entity is before constants are known
  module _ (file token : ℕ) (key : Key) (i : ℕ) (at : key_at files file token ≡ Some key) (e : IsEntity files i key) where
    abbrev rank : ℕ
    rank = option_map_or (rank_of p.written.items) (name_of p.links i) 0

    abbrev due : ℕ
    due = option_map_or (kinds.rank_of files) (datum_of files key) 0

    rank_is : is_constant (kind_of files key) ≡ true → rank ≡ due
    rank_is kind =
        let (x, n, named) = numbered.constant file token key at kind in
        let one_datum : datum_of files key ≡ Some named.datum = ap (datum_of files) named.key_is in
        let name : name_of p.links i ≡ Some n = tied.name_of i e.entity e.there ∙ e.name named.datum one_datum kind ∙ named.name_is in
        ap (λ o. option_map_or (rank_of p.written.items) o 0) name ∙ (tied.each n named.datum named.there).rank ∙ sym (ap (λ o. option_map_or (kinds.rank_of files) o 0) one_datum)

    -- what a constant is
    by_key : (other : ℕ) → names.Constant None other None ≡ naming_of files unknown (Some key) → names.Constant None rank None ≡ naming_of files unknown (Some key)
    by_key other is = of key refl is where
      of_constant : (k : Key) → key ≡ k → names.Constant None other None ≡ constant_if files unknown k → names.Constant None rank None ≡ constant_if files unknown k
      of_constant k same is = by (is_constant (kind_of files k)) refl is where
        by : (b : Bool) → is_constant (kind_of files k) ≡ b → names.Constant None other None ≡ cond b (names.Constant None (option_map_or (kinds.rank_of files) (datum_of files k) 0) None) names.Stray
            → names.Constant None rank None ≡ cond (is_constant (kind_of files k)) (names.Constant None (option_map_or (kinds.rank_of files) (datum_of files k) 0) None) names.Stray
        by false kind is = absurd (cc is)
        by true kind is =
            ap (λ (r : ℕ). names.Constant None r None) (rank_is (ap (λ j. is_constant (kind_of files j)) same ∙ kind) ∙ ap (λ j. option_map_or (kinds.rank_of files) (datum_of files j) 0) same)
            ∙ sym (ap (λ b. cond b (names.Constant None (option_map_or (kinds.rank_of files) (datum_of files k) 0) None) names.Stray) kind)

      not_function : (o : Option Intrinsic) → names.Constant None other None ≡ function_if o → ⊥
      not_function None is = absurd (cc is)
      not_function (Some function) is = absurd (cc is)

      of : (k : Key) → key ≡ k → names.Constant None other None ≡ naming_of files unknown (Some k) → names.Constant None rank None ≡ naming_of files unknown (Some k)
      of (intrinsic_function name) same is = absurd (not_function (function_named name) is)
      of (unit x) same is = of_constant (unit x) same is
      of (own x name) same is = of_constant (own x name) same is
      of (block name) same is = of_constant (block name) same is

    of_kind : (kind : EntityKind) → naming_as files unknown kind e.entity ≡ naming_of files unknown (Some key) → naming_seen (naming_by_kind p i kind e.entity) ≡ naming_of files unknown (Some key)
    of_kind entity_kinds.Intrinsic is = function_seen (option_and_then function_named e.entity.name) ∙ is
    of_kind entity_kinds.Constant is = by (own_datum files e.entity) is where
      by : (o : Option Datum) → constant_naming files unknown o ≡ naming_of files unknown (Some key) → names.Constant None rank None ≡ naming_of files unknown (Some key)
      by None is = by_key 0 is
      by (Some d) is = by_key (kinds.rank_of files d) is
    of_kind entity_kinds.Program is = is
    of_kind entity_kinds.Module is = is
    of_kind entity_kinds.BlockData is = is
    of_kind entity_kinds.Subroutine is = is
    of_kind entity_kinds.Function is = is
    of_kind entity_kinds.Variable is = is
    of_kind entity_kinds.Dummy is = is
    of_kind entity_kinds.Answer is = is
    of_kind entity_kinds.Block is = is
    of_kind entity_kinds.Generic is = is
    of_kind entity_kinds.Construct is = is

    before_seen : naming_seen (knowing.naming_at p i) ≡ naming_of files unknown (Some key)
    before_seen =
        ap (λ o. naming_seen (option_map_or (knowing.naming_before p i) o kept.Stray)) (ap (λ all. slice_get all i) tied.entities ∙ e.there) ∙ of_kind e.entity.kind (e.naming unknown)

  -- ---- names at tokens

  -- what the name at a token is, where what is kept of its entity is so
  token_naming : (all : List Naming) (file token : ℕ) → length all ≡ length (bound_entities files)
      → ((key : Key) (i : ℕ) (x : Naming) → key_at files file token ≡ Some key → key_number files key ≡ Some i → slice_get all i ≡ Some x → naming_seen x ≡ naming_of files (known_of files) (Some key))
      → naming_by (row_in p.rows.items file) all token ≡ naming_at files (known_of files) file token
  token_naming all file token sized each = by (key_at files file token) refl where
    by : (o : Option Key) → key_at files file token ≡ o → naming_by (row_in p.rows.items file) all token ≡ naming_at files (known_of files) file token
    by None at =
        ap (λ o. namings.naming_of (option_and_then (slice_get all) o)) (tied.tokens file token ∙ ap (option_map (entity_index files)) at) ∙ sym (ap (naming_of files (known_of files)) at)
    by (Some key) at =
        let (i, number, e) = entities.tokens file token key at in
        let less : i < length all = subst (λ n. i < n) (sym sized) (slice_get_within (bound_entities files) i e.entity e.there) in
        let x = there_at all i less in
        ap (λ o. namings.naming_of (option_and_then (slice_get all) o)) (tied.tokens file token ∙ ap (option_map (entity_index files)) at)
        ∙ ap (λ k. namings.naming_of (slice_get all k)) (index_is key i number) ∙ ap namings.naming_of x.is ∙ each key i x.value at number x.is
        ∙ sym (ap (naming_of files (known_of files)) at)

  -- ---- what is known after some names

  pub record SoFar (done : List ℕ) (all : Knowing) : Type 0 where
    pub known_long : length all.known ≡ length (all_data files)
    pub namings_long : length all.namings ≡ length (bound_entities files)
    pub known : (n : ℕ) (d : Datum) → Contains done n → slice_get (all_data files) n ≡ Some d → is_valued p c n ≡ true → slice_get all.known n ≡ Some (measured_of files (known_of files) d)
    pub either : (file token : ℕ) (key : Key) (i : ℕ) (x : Naming) → key_at files file token ≡ Some key → key_number files key ≡ Some i → slice_get all.namings i ≡ Some x
        → (naming_seen x ≡ naming_of files (known_of files) (Some key)) ⊎ (naming_seen x ≡ naming_of files unknown (Some key))
    pub told : (n : ℕ) (d : Datum) (i : ℕ) (x : Naming) → Contains done n → slice_get (all_data files) n ≡ Some d → is_valued p c n ≡ true → own_entity files d ≡ Some i
        → slice_get all.namings i ≡ Some x → naming_seen x ≡ naming_of files (known_of files) (Some (own d.scope d.name))

  seen_now : (done : List ℕ) (all : Knowing) → SoFar done all → (file token : ℕ) (key : Key) (i : ℕ) (x : Naming) → key_at files file token ≡ Some key → key_number files key ≡ Some i
      → slice_get all.namings i ≡ Some x → ((y m : ℕ) → IsNamed files key y m → Contains done m) → naming_seen x ≡ naming_of files (known_of files) (Some key)
  seen_now done all s file token key i x at number there met = by (is_constant (kind_of files key)) refl where
    -- what is known of it is nothing, or it is no constant
    same_known : (naming_seen x ≡ naming_of files (known_of files) (Some key)) ⊎ (naming_seen x ≡ naming_of files unknown (Some key))
        → ((other : Key) → Some key ≡ Some other → is_constant (kind_of files other) ≡ true → unknown other ≡ known_of files other) → naming_seen x ≡ naming_of files (known_of files) (Some key)
    same_known (inl is) alike = is
    same_known (inr is) alike = is ∙ named_alike files numbered unknown (known_of files) (Some key) alike

    by_circle : (y m : ℕ) → IsNamed files key y m → (b : Bool) → is_circular files key ≡ b → naming_seen x ≡ naming_of files (known_of files) (Some key)
    by_circle y m named true circular =
        same_known (s.either file token key i x at number there)
        (λ other same kind. let one : key ≡ other = same_some key other same in
        let none : known_of files other ≡ not_known = circular_unknown files other (ap (is_circular files) (sym one) ∙ circular) in sym none)
    by_circle y m named false alone =
        let test : references.is_circular c m ≡ false = circular_of key y m named ∙ alone in
        let kind : is_constant (kind_of files (own named.datum.scope named.datum.name)) ≡ true = ap (λ k. is_constant (kind_of files k)) (sym named.key_is) ∙ named.kind in
        let valued : is_valued p c m ≡ true = valued_by m named.datum named.there kind test in
        let entity : own_entity files named.datum ≡ Some i = ap (key_number files) (sym named.key_is) ∙ number in
        s.told m named.datum i x (met y m named) named.there valued entity there ∙ ap (λ k. naming_of files (known_of files) (Some k)) (sym named.key_is)

    by : (b : Bool) → is_constant (kind_of files key) ≡ b → naming_seen x ≡ naming_of files (known_of files) (Some key)
    by false kind =
        same_known (s.either file token key i x at number there)
        (λ other same constant. absurd (let one : key ≡ other = same_some key other same in cc (kind, one, constant)))
    by true kind = let (y, m, named) = numbered.constant file token key at kind in by_circle y m named (is_circular files key) refl

  -- ---- the first ones

  nothing_yet : SoFar [] (nothing p)
  nothing_yet = record {
    known_long = length-map-range_with_len (λ (name : ℕ). knowing.unknown) 0 (length p.names.items) ∙ tied.names;
    namings_long = long ∙ ap length tied.entities;
    known = λ n d there. absurd (none_in n there);
    either = λ file token key i x at number there. inr (ap naming_seen (here i x there) ∙ before_seen file token key i at (entity_at file token key i at number));
    told = λ n d i x there. absurd (none_in n there);
  }
    where
      long : length (map (knowing.naming_at p) (range_with_len 0 (length p.bound.now.tables.entities))) ≡ length p.bound.now.tables.entities
      long = length-map-range_with_len (knowing.naming_at p) 0 (length p.bound.now.tables.entities)

      here : (i : ℕ) (x : Naming) → slice_get (nothing p).namings i ≡ Some x → x ≡ knowing.naming_at p i
      here i x there =
          let within : i < length (nothing p).namings = slice_get_within (nothing p).namings i x there in
          let less : i < length p.bound.now.tables.entities = subst (λ n. i < n) long within in
          sym (same_some (get_or (nothing p).namings i x) x (sym (slice_get-get_or (nothing p).namings i x within) ∙ there))
          ∙ get_or-map-range_with_len (knowing.naming_at p) 0 (length p.bound.now.tables.entities) i i x less (omega arith)

  -- one that is no constant, or is defined by itself, adds nothing
  passed : (done : List ℕ) (n : ℕ) (all : Knowing) → SoFar done all → is_valued p c n ≡ false → SoFar (done ++ n ∷ []) all
  passed done n all s none = record {
    known_long = s.known_long;
    namings_long = s.namings_long;
    known = λ m d there at valued. s.known m d (before m there valued) at valued;
    either = s.either;
    told = λ m d i x there at valued entity. s.told m d i x (before m there valued) at valued entity;
  }
    where
      before : (m : ℕ) → Contains (done ++ n ∷ []) m → is_valued p c m ≡ true → Contains done m
      before m there valued = elim (Contains-push_cases done n m there) [
        | inl old ↦ old
        | inr same ↦ absurd (cc (same, none, valued))
      ]

  -- a constant that isn't defined by itself
  module _ (done : List ℕ) (n : ℕ) (rest : List ℕ) (all : Knowing) (is : c.order.items ≡ done ++ n ∷ rest) (s : SoFar done all) (d : Datum) (there : slice_get (all_data files) n ≡ Some d)
      (valued : is_valued p c n ≡ true) where
    v : Valued n d
    v = valued_from n d there valued

    kind : is_constant (kind_of files (own d.scope d.name)) ≡ true
    kind = v.named.kind

    datum_is : v.named.datum ≡ d
    datum_is = same_some v.named.datum d (sym v.named.there ∙ there)

    expressions : Same (evaluated_by (row_in p.rows.items (file_of p.names.items n)) all.namings) (evaluated_in files (known_of files) d.scope.file) (expressions_for files d)
    expressions =
        tokens_agree (naming_by (row_in p.rows.items (file_of p.names.items n)) all.namings) (naming_at files (known_of files) d.scope.file) files d
        (λ token stands.
        subst (λ file. naming_by (row_in p.rows.items file) all.namings token ≡ naming_at files (known_of files) d.scope.file token) (sym (tied.each n d there).file)
        (token_naming all.namings d.scope.file token s.namings_long
        (λ key i x at number there'. seen_now done all s d.scope.file token key i x at number there'
        (λ y m named. comes_before done n rest d is v m
        (name_use_at files numbered v.x n (record { key = own d.scope d.name; is = v.named }) token key y m
        (subst (λ e. Contains (tokens_for files e) token) (sym datum_is) stands) (subst (λ e. key_at files e.scope.file token ≡ Some key) (sym datum_is) at) named)))))

    made : measured_at p all.namings n true ≡ measured_of files (known_of files) d
    made = constant_measured files p n d (tied.each n d there) all.namings expressions numbered v.x v.named.constant kind v.alone

    within : n < length all.known
    within = subst (λ k. n < k) (sym s.known_long) (slice_get_within (all_data files) n d there)

    told_seen : naming_seen (naming_for p n (measured_of files (known_of files) d)) ≡ naming_of files (known_of files) (Some (own d.scope d.name))
    told_seen = published files p n d (tied.each n d there) numbered v.x v.named.constant kind v.alone

    namings_are : (publish p (measure p all n true) n).namings ≡ put_naming (own_entity files d) (naming_for p n (measured_of files (known_of files) d)) all.namings
    namings_are =
        ap (λ o. option_map_or (λ (m : Measured). put_naming (entity_of p.links n) (naming_for p n m) all.namings) o all.namings) (get_set_same all.known n (measured_at p all.namings n true) within)
        ∙ ap₂ (λ o m. put_naming o (naming_for p n m) all.namings) (tied.each n d there).entity made

    known_then : (m : ℕ) (e : Datum) → Contains (done ++ n ∷ []) m → slice_get (all_data files) m ≡ Some e → is_valued p c m ≡ true
        → slice_get (set all.known n (measured_at p all.namings n true)) m ≡ Some (measured_of files (known_of files) e)
    known_then m e stands at also = elim (cases_eq m n) [
      | inl same ↦
          let one : e ≡ d = same_some e d (sym at ∙ ap (slice_get (all_data files)) same ∙ there) in
          ap (slice_get (set all.known n (measured_at p all.namings n true))) same ∙ get_set_same all.known n (measured_at p all.namings n true) within
          ∙ ap Some (made ∙ ap (measured_of files (known_of files)) (sym one))
      | inr apart ↦ get_set_other all.known n m (measured_at p all.namings n true) apart ∙ s.known m e (elim (Contains-push_cases done n m stands) [
        | inl old ↦ old
        | inr same ↦ absurd (apart (sym same))
      ]) at also
    ]

    module _ (others : List Naming) (i : ℕ) (entity : own_entity files d ≡ Some i) (put : others ≡ set all.namings i (naming_for p n (measured_of files (known_of files) d))) where
      ours : IsEntity files i (own d.scope d.name)
      ours = entities.names n d i there entity

      inside : i < length all.namings
      inside = subst (λ k. i < k) (sym s.namings_long) (slice_get_within (bound_entities files) i ours.entity ours.there)

      -- what is kept there now
      new_seen : (x : Naming) → slice_get others i ≡ Some x → (key : Key) → IsEntity files i key → naming_seen x ≡ naming_of files (known_of files) (Some key)
      new_seen x at key e =
          ap naming_seen (same_some x (naming_for p n (measured_of files (known_of files) d)) (sym at ∙ ap (λ xs. slice_get xs i) put ∙ get_set_same all.namings i (naming_for p n (measured_of files (known_of files) d)) inside))
          ∙ told_seen ∙ one_entity i (own d.scope d.name) key ours e

      old_there : (j : ℕ) (x : Naming) → j ≢ i → slice_get others j ≡ Some x → slice_get all.namings j ≡ Some x
      old_there j x apart at = sym (ap (λ xs. slice_get xs j) put ∙ get_set_other all.namings i j (naming_for p n (measured_of files (known_of files) d)) apart) ∙ at

      told_then : (m : ℕ) (e : Datum) (j : ℕ) (x : Naming) → Contains (done ++ n ∷ []) m → slice_get (all_data files) m ≡ Some e → is_valued p c m ≡ true → own_entity files e ≡ Some j
          → slice_get others j ≡ Some x → naming_seen x ≡ naming_of files (known_of files) (Some (own e.scope e.name))
      told_then m e j x stands at also number here = elim (cases_eq j i) [
        | inl same ↦ new_seen x (ap (slice_get others) (sym same) ∙ here) (own e.scope e.name) (subst (λ k. IsEntity files k (own e.scope e.name)) same (entities.names m e j at number))
        | inr apart ↦ elim (Contains-push_cases done n m stands) [
          | inl old ↦ s.told m e j x old at also number (old_there j x apart here)
          | inr same ↦
              let one : e ≡ d = same_some e d (sym at ∙ ap (slice_get (all_data files)) (sym same) ∙ there) in
              absurd (apart (same_some j i (sym number ∙ ap (own_entity files) one ∙ entity)))
        ]
      ]

      pub with_entity : SoFar (done ++ n ∷ []) (record { known = set all.known n (measured_at p all.namings n true); namings = others })
      with_entity = record {
        known_long = length-set all.known n (measured_at p all.namings n true) ∙ s.known_long;
        namings_long = ap length put ∙ length-set all.namings i (naming_for p n (measured_of files (known_of files) d)) ∙ s.namings_long;
        known = known_then;
        either = λ file token key j x at number here. elim (cases_eq j i) [
          | inl same ↦ inl (new_seen x (ap (slice_get others) (sym same) ∙ here) key (subst (λ k. IsEntity files k key) same (entity_at file token key j at number)))
          | inr apart ↦ s.either file token key j x at number (old_there j x apart here)
        ];
        told = told_then;
      }

    without_entity : (others : List Naming) → own_entity files d ≡ None → others ≡ all.namings
        → SoFar (done ++ n ∷ []) (record { known = set all.known n (measured_at p all.namings n true); namings = others })
    without_entity others none put = record {
      known_long = length-set all.known n (measured_at p all.namings n true) ∙ s.known_long;
      namings_long = ap length put ∙ s.namings_long;
      known = known_then;
      either = λ file token key j x at number here. s.either file token key j x at number (ap (λ xs. slice_get xs j) (sym put) ∙ here);
      told = λ m e j x stands at also number here. elim (Contains-push_cases done n m stands) [
        | inl old ↦ s.told m e j x old at also number (ap (λ xs. slice_get xs j) (sym put) ∙ here)
        | inr same ↦
            let one : e ≡ d = same_some e d (sym at ∙ ap (slice_get (all_data files)) (sym same) ∙ there) in
            absurd (cc (number, ap (own_entity files) one, none))
      ];
    }

    valued_more : SoFar (done ++ n ∷ []) (publish p (measure p all n true) n)
    valued_more = by (own_entity files d) refl where
      by : (o : Option ℕ) → own_entity files d ≡ o → SoFar (done ++ n ∷ []) (publish p (measure p all n true) n)
      by None none = without_entity (publish p (measure p all n true) n).namings none (namings_are ∙ ap (λ o. put_naming o (naming_for p n (measured_of files (known_of files) d)) all.namings) none)
      by (Some i) entity =
          with_entity (publish p (measure p all n true) n).namings i entity (namings_are ∙ ap (λ o. put_naming o (naming_for p n (measured_of files (known_of files) d)) all.namings) entity)

  order_known : (n : ℕ) → Contains c.order.items n → n < length (all_data files)
  order_known n there = subst (λ k. n < k) V_sized (All-contains (λ number. number < length V) c.order.items n finish.known there)

  one_more : (done : List ℕ) (n : ℕ) (rest : List ℕ) (all : Knowing) → c.order.items ≡ done ++ n ∷ rest → SoFar done all → SoFar (done ++ n ∷ []) (measure_constant p c all n)
  one_more done n rest all is s = by (is_valued p c n) refl where
    stands : Contains c.order.items n
    stands = subst (λ xs. Contains xs n) (sym is) (Contains-append_right done (n ∷ rest) n (Contains-get_or (n ∷ rest) 0 n (omega arith)))

    by : (b : Bool) → is_valued p c n ≡ b → SoFar (done ++ n ∷ []) (cond b (publish p (measure p all n true) n) all)
    by false none = passed done n all s none
    by true valued = let d = there_at (all_data files) n (order_known n stands) in valued_more done n rest all is s d.value d.is valued

  all_constants : (done rest : List ℕ) (all : Knowing) → c.order.items ≡ done ++ rest → SoFar done all → SoFar (done ++ rest) (fold (measure_constant p c) all rest)
  all_constants done [] all is s = subst (λ xs. SoFar xs all) (sym (append-nil done)) s
  all_constants done (n ∷ rest) all is s =
      subst (λ xs. SoFar xs (fold (measure_constant p c) (measure_constant p c all n) rest)) (append_assoc done (n ∷ []) rest)
      (all_constants (done ++ n ∷ []) rest (measure_constant p c all n) (is ∙ sym (append_assoc done (n ∷ []) rest)) (one_more done n rest all is s))

  abbrev constants : Knowing
  constants = fold (measure_constant p c) (nothing p) c.order.items

  all_told : SoFar c.order.items constants
  all_told = all_constants [] c.order.items (nothing p) refl nothing_yet

  -- ---- all others

  all_tokens : (file token : ℕ) → naming_by (row_in p.rows.items file) constants.namings token ≡ naming_at files (known_of files) file token
  all_tokens file token =
      token_naming constants.namings file token all_told.namings_long
      (λ key i x at number there. seen_now c.order.items constants all_told file token key i x at number there
      (λ y m named. finish.all m (subst (λ k. m < k) (sym V_sized) (slice_get_within (all_data files) m named.datum named.there))))

  record AllSoFar (done : List ℕ) (all : Knowing) : Type 0 where
    long : length all.known ≡ length (all_data files)
    namings_are : all.namings ≡ constants.namings
    known : (n : ℕ) (d : Datum) → slice_get (all_data files) n ≡ Some d → Contains done n ⊎ (is_valued p c n ≡ true) → slice_get all.known n ≡ Some (measured_of files (known_of files) d)

  others_begin : AllSoFar [] constants
  others_begin = record {
    long = all_told.known_long;
    namings_are = refl;
    known = λ n d there either. by n d there either;
  }
    where
      by : (n : ℕ) (d : Datum) → slice_get (all_data files) n ≡ Some d → Contains [] n ⊎ (is_valued p c n ≡ true) → slice_get constants.known n ≡ Some (measured_of files (known_of files) d)
      by n d there (inl none) = absurd (none_in n none)
      by n d there (inr valued) = all_told.known n d (finish.all n (subst (λ k. n < k) (sym V_sized) (slice_get_within (all_data files) n d there))) there valued

  none_there : (n : ℕ) (d : Datum) → slice_get (all_data files) n ≡ Some d → is_valued p c n ≡ false
      → cond (is_constant (kind_of files (own d.scope d.name))) (known_of files (own d.scope d.name)).value None ≡ None
  none_there n d there none = by (is_constant (kind_of files (own d.scope d.name))) refl where
    by_circle : is_constant (kind_of files (own d.scope d.name)) ≡ true → (b : Bool) → is_circular files (own d.scope d.name) ≡ b
        → cond (is_constant (kind_of files (own d.scope d.name))) (known_of files (own d.scope d.name)).value None ≡ None
    by_circle kind true circular = no_value files d true true kind circular refl
    by_circle kind false alone =
        let (x, named) = numbered.named n d there kind in
        let valued : is_valued p c n ≡ true = valued_by n d there kind (circular_of (own d.scope d.name) x n named ∙ alone) in
        absurd (cc (valued, none))

    by : (b : Bool) → is_constant (kind_of files (own d.scope d.name)) ≡ b → cond (is_constant (kind_of files (own d.scope d.name))) (known_of files (own d.scope d.name)).value None ≡ None
    by false kind = no_value files d false (is_circular files (own d.scope d.name)) kind refl refl
    by true kind = by_circle kind (is_circular files (own d.scope d.name)) refl

  other_more : (done : List ℕ) (n : ℕ) (all : Knowing) → n < length (all_data files) → AllSoFar done all → AllSoFar (done ++ n ∷ []) (measure_other p c all n)
  other_more done n all less s = by (is_valued p c n) refl where
    by : (b : Bool) → is_valued p c n ≡ b → AllSoFar (done ++ n ∷ []) (cond b all (measure p all n false))
    by true valued = record {
      long = s.long;
      namings_are = s.namings_are;
      known = λ m d there either. s.known m d there (elim either [
        | inl stands ↦ elim (Contains-push_cases done n m stands) [
          | inl old ↦ inl old
          | inr same ↦ inr (subst (λ k. is_valued p c k ≡ true) same valued)
        ]
        | inr also ↦ inr also
      ]);
    }
    by false none = record {
      long = length-set all.known n (measured_at p all.namings n false) ∙ s.long;
      namings_are = s.namings_are;
      known = known_then;
    }
      where
        within : n < length all.known
        within = subst (λ k. n < k) (sym s.long) less

        expressions : (d : Datum) → slice_get (all_data files) n ≡ Some d
            → Same (evaluated_by (row_in p.rows.items (file_of p.names.items n)) all.namings) (evaluated_in files (known_of files) d.scope.file) (expressions_for files d)
        expressions d there =
            tokens_agree (naming_by (row_in p.rows.items (file_of p.names.items n)) all.namings) (naming_at files (known_of files) d.scope.file) files d
            (λ token stands.
            ap₂ (λ f xs. naming_by (row_in p.rows.items f) xs token) (tied.each n d there).file s.namings_are ∙ all_tokens d.scope.file token)

        known_then : (m : ℕ) (e : Datum) → slice_get (all_data files) m ≡ Some e → Contains (done ++ n ∷ []) m ⊎ (is_valued p c m ≡ true)
            → slice_get (set all.known n (measured_at p all.namings n false)) m ≡ Some (measured_of files (known_of files) e)
        known_then m e there either = elim (cases_eq m n) [
          | inl same ↦
              let there' : slice_get (all_data files) n ≡ Some e = ap (slice_get (all_data files)) (sym same) ∙ there in
              ap (slice_get (set all.known n (measured_at p all.namings n false))) same ∙ get_set_same all.known n (measured_at p all.namings n false) within
              ∙ ap Some (other_measured files p n e (tied.each n e there') all.namings (expressions e there') (none_there n e there' none))
          | inr apart ↦ get_set_other all.known n m (measured_at p all.namings n false) apart ∙ s.known m e there (elim either [
            | inl stands ↦ elim (Contains-push_cases done n m stands) [
              | inl old ↦ inl old
              | inr same ↦ absurd (apart (sym same))
            ]
            | inr also ↦ inr also
          ])
        ]

  all_others : (done rest : List ℕ) (all : Knowing) → All (λ n. n < length (all_data files)) rest → AllSoFar done all → AllSoFar (done ++ rest) (fold (measure_other p c) all rest)
  all_others done [] all less s = subst (λ xs. AllSoFar xs all) (sym (append-nil done)) s
  all_others done (n ∷ rest) all less s =
      subst (λ xs. AllSoFar xs (fold (measure_other p c) (measure_other p c all n) rest)) (append_assoc done (n ∷ []) rest)
      (all_others (done ++ n ∷ []) rest (measure_other p c all n) (All-tail (λ n. n < length (all_data files)) n rest less)
      (other_more done n all (All-head (λ n. n < length (all_data files)) n rest less) s))

  all_known : AllSoFar c.order.items (measure_all p c)
  all_known = all_others [] c.order.items constants (λ k e less. order_known (get_or c.order.items k e) (Contains-get_or c.order.items k e less)) others_begin

  pub known_names : (measure_all p c).known ≡ map (measured_of files (known_of files)) (all_data files)
  known_names =
      from_places (measured_of files (known_of files)) (all_data files) (measure_all p c).known all_known.long
      (λ n d there. all_known.known n d there (inl (finish.all n (subst (λ k. n < k) (sym V_sized) (slice_get_within (all_data files) n d there)))))

  pub known_tokens : (file token : ℕ) → naming_by (row_in p.rows.items file) (measure_all p c).namings token ≡ naming_at files (known_of files) file token
  known_tokens file token = ap (λ xs. naming_by (row_in p.rows.items file) xs token) all_known.namings_are ∙ all_tokens file token
