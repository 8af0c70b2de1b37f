-- What is gathered of a project tells its constants, and to which constants they refer, as its files define them.
use Rattle.std.proofs.Common.{◌≡◌, refl, sym, ◌∙◌, ap, ap₂, subst, cond, ℕ, ◌<◌, Bool, true, false, List, [], ◌∷◌, ◌++◌, map, length, Option, Some, None, append-nil, arith}
use Rattle.std.specs.Prelude.{slice_get}
use Rattle.std.specs.List.{cons_option, filter_map, flat_map}
use Rattle.std.specs.Option.{option_map, option_map_or, option_and_then, unwrap_or}
use Rattle.std.proofs.lemmas.Grind.{flat_map-append}
use Rattle.std.proofs.lemmas.List.{length-map}
use Rattle.std.proofs.lemmas.List.FromFn.{get_or-map-range_with_len, length-map-range_with_len}
use Rattle.std.proofs.lemmas.Option.{slice_get-get_or, slice_get-map, slice_get_within}
use Rattle.ftn_base.specs.declared.entity.Letter.{Letter}
use Rattle.ftn_tree.specs.declared.expr.Expr.{Expr}
use Rattle.ftn_tree.specs.declared.intrinsic.Intrinsic.{Intrinsic}
use Rattle.ftn_tree.specs.declared.mention.Mention.{Mention}
use Rattle.ftn_tree.specs.declared.parts.BoundPair.{BoundPair}
use Rattle.ftn_tree.specs.declared.parts.CharLength.{CharLength}
use Rattle.ftn_tree.specs.declared.parts.CharLength.TheVariants as star
use Rattle.ftn_tree.specs.declared.parts.LengthValue.TheVariants as lengths
use Rattle.ftn_tree.specs.declared.parts.TypeSpec.{TypeSpec}
use Rattle.ftn_tree.specs.declared.table.Bound.{Bound}
use Rattle.ftn_tree.specs.declared.table.Entity.{Entity}
use Rattle.ftn_tree.specs.declared.table.EntityKind.{EntityKind}
use Rattle.ftn_tree.specs.declared.table.EntityKind.TheVariants as entity_kinds
use Rattle.ftn_tree.specs.declared.unit.FileTree.{FileTree}
use Rattle.ftn_tree.specs.Bindings.{bound_entities}
use Rattle.ftn_tree.specs.Circles.{expression_in, expressions_for, expressions_of}
use Rattle.ftn_tree.specs.Constants.{Known, constant_if, function_if, letter_type, naming_of, not_known}
use Rattle.ftn_tree.specs.Declarations.{Declared, length_of, typing_of, written_bounds, written_value}
use Rattle.ftn_tree.specs.Evaluations as names
use Rattle.ftn_tree.specs.Evaluations.{Evaluated}
use Rattle.ftn_tree.specs.Expressions.{mentions_in, mentions_in_bound}
use Rattle.ftn_tree.specs.Intrinsics.{function_named}
use Rattle.ftn_tree.specs.KeyKinds as kinds
use Rattle.ftn_tree.specs.KeyKinds.{Datum, datum_of, is_constant, key_at, kind_of}
use Rattle.ftn_tree.specs.Meanings.{Key, unit, own, block, intrinsic_function}
use Rattle.ftn_tree.specs.NameFaults as faults
use Rattle.ftn_tree.specs.Projects.{AreTrees}
use Rattle.ftn_tree.specs.Sorts.{Sort}
use Rattle.const_value.specs.declared.circles.Circles.{Circles}
use Rattle.const_value.specs.declared.name_numbers.Owned.{Owned}
use Rattle.const_value.specs.declared.project.Project.{Project}
use Rattle.const_value.specs.steps.Evaluating.{declared_by, pairs_by, value_by}
use Rattle.const_value.specs.steps.Gathered.{IsGathered, datum_number, entity_index, name_number, own_entity}
use Rattle.const_value.specs.steps.Known.{constant_naming, naming_as, own_datum}
use Rattle.const_value.specs.steps.Lengths as written
use Rattle.const_value.specs.steps.Lengths.{length_as}
use Rattle.const_value.specs.steps.Measuring as measuring
use Rattle.const_value.specs.steps.Names.{all_data}
use Rattle.const_value.specs.steps.Numbered.{AreEntities, AreNumbered, IsEntity, constant_name, name_at, name_refers, name_uses}
use Rattle.const_value.specs.steps.Projects as steps
use Rattle.const_value.specs.steps.Projects.{entity_in, kind_in, written_at}
use Rattle.const_value.specs.steps.References as references
use Rattle.const_value.specs.steps.References.{AreCircles, IsSized, all_uses, constant_at, constant_entity, file_of, mentions_of_pair, mentions_of_typing, mentions_of_written, refers, used_in}
use Rattle.const_value.specs.steps.Tied.{AreTied}
use Rattle.const_value.specs.steps.Written.{TypedAs, WrittenAs, pairs, written_of}
use Rattle.const_value.proofs.ExpressionTokens.{token_of}
use Rattle.const_value.proofs.GatheredNames.{as_typed, letter_there, name_there, names_count, pairs_there, rank_there, sort_there, typing_is, typing_there, written_count, written_there}
use Rattle.const_value.proofs.GivenValues.{pairs_by as pairs_same, type_by}
use Rattle.const_value.proofs.KnownNames.{from_places}

abbrev pub unknown : Key → Known
unknown key = not_known

-- ---- the names in the expressions of a name

bound_mentions : (o : Option Expr) (rest : List Expr) → flat_map mentions_in (cons_option o rest) ≡ mentions_in_bound o ++ flat_map mentions_in rest
bound_mentions None rest = refl
bound_mentions (Some e) rest = refl

pair_mentions : (pair : BoundPair) → flat_map mentions_in (expressions_of pair) ≡ mentions_of_pair pair
pair_mentions pair =
    bound_mentions pair.low (cons_option pair.high []) ∙ ap (λ (ms : List Mention). mentions_in_bound pair.low ++ ms) (bound_mentions pair.high [] ∙ append-nil (mentions_in_bound pair.high))

pairs_mentions : (all : List BoundPair) → flat_map mentions_in (flat_map expressions_of all) ≡ flat_map mentions_of_pair all
pairs_mentions [] = refl
pairs_mentions (pair ∷ all) =
    flat_map-append mentions_in (expressions_of pair) (flat_map expressions_of all) ∙ ap₂ (λ (xs ys : List Mention). xs ++ ys) (pair_mentions pair) (pairs_mentions all)

length_mentions : (o : Option CharLength) → references.mentions_of_length (written.length_in o) ≡ mentions_in_bound (option_and_then expression_in o)
length_mentions None = refl
length_mentions (Some (star.Whole token z)) = refl
length_mentions (Some (star.Paren lengths.Assumed)) = refl
length_mentions (Some (star.Paren (lengths.Given e))) = refl

typing_mentions : (typing : Option (TypeSpec × Declared)) → mentions_of_typing (option_map as_typed typing) ≡ mentions_in_bound (option_and_then expression_in (option_and_then length_of typing))
typing_mentions None = refl
typing_mentions (Some (type, d)) = length_mentions (length_of (type, d))

pub written_mentions : (files : List FileTree) (d : Datum) → mentions_of_written (written_of files d) ≡ flat_map mentions_in (expressions_for files d)
written_mentions files d =
    ap (λ (t : Option TypedAs). mentions_in_bound value ++ (mentions_of_typing t ++ flat_map mentions_of_pair bounds)) (typing_is files d)
    ∙ ap₂ (λ (xs ys : List Mention). mentions_in_bound value ++ (xs ++ ys)) (typing_mentions (typing_of files d.scope d.name)) (sym (pairs_mentions bounds))
    ∙ ap (λ (xs : List Mention). mentions_in_bound value ++ xs) (sym (bound_mentions length_of_name (flat_map expressions_of bounds)))
    ∙ sym (bound_mentions value (cons_option length_of_name (flat_map expressions_of bounds)))
  where
    value : Option Expr
    value = written_value files d.scope d.name

    bounds : List BoundPair
    bounds = written_bounds files d.scope d.name

    length_of_name : Option Expr
    length_of_name = option_and_then expression_in (option_and_then length_of (typing_of files d.scope d.name))

filter_same : {A B C : Type 0} (f : A → Option C) (g : B → Option C) (h : A → B) → ((x : A) → f x ≡ g (h x)) → (xs : List A) → filter_map f xs ≡ filter_map g (map h xs)
filter_same f g h same [] = refl
filter_same f g h same (x ∷ xs) = ap₂ (λ o rest. cons_option o rest) (same x) (filter_same f g h same xs)

-- ---- constants

module _ (files : List FileTree) (p : Project) (g : IsGathered files p) (trees : AreTrees files) (numbered : AreNumbered files) (entities : AreEntities files) where
  -- an entity is a constant where its key is one
  as_constant : (key : Key) (r : ℕ) → names.Constant None r None ≡ naming_of files unknown (Some key) → is_constant (kind_of files key) ≡ true
  as_constant key r is = of key is where
    of_constant : (k : Key) → names.Constant None r None ≡ constant_if files unknown k → is_constant (kind_of files k) ≡ true
    of_constant k is = by (is_constant (kind_of files k)) refl is where
      by : (b : Bool) → is_constant (kind_of files k) ≡ b → names.Constant None r None ≡ cond b (names.Constant None (option_map_or (kinds.rank_of files) (datum_of files k) 0) None) names.Stray
          → is_constant (kind_of files k) ≡ true
      by true kind is = kind
      by false kind is = absurd (cc is)

    not_function : (o : Option Intrinsic) → names.Constant None r None ≡ function_if o → ⊥
    not_function None is = absurd (cc is)
    not_function (Some function) is = absurd (cc is)

    of : (k : Key) → names.Constant None r None ≡ naming_of files unknown (Some k) → is_constant (kind_of files k) ≡ true
    of (intrinsic_function name) is = absurd (not_function (function_named name) is)
    of (unit x) is = of_constant (unit x) is
    of (own x name) is = of_constant (own x name) is
    of (block name) is = of_constant (block name) is

  no_constant : (key : Key) → names.Stray ≡ naming_of files unknown (Some key) → is_constant (kind_of files key) ≡ false
  no_constant key is = of key is where
    of_constant : (k : Key) → names.Stray ≡ constant_if files unknown k → is_constant (kind_of files k) ≡ false
    of_constant k is = by (is_constant (kind_of files k)) refl is where
      by : (b : Bool) → is_constant (kind_of files k) ≡ b → names.Stray ≡ cond b (names.Constant None (option_map_or (kinds.rank_of files) (datum_of files k) 0) None) names.Stray
          → is_constant (kind_of files k) ≡ false
      by true kind is = absurd (cc is)
      by false kind is = kind

    of : (k : Key) → names.Stray ≡ naming_of files unknown (Some k) → is_constant (kind_of files k) ≡ false
    of (intrinsic_function name) is = refl
    of (unit x) is = of_constant (unit x) is
    of (own x name) is = of_constant (own x name) is
    of (block name) is = of_constant (block name) is

  function_constant : (key : Key) (o : Option Intrinsic) → function_if o ≡ naming_of files unknown (Some key) → is_constant (kind_of files key) ≡ false
  function_constant key None is = no_constant key is
  function_constant key (Some function) is = of key is where
    of_constant : (k : Key) → names.Intrinsic function ≡ constant_if files unknown k → is_constant (kind_of files k) ≡ false
    of_constant k is = by (is_constant (kind_of files k)) is where
      by : (b : Bool) → names.Intrinsic function ≡ cond b (names.Constant None (option_map_or (kinds.rank_of files) (datum_of files k) 0) None) names.Stray → is_constant (kind_of files k) ≡ false
      by true is = absurd (cc is)
      by false is = absurd (cc is)

    of : (k : Key) → names.Intrinsic function ≡ naming_of files unknown (Some k) → is_constant (kind_of files k) ≡ false
    of (intrinsic_function name) is = refl
    of (unit x) is = of_constant (unit x) is
    of (own x name) is = of_constant (own x name) is
    of (block name) is = of_constant (block name) is

  kind_is : (i : ℕ) (key : Key) (e : IsEntity files i key) → is_constant e.entity.kind ≡ is_constant (kind_of files key)
  kind_is i key e = of e.entity.kind (e.naming unknown) where
    of : (kind : EntityKind) → naming_as files unknown kind e.entity ≡ naming_of files unknown (Some key) → is_constant kind ≡ is_constant (kind_of files key)
    of entity_kinds.Constant is = by (own_datum files e.entity) is where
      by : (o : Option Datum) → constant_naming files unknown o ≡ naming_of files unknown (Some key) → true ≡ is_constant (kind_of files key)
      by None is = sym (as_constant key 0 is)
      by (Some d) is = sym (as_constant key (kinds.rank_of files d) is)
    of entity_kinds.Intrinsic is = sym (function_constant key (option_and_then function_named e.entity.name) is)
    of entity_kinds.Program is = sym (no_constant key is)
    of entity_kinds.Module is = sym (no_constant key is)
    of entity_kinds.BlockData is = sym (no_constant key is)
    of entity_kinds.Subroutine is = sym (no_constant key is)
    of entity_kinds.Function is = sym (no_constant key is)
    of entity_kinds.Variable is = sym (no_constant key is)
    of entity_kinds.Dummy is = sym (no_constant key is)
    of entity_kinds.Answer is = sym (no_constant key is)
    of entity_kinds.Block is = sym (no_constant key is)
    of entity_kinds.Generic is = sym (no_constant key is)
    of entity_kinds.Construct is = sym (no_constant key is)

  pub entity_there : (i : ℕ) (key : Key) (e : IsEntity files i key) → entity_in p.bound.now i ≡ Some e.entity
  entity_there i key e = ap (λ (b : Bound). slice_get b.tables.entities i) g.tables ∙ e.there

  pub name_number_there : (i : ℕ) (entity : Entity) → slice_get (bound_entities files) i ≡ Some entity → steps.name_of p.links i ≡ name_number files entity
  name_number_there i entity there =
      ap (λ xs. option_and_then (λ name. name) (slice_get xs i)) g.name_of
      ∙ ap (option_and_then (λ name. name)) (slice_get-map (name_number files) (bound_entities files) i ∙ ap (option_map (name_number files)) there)

  own_there : (n : ℕ) (d : Datum) → slice_get (all_data files) n ≡ Some d → steps.entity_of p.links n ≡ own_entity files d
  own_there n d there =
      ap (λ xs. option_and_then (λ entity. entity) (slice_get xs n)) g.entity_of
      ∙ ap (option_and_then (λ entity. entity)) (slice_get-map (own_entity files) (all_data files) n ∙ ap (option_map (own_entity files)) there)

  pub constant_is : (n : ℕ) (d : Datum) → slice_get (all_data files) n ≡ Some d → references.is_constant p n ≡ is_constant (kind_of files (own d.scope d.name))
  constant_is n d there =
      ap (λ o. option_map_or is_constant (option_map kind_in (option_and_then (entity_in p.bound.now) o)) false) (own_there n d there) ∙ by (own_entity files d) refl
    where
      none : (b : Bool) → own_entity files d ≡ None → is_constant (kind_of files (own d.scope d.name)) ≡ b → false ≡ is_constant (kind_of files (own d.scope d.name))
      none false at kind = sym kind
      none true at kind = let (i, number) = entities.constants n d there kind in absurd (cc (at, number))

      by : (o : Option ℕ) → own_entity files d ≡ o
          → option_map_or is_constant (option_map kind_in (option_and_then (entity_in p.bound.now) o)) false ≡ is_constant (kind_of files (own d.scope d.name))
      by None at = none (is_constant (kind_of files (own d.scope d.name))) at refl
      by (Some i) at =
          let e = entities.names n d i there at in
          ap (λ o. option_map_or is_constant (option_map kind_in o) false) (entity_there i (own d.scope d.name) e) ∙ kind_is i (own d.scope d.name) e

  -- the constant that a name denotes
  pub constant_there : (file token : ℕ) → constant_at p file token ≡ name_at files file token
  constant_there file token = ap (option_and_then (constant_entity p)) (g.tokens file token) ∙ by (key_at files file token) refl where
    with_kind : (key : Key) (i : ℕ) → key_at files file token ≡ Some key → (e : IsEntity files i key) → (b : Bool) → is_constant (kind_of files key) ≡ b
        → cond b (steps.name_of p.links i) None ≡ cond b (option_and_then (datum_number files) (datum_of files key)) None
    with_kind key i at e false kind = refl
    with_kind key i at e true kind =
        let (x, n, named) = numbered.constant file token key at kind in
        let one_datum : datum_of files key ≡ Some named.datum = ap (datum_of files) named.key_is in
        name_number_there i e.entity e.there ∙ e.name named.datum one_datum kind ∙ sym (ap (option_and_then (datum_number files)) one_datum)

    by : (o : Option Key) → key_at files file token ≡ o → option_and_then (constant_entity p) (option_map (entity_index files) o) ≡ option_and_then (constant_name files) o
    by None at = refl
    by (Some key) at =
        let (i, number, e) = entities.tokens file token key at in
        ap (constant_entity p) (ap (λ o. unwrap_or o 0) number) ∙ ap (option_and_then (references.constant_name p i)) (entity_there i key e)
        ∙ ap (λ b. cond b (steps.name_of p.links i) None) (kind_is i key e) ∙ with_kind key i at e (is_constant (kind_of files key)) refl

  pub file_there : (n : ℕ) (d : Datum) → slice_get (all_data files) n ≡ Some d → file_of p.names.items n ≡ d.scope.file
  file_there n d there = ap (λ o. option_map_or (λ (o : Owned). o.file) o 0) (name_there files p g n d there)

  refers_are : (n : ℕ) (d : Datum) → slice_get (all_data files) n ≡ Some d → refers p n ≡ name_refers files d
  refers_are n d there =
      ap₂ (λ (b : Bool) (xs : List ℕ). cond b xs []) (constant_is n d there)
      (ap₂ (λ (f : ℕ) (w : WrittenAs). used_in p f (mentions_of_written w)) (file_there n d there) (written_there files p g n d there)
      ∙ filter_same (λ (m : Mention). constant_at p d.scope.file m.token) (name_at files d.scope.file) token_of (λ m. constant_there d.scope.file m.token) (mentions_of_written (written_of files d))
      ∙ ap (λ ms. filter_map (name_at files d.scope.file) (map token_of ms)) (written_mentions files d))

  pub uses_are : all_uses p ≡ name_uses files
  uses_are =
      from_places (name_refers files) (all_data files) (all_uses p) (length-map-range_with_len (refers p) 0 (length p.names.items) ∙ names_count files p g)
      (λ n d there. at n d there (subst (λ k. n < k) (sym (names_count files p g)) (slice_get_within (all_data files) n d there)))
    where
      at : (n : ℕ) (d : Datum) → slice_get (all_data files) n ≡ Some d → n < length p.names.items → slice_get (all_uses p) n ≡ Some (name_refers files d)
      at n d there less =
          let within : n < length (all_uses p) = subst (λ k. n < k) (sym (length-map-range_with_len (refers p) 0 (length p.names.items))) less in
          slice_get-get_or (all_uses p) n [] within
          ∙ ap Some (get_or-map-range_with_len (refers p) 0 (length p.names.items) n n [] less (omega arith) ∙ refers_are n d there)

  pub sized_is : IsSized p
  sized_is = record {
    written = written_count files p g ∙ sym (names_count files p g);
    entities = ap length g.entity_of ∙ length-map (all_data files) (own_entity files) ∙ sym (names_count files p g);
  }

  -- ---- all of it

  declared_there : (n : ℕ) (d : Datum) → slice_get (all_data files) n ≡ Some d → (evaluate : Expr → Evaluated)
      → measuring.declared_type evaluate p.bound.now p.names.items p.written.items n ≡ declared_by evaluate files d
  declared_there n d there evaluate =
      ap₂ (λ (t : Option TypedAs) (l : Letter). option_map_or (measuring.typed_by evaluate) t (letter_type l)) (typing_there files p g n d there) (letter_there files p g n d there trees)
      ∙ type_by evaluate evaluate (λ e. refl) (typing_of files d.scope d.name) (faults.letter_of files d.scope d.name)

  bounds_there : (n : ℕ) (d : Datum) → slice_get (all_data files) n ≡ Some d → (evaluate : Expr → Evaluated)
      → measuring.pairs_of evaluate (pairs (written_at p.written.items n)) ≡ pairs_by evaluate files d
  bounds_there n d there evaluate =
      ap (measuring.pairs_of evaluate) (pairs_there files p g n d there) ∙ pairs_same evaluate evaluate (λ e. refl) (written_bounds files d.scope d.name)

  value_there : (n : ℕ) (d : Datum) → slice_get (all_data files) n ≡ Some d → (evaluate : Expr → Evaluated)
      → measuring.value_of evaluate (steps.sort_of p.bound.now p.names.items p.written.items n) (declared_by evaluate files d) (written_at p.written.items n).value ≡ value_by evaluate files d
  value_there n d there evaluate =
      ap₂ (λ (s : Option Sort) (w : WrittenAs). measuring.value_of evaluate s (declared_by evaluate files d) w.value) (sort_there files p g n d there trees) (written_there files p g n d there)

  pub are_tied : (c : Circles) → AreCircles p c → AreTied files p c
  are_tied c circles = record {
    names = names_count files p g;
    entities = ap (λ (b : Bound). b.tables.entities) g.tables;
    tokens = g.tokens;
    name_of = name_number_there;
    uses = uses_are;
    circles = circles;
    each = λ n d there. record {
      file = file_there n d there;
      constant = constant_is n d there;
      rank = rank_there files p g n d there;
      entity = own_there n d there;
      declared = declared_there n d there;
      bounds = bounds_there n d there;
      value = value_there n d there;
    };
  }
