-- What each entity of a project holds, by its name in its scoping unit.
use Rattle.std.proofs.Common.{◌≡◌, ℕ, Bool, true, false, cond, List, [], ◌∷◌, ◌++◌, filter, map, length, Option, Some, None, slice_get, option_map, ◌⊎◌, inl, inr, refl, sym, ap, ap₂, ◌∙◌}
use Rattle.std.specs.Prelude.{◌&&◌, ◌||◌, codes, if◌then◌else◌, not}
use Rattle.std.specs.List.{cons_option, flat_map, list_any, AllByRecursion as Each}
use Rattle.std.specs.Option.{option_and_then, option_map_or, option_or, unwrap_or}
use Rattle.std.specs.Str.{bytes_eq}
use Rattle.std.specs.Cmp.Lexicographic.{nat_list_eq_equiv}
use Rattle.std.proofs.lemmas.Option.{slice_get-map}
use Rattle.std.proofs.lemmas.Bool.{and_parts}
use Rattle.ftn_base.specs.declared.entity.Length.TheVariants.{Fixed, Assumed}
use Rattle.ftn_base.specs.declared.entity.Ty.{Ty}
use Rattle.ftn_base.specs.declared.entity.Ty.TheVariants as ty
use Rattle.ftn_tree.specs.declared.form.Form.TheOpen.{Form-F}
use Rattle.ftn_tree.specs.declared.mention.Role.TheVariants as role
use Rattle.ftn_tree.specs.declared.parts.TypeSpec.{TypeSpec}
use Rattle.ftn_tree.specs.declared.table.Entity.{Entity}
use Rattle.ftn_tree.specs.declared.table.EntityKind.{EntityKind}
use Rattle.ftn_tree.specs.declared.table.EntityKind.TheVariants as kinds
use Rattle.ftn_tree.specs.declared.table.Extent.{Extent}
use Rattle.ftn_tree.specs.declared.table.Scope.{Scope}
use Rattle.ftn_tree.specs.declared.unit.FileTree.{FileTree}
use Rattle.ftn_tree.specs.declared.value.Value.{Value}
use Rattle.ftn_tree.specs.declared.value.Value.TheVariants as value
use Rattle.ftn_tree.specs.Bindings.{bound_entities, denotings, draft_intrinsic, draft_letter, intrinsic_at, intrinsic_drafts, is_letter_typed, letter_drafts}
use Rattle.ftn_tree.specs.Circles.{constants, is_circular}
use Rattle.ftn_tree.specs.Constants.{known_after, known_by, known_of, not_known, held, evaluated_in}
use Rattle.ftn_tree.specs.DeclarationFaults.{declaration_fault}
use Rattle.ftn_tree.specs.Declarations.{written_value}
use Rattle.ftn_tree.specs.DeclaredEntities.{Drafted, blank_places, draft_blank, draft_block, draft_name, draft_unit, drafted, drafts, drafts_in, first_occurrence, has_result_at, has_type, in_order, is_referenced, is_said, kind_said, names_after, own_place, scope_entry, unit_kind_at}
use Rattle.ftn_tree.specs.EntityValues as spec
use Rattle.ftn_tree.specs.EntityValues.{extent_numbered, holder, is_named_constant, key_of_entity, key_of_function}
use Rattle.ftn_tree.specs.Extents.{is_body, layer_at, scoping}
use Rattle.ftn_tree.specs.GlobalNames.{Global, Place, blocks, firsts_after, place}
use Rattle.ftn_tree.specs.KeyKinds.{Datum, datum, datum_of, is_constant, kind_of}
use Rattle.ftn_tree.specs.Layers.{FormLayer}
use Rattle.ftn_tree.specs.Meanings as meanings
use Rattle.ftn_tree.specs.Meanings.{Key, unit, own, names_in}
use Rattle.ftn_tree.specs.Mentions.{function_mention}
use Rattle.ftn_tree.specs.NameFaults.{name_fault, said_of}
use Rattle.ftn_tree.specs.Projects.{AreTrees}
use Rattle.ftn_tree.specs.Roles.{same_role, says}
use Rattle.ftn_tree.specs.Sayings.{Saying, answer, dummy, same_name, sayings, typed}
use Rattle.ftn_tree.specs.Scopes.{name_at, name_token, opening_name, scope_name, scope_number}
use Rattle.ftn_tree.specs.StorageObjects.{takes_storage}
use Rattle.ftn_tree.specs.Shapes.{bad_shape, datum_told, has_star, is_datum, shape_findings, type_of, with_value}
use Rattle.decl_table.specs.steps.Seen.{is_among}
use Rattle.decl_table.proofs.OwnStatements.{number_of as number_there}
use Rattle.const_value.specs.steps.Gathered.{name_number}
use Rattle.const_value.specs.steps.Known.{value_of}
use Rattle.const_value.specs.steps.Names.{all_data, all_said, number_of}
use Rattle.const_value.proofs.EntityFits.{order_each}
use Rattle.const_value.proofs.KeysThere.{named_there}
use Rattle.const_value.proofs.KindsSaid.{constant_said, undeclared}
use Rattle.const_value.proofs.Members.{each_append, each_filter, each_flat, each_map, each_of, each_passed, each_weaker, or_left, or_right}
use Rattle.const_value.proofs.NoBodies.{no_bodies}
use Rattle.const_value.proofs.NumberTurns.{none_said}
use Rattle.const_value.proofs.OwnSayings.{function_said, mentioned_among, name_among, said_any}
use Rattle.const_value.proofs.RealKeys.{IsUnit, is_named_in, kind_in, units_there}
use Rattle.const_value.proofs.ResultDummies.{result_no_dummy}
use Rattle.const_value.proofs.StarLengths.{star_written}
use Rattle.const_value.proofs.ValuedDummies.{dummy_unvalued}

-- ---- kinds

-- whether an entity of the kind holds a value, where it is known whether RESULT is written
abbrev pub holds_with : Bool → EntityKind → Bool
holds_with result kinds.Function = if result then false else true
holds_with result kind = spec.holds kind

holds_plain : (result : Bool) (k : EntityKind) → (k ≡ kinds.Function → ⊥) → holds_with result k ≡ spec.holds k
holds_plain result kinds.Function never = absurd (never refl)
holds_plain result other never = refl

key_plain : (files : List FileTree) (k : EntityKind) (entity : Entity) → (k ≡ kinds.Function → ⊥)
    → key_of_entity files k entity ≡ (if spec.holds k then option_map (λ e. own e (unwrap_or entity.name [])) (extent_numbered files entity.home) else None)
key_plain files kinds.Function entity never = absurd (never refl)
key_plain files other entity never = refl

no_function_said : (has referenced : Bool) (said : List Saying) → kind_said has referenced said ≡ Some kinds.Function → ⊥
no_function_said has referenced said is = at (is_said dummy said) (is_said answer said) has (is_said (λ s. says role.Inner s.said) said) (is_said (λ s. says role.Generic s.said) said) (is_said (λ s. says role.Label s.said) said) _ _ _ is where
  at : (d a h i g l o p c : Bool)
      → cond d (Some kinds.Dummy) (cond a (cond h (Some kinds.Answer) None) (cond i None (cond g (Some kinds.Generic) (cond l (Some kinds.Construct) (cond o None (cond p (Some kinds.Constant) (cond c (Some kinds.Variable) None)))))))
      ≡ Some kinds.Function → ⊥
  at true a h i g l o p c is = cc is
  at false true true i g l o p c is = cc is
  at false true false i g l o p c is = cc is
  at false false h true g l o p c is = cc is
  at false false h false true l o p c is = cc is
  at false false h false false true o p c is = cc is
  at false false h false false false true p c is = cc is
  at false false h false false false false true c is = cc is
  at false false h false false false false false true is = cc is
  at false false h false false false false false false is = cc is

-- ---- types with their lengths

pub with_none : (v : Option Value) (known : Ty) → (known ≡ ty.Character Assumed → ⊥) → with_value v known ≡ known
with_none None known never = refl
with_none (Some (value.Whole z)) known never = refl
with_none (Some (value.Truth t)) known never = refl
with_none (Some (value.Chars text)) ty.Integer never = refl
with_none (Some (value.Chars text)) ty.Logical never = refl
with_none (Some (value.Chars text)) (ty.Character (Fixed n)) never = refl
with_none (Some (value.Chars text)) (ty.Character Assumed) never = absurd (never refl)

-- where a value counts only for the length `*`
agree : (v : Option Value) (o : Option Ty) → (o ≡ Some (ty.Character Assumed) → v ≡ None) → option_map (with_value None) o ≡ option_map (with_value v) o
agree v None counts = refl
agree v (Some ty.Integer) counts = ap Some (sym (with_none v ty.Integer (λ is. cc is)))
agree v (Some ty.Logical) counts = ap Some (sym (with_none v ty.Logical (λ is. cc is)))
agree v (Some (ty.Character (Fixed n))) counts = ap Some (sym (with_none v (ty.Character (Fixed n)) (λ is. cc is)))
agree v (Some (ty.Character Assumed)) counts = ap (λ w. Some (with_value w (ty.Character Assumed))) (sym (counts refl))

module _ (files : List FileTree) (are : AreTrees files) (declared : declaration_fault files ≡ None) (bound : name_fault files ≡ None)
    (shaped : (n : ℕ) (d : Datum) → slice_get (all_data files) n ≡ Some d → shape_findings files d ≡ []) where
  both_empty : {A : Type 0} (xs ys : List A) → xs ++ ys ≡ [] → (xs ≡ []) × (ys ≡ [])
  both_empty [] ys is = (refl, is)
  both_empty (x ∷ xs) ys is = absurd (cc is)

  number_is : (e : Extent) (there : IsUnit files e) → scope_number files e ≡ Some (there.0)
  number_is e there = number_there files are there.0 e there.1

  -- what is known of a name for which no value is written
  unvalued : (key : Key) (d : Datum) → datum_of files key ≡ Some d → written_value files d.scope d.name ≡ None → (known_of files key).value ≡ None
  unvalued key d of_key none = by (is_circular files key) where
    by : (b : Bool) → (cond b not_known (option_map_or (known_by files (known_after files (length (constants files)))) (datum_of files key) not_known)).value ≡ None
    by true = refl
    by false =
        ap (λ o. (option_map_or (known_by files (known_after files (length (constants files)))) o not_known).value) of_key
        ∙ ap (λ w. option_and_then (held files (known_after files (length (constants files))) d) (option_and_then (λ x. (evaluated_in files (known_after files (length (constants files))) d.scope.file x).value) w)) none

  -- a length `*` of a name that is no constant isn't that of a value
  star_unvalued : (e : Extent) (there : IsUnit files e) (name : List ℕ) (n : ℕ) → slice_get (all_data files) n ≡ Some (datum e name) → is_constant (kind_of files (own e name)) ≡ false
      → (key : Key) → datum_of files key ≡ Some (datum e name) → type_of files (datum e name) ≡ Some (ty.Character Assumed) → (known_of files key).value ≡ None
  star_unvalued e there name n at plain key of_key is = by (is_said dummy (said_of files e name)) refl where
    star : has_star files (datum e name) ≡ true
    star = star_written files (known_of files) (datum e name) is

    by : (b : Bool) → is_said dummy (said_of files e name) ≡ b → (known_of files key).value ≡ None
    by true argument = unvalued key (datum e name) of_key (dummy_unvalued files declared there.0 e there.1 name argument)
    by false none =
        let empty : bad_shape files (datum e name) (said_of files e name) (has_star files (datum e name) && not (is_said dummy (said_of files e name)) && not (is_constant (kind_of files (own e name)))) ≡ [] =
        (both_empty (datum_told files (is_said dummy (said_of files e name)) (is_constant (kind_of files (own e name))) (datum e name) (said_of files e name)) _ (shaped n (datum e name) at)).1 in
        let some : bad_shape files (datum e name) (said_of files e name) true ≡ [] =
        ap (λ b. bad_shape files (datum e name) (said_of files e name) b) (sym (ap₂ (λ s c. s && not (is_said dummy (said_of files e name)) && not c) star plain ∙ ap (λ b. not b && true) none)) ∙ empty in
        absurd (cc some)

  full_agree : (e : Extent) (there : IsUnit files e) (name : List ℕ) (n : ℕ) → slice_get (all_data files) n ≡ Some (datum e name) → (key : Key) → datum_of files key ≡ Some (datum e name)
      → (is_constant (kind_of files (own e name)) ≡ true → key ≡ own e name)
      → option_map (with_value (value_of files (known_of files) (datum e name))) (type_of files (datum e name)) ≡ option_map (with_value (known_of files key).value) (type_of files (datum e name))
  full_agree e there name n at key of_key constant = by (is_constant (kind_of files (own e name))) refl where
    by : (b : Bool) → is_constant (kind_of files (own e name)) ≡ b
        → option_map (with_value (cond b ((known_of files (own e name)).value) None)) (type_of files (datum e name)) ≡ option_map (with_value (known_of files key).value) (type_of files (datum e name))
    by true is = ap (λ k. option_map (with_value (known_of files k).value) (type_of files (datum e name))) (sym (constant is))
    by false is = agree (known_of files key).value (type_of files (datum e name)) (star_unvalued e there name n at is key of_key)

  -- ---- entities

  -- it opens a function with RESULT
  abbrev pub has_result : Option ℕ → Bool
  has_result opens = option_map_or (λ (s : Scope). has_result_at (layer_at files s.unit.file s.unit.statement)) (option_and_then (slice_get (map (scope_entry files) (scoping files))) opens) false

  -- no dummy argument and no constant, so it has to take storage
  abbrev pub IsPlain : Datum → Type 0
  IsPlain d = (is_said dummy (said_of files d.scope d.name) ≡ false) × (is_datum files d (said_of files d.scope d.name) ≡ true) × (is_constant (kind_of files (own d.scope d.name)) ≡ false)

  pub record Holding (entity : Entity) : Type 0 where
    pub key : Key
    pub datum : Datum
    pub name : ℕ
    pub holder_is : holder files entity ≡ Some key
    pub datum_is : datum_of files key ≡ Some datum
    pub name_is : name_number files entity ≡ Some name
    pub there : slice_get (all_data files) name ≡ Some datum
    pub held : holds_with (has_result entity.opens) entity.kind ≡ true
    pub constant : is_named_constant entity.kind ≡ true → (key ≡ own datum.scope datum.name) × (is_constant (kind_of files key) ≡ true)
    pub plain : takes_storage entity.kind ≡ true → IsPlain datum
    pub full : option_map (with_value (value_of files (known_of files) datum)) (type_of files datum) ≡ option_map (with_value (known_of files key).value) (type_of files datum)

  abbrev pub HeldCase : Entity → Type 0
  HeldCase entity = ((holder files entity ≡ None) × (holds_with (has_result entity.opens) entity.kind ≡ false)) ⊎ Holding entity

  plain_case : (entity : Entity) (k : EntityKind) → entity.kind ≡ k → spec.holds k ≡ false → (k ≡ kinds.Function → ⊥) → HeldCase entity
  plain_case entity k is none never =
      inl (
        ap (λ k. key_of_entity files k entity) is ∙ key_plain files k entity never ∙ ap (λ b. cond b (option_map (λ e. own e (unwrap_or entity.name [])) (extent_numbered files entity.home)) None) none,
        ap (holds_with (has_result entity.opens)) is ∙ holds_plain (has_result entity.opens) k never ∙ none,
      )

  -- ---- names

  named_case : (e : Extent) (there : IsUnit files e) (name : List ℕ) → is_among name (names_after [] (sayings files e)) ≡ true → (entity : Entity) (k : EntityKind) → entity.kind ≡ k → (k ≡ kinds.Function → ⊥)
      → (is_named_constant k ≡ true → is_constant (kind_of files (own e name)) ≡ true) → (takes_storage k ≡ true → IsPlain (datum e name))
      → entity.name ≡ Some name → entity.home ≡ scope_number files e → entity.opens ≡ None → HeldCase entity
  named_case e there name among entity k is never constant plain named home opens = by (spec.holds k) refl where
    by : (b : Bool) → spec.holds k ≡ b → HeldCase entity
    by false none = plain_case entity k is none never
    by true some =
        let (n, at, number) = named_there files are bound (no_bodies files are) e there name among in
        let number_here : number_of (all_said files) there.0 name ≡ Some n = sym (ap (option_and_then (λ scope. number_of (all_said files) scope name)) (number_is e there)) ∙ number in
        let extent : extent_numbered files entity.home ≡ Some e = ap (option_and_then (slice_get (scoping files))) (home ∙ number_is e there) ∙ there.1 in
        inr (record {
          key = own e name;
          datum = datum e name;
          name = n;
          holder_is =
              ap (λ k. key_of_entity files k entity) is ∙ key_plain files k entity never ∙ ap (λ b. cond b (option_map (λ e. own e (unwrap_or entity.name [])) (extent_numbered files entity.home)) None) some
              ∙ ap₂ (λ o m. option_map (λ e. own e (unwrap_or m [])) o) extent named;
          datum_is = refl;
          name_is =
              ap₂ (λ o m. option_and_then (λ scope. option_and_then (number_of (all_said files) scope) m) (option_or o entity.home)) opens named
              ∙ ap (option_and_then (λ scope. number_of (all_said files) scope name)) (home ∙ number_is e there) ∙ number_here;
          there = at;
          held = ap (holds_with (has_result entity.opens)) is ∙ holds_plain (has_result entity.opens) k never ∙ some;
          constant = λ kind. (refl, constant (ap is_named_constant (sym is) ∙ kind));
          plain = λ takes. plain (ap takes_storage (sym is) ∙ takes);
          full = full_agree e there name n at (own e name) refl (λ is. refl);
        })

  -- a name of which something is said
  said_among : (e : Extent) (name : List ℕ) (k : EntityKind) → kind_in files e name ≡ Some k → is_among name (names_after [] (sayings files e)) ≡ true
  said_among e name k is = by (is_among name (names_after [] (sayings files e))) refl where
    no_kind : (has referenced : Bool) → kind_said has referenced [] ≡ None
    no_kind has true = refl
    no_kind has false = refl

    by : (b : Bool) → is_among name (names_after [] (sayings files e)) ≡ b → is_among name (names_after [] (sayings files e)) ≡ true
    by true among = among
    by false apart =
        let none : said_of files e name ≡ [] = none_said [] (sayings files e) name refl apart in
        absurd (cc (is, ap (kind_said (has_result_at (layer_at files e.file e.opening)) (is_referenced files e name)) none ∙ no_kind (has_result_at (layer_at files e.file e.opening)) (is_referenced files e name)))

  -- what is said of a variable or a result
  plain_said : (e : Extent) (n : List ℕ) (k : EntityKind) → kind_in files e n ≡ Some k → takes_storage k ≡ true → IsPlain (datum e n)
  plain_said e n k is takes = (
    argument (is_said dummy (said_of files e n)) refl,
    or_right (is_said answer (said_of files e n) || is_letter_typed files e n) _ (ap (λ o. option_map_or has_type o false) is ∙ typed_kind k is takes),
    ap (λ o. is_constant (unwrap_or o kinds.Variable)) is ∙ no_constant k takes,
  ) where
    argument : (b : Bool) → is_said dummy (said_of files e n) ≡ b → is_said dummy (said_of files e n) ≡ false
    argument false none = none
    argument true some =
        let kind : kind_in files e n ≡ Some kinds.Dummy = rw some refl in
        let same : k ≡ kinds.Dummy = cc (sym is ∙ kind) in
        absurd (cc (takes, ap takes_storage same))

    typed_kind : (k : EntityKind) → kind_in files e n ≡ Some k → takes_storage k ≡ true → has_type k ≡ true
    typed_kind kinds.Variable is takes = refl
    typed_kind kinds.Answer is takes = refl
    typed_kind kinds.Function is takes = absurd (no_function_said (has_result_at (layer_at files e.file e.opening)) (is_referenced files e n) (said_of files e n) is)
    typed_kind other is takes = absurd (cc takes)

    no_constant : (k : EntityKind) → takes_storage k ≡ true → is_constant k ≡ false
    no_constant kinds.Variable takes = refl
    no_constant kinds.Answer takes = refl
    no_constant kinds.Function takes = refl
    no_constant other takes = absurd (cc takes)

  drafts_case : (e : Extent) → IsUnit files e → Each (λ (d : Drafted). HeldCase d.entity) (drafts_in files e)
  drafts_case e there =
      each_flat (λ (d : Drafted). HeldCase d.entity) (λ n. cons_option (draft_name files e n (filter (same_name n) (sayings files e))) []) (names_after [] (sayings files e))
      (each_of (λ n. Each (λ (d : Drafted). HeldCase d.entity) (cons_option (draft_name files e n (filter (same_name n) (sayings files e))) [])) (λ n. by n (kind_in files e n) refl) (names_after [] (sayings files e)))
    where
      named_is : (k : EntityKind) → is_named_constant k ≡ true → k ≡ kinds.Constant
      named_is kinds.Constant is = refl
      named_is other is = absurd (cc is)

      by : (n : List ℕ) (o : Option EntityKind) → kind_in files e n ≡ o
          → Each (λ (d : Drafted). HeldCase d.entity) (cons_option (option_map (λ kind. drafted files (place e.file (own_place kind (first_occurrence files e n) (said_of files e n))) false (Some n) (scope_number files e) kind (has_type kind && not (is_said typed (said_of files e n))) None) o) [])
      by n None is = tt
      by n (Some k) is = (
        named_case e there n (said_among e n k is) (drafted files (place e.file (own_place k (first_occurrence files e n) (said_of files e n))) false (Some n) (scope_number files e) k (has_type k && not (is_said typed (said_of files e n))) None).entity k refl
            (λ same. no_function_said (has_result_at (layer_at files e.file e.opening)) (is_referenced files e n) (said_of files e n) (is ∙ ap Some same))
            (λ constant. ap (λ o. is_constant (unwrap_or o kinds.Variable)) (is ∙ ap Some (named_is k constant))) (plain_said e n k is) refl refl refl,
        tt,
      )

  -- a name that its first letter types
  plain_letter : (e : Extent) (n : List ℕ) → is_letter_typed files e n ≡ true → IsPlain (datum e n)
  plain_letter e n typed_is = (
    argument (is_said dummy (said_of files e n)) refl,
    or_left (is_said answer (said_of files e n) || is_letter_typed files e n) _ (or_right (is_said answer (said_of files e n)) (is_letter_typed files e n) typed_is),
    undeclared files e n (has_result_at (layer_at files e.file e.opening)) (said_of files e n) none,
  ) where
    none : meanings.is_nothing (meanings.declared_in files e n) ≡ true
    none = (and_parts (meanings.is_nothing (meanings.declared_in files e n)) _ typed_is).0

    argument : (b : Bool) → is_said dummy (said_of files e n) ≡ b → is_said dummy (said_of files e n) ≡ false
    argument false is = is
    argument true some =
        let told : meanings.is_nothing (meanings.declared_in files e n) ≡ false = rw some refl in
        absurd (cc (none, told))

  letters_case : (e : Extent) → IsUnit files e → Each (λ (d : Drafted). HeldCase d.entity) (letter_drafts files e)
  letters_case e there =
      each_map (λ (d : Drafted). HeldCase d.entity) (draft_letter files e) (filter (is_letter_typed files e) (names_in files e))
      (each_weaker (λ n. (is_named_in files e n ≡ true) × (is_letter_typed files e n ≡ true)) (λ n. HeldCase (draft_letter files e n).entity) (λ n is. one_case n is.0 is.1) (filter (is_letter_typed files e) (names_in files e))
      (each_passed (λ n. is_named_in files e n ≡ true) (is_letter_typed files e) (names_in files e) (each_in (names_in files e) (λ n is. is))))
    where
      one_case : (n : List ℕ) → is_named_in files e n ≡ true → is_letter_typed files e n ≡ true → HeldCase (draft_letter files e n).entity
      one_case n named typed_is =
          named_case e there n (mentioned_among files e n named) (draft_letter files e n).entity kinds.Variable refl (λ same. cc same) (λ never. absurd (cc never)) (λ takes. plain_letter e n typed_is) refl refl refl

      each_in : (ns : List (List ℕ)) → ((n : List ℕ) → list_any (λ other. bytes_eq other n) ns ≡ true → is_named_in files e n ≡ true) → Each (λ n. is_named_in files e n ≡ true) ns
      each_in [] all = tt
      each_in (n ∷ ns) all =
          (all n (or_left (bytes_eq n n) (list_any (λ other. bytes_eq other n) ns) (nat_list_eq_equiv.refl n)), each_in ns (λ m is. all m (or_right (bytes_eq n m) (list_any (λ other. bytes_eq other m) ns) is)))

  -- ---- units

  function_answers : (ty : Option TypeSpec) (token : ℕ) → says role.Answer (function_mention ty token None) ≡ true
  unfolding same_role
  function_answers ty token = refl

  function_no_dummy : (ty : Option TypeSpec) (token : ℕ) → says role.Dummy (function_mention ty token None) ≡ false
  unfolding same_role
  function_no_dummy None token = refl
  function_no_dummy (Some ty) token = refl

  unit_case : (e : Extent) (there : IsUnit files e) (entity : Entity) → entity.opens ≡ scope_number files e → entity.name ≡ option_map (name_at files e.file) (name_token files e)
      → entity.kind ≡ unit_kind_at (layer_at files e.file e.opening) → HeldCase entity
  unit_case e there entity opens named kind = by (layer_at files e.file e.opening) refl where
    result_is : has_result entity.opens ≡ has_result_at (layer_at files e.file e.opening)
    result_is =
        ap (λ o. option_map_or (λ (s : Scope). has_result_at (layer_at files s.unit.file s.unit.statement)) (option_and_then (slice_get (map (scope_entry files) (scoping files))) o) false) (opens ∙ number_is e there)
        ∙ ap (λ o. option_map_or (λ (s : Scope). has_result_at (layer_at files s.unit.file s.unit.statement)) o false)
        (slice_get-map (scope_entry files) (scoping files) there.0 ∙ ap (option_map (scope_entry files)) there.1)

    extent : extent_numbered files entity.opens ≡ Some e
    extent = ap (option_and_then (slice_get (scoping files))) (opens ∙ number_is e there) ∙ there.1

    not_constant : (name : List ℕ) → is_said answer (said_of files e name) ≡ true → (b : Bool) → is_constant (kind_of files (own e name)) ≡ b → is_constant (kind_of files (own e name)) ≡ false
    not_constant name answers false is = is
    not_constant name answers true is =
        absurd (cc (answers, (constant_said (has_result_at (layer_at files e.file e.opening)) (is_referenced files e name) (said_of files e name) is).answers))

    by : (layer : Option FormLayer) → layer_at files e.file e.opening ≡ layer → HeldCase entity
    by (Some (Form-F.Function ty token dummies (Some answer_token))) is =
        inl (
          ap (λ k. key_of_entity files k entity) (kind ∙ ap unit_kind_at is) ∙ ap (option_and_then (key_of_function files)) extent ∙ ap (λ l. cond (has_result_at l) None (Some (unit e))) is,
          ap (holds_with (has_result entity.opens)) (kind ∙ ap unit_kind_at is) ∙ ap (λ b. cond b false true) (result_is ∙ ap has_result_at is),
        )
    by (Some (Form-F.Function ty token dummies None)) is =
        let scope_is : scope_name files e ≡ name_at files e.file token = ap (λ l. option_map_or (name_at files e.file) (option_and_then opening_name l) (codes "%blockdata")) is in
        let token_is : name_token files e ≡ Some token = ap (option_and_then opening_name) is in
        let among : is_among (name_at files e.file token) (names_after [] (sayings files e)) ≡ true =
        name_among files e (name_at files e.file token) (function_said files e are there ty token dummies None is (same_name (name_at files e.file token)) (nat_list_eq_equiv.refl (name_at files e.file token))) in
        let answers : is_said answer (said_of files e (name_at files e.file token)) ≡ true =
        said_any files e answer (name_at files e.file token)
        (function_said files e are there ty token dummies None is (λ s. same_name (name_at files e.file token) s && answer s) (ap₂ (λ a b. a && b) (nat_list_eq_equiv.refl (name_at files e.file token)) (function_answers ty token))) in
        let (n, at, number) = named_there files are bound (no_bodies files are) e there (name_at files e.file token) among in
        let number_here : number_of (all_said files) there.0 (name_at files e.file token) ≡ Some n =
        sym (ap (option_and_then (λ scope. number_of (all_said files) scope (name_at files e.file token))) (number_is e there)) ∙ number in
        inr (record {
          key = unit e;
          datum = datum e (name_at files e.file token);
          name = n;
          holder_is = ap (λ k. key_of_entity files k entity) (kind ∙ ap unit_kind_at is) ∙ ap (option_and_then (key_of_function files)) extent ∙ ap (λ l. cond (has_result_at l) None (Some (unit e))) is;
          datum_is = ap (λ m. Some (datum e m)) scope_is;
          name_is =
              ap₂ (λ o m. option_and_then (λ scope. option_and_then (number_of (all_said files) scope) m) (option_or o entity.home)) (opens ∙ number_is e there) (named ∙ ap (option_map (name_at files e.file)) token_is) ∙ number_here;
          there = at;
          held = ap (holds_with (has_result entity.opens)) (kind ∙ ap unit_kind_at is) ∙ ap (λ b. cond b false true) (result_is ∙ ap has_result_at is);
          constant = λ never. absurd (cc (never, ap is_named_constant (kind ∙ ap unit_kind_at is)));
          plain = λ takes. (
            result_no_dummy files declared there.0 e there.1 (name_at files e.file token)
                (function_said files e are there ty token dummies None is (λ s. same_name (name_at files e.file token) s && (answer s && not (dummy s)))
                (ap₂ (λ a b. a && b) (nat_list_eq_equiv.refl (name_at files e.file token)) (ap₂ (λ a b. a && not b) (function_answers ty token) (function_no_dummy ty token)))),
            or_left (is_said answer (said_of files e (name_at files e.file token)) || is_letter_typed files e (name_at files e.file token)) _
                (or_left (is_said answer (said_of files e (name_at files e.file token))) (is_letter_typed files e (name_at files e.file token)) answers),
            not_constant (name_at files e.file token) answers (is_constant (kind_of files (own e (name_at files e.file token)))) refl,
          );
          full = full_agree e there (name_at files e.file token) n at (unit e) (ap (λ m. Some (datum e m)) scope_is) (λ constant.
              absurd (cc (answers, (constant_said (has_result_at (layer_at files e.file e.opening)) (is_referenced files e (name_at files e.file token)) (said_of files e (name_at files e.file token)) constant).answers)));
        })
    by (Some (Form-F.Program name)) is = plain_case entity kinds.Program (kind ∙ ap unit_kind_at is) refl (λ same. cc same)
    by (Some (Form-F.Module name)) is = plain_case entity kinds.Module (kind ∙ ap unit_kind_at is) refl (λ same. cc same)
    by (Some (Form-F.BlockData joined name)) is = plain_case entity kinds.BlockData (kind ∙ ap unit_kind_at is) refl (λ same. cc same)
    by other is = plain_case entity kinds.Subroutine (kind ∙ ap unit_kind_at is) refl (λ same. cc same)

  -- ---- all

  blanks_case : (places : List Place) → Each (λ (d : Drafted). HeldCase d.entity) (draft_blank files places)
  blanks_case [] = tt
  blanks_case (first ∷ rest) = (plain_case (drafted files first true None None kinds.Block false None).entity kinds.Block refl refl (λ same. cc same), tt)

  all_cases : Each (λ (d : Drafted). HeldCase d.entity) (drafts files ++ (flat_map (letter_drafts files) (scoping files) ++ intrinsic_drafts files))
  all_cases =
      each_append (λ (d : Drafted). HeldCase d.entity) (drafts files) (flat_map (letter_drafts files) (scoping files) ++ intrinsic_drafts files)
      (each_append (λ (d : Drafted). HeldCase d.entity) (map (draft_unit files) (filter (λ e. not (is_body files e)) (scoping files))) _
      (each_map (λ (d : Drafted). HeldCase d.entity) (draft_unit files) (filter (λ e. not (is_body files e)) (scoping files))
      (each_filter (λ e. HeldCase (draft_unit files e).entity) (λ e. not (is_body files e)) (scoping files)
      (each_weaker (IsUnit files) (λ e. HeldCase (draft_unit files e).entity) (λ e there. unit_case e there (draft_unit files e).entity refl refl refl) (scoping files) (units_there files []))))
      (each_append (λ (d : Drafted). HeldCase d.entity) (flat_map (drafts_in files) (scoping files)) _
      (each_flat (λ (d : Drafted). HeldCase d.entity) (drafts_in files) (scoping files) (each_weaker (IsUnit files) (λ e. Each (λ (d : Drafted). HeldCase d.entity) (drafts_in files e)) drafts_case (scoping files) (units_there files [])))
      (each_append (λ (d : Drafted). HeldCase d.entity) (map (draft_block files) (blocks files)) (draft_blank files (blank_places files))
      (each_map (λ (d : Drafted). HeldCase d.entity) (draft_block files) (blocks files)
      (each_of (λ (g : Global). HeldCase (draft_block files g).entity) (λ g. plain_case (draft_block files g).entity kinds.Block refl refl (λ same. cc same)) (blocks files)))
      (blanks_case (blank_places files)))))
      (each_append (λ (d : Drafted). HeldCase d.entity) (flat_map (letter_drafts files) (scoping files)) (intrinsic_drafts files)
      (each_flat (λ (d : Drafted). HeldCase d.entity) (letter_drafts files) (scoping files) (each_weaker (IsUnit files) (λ e. Each (λ (d : Drafted). HeldCase d.entity) (letter_drafts files e)) letters_case (scoping files) (units_there files [])))
      (each_map (λ (d : Drafted). HeldCase d.entity) (draft_intrinsic files) (firsts_after [] (flat_map intrinsic_at (denotings files)))
      (each_of (λ (g : Global). HeldCase (draft_intrinsic files g).entity) (λ g. plain_case (draft_intrinsic files g).entity kinds.Intrinsic refl refl (λ same. cc same)) (firsts_after [] (flat_map intrinsic_at (denotings files))))))

  pub entities_held : Each HeldCase (bound_entities files)
  entities_held =
      each_map HeldCase (λ (d : Drafted). d.entity) (in_order (drafts files ++ (flat_map (letter_drafts files) (scoping files) ++ intrinsic_drafts files)))
      (order_each (λ (d : Drafted). HeldCase d.entity) (drafts files ++ (flat_map (letter_drafts files) (scoping files) ++ intrinsic_drafts files)) all_cases)
