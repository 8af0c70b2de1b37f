-- What names at tokens hold is declared under the names of their entities.
use Rattle.std.proofs.Common.{◌≡◌, ℕ, Bool, true, false, cond, List, [], ◌∷◌, ◌++◌, filter, map, Option, Some, None, slice_get, option_map, ◌⊎◌, inl, inr, refl, sym, ap, ap₂, subst, ◌∙◌}
use Rattle.std.specs.Prelude.{◌&&◌, ◌||◌, codes, not}
use Rattle.std.specs.List.{flat_map, list_any}
use Rattle.std.specs.Option.{is_some, option_and_then, option_map_or, option_or, unwrap_or}
use Rattle.std.specs.Str.{bytes_eq}
use Rattle.std.proofs.lemmas.Bool.{and_parts}
use Rattle.std.proofs.lemmas.List.Folds.{list_any-append}
use Rattle.ftn_tree.specs.declared.form.Form.{Form, out-Form}
use Rattle.ftn_tree.specs.declared.form.Form.TheOpen.{Form-F}
use Rattle.ftn_tree.specs.declared.mention.Mention.{Mention}
use Rattle.ftn_tree.specs.declared.mention.Role.TheVariants as role
use Rattle.ftn_tree.specs.declared.parts.ArrayDecl.{ArrayDecl}
use Rattle.ftn_tree.specs.declared.parts.CommonMember.{CommonMember}
use Rattle.ftn_tree.specs.declared.parts.EntityDecl.{EntityDecl}
use Rattle.ftn_tree.specs.declared.parts.NamedConstant.{NamedConstant}
use Rattle.ftn_tree.specs.declared.parts.TypeSpec.{TypeSpec}
use Rattle.ftn_tree.specs.declared.table.Entity.{Entity}
use Rattle.ftn_tree.specs.declared.table.EntityKind.{EntityKind}
use Rattle.ftn_tree.specs.declared.table.Extent.{Extent}
use Rattle.ftn_tree.specs.declared.unit.FileTree.{FileTree}
use Rattle.ftn_tree.specs.Bindings.{bound_entities, is_block, is_entity_of, is_intrinsic_kind, same_number}
use Rattle.ftn_tree.specs.Declarations.{Declared, declarations_of, declared_at, of_array, of_constant, of_entity, of_group, of_member, shared_bounds}
use Rattle.ftn_tree.specs.DeclaredEntities.{has_result_at, is_referenced, kind_said, names_after, unit_kind_at}
use Rattle.ftn_tree.specs.Extents.{form_at, layer_at}
use Rattle.ftn_tree.specs.KeyKinds.{Datum, datum, datum_of, is_dummy, key_at, kind_of}
use Rattle.ftn_tree.specs.Layers.{FormLayer}
use Rattle.ftn_tree.specs.Meanings.{Key, unit, own, block, intrinsic_function, same_names}
use Rattle.ftn_tree.specs.Mentions as mentioned
use Rattle.ftn_tree.specs.Mentions.{answer_mentions, function_mention, in_prefix, mentions_of}
use Rattle.ftn_tree.specs.NameFaults.{name_fault, said_of}
use Rattle.ftn_tree.specs.PartMentions.{all_named, given_by, in_array, in_attributes, in_block, in_constant, in_entities, in_entity, in_group, in_member, in_members, in_type, member_role}
use Rattle.ftn_tree.specs.Projects.{AreTrees}
use Rattle.ftn_tree.specs.Sayings.{mentions_at, same_name, sayings}
use Rattle.ftn_tree.specs.Scopes.{name_at, name_token, own_statements, scope_name, scope_number}
use Rattle.decl_table.specs.steps.Occurrences.{IsNameAt}
use Rattle.decl_table.specs.steps.Seen.{is_among}
use Rattle.decl_table.specs.steps.Spelled.{IsSpelled}
use Rattle.decl_table.proofs.MentionNames.{mentions_named}
use Rattle.decl_table.proofs.Order.{Each as All}
use Rattle.decl_table.proofs.OwnStatements.{number_of as number_there}
use Rattle.const_value.specs.steps.Gathered.{name_number}
use Rattle.const_value.specs.steps.Held.{AreHeld, IsAt, IsHeld, IsUnsaid}
use Rattle.const_value.specs.steps.Names.{all_said, number_of}
use Rattle.const_value.proofs.DataNumbers.{number_datum}
use Rattle.const_value.proofs.EntityKinds.{IsOne, OfUnit, entities_one}
use Rattle.const_value.proofs.KeysThere.{denoted_at, named_there}
use Rattle.const_value.proofs.Members.{any_flat, each_at, or_cases, or_left, or_right}
use Rattle.const_value.proofs.NamedPlaces.{same_bytes}
use Rattle.const_value.proofs.NoBodies.{no_bodies}
use Rattle.const_value.proofs.NumberTurns.{none_said}
use Rattle.const_value.proofs.OwnSayings.{any_weaker, mentioned_among, name_among, own_said}
use Rattle.const_value.proofs.RealKeys.{IsRealFor, IsRealName, IsUnit}
use Rattle.const_value.proofs.VariablesThere.{own_parts, passes, token_kind}

-- ---- what is declared stands in the statement

append_left : {A : Type 0} (p : A → Bool) (xs ys : List A) → list_any p xs ≡ true → list_any p (xs ++ ys) ≡ true
append_left p xs ys is = list_any-append p xs ys ∙ or_left (list_any p xs) (list_any p ys) is

append_right : {A : Type 0} (p : A → Bool) (xs ys : List A) → list_any p ys ≡ true → list_any p (xs ++ ys) ≡ true
append_right p xs ys is = list_any-append p xs ys ∙ or_right (list_any p xs) (list_any p ys) is

map_back : {A B : Type 0} (p : B → Bool) (f : A → B) (xs : List A) → list_any p (map f xs) ≡ true → list_any (λ x. p (f x)) xs ≡ true
map_back p f [] is = is
map_back p f (x ∷ xs) is = elim (or_cases (p (f x)) (list_any p (map f xs)) is) [
  | inl here ↦ or_left (p (f x)) (list_any (λ x. p (f x)) xs) here
  | inr more ↦ or_right (p (f x)) (list_any (λ x. p (f x)) xs) (map_back p f xs more)
]

flat_back : {A B : Type 0} (p : B → Bool) (f : A → List B) (xs : List A) → list_any p (flat_map f xs) ≡ true → list_any (λ x. list_any p (f x)) xs ≡ true
flat_back p f [] is = is
flat_back p f (x ∷ xs) is = elim (or_cases (list_any p (f x)) (list_any p (flat_map f xs)) (sym (list_any-append p (f x) (flat_map f xs)) ∙ is)) [
  | inl here ↦ or_left (list_any p (f x)) (list_any (λ x. list_any p (f x)) xs) here
  | inr more ↦ or_right (list_any p (f x)) (list_any (λ x. list_any p (f x)) xs) (flat_back p f xs more)
]

filter_none : {A : Type 0} (p : A → Bool) (xs : List A) → list_any p xs ≡ false → filter p xs ≡ []
filter_none p [] is = refl
filter_none p (x ∷ xs) is = by (p x) is (filter_none p xs) where
  by : (b : Bool) → (b || list_any p xs) ≡ false → (list_any p xs ≡ false → filter p xs ≡ []) → cond b (x ∷ filter p xs) (filter p xs) ≡ []
  by true is rest = absurd (cc is)
  by false is rest = rest is

module _ (p : ℕ → Bool) where
  abbrev of_declared : Declared → Bool
  of_declared d = p d.name

  abbrev of_mention : Mention → Bool
  of_mention m = p m.token

  at_prefix : (ty : TypeSpec) (name : ℕ) (dummies : List ℕ) (result : Option ℕ) → (p (unwrap_or result name) || false) ≡ true
      → list_any of_mention (in_prefix (Some ty) ++ (function_mention (Some ty) name result ∷ (all_named role.Dummy dummies ++ answer_mentions (Some ty) result))) ≡ true
  at_prefix ty name dummies None is = append_right of_mention (in_prefix (Some ty)) _ (or_left (p name) _ (one (p name) is)) where
    one : (b : Bool) → (b || false) ≡ true → b ≡ true
    one true is = refl
    one false is = absurd (cc is)
  at_prefix ty name dummies (Some result) is =
      append_right of_mention (in_prefix (Some ty)) _ (or_right (p name) _ (append_right of_mention (all_named role.Dummy dummies) (answer_mentions (Some ty) (Some result)) is))

  at_layer : (layer : FormLayer) → list_any of_declared (declared_at (Some layer)) ≡ true → list_any of_mention (mentioned.mentions_at layer) ≡ true
  at_layer (Form-F.Declare ty attributes colons entities) is =
      append_right of_mention (in_type ty) (in_attributes attributes ++ in_entities (given_by attributes) entities)
      (append_right of_mention (in_attributes attributes) (in_entities (given_by attributes) entities)
      (any_flat of_mention (in_entity (given_by attributes)) entities
      (any_weaker (λ (e : EntityDecl). p e.name) (λ e. list_any of_mention (in_entity (given_by attributes) e)) (λ e here. or_left (p e.name) _ here) entities
      (map_back of_declared (of_entity ty (shared_bounds attributes)) entities is))))
  at_layer (Form-F.Function (Some ty) name dummies result) is = at_prefix ty name dummies result is
  at_layer (Form-F.Dimension colons arrays) is =
      any_flat of_mention in_array arrays (any_weaker (λ (a : ArrayDecl). p a.name) (λ a. list_any of_mention (in_array a)) (λ a here. or_left (p a.name) _ here) arrays (map_back of_declared of_array arrays is))
  at_layer (Form-F.Parameter constants) is =
      any_flat of_mention in_constant constants (any_weaker (λ (c : NamedConstant). p c.name) (λ c. list_any of_mention (in_constant c)) (λ c here. or_left (p c.name) _ here) constants (map_back of_declared of_constant constants is))
  at_layer (Form-F.Common groups) is =
      any_flat of_mention in_group groups
      (any_weaker (λ g. list_any of_declared (of_group g)) (λ g. list_any of_mention (in_group g)) (λ g here.
      append_right of_mention (in_block g.block) (in_members (member_role g.block) g.members)
      (any_flat of_mention (in_member (member_role g.block)) g.members
      (any_weaker (λ (m : CommonMember). p m.name) (λ m. list_any of_mention (in_member (member_role g.block) m)) (λ m is. or_left (p m.name) _ is) g.members (map_back of_declared of_member g.members here)))) groups
      (flat_back of_declared of_group groups is))
  at_layer other is = absurd (cc is)

  at_statement : (files : List FileTree) (file statement : ℕ) → list_any of_declared (declared_at (layer_at files file statement)) ≡ true → list_any of_mention (mentions_at files file statement) ≡ true
  at_statement files file statement is = by (form_at files file statement) is where
    by : (o : Option Form) → list_any of_declared (declared_at (option_map out-Form o)) ≡ true → list_any of_mention (option_map_or mentions_of o []) ≡ true
    by None is = absurd (cc is)
    by (Some form) is = at_layer (out-Form form) is

module _ (files : List FileTree) (are : AreTrees files) where
  -- what is declared of a name in some own statement
  declared_in : (e : Extent) (name : List ℕ) → list_any (λ (d : Declared). bytes_eq (name_at files e.file d.name) name) (flat_map (λ statement. declared_at (layer_at files e.file statement)) (own_statements files e)) ≡ true
      → list_any (λ statement. list_any (λ (m : Mention). bytes_eq (name_at files e.file m.token) name) (mentions_at files e.file statement)) (own_statements files e) ≡ true
  declared_in e name is =
      any_weaker (λ statement. list_any (λ (d : Declared). bytes_eq (name_at files e.file d.name) name) (declared_at (layer_at files e.file statement)))
      (λ statement. list_any (λ (m : Mention). bytes_eq (name_at files e.file m.token) name) (mentions_at files e.file statement))
      (λ statement. at_statement (λ token. bytes_eq (name_at files e.file token) name) files e.file statement) (own_statements files e)
      (flat_back (λ (d : Declared). bytes_eq (name_at files e.file d.name) name) (λ statement. declared_at (layer_at files e.file statement)) (own_statements files e) is)

  -- a name that isn't said is declared nowhere
  undeclared : (e : Extent) (name : List ℕ) → (is_among name (names_after [] (sayings files e)) ≡ true → ⊥) → declarations_of files e name ≡ []
  undeclared e name never =
      filter_none (λ (d : Declared). bytes_eq (name_at files e.file d.name) name) (flat_map (λ statement. declared_at (layer_at files e.file statement)) (own_statements files e))
      (by (list_any (λ (d : Declared). bytes_eq (name_at files e.file d.name) name) (flat_map (λ statement. declared_at (layer_at files e.file statement)) (own_statements files e))) refl)
    where
      by : (b : Bool) → list_any (λ (d : Declared). bytes_eq (name_at files e.file d.name) name) (flat_map (λ statement. declared_at (layer_at files e.file statement)) (own_statements files e)) ≡ b
          → list_any (λ (d : Declared). bytes_eq (name_at files e.file d.name) name) (flat_map (λ statement. declared_at (layer_at files e.file statement)) (own_statements files e)) ≡ false
      by false is = is
      by true is = absurd (never (name_among files e name (own_said files e (same_name name) (declared_in e name is))))

  -- no name is `%blockdata`
  not_spelled : IsSpelled (codes "%blockdata") → ⊥
  not_spelled is = cc is

  none_named : (file : ℕ) (ms : List Mention) → All (IsNameAt files file) ms → list_any (λ (m : Mention). bytes_eq (name_at files file m.token) (codes "%blockdata")) ms ≡ true → ⊥
  none_named file [] all is = cc is
  none_named file (m ∷ ms) (spelled, all) is = elim (or_cases (bytes_eq (name_at files file m.token) (codes "%blockdata")) (list_any (λ (m : Mention). bytes_eq (name_at files file m.token) (codes "%blockdata")) ms) is) [
    | inl here ↦ not_spelled (subst IsSpelled (same_bytes (name_at files file m.token) (codes "%blockdata") here) spelled)
    | inr more ↦ none_named file ms all more
  ]

  no_statement : (file : ℕ) (statements : List ℕ) → list_any (λ statement. list_any (λ (m : Mention). bytes_eq (name_at files file m.token) (codes "%blockdata")) (mentions_at files file statement)) statements ≡ true → ⊥
  no_statement file [] is = cc is
  no_statement file (statement ∷ statements) is =
      elim (or_cases (list_any (λ (m : Mention). bytes_eq (name_at files file m.token) (codes "%blockdata")) (mentions_at files file statement))
      (list_any (λ statement. list_any (λ (m : Mention). bytes_eq (name_at files file m.token) (codes "%blockdata")) (mentions_at files file statement)) statements) is) [
        | inl here ↦ none_named file (mentions_at files file statement) (mentions_named files are file statement) here
        | inr more ↦ no_statement file statements more
      ]

  nameless_undeclared : (e : Extent) → declarations_of files e (codes "%blockdata") ≡ []
  nameless_undeclared e =
      filter_none (λ (d : Declared). bytes_eq (name_at files e.file d.name) (codes "%blockdata")) (flat_map (λ statement. declared_at (layer_at files e.file statement)) (own_statements files e))
      (by (list_any (λ (d : Declared). bytes_eq (name_at files e.file d.name) (codes "%blockdata")) (flat_map (λ statement. declared_at (layer_at files e.file statement)) (own_statements files e))) refl)
    where
      by : (b : Bool) → list_any (λ (d : Declared). bytes_eq (name_at files e.file d.name) (codes "%blockdata")) (flat_map (λ statement. declared_at (layer_at files e.file statement)) (own_statements files e)) ≡ b
          → list_any (λ (d : Declared). bytes_eq (name_at files e.file d.name) (codes "%blockdata")) (flat_map (λ statement. declared_at (layer_at files e.file statement)) (own_statements files e)) ≡ false
      by false is = is
      by true is = absurd (no_statement e.file (own_statements files e) (declared_in e (codes "%blockdata") is))

  unit_no_dummy : (layer : Option FormLayer) → is_dummy (unit_kind_at layer) ≡ false
  unit_no_dummy (Some (Form-F.Program name)) = refl
  unit_no_dummy (Some (Form-F.Module name)) = refl
  unit_no_dummy (Some (Form-F.BlockData joined name)) = refl
  unit_no_dummy (Some (Form-F.Function ty name dummies result)) = refl
  unit_no_dummy other = refl

  module _ (bound : name_fault files ≡ None) where
    facts_at : (number : ℕ) (entity : Entity) → slice_get (bound_entities files) number ≡ Some entity → IsOne files are entity
    facts_at number entity there = each_at (IsOne files are) (bound_entities files) number entity (entities_one files are) there

    number_is : (e : Extent) (there : IsUnit files e) → scope_number files e ≡ Some (there.0)
    number_is e there = number_there files are there.0 e there.1

    -- a name of a scoping unit that is one of its entities
    real_among : (e : Extent) (name : List ℕ) → IsRealName files e name → is_among name (names_after [] (sayings files e)) ≡ true
    real_among e name (inr (typed, named)) = mentioned_among files e name named
    real_among e name (inl some) = by (is_among name (names_after [] (sayings files e))) refl where
      no_kind : (has referenced : Bool) → kind_said has referenced [] ≡ None
      no_kind has true = refl
      no_kind has false = refl

      by : (b : Bool) → is_among name (names_after [] (sayings files e)) ≡ b → is_among name (names_after [] (sayings files e)) ≡ true
      by true is = is
      by false apart =
          let none : said_of files e name ≡ [] = none_said [] (sayings files e) name refl apart in
          absurd (cc (
            some,
            ap (λ (o : Option EntityKind). is_some o)
                (ap (kind_said (has_result_at (layer_at files e.file e.opening)) (is_referenced files e name)) none ∙ no_kind (has_result_at (layer_at files e.file e.opening)) (is_referenced files e name)),
          ))

    own_held : (e : Extent) (there : IsUnit files e) (name : List ℕ) → IsRealName files e name → (entity : Entity) → is_entity_of files (own e name) entity ≡ true → IsHeld files entity (datum e name)
    own_held e there name real entity is_it =
        let fields = own_parts entity.opens entity.home entity.name there.0 name (sym (ap (λ o. not (is_some entity.opens) && same_number entity.home o && same_names entity.name (Some name)) (number_is e there)) ∙ is_it) in
        let (n, at, number) = named_there files are bound (no_bodies files are) e there name (real_among e name real) in
        record {
          number = n;
          number_is =
              ap₂ (λ o m. option_and_then (λ scope. option_and_then (number_of (all_said files) scope) m) (option_or o entity.home)) fields.0 fields.2
              ∙ ap (option_and_then (λ scope. number_of (all_said files) scope name)) fields.1
              ∙ sym (ap (option_and_then (λ scope. number_of (all_said files) scope name)) (number_is e there)) ∙ number;
          there = at;
        }

    unit_held : (e : Extent) (there : IsUnit files e) (entity : Entity) → OfUnit files are entity → is_entity_of files (unit e) entity ≡ true
        → IsHeld files entity (datum e (scope_name files e)) ⊎ IsUnsaid files (unit e) entity (datum e (scope_name files e))
    unit_held e there entity facts is = by (name_token files e) refl where
      fields : (entity.name ≡ option_map (name_at files e.file) (name_token files e)) × (entity.opens ≡ scope_number files e)
      fields = ((facts e there is).1, (facts e there is).2)

      number : (m : Option (List ℕ)) → entity.name ≡ m → name_number files entity ≡ option_and_then (number_of (all_said files) there.0) m
      number m named =
          ap₂ (λ o n. option_and_then (λ scope. option_and_then (number_of (all_said files) scope) n) (option_or o entity.home)) (fields.1 ∙ number_is e there) named

      no_dummy : is_dummy (kind_of files (unit e)) ≡ false
      no_dummy = unit_no_dummy (layer_at files e.file e.opening)

      by : (o : Option ℕ) → name_token files e ≡ o → IsHeld files entity (datum e (scope_name files e)) ⊎ IsUnsaid files (unit e) entity (datum e (scope_name files e))
      by None none =
          let named : scope_name files e ≡ codes "%blockdata" = ap (λ o. option_map_or (name_at files e.file) o (codes "%blockdata")) none in
          inr (record {
            number_is = number None (fields.0 ∙ ap (option_map (name_at files e.file)) none);
            nothing = ap (declarations_of files e) named ∙ nameless_undeclared e;
            no_dummy = no_dummy;
          })
      by (Some token) some = at (number_of (all_said files) there.0 (name_at files e.file token)) refl where
        named : scope_name files e ≡ name_at files e.file token
        named = ap (λ o. option_map_or (name_at files e.file) o (codes "%blockdata")) some

        numbered : name_number files entity ≡ number_of (all_said files) there.0 (name_at files e.file token)
        numbered = number (Some (name_at files e.file token)) (fields.0 ∙ ap (option_map (name_at files e.file)) some)

        some_same : {x y : Extent} → Some x ≡ Some y → x ≡ y
        some_same is = cc is

        at : (o : Option ℕ) → number_of (all_said files) there.0 (name_at files e.file token) ≡ o → IsHeld files entity (datum e (scope_name files e)) ⊎ IsUnsaid files (unit e) entity (datum e (scope_name files e))
        at (Some n) is =
            let p = number_datum files there.0 (name_at files e.file token) n is in
            let same : p.unit ≡ e = some_same (sym p.there ∙ there.1) in
            inl (record { number = n; number_is = numbered ∙ is; there = p.here ∙ ap₂ (λ x m. Some (datum x m)) same (sym named) })
        at None is = inr (record {
          number_is = numbered ∙ is;
          nothing = ap (declarations_of files e) named ∙ undeclared e (name_at files e.file token) (λ among.
              let (n, here, number) = named_there files are bound (no_bodies files are) e there (name_at files e.file token) among in
              let some : number_of (all_said files) there.0 (name_at files e.file token) ≡ Some n =
              sym (ap (option_and_then (λ scope. number_of (all_said files) scope (name_at files e.file token))) (number_is e there)) ∙ number in
              cc (some, is));
          no_dummy = no_dummy;
        })

    some_datum : {x y : Datum} → Some x ≡ Some y → x ≡ y
    some_datum is = cc is

    names_held : (file token : ℕ) (key : Key) (number : ℕ) (entity : Entity) → IsAt files file token key number entity → (d : Datum) → datum_of files key ≡ Some d → IsHeld files entity d ⊎ IsUnsaid files key entity d
    names_held file token key number entity at d of_key =
        by key at.key_is of_key (passes files are bound key file token number entity at.key_is at.number_is at.there) ((denoted_at files are bound (no_bodies files are) file token key at.key_is).denoting.name)
        ((denoted_at files are bound (no_bodies files are) file token key at.key_is).real)
      where
        by : (key : Key) → key_at files file token ≡ Some key → datum_of files key ≡ Some d → is_entity_of files key entity ≡ true → (name : List ℕ) → IsRealFor files name key → IsHeld files entity d ⊎ IsUnsaid files key entity d
        by (own e n) key_is of_key is name real = inl (subst (IsHeld files entity) (some_datum of_key) (own_held e real.0 n real.1 entity is))
        by (unit e) key_is of_key is name real =
            subst (λ x. IsHeld files entity x ⊎ IsUnsaid files (unit e) entity x) (some_datum of_key) (unit_held e real.0 entity ((facts_at number entity at.there).0) is)
        by (block b) key_is of_key is name real = absurd (cc of_key)
        by (intrinsic_function n) key_is of_key is name real = absurd (cc of_key)

    nothing_held : (file token : ℕ) (key : Key) (number : ℕ) (entity : Entity) → IsAt files file token key number entity → datum_of files key ≡ None → name_number files entity ≡ None
    nothing_held file token key number entity at none = by key none (passes files are bound key file token number entity at.key_is at.number_is at.there) where
      without : (is_block entity.kind || is_intrinsic_kind entity.kind) ≡ true → name_number files entity ≡ None
      without is =
          let fields = (facts_at number entity at.there).2 is in
          ap₂ (λ o h. option_and_then (λ scope. option_and_then (number_of (all_said files) scope) entity.name) (option_or o h)) fields.0 fields.1

      by : (key : Key) → datum_of files key ≡ None → is_entity_of files key entity ≡ true → name_number files entity ≡ None
      by (own e n) none is = absurd (cc none)
      by (unit e) none is = absurd (cc none)
      by (block b) none is = without (or_left (is_block entity.kind) (is_intrinsic_kind entity.kind) ((and_parts (is_block entity.kind) (same_names entity.name b) is).0))
      by (intrinsic_function n) none is = without (or_right (is_block entity.kind) (is_intrinsic_kind entity.kind) ((and_parts (is_intrinsic_kind entity.kind) (same_names entity.name (Some n)) is).0))

    pub are_held : AreHeld files
    are_held = record {
      dummies = λ file token key number entity at. ap is_dummy (token_kind files are bound key file token number entity at.key_is at.number_is at.there);
      names = names_held;
      none = nothing_held;
    }
