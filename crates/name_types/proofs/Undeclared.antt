-- What isn't said of a name in a scoping unit is declared nowhere in it.
use Rattle.std.proofs.Common.{◌≡◌, ℕ, Bool, true, false, cond, List, [], ◌∷◌, ◌++◌, filter, map, Option, Some, None, option_map, inl, inr, refl, sym, ◌∙◌}
use Rattle.std.specs.Prelude.{◌||◌}
use Rattle.std.specs.List.{flat_map, list_any}
use Rattle.std.specs.Option.{option_map_or, unwrap_or}
use Rattle.std.specs.Str.{bytes_eq}
use Rattle.std.proofs.lemmas.List.Folds.{list_any-append}
use Rattle.ftn_tree.specs.declared.form.Form.{Form, out-Form}
use Rattle.ftn_tree.specs.declared.form.Form.TheOpen.{Form-F}
use Rattle.ftn_tree.specs.declared.mention.Mention.{Mention}
use Rattle.ftn_tree.specs.declared.mention.Role.TheVariants as role
use Rattle.ftn_tree.specs.declared.parts.ArrayDecl.{ArrayDecl}
use Rattle.ftn_tree.specs.declared.parts.CommonMember.{CommonMember}
use Rattle.ftn_tree.specs.declared.parts.EntityDecl.{EntityDecl}
use Rattle.ftn_tree.specs.declared.parts.NamedConstant.{NamedConstant}
use Rattle.ftn_tree.specs.declared.parts.TypeSpec.{TypeSpec}
use Rattle.ftn_tree.specs.declared.table.Extent.{Extent}
use Rattle.ftn_tree.specs.declared.unit.FileTree.{FileTree}
use Rattle.ftn_tree.specs.Declarations.{Declared, declarations_of, declared_at, of_array, of_constant, of_entity, of_group, of_member, shared_bounds}
use Rattle.ftn_tree.specs.DeclaredEntities.{names_after}
use Rattle.ftn_tree.specs.Extents.{form_at, layer_at}
use Rattle.ftn_tree.specs.Layers.{FormLayer}
use Rattle.ftn_tree.specs.Mentions as mentioned
use Rattle.ftn_tree.specs.Mentions.{answer_mentions, function_mention, in_prefix, mentions_of}
use Rattle.ftn_tree.specs.PartMentions.{all_named, given_by, in_array, in_attributes, in_block, in_constant, in_entities, in_entity, in_group, in_member, in_members, in_type, member_role}
use Rattle.ftn_tree.specs.Projects.{AreTrees}
use Rattle.ftn_tree.specs.Sayings.{mentions_at, same_name, sayings}
use Rattle.ftn_tree.specs.Scopes.{name_at, own_statements}
use Rattle.decl_table.specs.steps.Seen.{is_among}
use Rattle.const_value.proofs.Members.{any_flat, or_cases, or_left, or_right}
use Rattle.const_value.proofs.OwnSayings.{any_weaker, name_among, own_said}

-- ---- what is declared stands in the statement

append_left : {A : Type 0} (p : A → Bool) (xs ys : List A) → list_any p xs ≡ true → list_any p (xs ++ ys) ≡ true
append_left p xs ys is = list_any-append p xs ys ∙ or_left (list_any p xs) (list_any p ys) is

append_right : {A : Type 0} (p : A → Bool) (xs ys : List A) → list_any p ys ≡ true → list_any p (xs ++ ys) ≡ true
append_right p xs ys is = list_any-append p xs ys ∙ or_right (list_any p xs) (list_any p ys) is

map_back : {A B : Type 0} (p : B → Bool) (f : A → B) (xs : List A) → list_any p (map f xs) ≡ true → list_any (λ x. p (f x)) xs ≡ true
map_back p f [] is = is
map_back p f (x ∷ xs) is = elim (or_cases (p (f x)) (list_any p (map f xs)) is) [
  | inl here ↦ or_left (p (f x)) (list_any (λ x. p (f x)) xs) here
  | inr more ↦ or_right (p (f x)) (list_any (λ x. p (f x)) xs) (map_back p f xs more)
]

flat_back : {A B : Type 0} (p : B → Bool) (f : A → List B) (xs : List A) → list_any p (flat_map f xs) ≡ true → list_any (λ x. list_any p (f x)) xs ≡ true
flat_back p f [] is = is
flat_back p f (x ∷ xs) is = elim (or_cases (list_any p (f x)) (list_any p (flat_map f xs)) (sym (list_any-append p (f x) (flat_map f xs)) ∙ is)) [
  | inl here ↦ or_left (list_any p (f x)) (list_any (λ x. list_any p (f x)) xs) here
  | inr more ↦ or_right (list_any p (f x)) (list_any (λ x. list_any p (f x)) xs) (flat_back p f xs more)
]

filter_none : {A : Type 0} (p : A → Bool) (xs : List A) → list_any p xs ≡ false → filter p xs ≡ []
filter_none p [] is = refl
filter_none p (x ∷ xs) is = by (p x) is (filter_none p xs) where
  by : (b : Bool) → (b || list_any p xs) ≡ false → (list_any p xs ≡ false → filter p xs ≡ []) → cond b (x ∷ filter p xs) (filter p xs) ≡ []
  by true is rest = absurd (cc is)
  by false is rest = rest is

module _ (p : ℕ → Bool) where
  abbrev of_declared : Declared → Bool
  of_declared d = p d.name

  abbrev of_mention : Mention → Bool
  of_mention m = p m.token

  at_prefix : (ty : TypeSpec) (name : ℕ) (dummies : List ℕ) (result : Option ℕ) → (p (unwrap_or result name) || false) ≡ true
      → list_any of_mention (in_prefix (Some ty) ++ (function_mention (Some ty) name result ∷ (all_named role.Dummy dummies ++ answer_mentions (Some ty) result))) ≡ true
  at_prefix ty name dummies None is = append_right of_mention (in_prefix (Some ty)) _ (or_left (p name) _ (one (p name) is)) where
    one : (b : Bool) → (b || false) ≡ true → b ≡ true
    one true is = refl
    one false is = absurd (cc is)
  at_prefix ty name dummies (Some result) is =
      append_right of_mention (in_prefix (Some ty)) _ (or_right (p name) _ (append_right of_mention (all_named role.Dummy dummies) (answer_mentions (Some ty) (Some result)) is))

  at_layer : (layer : FormLayer) → list_any of_declared (declared_at (Some layer)) ≡ true → list_any of_mention (mentioned.mentions_at layer) ≡ true
  at_layer (Form-F.Declare ty attributes colons entities) is =
      append_right of_mention (in_type ty) (in_attributes attributes ++ in_entities (given_by attributes) entities)
      (append_right of_mention (in_attributes attributes) (in_entities (given_by attributes) entities)
      (any_flat of_mention (in_entity (given_by attributes)) entities
      (any_weaker (λ (e : EntityDecl). p e.name) (λ e. list_any of_mention (in_entity (given_by attributes) e)) (λ e here. or_left (p e.name) _ here) entities
      (map_back of_declared (of_entity ty (shared_bounds attributes)) entities is))))
  at_layer (Form-F.Function (Some ty) name dummies result) is = at_prefix ty name dummies result is
  at_layer (Form-F.Dimension colons arrays) is =
      any_flat of_mention in_array arrays (any_weaker (λ (a : ArrayDecl). p a.name) (λ a. list_any of_mention (in_array a)) (λ a here. or_left (p a.name) _ here) arrays (map_back of_declared of_array arrays is))
  at_layer (Form-F.Parameter constants) is =
      any_flat of_mention in_constant constants (any_weaker (λ (c : NamedConstant). p c.name) (λ c. list_any of_mention (in_constant c)) (λ c here. or_left (p c.name) _ here) constants (map_back of_declared of_constant constants is))
  at_layer (Form-F.Common groups) is =
      any_flat of_mention in_group groups
      (any_weaker (λ g. list_any of_declared (of_group g)) (λ g. list_any of_mention (in_group g)) (λ g here.
      append_right of_mention (in_block g.block) (in_members (member_role g.block) g.members)
      (any_flat of_mention (in_member (member_role g.block)) g.members
      (any_weaker (λ (m : CommonMember). p m.name) (λ m. list_any of_mention (in_member (member_role g.block) m)) (λ m is. or_left (p m.name) _ is) g.members (map_back of_declared of_member g.members here)))) groups
      (flat_back of_declared of_group groups is))
  at_layer other is = absurd (cc is)

  at_statement : (files : List FileTree) (file statement : ℕ) → list_any of_declared (declared_at (layer_at files file statement)) ≡ true → list_any of_mention (mentions_at files file statement) ≡ true
  at_statement files file statement is = by (form_at files file statement) is where
    by : (o : Option Form) → list_any of_declared (declared_at (option_map out-Form o)) ≡ true → list_any of_mention (option_map_or mentions_of o []) ≡ true
    by None is = absurd (cc is)
    by (Some form) is = at_layer (out-Form form) is

module _ (files : List FileTree) (are : AreTrees files) where
  -- what is declared of a name in some own statement
  declared_in : (e : Extent) (name : List ℕ) → list_any (λ (d : Declared). bytes_eq (name_at files e.file d.name) name) (flat_map (λ statement. declared_at (layer_at files e.file statement)) (own_statements files e)) ≡ true
      → list_any (λ statement. list_any (λ (m : Mention). bytes_eq (name_at files e.file m.token) name) (mentions_at files e.file statement)) (own_statements files e) ≡ true
  declared_in e name is =
      any_weaker (λ statement. list_any (λ (d : Declared). bytes_eq (name_at files e.file d.name) name) (declared_at (layer_at files e.file statement)))
      (λ statement. list_any (λ (m : Mention). bytes_eq (name_at files e.file m.token) name) (mentions_at files e.file statement))
      (λ statement. at_statement (λ token. bytes_eq (name_at files e.file token) name) files e.file statement) (own_statements files e)
      (flat_back (λ (d : Declared). bytes_eq (name_at files e.file d.name) name) (λ statement. declared_at (layer_at files e.file statement)) (own_statements files e) is)

  -- a name that isn't said is declared nowhere
  pub undeclared : (e : Extent) (name : List ℕ) → (is_among name (names_after [] (sayings files e)) ≡ true → ⊥) → declarations_of files e name ≡ []
  undeclared e name never =
      filter_none (λ (d : Declared). bytes_eq (name_at files e.file d.name) name) (flat_map (λ statement. declared_at (layer_at files e.file statement)) (own_statements files e))
      (by (list_any (λ (d : Declared). bytes_eq (name_at files e.file d.name) name) (flat_map (λ statement. declared_at (layer_at files e.file statement)) (own_statements files e))) refl)
    where
      by : (b : Bool) → list_any (λ (d : Declared). bytes_eq (name_at files e.file d.name) name) (flat_map (λ statement. declared_at (layer_at files e.file statement)) (own_statements files e)) ≡ b
          → list_any (λ (d : Declared). bytes_eq (name_at files e.file d.name) name) (flat_map (λ statement. declared_at (layer_at files e.file statement)) (own_statements files e)) ≡ false
      by false is = is
      by true is = absurd (never (name_among files e name (own_said files e (same_name name) (declared_in e name is))))
