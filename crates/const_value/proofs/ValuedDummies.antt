-- Where a project has no fault of its declarations no value is written for a dummy argument.
use Rattle.std.proofs.Common.{◌≡◌, ℕ, zero, suc, Bool, true, false, cond, List, [], ◌∷◌, ◌++◌, filter, map, Option, Some, None, slice_get, option_map, inl, inr, refl, sym, ap, ap₂, ◌∙◌}
use Rattle.std.specs.Prelude.{◌&&◌, ◌||◌, not}
use Rattle.std.specs.List.{filter_map, flat_map, list_any, cons_option, AllByRecursion as Each}
use Rattle.std.specs.Option.{option_map_or}
use Rattle.std.specs.Str.{bytes_eq}
use Rattle.std.proofs.lemmas.Bool.{and_parts}
use Rattle.std.proofs.lemmas.List.Folds.{list_any-append}
use Rattle.ftn_base.specs.declared.fault.FaultKind.{FaultKind}
use Rattle.ftn_base.specs.declared.fault.FaultKind.TheVariants.{Conflicting}
use Rattle.ftn_tree.specs.declared.expr.Expr.{Expr}
use Rattle.ftn_tree.specs.declared.form.Form.{Form, out-Form}
use Rattle.ftn_tree.specs.declared.form.Form.TheOpen.{Form-F}
use Rattle.ftn_tree.specs.declared.mention.Mention.{Mention}
use Rattle.ftn_tree.specs.declared.mention.Role.{Role}
use Rattle.ftn_tree.specs.declared.mention.Role.TheVariants as role
use Rattle.ftn_tree.specs.declared.parts.BoundPair.{BoundPair}
use Rattle.ftn_tree.specs.declared.parts.CommonGroup.{CommonGroup}
use Rattle.ftn_tree.specs.declared.parts.EntityDecl.{EntityDecl}
use Rattle.ftn_tree.specs.declared.parts.NamedConstant.{NamedConstant}
use Rattle.ftn_tree.specs.declared.parts.TypeSpec.{TypeSpec}
use Rattle.ftn_tree.specs.declared.table.Extent.{Extent}
use Rattle.ftn_tree.specs.declared.table.ScopeKind.{ScopeKind}
use Rattle.ftn_tree.specs.declared.unit.FileTree.{FileTree}
use Rattle.ftn_tree.specs.DeclarationFaults.{Finding, conflicting_at, declaration_fault, declaration_rank, each_after, fault_of, findings, first_finding, found, global_findings, is_block_data, is_conflicting, is_misplaced, place_of_saying, scope_findings, twice_at}
use Rattle.ftn_tree.specs.Declarations.{Declared, declarations_of, declared_at, of_constant, of_entity, of_array, of_member, of_group, shared_bounds, written_value}
use Rattle.ftn_tree.specs.DeclaredEntities.{is_said}
use Rattle.ftn_tree.specs.Exclusions.{excludes, is_excluded, not_of_argument}
use Rattle.ftn_tree.specs.Extents.{form_at, layer_at, scoping}
use Rattle.ftn_tree.specs.Layers.{FormLayer}
use Rattle.ftn_tree.specs.Mentions as mentioned
use Rattle.ftn_tree.specs.Mentions.{mentions_of}
use Rattle.ftn_tree.specs.NameFaults.{said_of}
use Rattle.ftn_tree.specs.PartMentions.{given_by, in_attributes, in_constant, in_entities, in_entity, in_type, own_roles, where_written}
use Rattle.ftn_tree.specs.Roles.{holds, mention_with, same_role, says}
use Rattle.ftn_tree.specs.Sayings.{Saying, argument, dummy, external, initial, intrinsic, member, mentions_at, parameter, same_name, saved, saying, sayings, tied, valued}
use Rattle.ftn_tree.specs.Scopes.{name_at, own_statements, scope_kind}
use Rattle.const_value.proofs.Members.{any_flat, or_cases, or_left, or_right}
use Rattle.const_value.proofs.NamedPlaces.{same_bytes}
use Rattle.const_value.proofs.OwnSayings.{any_weaker, own_said, passed_any, said_any}

-- ---- a value that is written is said

first_any : {A B : Type 0} (f : A → Option B) (p : A → Bool) (xs : List A) (y : B) → ((x : A) (z : B) → f x ≡ Some z → p x ≡ true) → slice_get (filter_map f xs) 0 ≡ Some y → list_any p xs ≡ true
first_any f p [] y passes is = absurd (cc is)
first_any {A} {B} f p (x ∷ xs) y passes is = by (f x) refl is (first_any f p xs y passes) where
  by : (o : Option B) → f x ≡ o → slice_get (cons_option o (filter_map f xs)) 0 ≡ Some y → (slice_get (filter_map f xs) 0 ≡ Some y → list_any p xs ≡ true) → (p x || list_any p xs) ≡ true
  by None none is rest = or_right (p x) (list_any p xs) (rest is)
  by (Some z) some is rest = or_left (p x) (list_any p xs) (passes x z some)

flat_back : {A B : Type 0} (p : B → Bool) (f : A → List B) (xs : List A) → list_any p (flat_map f xs) ≡ true → list_any (λ x. list_any p (f x)) xs ≡ true
flat_back p f [] is = is
flat_back p f (x ∷ xs) is = elim (or_cases (list_any p (f x)) (list_any p (flat_map f xs)) (sym (list_any-append p (f x) (flat_map f xs)) ∙ is)) [
  | inl here ↦ or_left (list_any p (f x)) (list_any (λ x. list_any p (f x)) xs) here
  | inr more ↦ or_right (list_any p (f x)) (list_any (λ x. list_any p (f x)) xs) (flat_back p f xs more)
]

map_back : {A B : Type 0} (p : B → Bool) (f : A → B) (xs : List A) → list_any p (map f xs) ≡ true → list_any (λ x. p (f x)) xs ≡ true
map_back p f [] is = is
map_back p f (x ∷ xs) is = elim (or_cases (p (f x)) (list_any p (map f xs)) is) [
  | inl here ↦ or_left (p (f x)) (list_any (λ x. p (f x)) xs) here
  | inr more ↦ or_right (p (f x)) (list_any (λ x. p (f x)) xs) (map_back p f xs more)
]

append_right : {A : Type 0} (p : A → Bool) (xs ys : List A) → list_any p ys ≡ true → list_any p (xs ++ ys) ≡ true
append_right p xs ys is = list_any-append p xs ys ∙ or_right (list_any p xs) (list_any p ys) is

abbrev pub has_value : Declared → Bool
has_value d = option_map_or (λ (e : Expr). true) d.value false

module _ (files : List FileTree) (file : ℕ) (name : List ℕ) where
  abbrev is_it : Declared → Bool
  is_it d = bytes_eq (name_at files file d.name) name && has_value d

  abbrev is_valued : Mention → Bool
  is_valued m = same_name name (saying files file m) && valued (saying files file m)

  no_value : (all : List Declared) → Each (λ (d : Declared). has_value d ≡ false) all → list_any is_it all ≡ true → ⊥
  no_value [] none is = cc is
  no_value (d ∷ all) none is = elim (or_cases (bytes_eq (name_at files file d.name) name && has_value d) (list_any is_it all) is) [
    | inl here ↦ cc (none.0, (and_parts (bytes_eq (name_at files file d.name) name) (has_value d) here).1)
    | inr more ↦ no_value all none.1 more
  ]

  holds_valued : (roles more : List Role) → holds role.Valued (roles ++ (more ++ role.Valued ∷ [])) ≡ true
  unfolding same_role
  holds_valued roles more =
      append_right (λ one. same_role one role.Valued) roles (more ++ role.Valued ∷ []) (append_right (λ one. same_role one role.Valued) more (role.Valued ∷ []) refl)

  -- the mention of an entity with a value
  entity_valued : (roles : List Role) (ty : TypeSpec) (shared : Option (List BoundPair)) (e : EntityDecl) → is_it (of_entity ty shared e) ≡ true → list_any is_valued (in_entity roles e) ≡ true
  entity_valued roles ty shared e is =
      or_left (is_valued (mention_with e.name role.Typed (roles ++ own_roles e))) _ (ap₂ (λ a b. a && b) parts.0 (or_right (same_role role.Typed role.Valued) (holds role.Valued (roles ++ own_roles e)) (by e.value parts.1)))
    where
      parts : (bytes_eq (name_at files file e.name) name ≡ true) × (option_map_or (λ (x : Expr). true) e.value false ≡ true)
      parts = and_parts (bytes_eq (name_at files file e.name) name) (option_map_or (λ (x : Expr). true) e.value false) is

      by : (o : Option Expr) → option_map_or (λ (x : Expr). true) o false ≡ true → holds role.Valued (roles ++ (where_written role.Bounded e.bounds ++ where_written role.Valued o)) ≡ true
      by None none = absurd (cc none)
      by (Some v) some = holds_valued roles (where_written role.Bounded e.bounds)

  constant_says : (c : NamedConstant) → says role.Valued (mention_with c.name role.Parameter (role.Valued ∷ [])) ≡ true
  unfolding same_role
  constant_says c = refl

  constant_valued : (c : NamedConstant) → is_it (of_constant c) ≡ true → list_any is_valued (in_constant c) ≡ true
  constant_valued c is =
      or_left (is_valued (mention_with c.name role.Parameter (role.Valued ∷ []))) _
      (ap₂ (λ a b. a && b) ((and_parts (bytes_eq (name_at files file c.name) name) true is).0) (constant_says c))

  arrays_none : (arrays : _) → Each (λ (d : Declared). has_value d ≡ false) (map of_array arrays)
  arrays_none [] = tt
  arrays_none (a ∷ arrays) = (refl, arrays_none arrays)

  members_none : (members : _) → Each (λ (d : Declared). has_value d ≡ false) (map of_member members)
  members_none [] = tt
  members_none (m ∷ members) = (refl, members_none members)

  joined : (xs ys : List Declared) → Each (λ (d : Declared). has_value d ≡ false) xs → Each (λ (d : Declared). has_value d ≡ false) ys → Each (λ (d : Declared). has_value d ≡ false) (xs ++ ys)
  joined [] ys all more = more
  joined (x ∷ xs) ys all more = (all.0, joined xs ys all.1 more)

  groups_none : (groups : List CommonGroup) → Each (λ (d : Declared). has_value d ≡ false) (flat_map of_group groups)
  groups_none [] = tt
  groups_none (g ∷ groups) = joined (of_group g) (flat_map of_group groups) (members_none g.members) (groups_none groups)

  at_layer : (layer : FormLayer) → list_any is_it (declared_at (Some layer)) ≡ true → list_any is_valued (mentioned.mentions_at layer) ≡ true
  at_layer (Form-F.Declare ty attributes colons entities) is =
      append_right is_valued (in_type ty) (in_attributes attributes ++ in_entities (given_by attributes) entities)
      (append_right is_valued (in_attributes attributes) (in_entities (given_by attributes) entities)
      (any_flat is_valued (in_entity (given_by attributes)) entities
      (any_weaker (λ e. is_it (of_entity ty (shared_bounds attributes) e)) (λ e. list_any is_valued (in_entity (given_by attributes) e)) (entity_valued (given_by attributes) ty (shared_bounds attributes)) entities
      (map_back is_it (of_entity ty (shared_bounds attributes)) entities is))))
  at_layer (Form-F.Parameter constants) is =
      any_flat is_valued in_constant constants (any_weaker (λ c. is_it (of_constant c)) (λ c. list_any is_valued (in_constant c)) constant_valued constants (map_back is_it of_constant constants is))
  at_layer (Form-F.Function (Some ty) which dummies answer) is = absurd (no_value (declared_at (Some (Form-F.Function (Some ty) which dummies answer))) (refl, tt) is)
  at_layer (Form-F.Dimension colons arrays) is = absurd (no_value (map of_array arrays) (arrays_none arrays) is)
  at_layer (Form-F.Common groups) is = absurd (no_value (flat_map of_group groups) (groups_none groups) is)
  at_layer other is = absurd (cc is)

  at_statement : (statement : ℕ) → list_any is_it (declared_at (layer_at files file statement)) ≡ true → list_any is_valued (mentions_at files file statement) ≡ true
  at_statement statement is = by (form_at files file statement) is where
    by : (o : Option Form) → list_any is_it (declared_at (option_map out-Form o)) ≡ true → list_any is_valued (option_map_or mentions_of o []) ≡ true
    by None is = absurd (cc is)
    by (Some form) is = at_layer (out-Form form) is

pub value_said : (files : List FileTree) (e : Extent) (name : List ℕ) (v : Expr) → written_value files e name ≡ Some v → is_said valued (said_of files e name) ≡ true
value_said files e name v is =
    said_any files e valued name
    (own_said files e (λ s. same_name name s && valued s)
    (any_weaker (λ statement. list_any (λ d. bytes_eq (name_at files e.file d.name) name && has_value d) (declared_at (layer_at files e.file statement)))
    (λ statement. list_any (λ m. same_name name (saying files e.file m) && valued (saying files e.file m)) (mentions_at files e.file statement)) (at_statement files e.file name) (own_statements files e)
    (flat_back (λ (d : Declared). bytes_eq (name_at files e.file d.name) name && has_value d) (λ statement. declared_at (layer_at files e.file statement)) (own_statements files e)
    (passed_any (λ (d : Declared). bytes_eq (name_at files e.file d.name) name) has_value (λ d. bytes_eq (name_at files e.file d.name) name && has_value d) (λ d named has. ap₂ (λ a b. a && b) named has)
    (flat_map (λ statement. declared_at (layer_at files e.file statement)) (own_statements files e))
    (first_any (λ (d : Declared). d.value) has_value (declarations_of files e name) v (λ d z some. ap (λ o. option_map_or (λ (x : Expr). true) o false) some) is)))))

-- ---- a dummy argument has none

left_false : (a b : Bool) → (a || b) ≡ false → a ≡ false
left_false true b is = absurd (cc is)
left_false false b is = refl

right_false : (a b : Bool) → (a || b) ≡ false → b ≡ false
right_false true b is = absurd (cc is)
right_false false b is = is

both_empty : {A : Type 0} (xs ys : List A) → xs ++ ys ≡ [] → (xs ≡ []) × (ys ≡ [])
both_empty [] ys is = (refl, is)
both_empty (x ∷ xs) ys is = absurd (cc is)

valued_not_of : (s : Saying) → valued s ≡ true → not_of_argument s ≡ true
valued_not_of s is = by (parameter s) refl where
  by : (b : Bool) → parameter s ≡ b → (parameter s || saved s || initial s || external s || intrinsic s || member s || tied s) ≡ true
  by true here =
      or_left (parameter s || saved s || initial s || external s || intrinsic s || member s) (tied s) (or_left (parameter s || saved s || initial s || external s || intrinsic s) (member s)
      (or_left (parameter s || saved s || initial s || external s) (intrinsic s) (or_left (parameter s || saved s || initial s) (external s) (or_left (parameter s || saved s) (initial s) (or_left (parameter s) (saved s) here)))))
  by false none =
      or_left (parameter s || saved s || initial s || external s || intrinsic s || member s) (tied s) (or_left (parameter s || saved s || initial s || external s || intrinsic s) (member s)
      (or_left (parameter s || saved s || initial s || external s) (intrinsic s) (or_left (parameter s || saved s || initial s) (external s)
      (or_right (parameter s || saved s) (initial s) (ap₂ (λ a b. a && not b) is none)))))

argument_excludes : (bd : Bool) (d v : Saying) → dummy d ≡ true → valued v ≡ true → excludes bd d v ≡ true
argument_excludes bd d v is has = or_left _ _ (or_left _ _ (or_left _ _ (or_left (argument d && not_of_argument v) _ (ap₂ (λ a b. a && b) (or_left (dummy d) _ is) (valued_not_of v has)))))

module _ (kind : ScopeKind) (file : ℕ) (name : List ℕ) where
  abbrev of_dummy : Saying → Bool
  of_dummy s = same_name name s && dummy s

  abbrev of_value : Saying → Bool
  of_value s = same_name name s && valued s

  -- nothing before a saying excludes it
  apart : (before : List Saying) (s : Saying) (rest : List Saying) → each_after kind file before (s ∷ rest) ≡ [] → is_conflicting kind before s ≡ false
  apart before s rest none = by (is_conflicting kind before s) ((both_empty (conflicting_at kind file before s) (each_after kind file (before ++ s ∷ []) rest) ((both_empty (twice_at file before s) _ none).1)).0) where
    by : (b : Bool) → cond b (found Conflicting (place_of_saying file s) ∷ []) [] ≡ [] → b ≡ false
    by true is = absurd (cc is)
    by false is = refl

  later : (before : List Saying) (s : Saying) (rest : List Saying) → each_after kind file before (s ∷ rest) ≡ [] → each_after kind file (before ++ s ∷ []) rest ≡ []
  later before s rest none = (both_empty (conflicting_at kind file before s) (each_after kind file (before ++ s ∷ []) rest) ((both_empty (twice_at file before s) _ none).1)).1

  alone : (before : List Saying) (s : Saying) → is_conflicting kind before s ≡ false → excludes (is_block_data kind) s s ≡ false
  alone before s none = left_false (excludes (is_block_data kind) s s) _ (left_false (excludes (is_block_data kind) s s || is_misplaced kind before s) _ none)

  none_before : (before : List Saying) (s : Saying) → is_conflicting kind before s ≡ false → list_any (λ earlier. same_name s.name earlier && is_excluded (is_block_data kind) earlier s) before ≡ false
  none_before before s none = right_false (excludes (is_block_data kind) s s || is_misplaced kind before s) _ none

  same_names : (s x : Saying) → same_name name s ≡ true → same_name name x ≡ true → same_name s.name x ≡ true
  same_names s x one other = ap (bytes_eq x.name) (same_bytes s.name name one) ∙ other

  abbrev front : List Saying → Saying → List Saying
  front before s = before ++ s ∷ []

  kept : (p : Saying → Bool) (before : List Saying) (s : Saying) → list_any p before ≡ true → list_any p (before ++ s ∷ []) ≡ true
  kept p before s is = list_any-append p before (s ∷ []) ∙ or_left (list_any p before) (list_any p (s ∷ [])) is

  added : (p : Saying → Bool) (before : List Saying) (s : Saying) → p s ≡ true → list_any p (before ++ s ∷ []) ≡ true
  added p before s is = append_right p before (s ∷ []) (or_left (p s) false is)

  -- a dummy argument before a value
  dummy_first : (before rest : List Saying) → each_after kind file before rest ≡ [] → list_any of_dummy before ≡ true → list_any of_value rest ≡ true → ⊥
  dummy_first before [] none earlier is = cc is
  dummy_first before (s ∷ rest) none earlier is = elim (or_cases (of_value s) (list_any of_value rest) is) [
    | inl here ↦
        let parts = and_parts (same_name name s) (valued s) here in
        let some : list_any (λ x. same_name s.name x && is_excluded (is_block_data kind) x s) before ≡ true =
        any_weaker of_dummy (λ x. same_name s.name x && is_excluded (is_block_data kind) x s) (λ x is.
        let both = and_parts (same_name name x) (dummy x) is in
        ap₂ (λ a b. a && b) (same_names s x parts.0 both.0) (or_left _ _ (or_left (excludes (is_block_data kind) x s) _ (argument_excludes (is_block_data kind) x s both.1 parts.1)))) before earlier in
        cc (some, none_before before s (apart before s rest none))
    | inr more ↦ dummy_first (before ++ s ∷ []) rest (later before s rest none) (kept of_dummy before s earlier) more
  ]

  -- a value before a dummy argument
  value_first : (before rest : List Saying) → each_after kind file before rest ≡ [] → list_any of_value before ≡ true → list_any of_dummy rest ≡ true → ⊥
  value_first before [] none earlier is = cc is
  value_first before (s ∷ rest) none earlier is = elim (or_cases (of_dummy s) (list_any of_dummy rest) is) [
    | inl here ↦
        let parts = and_parts (same_name name s) (dummy s) here in
        let some : list_any (λ x. same_name s.name x && is_excluded (is_block_data kind) x s) before ≡ true =
        any_weaker of_value (λ x. same_name s.name x && is_excluded (is_block_data kind) x s) (λ x is.
        let both = and_parts (same_name name x) (valued x) is in
        ap₂ (λ a b. a && b) (same_names s x parts.0 both.0) (or_left _ _ (or_right (excludes (is_block_data kind) x s) _ (argument_excludes (is_block_data kind) s x parts.1 both.1)))) before earlier in
        cc (some, none_before before s (apart before s rest none))
    | inr more ↦ value_first (before ++ s ∷ []) rest (later before s rest none) (kept of_value before s earlier) more
  ]

  both_said : (before rest : List Saying) → each_after kind file before rest ≡ [] → list_any of_dummy rest ≡ true → list_any of_value rest ≡ true → ⊥
  both_said before [] none is has = cc is
  both_said before (s ∷ rest) none is has = elim (or_cases (of_dummy s) (list_any of_dummy rest) is) [
    | inl here ↦ elim (or_cases (of_value s) (list_any of_value rest) has) [
      | inl too ↦
          cc (alone before s (apart before s rest none), argument_excludes (is_block_data kind) s s ((and_parts (same_name name s) (dummy s) here).1) ((and_parts (same_name name s) (valued s) too).1))
      | inr after ↦ dummy_first (before ++ s ∷ []) rest (later before s rest none) (added of_dummy before s here) after
    ]
    | inr more ↦ elim (or_cases (of_value s) (list_any of_value rest) has) [
      | inl first ↦ value_first (before ++ s ∷ []) rest (later before s rest none) (added of_value before s first) more
      | inr after ↦ both_said (before ++ s ∷ []) rest (later before s rest none) more after
    ]
  ]

none_first : (rank : FaultKind → ℕ) (all : List Finding) → first_finding rank all ≡ None → all ≡ []
none_first rank [] is = refl
none_first rank (f ∷ all) is = absurd (cc is)

flat_empty : {A B : Type 0} (f : A → List B) (xs : List A) (k : ℕ) (x : A) → flat_map f xs ≡ [] → slice_get xs k ≡ Some x → f x ≡ []
flat_empty f [] k x none is = absurd (cc is)
flat_empty f (y ∷ xs) zero x none is = let same : y ≡ x = cc is in ap f (sym same) ∙ (both_empty (f y) (flat_map f xs) none).0
flat_empty f (y ∷ xs) (suc k) x none is = flat_empty f xs k x ((both_empty (f y) (flat_map f xs) none).1) is

-- the sayings of a name in those of its scoping unit
named_back : (what : Saying → Bool) (name : List ℕ) (all : List Saying) → list_any what (filter (same_name name) all) ≡ true → list_any (λ s. same_name name s && what s) all ≡ true
named_back what name all is = passed_any (same_name name) what (λ s. same_name name s && what s) (λ s named has. ap₂ (λ a b. a && b) named has) all is

pub dummy_unvalued : (files : List FileTree) → declaration_fault files ≡ None → (k : ℕ) (e : Extent) → slice_get (scoping files) k ≡ Some e → (name : List ℕ) → is_said dummy (said_of files e name) ≡ true → written_value files e name ≡ None
dummy_unvalued files fine k e there name is = by (written_value files e name) refl where
  none : findings files ≡ []
  none = none_first declaration_rank (findings files) (of (first_finding declaration_rank (findings files)) fine) where
    of : (o : Option Finding) → option_map (fault_of files) o ≡ None → o ≡ None
    of None is = refl
    of (Some f) is = absurd (cc is)

  scope_none : each_after (scope_kind files e) e.file [] (sayings files e) ≡ []
  scope_none =
      (both_empty (each_after (scope_kind files e) e.file [] (sayings files e)) _ (flat_empty (scope_findings files) (scoping files) k e ((both_empty (global_findings files) (flat_map (scope_findings files) (scoping files)) none).1) there)).0

  by : (o : Option Expr) → written_value files e name ≡ o → written_value files e name ≡ None
  by None unwritten = unwritten
  by (Some v) some =
      absurd (both_said (scope_kind files e) e.file name [] (sayings files e) scope_none (named_back dummy name (sayings files e) is) (named_back valued name (sayings files e) (value_said files e name v some)))
