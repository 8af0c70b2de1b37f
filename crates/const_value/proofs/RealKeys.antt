-- What a scoping unit says of a name is an entity of the project, where it says that it is one.
use Rattle.std.proofs.Common.{◌≡◌, ℕ, suc, Bool, true, false, cond, List, [], ◌∷◌, filter, map, Option, Some, None, slice_get, option_map, ◌⊎◌, inl, inr, refl, sym, ap, ap₂, subst, ◌∙◌, arith}
use Rattle.std.specs.Prelude.{◌&&◌, ◌||◌, not}
use Rattle.std.specs.List.{find, list_any, AllByRecursion as Each}
use Rattle.std.specs.Option.{is_some}
use Rattle.std.specs.Str.{bytes_eq}
use Rattle.std.specs.Cmp.Lexicographic.{nat_list_eq_equiv}
use Rattle.std.proofs.lemmas.Bool.{and_parts}
use Rattle.std.proofs.lemmas.Bool.Decides.{nat_tests}
use Rattle.ftn_base.specs.Accessible.{once}
use Rattle.ftn_base.specs.Keywords.{is_intrinsic}
use Rattle.ftn_tree.specs.declared.form.Form.TheOpen.{Form-F}
use Rattle.ftn_tree.specs.declared.mention.Mention.{Mention}
use Rattle.ftn_tree.specs.declared.mention.Role.TheVariants as role
use Rattle.ftn_tree.specs.declared.table.EntityKind.{EntityKind}
use Rattle.ftn_tree.specs.declared.table.EntityKind.TheVariants as kinds
use Rattle.ftn_tree.specs.declared.table.Extent.{Extent}
use Rattle.ftn_tree.specs.declared.table.ScopeKind.{ScopeKind}
use Rattle.ftn_tree.specs.declared.unit.FileTree.{FileTree}
use Rattle.ftn_tree.specs.Bindings.{is_key, is_letter_typed}
use Rattle.ftn_tree.specs.DeclaredEntities.{has_result_at, is_named, is_referenced, is_said, is_typed_alone, kind_said, own_mentions}
use Rattle.ftn_tree.specs.Extents.{is_body, is_some_extent, host_of, layer_at, same_extent, scoping}
use Rattle.ftn_tree.specs.GlobalNames.{Global, blocks, has_no_host, program_units, same_name as same_global}
use Rattle.ftn_tree.specs.Meanings as spec
use Rattle.ftn_tree.specs.Meanings.{Key, Meaning, unit, own, block, intrinsic_function, nothing, one, several, unknown}
use Rattle.ftn_tree.specs.NameFaults.{said_of}
use Rattle.ftn_tree.specs.Roles.{says}
use Rattle.ftn_tree.specs.Sayings.{Saying, answer, body, declares, dummy, external, inside, outside, parameter}
use Rattle.ftn_tree.specs.Layers.{FormLayer}
use Rattle.ftn_tree.specs.Scopes.{kind_by, name_at, scope_kind, scope_name}
use Rattle.const_value.proofs.Members.{each_filter, each_passed, find_passes, or_left, or_right}
use Rattle.const_value.proofs.NamedPlaces.{same_bytes}

-- ---- keys that entities have

abbrev pub IsUnit : List FileTree → Extent → Type 0
IsUnit files e = (j : ℕ) × (slice_get (scoping files) j ≡ Some e)

-- a unit that is an entity of the project: an interface body is none
abbrev pub IsRealUnit : List FileTree → Extent → Type 0
IsRealUnit files e = IsUnit files e × (is_body files e ≡ false)

abbrev pub kind_in : List FileTree → Extent → List ℕ → Option EntityKind
kind_in files e name = kind_said (has_result_at (layer_at files e.file e.opening)) (is_referenced files e name) (said_of files e name)

abbrev pub is_named_in : List FileTree → Extent → List ℕ → Bool
is_named_in files e name = list_any (λ other. bytes_eq other name) (spec.names_in files e)

-- a name that its scoping unit declares, or that its first letter types there
abbrev pub IsRealName : List FileTree → Extent → List ℕ → Type 0
IsRealName files e name = (is_some (kind_in files e name) ≡ true) ⊎ ((is_letter_typed files e name ≡ true) × (is_named_in files e name ≡ true))

abbrev pub IsReal : List FileTree → Key → Type 0
IsReal files (unit e) = IsRealUnit files e
IsReal files (own e name) = IsUnit files e × IsRealName files e name
IsReal files (block None) = ⊥
IsReal files (block (Some name)) = list_any (λ (g : Global). same_global g.name (Some name)) (blocks files) ≡ true
IsReal files (intrinsic_function name) = ⊥

-- the same of what a name denotes; an intrinsic function has that name
abbrev pub IsRealFor : List FileTree → List ℕ → Key → Type 0
IsRealFor files name (intrinsic_function other) = other ≡ name
IsRealFor files name (unit e) = IsReal files (unit e)
IsRealFor files name (own e n) = IsReal files (own e n)
IsRealFor files name (block b) = IsReal files (block b)

abbrev pub IsRealMeaning : List FileTree → List ℕ → Meaning → Type 0
IsRealMeaning files name (one key) = IsRealFor files name key
IsRealMeaning files name nothing = Unit {0}
IsRealMeaning files name (several first second rest) = Unit {0}
IsRealMeaning files name unknown = Unit {0}

pub real_for : (files : List FileTree) (name : List ℕ) (key : Key) → IsReal files key → IsRealFor files name key
real_for files name (unit e) is = is
real_for files name (own e n) is = is
real_for files name (block b) is = is
real_for files name (intrinsic_function n) is = absurd is

-- ---- what is said, by its tests in turn

or_false : (a b : Bool) → a ≡ false → b ≡ false → (a || b) ≡ false
or_false a b is also = ap₂ (λ x y. x || y) is also

first_false : (a b : Bool) → (a || b) ≡ false → a ≡ false
first_false true b is = absurd (cc is)
first_false false b is = refl

last_false : (a b : Bool) → (a || b) ≡ false → b ≡ false
last_false true b is = absurd (cc is)
last_false false b is = is

pub either_said : (what other : Saying → Bool) (said : List Saying) → is_said what said ≡ false → is_said other said ≡ false → is_said (λ s. what s || other s) said ≡ false
either_said what other [] none none_too = refl
either_said what other (s ∷ said) none none_too =
    or_false (what s || other s) (is_said (λ s. what s || other s) said)
    (or_false (what s) (other s) (first_false (what s) (is_said what said) none) (first_false (other s) (is_said other said) none_too))
    (either_said what other said (last_false (what s) (is_said what said) none) (last_false (other s) (is_said other said) none_too))

module _ (has_result referenced : Bool) (said : List Saying) where
  abbrev kind : Option EntityKind
  kind = kind_said has_result referenced said

  abbrev is_inner : Saying → Bool
  is_inner s = says role.Inner s.said

  abbrev is_generic : Saying → Bool
  is_generic s = says role.Generic s.said

  abbrev is_label : Saying → Bool
  is_label s = says role.Label s.said

  kind_dummy : is_said dummy said ≡ true → is_some (kind_said has_result referenced said) ≡ true
  kind_dummy is = rw is refl

  kind_answer : is_said dummy said ≡ false → is_said answer said ≡ true → has_result ≡ true → is_some (kind_said has_result referenced said) ≡ true
  kind_answer none is has = rw (none, is, has) refl

  kind_inside : is_said dummy said ≡ false → is_said answer said ≡ false → is_said is_inner said ≡ false → is_said inside said ≡ true → is_some (kind_said has_result referenced said) ≡ true
  kind_inside none none_too no_inner is = rw (none, none_too, no_inner) (by (is_said is_generic said) (is_said is_label said) refl refl) where
    by : (g l : Bool) → is_said is_generic said ≡ g → is_said is_label said ≡ l
        → is_some (cond g (Some kinds.Generic) (cond l (Some kinds.Construct) (cond (is_said outside said || (referenced && is_typed_alone said)) None (cond (is_said parameter said) (Some kinds.Constant) (cond (is_said declares said) (Some kinds.Variable) None))))) ≡ true
    by true l generic label = refl
    by false true generic label = refl
    by false false generic label =
        let nowhere : is_said inside said ≡ false = either_said (λ s. is_inner s || is_generic s) is_label said (either_said is_inner is_generic said no_inner generic) label in
        absurd (cc (is, nowhere))

  pub inside_none : is_said inside said ≡ false → (is_said is_generic said ≡ false) × (is_said is_label said ≡ false)
  inside_none none = (each said none) where
    each : (said : List Saying) → is_said inside said ≡ false → (is_said is_generic said ≡ false) × (is_said is_label said ≡ false)
    each [] none = (refl, refl)
    each (s ∷ said) none =
        let here : inside s ≡ false = first_false (inside s) (is_said inside said) none in
        let rest = each said (last_false (inside s) (is_said inside said) none) in
        let label : is_label s ≡ false = last_false (is_inner s || is_generic s) (is_label s) here in
        let generic : is_generic s ≡ false = last_false (is_inner s) (is_generic s) (first_false (is_inner s || is_generic s) (is_label s) here) in
        (or_false (is_generic s) (is_said is_generic said) generic rest.0, or_false (is_label s) (is_said is_label said) label rest.1)

  kind_declared : is_said dummy said ≡ false → is_said answer said ≡ false → is_said is_inner said ≡ false → is_said inside said ≡ false → is_said outside said ≡ false
      → (referenced && is_typed_alone said) ≡ false → is_said declares said ≡ true → is_some (kind_said has_result referenced said) ≡ true
  kind_declared none none_too no_inner no_inside no_outside no_function is =
      let nowhere = inside_none no_inside in
      rw (none, none_too, no_inner, nowhere.0, nowhere.1, no_outside, no_function, is) (by (is_said parameter said)) where
        by : (p : Bool) → is_some (cond p (Some kinds.Constant) (Some kinds.Variable)) ≡ true
        by true = refl
        by false = refl

-- ---- what a scoping unit says

-- an interface body is neither a procedure of the project nor a function
no_procedure : (layer : Option FormLayer) → spec.is_procedure (kind_by true layer) ≡ false
no_procedure (Some (Form-F.Program name)) = refl
no_procedure (Some (Form-F.Module name)) = refl
no_procedure (Some (Form-F.BlockData joined name)) = refl
no_procedure (Some (Form-F.Function ty name dummies answer)) = refl
no_procedure other = refl

no_function : (layer : Option FormLayer) → spec.is_function (kind_by true layer) ≡ false
no_function (Some (Form-F.Program name)) = refl
no_function (Some (Form-F.Module name)) = refl
no_function (Some (Form-F.BlockData joined name)) = refl
no_function (Some (Form-F.Function ty name dummies answer)) = refl
no_function other = refl

module _ (files : List FileTree) (name : List ℕ) where
  if_real : (b : Bool) (first other : Meaning) → (b ≡ true → IsRealMeaning files name first) → (b ≡ false → IsRealMeaning files name other) → IsRealMeaning files name (cond b first other)
  if_real true first other here there = here refl
  if_real false first other here there = there refl

  all_units : (es : List Extent) → ((j : ℕ) (e : Extent) → slice_get es j ≡ Some e → IsUnit files e) → Each (IsUnit files) es
  all_units [] there = tt
  all_units (e ∷ es) there = (there 0 e refl, all_units es (λ j x is. there (suc j) x is))

  pub units_there : Each (IsUnit files) (scoping files)
  units_there = all_units (scoping files) (λ j e is. (j, is))

  pub outer_there : Each (IsUnit files) (program_units files)
  outer_there = each_filter (IsUnit files) (has_no_host files) (scoping files) units_there

  -- what is found passes
  found_passes : (p : Extent → Bool) (es : List Extent) (x : Extent) → find p es ≡ Some x → p x ≡ true
  found_passes p [] x is = absurd (cc is)
  found_passes p (e ∷ es) x is = by (p e) refl is (found_passes p es x) where
    by : (b : Bool) → p e ≡ b → cond b (Some e) (find p es) ≡ Some x → (find p es ≡ Some x → p x ≡ true) → p x ≡ true
    by true passes is rest = let same : e ≡ x = cc is in subst (λ y. p y ≡ true) same passes
    by false fails is rest = rest is

  -- a procedure of the project is no interface body
  kind_apart : (wanted : ScopeKind → Bool) (e : Extent) → (is_body files e ≡ true → wanted (scope_kind files e) ≡ false) → wanted (scope_kind files e) ≡ true → is_body files e ≡ false
  kind_apart wanted e never is = by (is_body files e) refl where
    by : (b : Bool) → is_body files e ≡ b → is_body files e ≡ false
    by true body = absurd (cc (is, never body))
    by false none = none

  pub unit_real : (wanted : ScopeKind → Bool) → ((e : Extent) → IsUnit files e → has_no_host files e ≡ true → wanted (scope_kind files e) ≡ true → is_body files e ≡ false) → (other : List ℕ)
      → IsRealMeaning files name (spec.known (option_map unit (spec.unit_of files wanted other)))
  unit_real wanted never other = by (spec.unit_of files wanted other) refl where
    outer : Each (λ e. IsUnit files e × (has_no_host files e ≡ true)) (program_units files)
    outer = each_passed (IsUnit files) (has_no_host files) (scoping files) units_there

    by : (found : Option Extent) → find (λ e. wanted (scope_kind files e) && bytes_eq (scope_name files e) other) (program_units files) ≡ found → IsRealMeaning files name (spec.known (option_map unit found))
    by None is = tt
    by (Some e) is =
        let there = find_passes (λ e. IsUnit files e × (has_no_host files e ≡ true)) (λ e. wanted (scope_kind files e) && bytes_eq (scope_name files e) other) (program_units files) e outer is in
        let passes = and_parts (wanted (scope_kind files e)) (bytes_eq (scope_name files e) other) (found_passes (λ e. wanted (scope_kind files e) && bytes_eq (scope_name files e) other) (program_units files) e is) in
        (there.0, never e there.0 there.1 passes.0)

  intrinsic_real : IsRealMeaning files name (spec.known (spec.intrinsic_of name))
  intrinsic_real = by (is_intrinsic name) where
    by : (b : Bool) → IsRealMeaning files name (spec.known (cond b (Some (intrinsic_function name)) None))
    by true = refl
    by false = tt

  else_real : (found : Option Extent) → IsRealMeaning files name (spec.known (option_map unit found)) → IsRealMeaning files name (spec.known (spec.or_else (spec.intrinsic_of name) (option_map unit found)))
  else_real found is = by (is_intrinsic name) where
    by : (b : Bool) → IsRealMeaning files name (spec.known (spec.or_else (cond b (Some (intrinsic_function name)) None) (option_map unit found)))
    by true = refl
    by false = is

  -- procedures aren't interface bodies, as their kinds tell
  procedure_kind : (e : Extent) → IsUnit files e → has_no_host files e ≡ true → spec.is_procedure (scope_kind files e) ≡ true → is_body files e ≡ false
  procedure_kind e there outer is =
      kind_apart spec.is_procedure e (λ body. ap (λ b. spec.is_procedure (kind_by b (layer_at files e.file e.opening))) body ∙ no_procedure (layer_at files e.file e.opening)) is

  function_kind : (e : Extent) → IsUnit files e → has_no_host files e ≡ true → spec.is_function (scope_kind files e) ≡ true → is_body files e ≡ false
  function_kind e there outer is =
      kind_apart spec.is_function e (λ body. ap (λ b. spec.is_function (kind_by b (layer_at files e.file e.opening))) body ∙ no_function (layer_at files e.file e.opening)) is

  pub external_real : (other : List ℕ) → IsRealMeaning files name (spec.known (spec.external_of files other))
  external_real other = unit_real spec.is_procedure procedure_kind other

  pub reference_real : (m : Mention) → IsRealMeaning files name (spec.reference_meaning files m name)
  reference_real m =
      if_real (says role.Called m) _ _ (λ is. external_real name)
      (λ is. if_real (says role.Parenthesised m && not (says role.Given m)) _ unknown (λ is. else_real (spec.unit_of files spec.is_procedure name) (external_real name)) (λ is. tt))

  module _ (e : Extent) (there : IsUnit files e) where
    own_kind : is_some (kind_in files e name) ≡ true → IsReal files (own e name)
    own_kind is = (there, inl is)

    result_real : (said : List Saying) → said ≡ said_of files e name → is_said dummy said ≡ false → is_said answer said ≡ true → IsRealMeaning files name (spec.result_meaning files e name)
    result_real said same none is =
        if_real (has_result_at (layer_at files e.file e.opening)) (one (own e name)) _
        (λ has. own_kind (kind_answer (has_result_at (layer_at files e.file e.opening)) (is_referenced files e name) (said_of files e name) (ap (is_said dummy) (sym same) ∙ none) (ap (is_said answer) (sym same) ∙ is) has))
        (λ no_result. if_real (is_body files e) _ (one (unit e)) (λ body. external_real name) (λ no_body. (there, no_body)))

    inner_real : IsRealMeaning files name (spec.known (option_map unit (spec.inner_of files e name)))
    inner_real = by (spec.inner_of files e name) refl where
      by : (found : Option Extent) → find (λ inner. is_some_extent e (host_of files inner) && not (is_body files inner) && bytes_eq (scope_name files inner) name) (scoping files) ≡ found
          → IsRealMeaning files name (spec.known (option_map unit found))
      by None is = tt
      by (Some x) is =
          let member = find_passes (IsUnit files) (λ inner. is_some_extent e (host_of files inner) && not (is_body files inner) && bytes_eq (scope_name files inner) name) (scoping files) x units_there is in
          let all = found_passes (λ inner. is_some_extent e (host_of files inner) && not (is_body files inner) && bytes_eq (scope_name files inner) name) (scoping files) x is in
          let first = and_parts (is_some_extent e (host_of files x) && not (is_body files x)) (bytes_eq (scope_name files x) name) all in
          let second = and_parts (is_some_extent e (host_of files x)) (not (is_body files x)) first.0 in
          (member, not_true (is_body files x) second.1)
        where
          not_true : (b : Bool) → not b ≡ true → b ≡ false
          not_true true is = absurd (cc is)
          not_true false is = refl

    pub declared_real : IsRealMeaning files name (spec.declared_in files e name)
    declared_real = of (said_of files e name) refl where
      of : (said : List Saying) → said ≡ said_of files e name → IsRealMeaning files name (spec.declared_meaning files e name said)
      of said same =
          if_real (is_said dummy said) (one (own e name)) _ (λ is. own_kind (kind (kind_dummy h0 r0 said is)))
          (λ d. if_real (is_said answer said) _ _ (λ is. result_real said same d is)
          (λ a. if_real (is_said (λ s. says role.Inner s.said) said) _ _ (λ is. inner_real)
          (λ i. if_real (is_said inside said) (one (own e name)) _ (λ is. own_kind (kind (kind_inside h0 r0 said d a i is)))
          (λ n. if_real (is_said outside said) _ _ (λ is. if_real (is_said external said || is_said body said) _ _ (λ is. external_real name) (λ is. intrinsic_real))
          (λ o. if_real (is_referenced files e name && is_typed_alone said) _ _ (λ is. else_real (spec.unit_of files spec.is_function name) (unit_real spec.is_function function_kind name))
          (λ f. if_real (is_said declares said) (one (own e name)) nothing (λ is. own_kind (kind (kind_declared h0 r0 said d a i n o f is))) (λ no. tt)))))))
        where
          h0 : Bool
          h0 = has_result_at (layer_at files e.file e.opening)

          r0 : Bool
          r0 = is_referenced files e name

          kind : is_some (kind_said (has_result_at (layer_at files e.file e.opening)) (is_referenced files e name) said) ≡ true → is_some (kind_in files e name) ≡ true
          kind is = ap (λ s. is_some (kind_said (has_result_at (layer_at files e.file e.opening)) (is_referenced files e name) s)) (sym same) ∙ is

    -- ---- a name that its first letter types

    pub letter_real : spec.is_nothing (spec.declared_in files e name) ≡ true → (spec.stands_plain files e name ≡ true → spec.denotes files e name ≡ one (own e name)) → IsRealMeaning files name (spec.letter_meaning files e name)
    letter_real none denoted = if_real (spec.stands_plain files e name) (one (own e name)) nothing typed (λ no. tt) where
      same_self : same_extent e e ≡ true
      same_self = grind (arith, nat_tests)

      typed : spec.stands_plain files e name ≡ true → IsReal files (own e name)
      typed plain = (
        there,
        inr (
          ap₂ (λ a m. a && is_key (own e name) m) none (denoted plain) ∙ ap₂ (λ a b. a && b) same_self (nat_list_eq_equiv.refl name),
          once_any (map (λ (m : Mention). name_at files e.file m.token) (own_mentions files e)) (in_names (own_mentions files e) plain),
        ),
      )
        where
          in_names : (ms : List Mention) → list_any (λ m. spec.is_plain m && is_named files e.file name m) ms ≡ true → list_any (λ other. bytes_eq other name) (map (λ (m : Mention). name_at files e.file m.token) ms) ≡ true
          in_names [] is = is
          in_names (m ∷ ms) is = by (spec.is_plain m) (bytes_eq (name_at files e.file m.token) name) (in_names ms) is where
            by : (p b : Bool) → (list_any (λ m. spec.is_plain m && is_named files e.file name m) ms ≡ true → list_any (λ other. bytes_eq other name) (map (λ (m : Mention). name_at files e.file m.token) ms) ≡ true)
                → ((p && b) || list_any (λ m. spec.is_plain m && is_named files e.file name m) ms) ≡ true → (b || list_any (λ other. bytes_eq other name) (map (λ (m : Mention). name_at files e.file m.token) ms)) ≡ true
            by p true rest is = refl
            by true false rest is = rest is
            by false false rest is = rest is

          once_any : (names : List (List ℕ)) → list_any (λ other. bytes_eq other name) names ≡ true → list_any (λ other. bytes_eq other name) (once bytes_eq names) ≡ true
          once_any [] is = is
          once_any (x ∷ names) is = by (bytes_eq x name) refl is (once_any names) where
            by : (b : Bool) → bytes_eq x name ≡ b → (b || list_any (λ other. bytes_eq other name) names) ≡ true
                → (list_any (λ other. bytes_eq other name) names ≡ true → list_any (λ other. bytes_eq other name) (once bytes_eq names) ≡ true)
                → (b || list_any (λ other. bytes_eq other name) (filter (λ y. not (bytes_eq y x)) (once bytes_eq names))) ≡ true
            by true same is rest = refl
            by false differ is rest = stays (once bytes_eq names) (rest is) where
              stays : (ys : List (List ℕ)) → list_any (λ other. bytes_eq other name) ys ≡ true → list_any (λ other. bytes_eq other name) (filter (λ y. not (bytes_eq y x)) ys) ≡ true
              stays [] any = any
              stays (y ∷ ys) any = at (bytes_eq y name) refl any (stays ys) where
                at : (c : Bool) → bytes_eq y name ≡ c → (c || list_any (λ other. bytes_eq other name) ys) ≡ true
                    → (list_any (λ other. bytes_eq other name) ys ≡ true → list_any (λ other. bytes_eq other name) (filter (λ y. not (bytes_eq y x)) ys) ≡ true)
                    → list_any (λ other. bytes_eq other name) (cond (not (bytes_eq y x)) (y ∷ filter (λ y. not (bytes_eq y x)) ys) (filter (λ y. not (bytes_eq y x)) ys)) ≡ true
                at true here any more =
                    let other : bytes_eq y x ≡ false = ap (λ n. bytes_eq n x) (same_bytes y name here) ∙ nat_list_eq_equiv.symm name x ∙ differ in
                    ap (λ b. list_any (λ other. bytes_eq other name) (cond (not b) (y ∷ filter (λ y. not (bytes_eq y x)) ys) (filter (λ y. not (bytes_eq y x)) ys))) other
                    ∙ or_left (bytes_eq y name) (list_any (λ other. bytes_eq other name) (filter (λ y. not (bytes_eq y x)) ys)) here
                at false past any more = keep (not (bytes_eq y x)) (more any) where
                  keep : (k : Bool) → list_any (λ other. bytes_eq other name) (filter (λ y. not (bytes_eq y x)) ys) ≡ true
                      → list_any (λ other. bytes_eq other name) (cond k (y ∷ filter (λ y. not (bytes_eq y x)) ys) (filter (λ y. not (bytes_eq y x)) ys)) ≡ true
                  keep true is = or_right (bytes_eq y name) (list_any (λ other. bytes_eq other name) (filter (λ y. not (bytes_eq y x)) ys)) is
                  keep false is = is
