-- What is kept at the token that writes a name's type is the procedure that the scoping unit declares by that name, where it is one.
use Rattle.std.proofs.Common.{◌≡◌, refl, sym, ◌∙◌, ap, cond, inl, inr, ◌⊎◌, ℕ, Bool, true, false, List, Option, Some, None, option_map, arith}
use Rattle.std.specs.Prelude.{◌&&◌, ◌==◌, not, slice_get}
use Rattle.std.specs.Option.{is_some, option_and_then, option_map_or, unwrap_or}
use Rattle.std.proofs.lemmas.Bool.Decides.{nat_tests}
use Rattle.ftn_tree.specs.declared.form.Form.TheOpen.{Form-F}
use Rattle.ftn_tree.specs.declared.parts.TypeSpec.{TypeSpec}
use Rattle.ftn_tree.specs.declared.table.Extent.{Extent}
use Rattle.ftn_tree.specs.declared.unit.FileTree.{FileTree}
use Rattle.ftn_tree.specs.Bindings.{is_entity_of, meaning_by, same_number}
use Rattle.ftn_tree.specs.Declarations.{Declared, typing_of}
use Rattle.ftn_tree.specs.DeclaredEntities.{is_said, unit_kind_at}
use Rattle.ftn_tree.specs.Extents.{layer_at, scoping}
use Rattle.ftn_tree.specs.KeyKinds.{key_at, key_of, kind_of}
use Rattle.ftn_tree.specs.Kinds.{is_unit}
use Rattle.ftn_tree.specs.Layers.{FormLayer}
use Rattle.ftn_tree.specs.Meanings.{Key, unit, own, block, intrinsic_function, unknown, declared_in, same_names}
use Rattle.ftn_tree.specs.NameFaults.{name_fault, said_of}
use Rattle.ftn_tree.specs.Projects.{AreTrees}
use Rattle.ftn_tree.specs.Sayings.{answer}
use Rattle.ftn_tree.specs.Scopes.{scope_number}
use Rattle.decl_table.proofs.OwnStatements.{number_of as number_there}
use Rattle.const_expr.specs.Namings.{entity_in}
use Rattle.const_value.specs.declared.project.Project.{Project}
use Rattle.const_value.specs.steps.Gathered.{IsGathered, entity_index, key_number}
use Rattle.const_value.specs.steps.Numbered.{IsEntity}
use Rattle.const_value.specs.steps.Projects as projects
use Rattle.const_value.specs.steps.Projects.{row_in}
use Rattle.const_value.proofs.AllKeys.{all_entities, all_numbered}
use Rattle.const_value.proofs.KeysThere.{denoted_at}
use Rattle.const_value.proofs.NoBodies.{no_bodies}
use Rattle.const_value.proofs.RealKeys.{IsRealFor}
use Rattle.const_value.proofs.TiedNames.{entity_there}
use Rattle.const_value.proofs.VariablesThere.{passes, token_kind}
use Rattle.name_types.specs.steps.Generics.{opened_by, unit_by}
use Rattle.type_check.proofs.DeclaredUnits.{typed_meaning}
use Rattle.type_check.proofs.TokenMentions.{mention_key}
use Rattle.type_check.proofs.TypingTokens.{TypingMention, typing_mention}

-- the number of a scoping unit and what it stands for, or neither
abbrev pub UnitCase : List FileTree → Option ℕ → Option Key → Type 0
UnitCase files found key = ((found ≡ None) × ((u : Extent) → key ≡ Some (unit u) → ⊥)) ⊎ ((j : ℕ) × (u : Extent) × (found ≡ Some j) × (slice_get (scoping files) j ≡ Some u) × (key ≡ Some (unit u)))

unit_kind : (layer : Option FormLayer) → is_unit (unit_kind_at layer) ≡ true
unit_kind (Some (Form-F.Program name)) = refl
unit_kind (Some (Form-F.Module name)) = refl
unit_kind (Some (Form-F.BlockData joined name)) = refl
unit_kind (Some (Form-F.Function ty name dummies answer)) = refl
unit_kind _ = refl

same_opens : (opens : Option ℕ) (n : ℕ) → same_number opens (Some n) ≡ true → opens ≡ Some n
same_opens None n is = absurd (cc is)
same_opens (Some k) n is = ap Some (equal k n is) where
  equal : (k n : ℕ) → (k == n) ≡ true → k ≡ n
  equal k n is = grind (arith, nat_tests)

no_opens : (opens home : Option ℕ) (name : Option (List ℕ)) (scope : Option ℕ) (wanted : List ℕ) → (not (is_some opens) && same_number home scope && same_names name (Some wanted)) ≡ true → opens ≡ None
no_opens None home name scope wanted is = refl
no_opens (Some k) home name scope wanted is = absurd (cc is)

none_if : (b : Bool) → ◌≡◌ {A = Option ℕ} (cond b None None) None
none_if true = refl
none_if false = refl

no_unit : (key : Key) (found : Option ℕ) (files : List FileTree) → found ≡ None → ((u : Extent) → Some key ≡ Some (unit u) → ⊥) → UnitCase files found (Some key)
no_unit key found files is none = inl (is, none)

module _ (files : List FileTree) (are : AreTrees files) (bound : name_fault files ≡ None) (p : Project) (g : IsGathered files p) where
  -- ---- what is kept at a token

  unit_real : (name : List ℕ) (u : Extent) → IsRealFor files name (unit u) → (j : ℕ) × (slice_get (scoping files) j ≡ Some u)
  unit_real name u real = real.0

  of_entity : (file token : ℕ) (key : Key) (i : ℕ) (e : IsEntity files i key) → key_at files file token ≡ Some key → key_number files key ≡ Some i → UnitCase files (opened_by e.entity) (Some key)
  of_entity file token key i e at number = by key at kind here real where
    kind : e.entity.kind ≡ kind_of files key
    kind = token_kind files are bound key file token i e.entity at number e.there

    here : is_entity_of files key e.entity ≡ true
    here = passes files are bound key file token i e.entity at number e.there

    real : (u : Extent) → key ≡ unit u → (j : ℕ) × (slice_get (scoping files) j ≡ Some u)
    real u same = let d = denoted_at files are bound (no_bodies files are) file token (unit u) (at ∙ ap Some same) in unit_real d.denoting.name u d.real

    by : (k : Key) → key_at files file token ≡ Some k → e.entity.kind ≡ kind_of files k → is_entity_of files k e.entity ≡ true → ((u : Extent) → k ≡ unit u → (j : ℕ) × (slice_get (scoping files) j ≡ Some u))
        → UnitCase files (opened_by e.entity) (Some k)
    by (unit u) at kind here real =
        let (j, there) = real u refl in
        let opens : e.entity.opens ≡ Some j = same_opens e.entity.opens j (ap (same_number e.entity.opens) (sym (number_there files are j u there)) ∙ here) in
        let is : opened_by e.entity ≡ Some j =
        ap (λ k. cond (is_unit k) e.entity.opens None) kind ∙ ap (λ b. cond b e.entity.opens None) (unit_kind (layer_at files u.file u.opening)) ∙ opens in
        inr (j, u, is, there, refl)
    by (own x name) at kind here real =
        let opens : e.entity.opens ≡ None = no_opens e.entity.opens e.entity.home e.entity.name (scope_number files x) name here in
        inl (ap (λ o. cond (is_unit e.entity.kind) o None) opens ∙ none_if (is_unit e.entity.kind), λ u same. absurd (cc same))
    by (block name) at kind here real = inl (ap (λ k. cond (is_unit k) e.entity.opens None) kind, λ u same. absurd (cc same))
    by (intrinsic_function name) at kind here real = inl (ap (λ k. cond (is_unit k) e.entity.opens None) kind, λ u same. absurd (cc same))

  pub token_unit : (file token : ℕ) → UnitCase files (unit_by p file token) (key_at files file token)
  token_unit file token = by (key_at files file token) refl where
    found : (o : Option ℕ) → entity_in (row_in p.rows.items file) token ≡ o → unit_by p file token ≡ option_and_then opened_by (option_and_then (projects.entity_in p.bound.now) o)
    found o is = ap (λ n. option_and_then opened_by (option_and_then (projects.entity_in p.bound.now) n)) is

    moved : (a b : Option ℕ) (key : Option Key) → b ≡ a → UnitCase files a key → UnitCase files b key
    moved a b key same (inl (none, never)) = inl (same ∙ none, never)
    moved a b key same (inr (j, u, is, there, key_is)) = inr (j, u, same ∙ is, there, key_is)

    by : (o : Option Key) → key_at files file token ≡ o → UnitCase files (unit_by p file token) o
    by None at = inl (found None (g.tokens file token ∙ ap (option_map (entity_index files)) at), λ u same. absurd (cc same))
    by (Some key) at =
        let (i, number, e) = (all_entities files are bound).tokens file token key at in
        let row : entity_in (row_in p.rows.items file) token ≡ Some i = g.tokens file token ∙ ap (option_map (entity_index files)) at ∙ ap (λ o. Some (unwrap_or o 0)) number in
        let there : projects.entity_in p.bound.now i ≡ Some e.entity = entity_there files p g are (all_numbered files are bound) (all_entities files are bound) i key e in
        moved (opened_by e.entity) (unit_by p file token) (Some key) (found (Some i) row ∙ ap (option_and_then opened_by) there) (of_entity file token key i e at number)

  -- ---- where a type is written

  pub typing_key : (n : ℕ) (e : Extent) → slice_get (scoping files) n ≡ Some e → (name : List ℕ) (ty : TypeSpec) (d : Declared) → typing_of files e name ≡ Some (ty, d)
      → is_said answer (said_of files e name) ≡ false → key_at files e.file d.name ≡ key_of (declared_in files e name)
  typing_key n e there name ty d is no_answer = of (typing_mention files are n e there name ty d is no_answer) where
    of : TypingMention files e name d.name → key_at files e.file d.name ≡ key_of (declared_in files e name)
    of t =
        ap (key_at files e.file) (sym t.token_is)
        ∙ mention_key files are e.file t.statement t.m t.among
        ∙ ap (λ o. key_of (option_map_or (λ x. meaning_by t.m.role files x t.statement t.m) o unknown)) t.scope_is
        ∙ ap key_of (typed_meaning files e name are n there t.declared t.statement t.m.role t.m t.role_is t.name_is)

  -- the unit there is the procedure that is declared
  pub typing_unit : (n : ℕ) (e : Extent) → slice_get (scoping files) n ≡ Some e → (name : List ℕ) (ty : TypeSpec) (d : Declared) → typing_of files e name ≡ Some (ty, d)
      → is_said answer (said_of files e name) ≡ false → UnitCase files (unit_by p e.file d.name) (key_of (declared_in files e name))
  typing_unit n e there name ty d is no_answer = moved (key_at files e.file d.name) (key_of (declared_in files e name)) (typing_key n e there name ty d is no_answer) (token_unit e.file d.name) where
    moved : (a b : Option Key) → a ≡ b → UnitCase files (unit_by p e.file d.name) a → UnitCase files (unit_by p e.file d.name) b
    moved a b same (inl (none, never)) = inl (none, λ u key_is. never u (same ∙ key_is))
    moved a b same (inr (j, u, found, here, key_is)) = inr (j, u, found, here, sym same ∙ key_is)
