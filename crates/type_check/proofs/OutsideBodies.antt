-- The procedure that the project defines for an interface body, by its number.
use Rattle.std.proofs.Common.{◌≡◌, ℕ, true, ◌&&◌, if◌then◌else◌, List, [], Option, Some, None, refl, sym, ap, ◌∙◌, bytes_eq}
use Rattle.std.specs.Prelude.{slice_get}
use Rattle.std.specs.Option.{option_and_then, option_map, unwrap_or}
use Rattle.ftn_tree.specs.declared.table.Extent.{Extent}
use Rattle.ftn_tree.specs.declared.unit.FileTree.{FileTree}
use Rattle.ftn_tree.specs.Extents.{is_body, scoping}
use Rattle.ftn_tree.specs.GlobalNames.{has_no_host}
use Rattle.ftn_tree.specs.Meanings.{Key, unit, is_procedure, external_of, unit_of}
use Rattle.ftn_tree.specs.Projects.{AreTrees}
use Rattle.ftn_tree.specs.Scopes.{name_token, scope_kind, scope_name, scope_number}
use Rattle.ftn_tree.specs.TypeFaults.{against, body_told}
use Rattle.decl_table.proofs.OwnStatements.{number_of}
use Rattle.name_types.specs.steps.Generics.{outside_number}
use Rattle.name_types.proofs.OutsideUnits.{found_among}

there : (files : List FileTree) (name : List ℕ) (x : Extent) → unit_of files is_procedure name ≡ Some x → (j : ℕ) × (slice_get (scoping files) j ≡ Some x)
there files name x is = found_among (λ e. is_procedure (scope_kind files e) && bytes_eq (scope_name files e) name) (has_no_host files) (scoping files) x is

pub none_outside : (files : List FileTree) → AreTrees files → (name : List ℕ) → outside_number files name ≡ None → external_of files name ≡ None
none_outside files trees name none = by (unit_of files is_procedure name) refl where
  by : (o : Option Extent) → unit_of files is_procedure name ≡ o → option_map unit (unit_of files is_procedure name) ≡ None
  by None is = ap (option_map unit) is
  by (Some x) is =
      let (j, place) = there files name x is in
      let given : outside_number files name ≡ Some j = ap (option_and_then (scope_number files)) is ∙ number_of files trees j x place in
      absurd (cc (none, given))

one_outside : (files : List FileTree) → AreTrees files → (name : List ℕ) (number : ℕ) → outside_number files name ≡ Some number
    → (x : Extent) × (slice_get (scoping files) number ≡ Some x) × (external_of files name ≡ Some (unit x))
one_outside files trees name number some = by (unit_of files is_procedure name) refl where
  by : (o : Option Extent) → unit_of files is_procedure name ≡ o → (x : Extent) × (slice_get (scoping files) number ≡ Some x) × (external_of files name ≡ Some (unit x))
  by None is =
      let given : outside_number files name ≡ None = ap (option_and_then (scope_number files)) is in
      absurd (cc (some, given))
  by (Some x) is =
      let (j, place) = there files name x is in
      let given : outside_number files name ≡ Some j = ap (option_and_then (scope_number files)) is ∙ number_of files trees j x place in
      let same : j ≡ number = cc (some, given) in
      (x, ap (slice_get (scoping files)) (sym same) ∙ place, ap (option_map unit) is)

-- what is told of an interface body, by what is outside of its name
pub body_is : (files : List FileTree) (e : Extent) (o : Option Key) → is_body files e ≡ true → external_of files (scope_name files e) ≡ o
    → body_told files e ≡ against files (unwrap_or (name_token files e) 0) e o
body_is files e o is outside =
    ap (λ b. if b then against files (unwrap_or (name_token files e) 0) e (external_of files (scope_name files e)) else []) is
    ∙ ap (against files (unwrap_or (name_token files e) 0) e) outside

pub same_unit : (files : List FileTree) → AreTrees files → (name : List ℕ) (number : ℕ) (x : Extent) → outside_number files name ≡ Some number → slice_get (scoping files) number ≡ Some x
    → external_of files name ≡ Some (unit x)
same_unit files trees name number x some here =
    let (y, place, outside) = one_outside files trees name number some in
    let same : y ≡ x = cc (place, here) in
    outside ∙ ap (λ z. Some (unit z)) same
