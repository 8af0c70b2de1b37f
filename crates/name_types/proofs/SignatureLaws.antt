-- What is kept of the names of scoping units tells the procedures.
use Rattle.std.proofs.Common.{◌≡◌, ℕ, suc, ◌+◌, Bool, List, [], ◌∷◌, map, Option, Some, None, slice_get, option_map, refl, ap, ap₂, ◌∙◌, arith}
use Rattle.std.specs.Option.{is_some, option_and_then}
use Rattle.ftn_tree.specs.declared.form.Form.TheOpen.{Form-F}
use Rattle.ftn_tree.specs.declared.table.Extent.{Extent}
use Rattle.ftn_tree.specs.declared.unit.FileTree.{FileTree}
use Rattle.ftn_tree.specs.DeclaredEntities.{unit_kind_at}
use Rattle.ftn_tree.specs.Extents.{layer_at, scoping}
use Rattle.ftn_tree.specs.KeyKinds.{Kind, datum, is_function, kind_of_datum}
use Rattle.ftn_tree.specs.Layers.{FormLayer}
use Rattle.ftn_tree.specs.NameFaults.{name_fault}
use Rattle.ftn_tree.specs.Procedures as spec
use Rattle.ftn_tree.specs.Procedures.{Formal, Signature, dummy_tokens, formal_of, result_token}
use Rattle.ftn_tree.specs.Projects.{AreTrees}
use Rattle.ftn_tree.specs.Scopes.{name_at}
use Rattle.name_types.specs.declared.declared.Declared.{Declared}
use Rattle.name_types.specs.steps.Declaring.{AreDeclared}
use Rattle.name_types.specs.steps.Signatures as steps
use Rattle.name_types.proofs.DeclaringLaws.{kind_is, out_is}

function_is : (layer : Option FormLayer) → is_some (result_token layer) ≡ is_function (unit_kind_at layer)
function_is (Some (Form-F.Program name)) = refl
function_is (Some (Form-F.Module name)) = refl
function_is (Some (Form-F.BlockData joined name)) = refl
function_is (Some (Form-F.Function ty name dummies result)) = refl
function_is other = refl

module _ (files : List FileTree) (trees : AreTrees files) (fine : name_fault files ≡ None) (d : Declared) (are : AreDeclared files d) where
  module _ (scope : ℕ) (e : Extent) (there : slice_get (scoping files) scope ≡ Some e) where
    formal_is : (name : List ℕ) → steps.formal_by d scope name ≡ formal_of files (datum e name)
    formal_is name = ap₂ make (kind_is files trees fine d are scope e there name) (out_is files trees fine d are scope e there name) where
      make : Option Kind → Bool → Formal
      make kind out = record { kind = kind; out = out }

    formals_are : (tokens : List ℕ) → map (steps.formal_at files d scope e.file) tokens ≡ map (formal_of files) (map (λ token. datum e (name_at files e.file token)) tokens)
    formals_are [] = refl
    formals_are (token ∷ tokens) = ap₂ (λ (x : Formal) (xs : List Formal). x ∷ xs) (formal_is (name_at files e.file token)) (formals_are tokens)

    result_is : (o : Option ℕ) → option_and_then (steps.kind_at files d scope e.file) o ≡ option_and_then (kind_of_datum files) (option_map (λ token. datum e (name_at files e.file token)) o)
    result_is None = refl
    result_is (Some token) = kind_is files trees fine d are scope e there (name_at files e.file token)

    signature_is : steps.signature_by files d scope e ≡ spec.signature_of files e
    signature_is =
        ap₂ (λ formals (rest : Bool × Option Kind). make formals rest.0 rest.1) (formals_are (dummy_tokens (layer_at files e.file e.opening)))
        (ap₂ (λ (a : Bool) (b : Option Kind). (a, b)) (function_is (layer_at files e.file e.opening)) (result_is (result_token (layer_at files e.file e.opening))))
      where
        make : List Formal → Bool → Option Kind → Signature
        make formals function result = record { procedure = e; formals = formals; function = function; result = result }

  pub signatures_are : (scope : ℕ) (units : List Extent) → ((j : ℕ) (e : Extent) → slice_get units j ≡ Some e → slice_get (scoping files) (scope + j) ≡ Some e)
      → steps.signatures_from files d scope units ≡ map (spec.signature_of files) units
  signatures_are scope [] there = refl
  signatures_are scope (e ∷ units) there =
      ap₂ (λ (x : Signature) (xs : List Signature). x ∷ xs) (signature_is scope e (ap (slice_get (scoping files)) (none scope) ∙ there 0 e refl))
      (signatures_are (scope + 1) units (λ j x is. ap (slice_get (scoping files)) (next scope j) ∙ there (suc j) x is))
    where
      none : (k : ℕ) → k ≡ k + 0
      none k = omega arith

      next : (k j : ℕ) → k + 1 + j ≡ k + suc j
      next k j = omega arith
