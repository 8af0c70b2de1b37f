-- The faults of one name: its type, and what USE makes accessible by it.
use Rattle.std.proofs.Common.{◌≡◌, ℕ, ◌+◌, ◌<◌, Bool, true, false, cond, List, [], ◌∷◌, length, get_or, map, Option, Some, None, refl, sym, ap, ap₂, ◌∙◌, nat_eq}
use Rattle.std.specs.Prelude.{◌&&◌, ◌||◌, not, slice_get}
use Rattle.std.specs.List.{list_any}
use Rattle.std.specs.Option.{option_map_or}
use Rattle.std.proofs.lemmas.List.{length-map}
use Rattle.ftn_base.specs.Accessible.{entities_of}
use Rattle.ftn_base.specs.Exports.{PairOf}
use Rattle.ftn_base.specs.declared.entity.Letter.{Letter}
use Rattle.ftn_base.specs.declared.entity.Letter.TheVariants as letter
use Rattle.ftn_base.specs.declared.fault.FaultKind.{FaultKind}
use Rattle.ftn_base.specs.declared.fault.FaultKind.TheVariants.{Conflicting}
use Rattle.ftn_tree.specs.declared.table.EntityKind.{EntityKind}
use Rattle.ftn_tree.specs.declared.table.Extent.{Extent}
use Rattle.ftn_tree.specs.declared.table.Scope.{Scope}
use Rattle.ftn_tree.specs.declared.unit.FileTree.{FileTree}
use Rattle.ftn_tree.specs.Bindings.{is_letter_typed}
use Rattle.ftn_tree.specs.DeclarationFaults.{Finding, first_finding, found}
use Rattle.ftn_tree.specs.DeclaredEntities.{has_result_at, has_type, is_referenced, is_said, kind_said}
use Rattle.ftn_tree.specs.Extents.{layer_at}
use Rattle.ftn_tree.specs.GlobalNames.{Place, place}
use Rattle.ftn_tree.specs.Meanings as meanings
use Rattle.ftn_tree.specs.NameFaults as spec
use Rattle.ftn_tree.specs.Sayings.{Saying, typed, answer, declares}
use Rattle.decl_table.specs.declared.heard.Heard.{Heard}
use Rattle.decl_table.specs.steps.Heard.{heard_of}
use Rattle.scope_bind.specs.steps.Meaning.{all_numbered}
use Rattle.scope_bind.specs.steps.NameFaults as steps
use Rattle.scope_bind.specs.steps.Numbering.{number}
use Rattle.scope_bind.proofs.Natural.{entities_told}

module _ (files : List FileTree) (e : Extent) (name : List ℕ) where
  abbrev said : List Saying
  said = spec.said_of files e name

  abbrev types_by : Bool → Letter → List Finding
  types_by needs l = cond needs (spec.letter_finding (place e.file (spec.begins said)) l) []

  pub type_found : (kind : FaultKind) → spec.needs_type files e name said ≡ true → steps.letter_kind (spec.letter_of files e name) ≡ Some kind
      → Some (steps.found_at files kind e name) ≡ first_finding spec.name_rank (steps.types_of files e name)
  type_found kind holds is = by (spec.letter_of files e name) is ∙ sym (ap (λ b. first_finding spec.name_rank (types_by b (spec.letter_of files e name))) holds) where
    by : (l : Letter) → steps.letter_kind l ≡ Some kind → Some (steps.found_at files kind e name) ≡ first_finding spec.name_rank (types_by true l)
    by letter.Nothing is = ap (λ (k : Option FaultKind). option_map_or (λ k. Some (steps.found_at files k e name)) k None) (sym is)
    by letter.Real is = ap (λ (k : Option FaultKind). option_map_or (λ k. Some (steps.found_at files k e name)) k None) (sym is)
    by (letter.Known ty) is = absurd (cc is)

-- what USE makes accessible by a name
pub used_told : (files : List FileTree) (pairs : List (PairOf meanings.Key)) (name : List ℕ)
    → not (nat_eq (length (entities_of (all_numbered files pairs) name)) 0) ≡ not (nat_eq (length (meanings.keys_of name pairs)) 0)
used_told files pairs name = ap (λ n. not (nat_eq n 0)) (ap length (entities_told (number files) pairs name) ∙ length-map (meanings.keys_of name pairs) (number files))
