-- What is gathered of names is right.
use Rattle.std.proofs.Common.{◌≡◌, ℕ, ◌+◌, List, map, slice_get, Some, None, ap, subst, ◌∙◌, arith}
use Rattle.ftn_tree.specs.declared.table.Bound.{Bound}
use Rattle.ftn_tree.specs.declared.table.Extent.{Extent}
use Rattle.ftn_tree.specs.declared.unit.FileTree.{FileTree}
use Rattle.ftn_tree.specs.Extents.{scoping}
use Rattle.ftn_tree.specs.NameFaults.{name_fault}
use Rattle.ftn_tree.specs.Procedures.{signature_of}
use Rattle.ftn_tree.specs.Projects.{AreTrees}
use Rattle.name_types.specs.declared.declared.Declared.{Declared}
use Rattle.name_types.specs.declared.kinds.Signature.{Signature}
use Rattle.name_types.specs.declared.names.Names.{Names}
use Rattle.name_types.specs.steps.Declaring.{AreDeclared}
use Rattle.name_types.specs.steps.Gathered.{HasNaming}
use Rattle.name_types.specs.steps.Kinds.{signature_seen}
use Rattle.name_types.specs.steps.Namings.{AreKept}
use Rattle.name_types.specs.steps.Signatures.{signatures_from}
use Rattle.ftn_tree.specs.KeyKinds.{key_at}
use Rattle.ftn_tree.specs.Meanings.{Key}
use Rattle.name_types.proofs.NamingLaws.{namings_are}
use Rattle.name_types.proofs.SignatureLaws.{signatures_are}

module _ (files : List FileTree) (trees : AreTrees files) (fine : name_fault files ≡ None) (d : Declared) (are : AreDeclared files d) where
  pub signatures_built : (made : List Signature) (units : List Extent) → units ≡ scoping files → map signature_seen made ≡ signatures_from files d 0 units
      → map signature_seen made ≡ map (signature_of files) (scoping files)
  signatures_built made units same is =
      is ∙ ap (signatures_from files d 0) same ∙ signatures_are files trees fine d are 0 (scoping files) (λ j e there. ap (slice_get (scoping files)) (zero_plus j) ∙ there)
    where
      zero_plus : (j : ℕ) → 0 + j ≡ j
      zero_plus j = omega arith

  pub namings_built : (names : Names) → AreKept files d d.project.now.bound.now.tables.entities names.namings.items → (file token : ℕ) (key : Key) → key_at files file token ≡ Some key → HasNaming files names key
  namings_built names kept = namings_are files trees fine d are names (subst (λ entities. AreKept files d entities names.namings.items) (ap (λ (b : Bound). b.tables.entities) are.gathered.tables) kept)
