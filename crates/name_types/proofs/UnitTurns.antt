-- One more scoping unit.
use Rattle.std.proofs.Common.{◌≡◌, ℕ, ◌+◌, ◌<◌, List, [], ◌∷◌, ◌++◌, map, take, length, sym, ap₂, ◌∙◌}
use Rattle.ftn_tree.specs.declared.table.Extent.{Extent}
use Rattle.ftn_tree.specs.declared.unit.FileTree.{FileTree}
use Rattle.ftn_tree.specs.Extents.{scoping}
use Rattle.decl_table.proofs.Entries.{one_more}
use Rattle.const_value.proofs.UnitNumbers.{unit_there}
use Rattle.name_types.specs.steps.Generics.{unit_at}

pub unit_pushed : {A : Type 0} (f : Extent → A) (files : List FileTree) (n : ℕ) → n < length (scoping files) → (made now : List A) (new : A)
    → made ≡ map f (take n (scoping files)) → now ≡ made ++ new ∷ [] → new ≡ f (unit_at files n) → now ≡ map f (take (n + 1) (scoping files))
unit_pushed f files n less made now new before pushed is =
    pushed ∙ ap₂ (λ xs y. xs ++ y ∷ []) before is ∙ sym (one_more f (scoping files) n (unit_at files n) (unit_there files n less))
