-- Items that a module doesn't make public, mention by mention.
use Rattle.std.specs.Prelude.{ℕ, if◌then◌else◌, List, [], ◌∷◌}
use Rattle.std.specs.List.{flat_map}
use Rattle.ftn_base.specs.declared.fault.FaultKind.TheVariants.{NotPublic}
use Rattle.ftn_tree.specs.declared.mention.Mention.{Mention}
use Rattle.ftn_tree.specs.declared.table.Extent.{Extent}
use Rattle.ftn_tree.specs.declared.unit.FileTree.{FileTree}
use Rattle.ftn_tree.specs.DeclarationFaults.{Finding, found}
use Rattle.ftn_tree.specs.GlobalNames.{place, has_no_host}
use Rattle.ftn_tree.specs.NameFaults.{is_not_public, not_public_at}
use Rattle.ftn_tree.specs.Scopes.{all_statements}
use Rattle.scope_bind.specs.steps.Globals.{unit_at}

abbrev pub item_findings : List FileTree → ℕ → ℕ → Mention → List Finding
item_findings files file statement m = if is_not_public files file statement m then found NotPublic (place file m.token) ∷ [] else []

abbrev pub unit_items : List FileTree → Extent → List Finding
unit_items files e = flat_map (not_public_at files e.file) (all_statements e)

abbrev pub outer_items : List FileTree → ℕ → List Finding
outer_items files scope = if has_no_host files (unit_at files scope) then unit_items files (unit_at files scope) else []
