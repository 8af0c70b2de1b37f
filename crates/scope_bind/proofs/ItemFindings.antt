-- Items that a module doesn't make public, place after place.
use Rattle.std.proofs.Common.{◌≡◌, ℕ, Bool, true, false, cond, List, [], ◌∷◌, length, map, Option, Some, None, refl, sym, ap, ◌∙◌}
use Rattle.std.specs.Prelude.{◌&&◌, nat_eq}
use Rattle.std.specs.List.{flat_map, range_with_len}
use Rattle.std.specs.Option.{is_some, option_and_then, option_map_or}
use Rattle.std.proofs.lemmas.List.{length-map}
use Rattle.ftn_base.specs.declared.entity.EntityId.{EntityId}
use Rattle.ftn_base.specs.declared.fault.FaultKind.TheVariants.{NotPublic}
use Rattle.ftn_tree.specs.declared.mention.Mention.{Mention}
use Rattle.ftn_tree.specs.declared.mention.Role.TheVariants as role
use Rattle.ftn_tree.specs.declared.table.Extent.{Extent}
use Rattle.ftn_tree.specs.declared.unit.FileTree.{FileTree}
use Rattle.ftn_tree.specs.Bindings.{item_keys}
use Rattle.ftn_tree.specs.DeclarationFaults.{Finding, found, first_finding}
use Rattle.ftn_tree.specs.Extents.{scoping, layer_at, host_of}
use Rattle.ftn_tree.specs.GlobalNames.{place, has_no_host, program_units}
use Rattle.ftn_tree.specs.NameFaults.{use_rank, is_not_public, not_public_at, not_public_findings}
use Rattle.ftn_tree.specs.Projects.{AreTrees}
use Rattle.ftn_tree.specs.Roles.{same_role}
use Rattle.ftn_tree.specs.Scopes.{host_number, scope_number}
use Rattle.ftn_tree.specs.Sayings.{mentions_at}
use Rattle.scope_bind.specs.steps.Globals.{unit_at}
use Rattle.scope_bind.specs.steps.ItemFaults.{item_findings, unit_items, outer_items}
use Rattle.scope_bind.specs.steps.Items.{entities_at}
use Rattle.scope_bind.specs.steps.Numbering.{number}
use Rattle.scope_bind.proofs.FindingTurns.{over_units, over_passing, over_single}
use Rattle.scope_bind.proofs.Units.{host_is}

module _ (files : List FileTree) where
  pub statement_items : (file statement : ℕ) → flat_map (item_findings files file statement) (mentions_at files file statement) ≡ not_public_at files file statement
  statement_items file statement = over_single (is_not_public files file statement) (λ (m : Mention). found NotPublic (place file m.token)) (mentions_at files file statement)

  pub all_items : flat_map (outer_items files) (range_with_len 0 (length (scoping files))) ≡ not_public_findings files
  all_items = over_units files (λ e. cond (has_no_host files e) (unit_items files e) []) ∙ over_passing (has_no_host files) (unit_items files) (scoping files)

  -- a scoping unit without a host
  pub outer_is : AreTrees files → (scope : ℕ) → is_some (host_number files (unit_at files scope)) ≡ false → unit_items files (unit_at files scope) ≡ outer_items files scope
  outer_is are scope none = by (host_of files (unit_at files scope)) (λ h there. host_is files are (unit_at files scope) h there) refl where
    by : (found : Option Extent) → ((h : Extent) → host_of files (unit_at files scope) ≡ Some h → (j : ℕ) × (scope_number files h ≡ Some j) × (unit_at files j ≡ h)) → host_of files (unit_at files scope) ≡ found
        → unit_items files (unit_at files scope) ≡ outer_items files scope
    by None there is = sym (ap (λ o. cond (option_map_or (λ host. false) o true) (unit_items files (unit_at files scope)) []) is)
    by (Some h) there is =
        let (j, number, same) = there h is in
        absurd (cc (sym none ∙ ap (λ o. is_some (option_and_then (scope_number files) o)) is ∙ ap is_some number))
