-- What is known of a project that is gathered, and its first fault.
use Rattle.std.proofs.Common.{◌≡◌, ◌<◌, List, length, Option, None, option_map, sym, ap, ◌∙◌}
use Rattle.std.specs.List.{All}
use Rattle.std.proofs.lemmas.List.{length-map}
use Rattle.ftn_base.specs.declared.fault.Fault.{Fault}
use Rattle.ftn_tree.specs.declared.unit.FileTree.{FileTree}
use Rattle.ftn_tree.specs.ConstantFaults.{constant_fault}
use Rattle.ftn_tree.specs.Constants.{known_of}
use Rattle.ftn_tree.specs.DeclarationFaults.{fault_of}
use Rattle.ftn_tree.specs.Extents.{scoping}
use Rattle.ftn_tree.specs.NameFaults.{name_fault}
use Rattle.ftn_tree.specs.Projects.{AreTrees}
use Rattle.decl_table.specs.steps.Rows.{rows_of}
use Rattle.const_value.specs.declared.circles.Circles.{Circles}
use Rattle.const_value.specs.declared.knowledge.Knowledge.{Knowledge}
use Rattle.const_value.specs.declared.project.Project.{Project}
use Rattle.const_value.specs.steps.Findings.{gathered}
use Rattle.const_value.specs.steps.FirstFault.{all_told}
use Rattle.const_value.specs.steps.Gathered.{IsGathered}
use Rattle.const_value.specs.steps.Knowing.{measure_all, seen}
use Rattle.const_value.specs.steps.Known.{IsKnown, measured_of}
use Rattle.const_value.specs.steps.Names.{all_data}
use Rattle.const_value.specs.steps.Numbered.{AreEntities, AreNumbered}
use Rattle.const_value.specs.steps.References.{AreCircles, IsSized, IsWhole, all_uses}
use Rattle.ftn_base.specs.ModuleUses.{AreKnown}
use Rattle.const_value.proofs.AllKeys.{all_entities, all_numbered}
use Rattle.const_value.proofs.AllKnown as known
use Rattle.const_value.proofs.CircularFindings.{circle_defined, circle_told}
use Rattle.const_value.proofs.FaultSets as faults
use Rattle.const_value.proofs.GatheredNames.{names_count}
use Rattle.const_value.proofs.HeldThere.{are_held}
use Rattle.const_value.proofs.KindsThere.{have_kinds}
use Rattle.const_value.proofs.NameLaws.{named}
use Rattle.const_value.proofs.TiedNames as tied

module _ (files : List FileTree) (are : AreTrees files) (bound : name_fault files ≡ None) (p : Project) (g : IsGathered files p) where
  numbered : AreNumbered files
  numbered = all_numbered files are bound

  entities : AreEntities files
  entities = all_entities files are bound

  pub sized : IsSized p
  sized = tied.sized_is files p g are numbered entities

  pub uses_known : AreKnown (all_uses p)
  uses_known = known.names_known files p g are numbered entities

  module _ (c : Circles) (circles : AreCircles p c) where
    pub whole : IsWhole c
    whole = known.circles_whole p c circles uses_known

    pub uses_count : length c.uses.items ≡ length p.names.items
    uses_count = known.uses_count p c circles

    pub order_within : All (λ name. name < length p.names.items) c.order.items
    order_within = known.order_within p c circles

    module _ (all : Knowledge) (is : seen all ≡ measure_all p c) where
      pub known_is : IsKnown files p all.known.items all.namings.items
      known_is = known.is_known files p g are numbered entities c circles all is

      pub known_count : length all.known.items ≡ length p.names.items
      known_count = ap length known_is.names ∙ length-map (all_data files) (measured_of files (known_of files)) ∙ sym (names_count files p g)

      pub fault_here : (fault : Option Fault) → fault ≡ option_map (fault_of p.files.now) (gathered None (all_told c p all.known.items all.namings.items (rows_of p.files.now (scoping p.files.now))))
          → fault ≡ constant_fault files
      fault_here fault found =
          found
          ∙ faults.fault_is files are p g all.known.items all.namings.items known_is entities (are_held files are bound)
          (λ n d there. named files are p g all.known.items all.namings.items known_is entities (are_held files are bound) (have_kinds files are) n d there) c
          (circle_defined files p g are numbered entities c circles) (circle_told files p g are numbered entities c circles)
