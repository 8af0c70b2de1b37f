-- What is found of a project, by the final numbers of entities.
use Rattle.std.specs.Prelude.{◌≡◌, ℕ, List, map, slice_get}
use Rattle.std.specs.Option.{unwrap_or}
use Rattle.ftn_base.specs.Exports.{Pair}
use Rattle.ftn_base.specs.declared.entity.EntityId.{EntityId}
use Rattle.ftn_tree.specs.declared.table.Bound.{Bound}
use Rattle.ftn_tree.specs.declared.table.Tables.{Tables}
use Rattle.ftn_tree.specs.declared.unit.FileTree.{FileTree}
use Rattle.ftn_tree.specs.Bindings.{Denoting, bound_entities, denotings, meaning_number, numbered_pair}
use Rattle.ftn_tree.specs.Extents.{scoping}
use Rattle.ftn_tree.specs.Meanings.{accessible_in}
use Rattle.scope_bind.specs.declared.binding.Found.{Found}
use Rattle.scope_bind.specs.declared.meaning.Meaning.{Meaning}
use Rattle.scope_bind.specs.declared.meaning.Meaning.TheVariants as made

abbrev pub final_of : List ℕ → Meaning → EntityId
final_of numbers (made.One entity) = record { 0 = unwrap_or (slice_get numbers entity.0) 0 }
final_of numbers other = record { 0 = 0 }

abbrev pub final_pair : List ℕ → Pair → Pair
final_pair numbers pair = (pair.0, final_of numbers (made.One pair.1))

pub record IsFound (files : List FileTree) (f : Found) : Type 0 where
  pub entities : f.entities ≡ bound_entities files
  pub denotes : f.denotes ≡ map (λ (d : Denoting). meaning_number files d.meaning) (denotings files)
  pub accessible : f.accessible ≡ map (λ e. map (numbered_pair files) (accessible_in files e)) (scoping files)

-- the tables with what is found
abbrev pub bound_with : Tables → Found → Bound
bound_with tables f = record {
  tables = record { scopes = tables.scopes; entities = f.entities; occurrences = tables.occurrences };
  denotes = f.denotes;
  accessible = f.accessible;
}
