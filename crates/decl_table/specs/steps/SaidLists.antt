-- All that is said in a scoping unit, without names.
use Rattle.std.specs.Prelude.{List}
use Rattle.std.specs.List.{flat_map}
use Rattle.ftn_tree.specs.declared.mention.Mention.{Mention}
use Rattle.ftn_tree.specs.declared.table.Extent.{Extent}
use Rattle.ftn_tree.specs.declared.unit.FileTree.{FileTree}
use Rattle.ftn_tree.specs.Scopes.{all_statements}
use Rattle.ftn_tree.specs.Sayings.{said_at}

abbrev pub all_said : List FileTree → Extent → List Mention
all_said files e = flat_map (said_at files e) (all_statements e)
