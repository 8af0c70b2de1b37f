-- Drafts of entities, by tokens.
use Rattle.std.specs.Prelude.{Bool, not, ◌&&◌, ◌||◌, List}
use Rattle.std.specs.Option.{option_map}
use Rattle.ftn_tree.specs.declared.unit.FileTree.{FileTree}
use Rattle.ftn_tree.specs.Scopes.{name_at}
use Rattle.ftn_tree.specs.GlobalNames.{Place, place, before}
use Rattle.ftn_tree.specs.DeclaredEntities.{Drafted, drafted}
use Rattle.decl_table.specs.declared.draft.Draft.{Draft}

abbrev pub at : Draft → Place
at d = place d.file d.token

abbrev pub ahead : Draft → Draft → Bool
ahead one other = (not one.last && other.last) || ((not one.last || other.last) && before (at one) (at other))

-- what a draft stands for
abbrev pub drafted_of : List FileTree → Draft → Drafted
drafted_of files d = drafted files (at d) d.last (option_map (name_at files d.file) d.name) d.home d.kind d.implicit d.opens
