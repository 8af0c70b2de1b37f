-- Where blank common stands in some units.
use Rattle.std.specs.Prelude.{List, map}
use Rattle.std.specs.List.{filter, flat_map}
use Rattle.ftn_tree.specs.declared.table.Extent.{Extent}
use Rattle.ftn_tree.specs.declared.unit.FileTree.{FileTree}
use Rattle.ftn_tree.specs.Extents.{layer_at}
use Rattle.ftn_tree.specs.Scopes.{first_token_at, all_statements}
use Rattle.ftn_tree.specs.GlobalNames.{Place, place}
use Rattle.ftn_tree.specs.DeclaredEntities.{lists_blank_at}

abbrev pub blanks_of : List FileTree → List Extent → List Place
blanks_of files units =
    flat_map (λ e. map (λ statement. place e.file (first_token_at files e.file statement))
    (filter (λ statement. lists_blank_at (layer_at files e.file statement)) (all_statements e))) units
