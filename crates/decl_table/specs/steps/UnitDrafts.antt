-- Drafts of program units and procedures.
use Rattle.std.specs.Prelude.{ℕ, false, List, Option, Some}
use Rattle.std.specs.Option.{unwrap_or}
use Rattle.ftn_tree.specs.declared.table.Extent.{Extent}
use Rattle.ftn_tree.specs.declared.unit.FileTree.{FileTree}
use Rattle.ftn_tree.specs.Extents.{layer_at}
use Rattle.ftn_tree.specs.Scopes.{name_token, first_token_at}
use Rattle.ftn_tree.specs.DeclaredEntities.{unit_kind_at, is_untyped_at}
use Rattle.decl_table.specs.declared.draft.Draft.{Draft}

abbrev pub draft_by : List FileTree → Extent → ℕ → Option ℕ → Draft
draft_by files e number host = record {
  file = e.file;
  token = unwrap_or (name_token files e) (first_token_at files e.file e.opening);
  last = false;
  name = name_token files e;
  home = host;
  kind = unit_kind_at (layer_at files e.file e.opening);
  implicit = is_untyped_at files e (layer_at files e.file e.opening);
  opens = Some number;
}
