-- Where names occur among mentions.
use Rattle.std.specs.Prelude.{ℕ, false, ◌&&◌, ◌||◌, if◌then◌else◌, List}
use Rattle.std.specs.List.{find, list_any}
use Rattle.std.specs.Option.{option_map_or, unwrap_or}
use Rattle.std.specs.Borrow.{Bor}
use Rattle.std.specs.Str.{bytes_eq}
use Rattle.indexmap.specs.IndexMap.{IndexMap, get_by}
use Rattle.ftn_tree.specs.declared.mention.Mention.{Mention}
use Rattle.ftn_tree.specs.declared.mention.Role.TheVariants as role
use Rattle.ftn_tree.specs.declared.unit.FileTree.{FileTree}
use Rattle.ftn_tree.specs.Roles.{same_role}
use Rattle.ftn_tree.specs.DeclaredEntities.{may_be_own, is_named}
use Rattle.decl_table.specs.declared.noted.Noted.{Noted}

abbrev pub noted_of : List FileTree → ℕ → List ℕ → List Mention → Noted
noted_of files file name own = record {
  first = option_map_or (λ (m : Mention). m.token) (find (λ m. may_be_own m.role && is_named files file name m) own) 0;
  referenced = list_any (λ m. same_role m.role role.Parenthesised && is_named files file name m) own;
}

abbrev pub nothing : Noted
nothing = record { first = 0; referenced = false }

-- with one more mention of the name before them
abbrev pub after : Mention → Noted → Noted
after m n = record { first = if may_be_own m.role then m.token else n.first; referenced = same_role m.role role.Parenthesised || n.referenced }

-- what a map has by that name
abbrev pub noted_in : {S : Type 0} → IndexMap (Bor (List ℕ)) Noted S → List ℕ → Noted
noted_in names name = unwrap_or (get_by (λ key. bytes_eq name key.now) names) nothing
