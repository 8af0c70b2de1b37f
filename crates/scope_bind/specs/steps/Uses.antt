-- What USE statements list, by scoping units and by modules.
use Rattle.std.specs.Prelude.{◌≡◌, ℕ, Bool, List, [], Vec, map, Option, Some, None}
use Rattle.std.specs.List.{filter_map, list_any, cons_option}
use Rattle.std.specs.Option.{option_and_then, unwrap_or}
use Rattle.ftn_base.specs.declared.uses.UseItem.{UseItem}
use Rattle.ftn_base.specs.declared.uses.UseList.{UseList}
use Rattle.ftn_tree.specs.declared.parts.OnlyItem.{OnlyItem}
use Rattle.ftn_tree.specs.declared.parts.Rename.{Rename}
use Rattle.ftn_tree.specs.declared.table.Extent.{Extent}
use Rattle.ftn_tree.specs.declared.unit.FileTree.{FileTree}
use Rattle.ftn_tree.specs.Bindings.{module_token}
use Rattle.ftn_tree.specs.Extents.{scoping, layer_at}
use Rattle.ftn_tree.specs.Meanings.{use_lists, module_number, is_private_default}
use Rattle.ftn_tree.specs.NameFaults.{used_number, use_statements}
use Rattle.ftn_tree.specs.Scopes.{name_at, own_statements}
use Rattle.decl_table.specs.steps.Spelled.{Each, IsSpelled}

abbrev pub AreLists : {A : Type 0} → List FileTree → List (Vec UseList A) → Type 0
AreLists files lists = map (λ one. one.items) lists ≡ map (use_lists files) (scoping files)

abbrev pub item : List FileTree → ℕ → ℕ → ℕ → UseItem
item files file local source = record { local = name_at files file local; source = name_at files file source }

-- the token is that of a name
abbrev pub IsNameAt : List FileTree → ℕ → ℕ → Type 0
IsNameAt files file token = IsSpelled (name_at files file token)

abbrev pub AreRenames : List FileTree → ℕ → List Rename → Type 0
AreRenames files file renames = Each (λ (one : Rename). IsNameAt files file one.local × IsNameAt files file one.source) renames

abbrev pub AreOnlyItems : List FileTree → ℕ → List OnlyItem → Type 0
AreOnlyItems files file items = Each (λ (one : OnlyItem). IsNameAt files file (unwrap_or one.local one.source) × IsNameAt files file one.source) items

abbrev pub module_token_at : List FileTree → ℕ → ℕ → Option ℕ
module_token_at files file statement = option_and_then module_token (layer_at files file statement)

-- the module that a statement uses
abbrev pub used_by_token : List FileTree → ℕ → Option ℕ → Option ℕ
used_by_token files file None = None
used_by_token files file (Some token) = module_number files (name_at files file token)

abbrev pub used_at : List FileTree → ℕ → ℕ → List ℕ
used_at files file statement = cons_option (used_by_token files file (module_token_at files file statement)) []

-- the modules that a program unit uses
abbrev pub used_in : List FileTree → Extent → List ℕ
used_in files e = filter_map (used_number files e.file) (use_statements files e)

abbrev pub is_private : List FileTree → Extent → Bool
is_private files e = list_any (λ statement. is_private_default (layer_at files e.file statement)) (own_statements files e)
