-- Items of USE by the tokens in them.
use Rattle.std.specs.Prelude.{◌≡◌, ℕ, ◌==◌, nat_eq, List, [], map, Option, Some, None}
use Rattle.std.specs.List.{find}
use Rattle.std.specs.Option.{option_map}
use Rattle.indexmap.specs.IndexMap.{IndexMap, get_by}
use Rattle.ftn_base.specs.declared.entity.EntityId.{EntityId}
use Rattle.ftn_tree.specs.declared.unit.FileTree.{FileTree}
use Rattle.ftn_tree.specs.Bindings.{item_tokens, item_keys}
use Rattle.ftn_tree.specs.Extents.{layer_at}
use Rattle.ftn_tree.specs.Layers.{FormLayer}
use Rattle.scope_bind.specs.declared.items.UseItems.{UseItems}
use Rattle.scope_bind.specs.steps.Numbering.{number}
use Rattle.scope_bind.specs.steps.Uses.{module_token_at, used_by_token}

-- the name in the module of the first item with that token
abbrev pub source_of : ℕ → List (ℕ × ℕ) → Option ℕ
source_of token items = option_map (λ item. item.1) (find (λ item. item.0 == token) items)

-- what a map has
abbrev pub source_in : {S : Type 0} → IndexMap ℕ ℕ S → ℕ → Option ℕ
source_in map token = get_by (nat_eq token) map

abbrev pub items_at : Option FormLayer → List (ℕ × ℕ)
items_at None = []
items_at (Some form) = item_tokens form

pub record AreItems (files : List FileTree) (file statement : ℕ) (u : UseItems) : Type 0 where
  pub number : u.number ≡ used_by_token files file (module_token_at files file statement)
  pub sources : (token : ℕ) → source_in u.sources token ≡ source_of token (items_at (layer_at files file statement))

-- what an item gives, by numbers
abbrev pub entities_at : List FileTree → ℕ → ℕ → ℕ → List EntityId
entities_at files file statement token = map (number files) (item_keys files file (layer_at files file statement) token)
