-- The tokens of the items of USE are those of names.
use Rattle.std.proofs.Common.{◌≡◌, ℕ, List, [], ◌∷◌, ◌++◌, Option, Some, None, subst}
use Rattle.std.specs.Option.{option_map, option_map_or, unwrap_or}
use Rattle.ftn_tree.specs.declared.form.Form.{Form, out-Form}
use Rattle.ftn_tree.specs.declared.form.Form.TheOpen.{Form-F}
use Rattle.ftn_tree.specs.declared.mention.Mention.{Mention}
use Rattle.ftn_tree.specs.declared.mention.Role.TheVariants as role
use Rattle.ftn_tree.specs.declared.parts.OnlyItem.{OnlyItem}
use Rattle.ftn_tree.specs.declared.parts.Rename.{Rename}
use Rattle.ftn_tree.specs.declared.unit.FileTree.{FileTree}
use Rattle.ftn_tree.specs.Layers.{FormLayer}
use Rattle.ftn_tree.specs.Extents.{form_at, layer_at}
use Rattle.ftn_tree.specs.Mentions.{mentions_at as mentions_in, mentions_of}
use Rattle.ftn_tree.specs.PartMentions.{maybe_named, in_renames, in_only_items}
use Rattle.ftn_tree.specs.Projects.{AreTrees}
use Rattle.ftn_tree.specs.Roles.{mention}
use Rattle.decl_table.specs.steps.Spelled.{Each}
use Rattle.decl_table.proofs.MentionNames.{mentions_named}
use Rattle.scope_bind.specs.steps.Uses.{IsNameAt, AreRenames, AreOnlyItems}

renames_named : (P : ℕ → Type 0) (renames : List Rename) → Each (λ (m : Mention). P m.token) (in_renames renames) → Each (λ (one : Rename). P one.local × P one.source) renames
renames_named P [] all = tt
renames_named P (one ∷ rest) all = ((all.0, all.1.0), renames_named P rest all.1.1)

only_named : (P : ℕ → Type 0) (items : List OnlyItem) → Each (λ (m : Mention). P m.token) (in_only_items items)
    → Each (λ (one : OnlyItem). P (unwrap_or one.local one.source) × P one.source) items
only_named P [] all = tt
only_named P (one ∷ rest) all = by one.local all (λ more. only_named P rest more) where
  by : (local : Option ℕ) → Each (λ (m : Mention). P m.token) ((maybe_named role.Local local ++ mention one.source role.Source ∷ []) ++ in_only_items rest)
      → (Each (λ (m : Mention). P m.token) (in_only_items rest) → Each (λ (one : OnlyItem). P (unwrap_or one.local one.source) × P one.source) rest)
      → (P (unwrap_or local one.source) × P one.source) × Each (λ (one : OnlyItem). P (unwrap_or one.local one.source) × P one.source) rest
  by None all others = ((all.0, all.0), others all.1)
  by (Some local) all others = ((all.0, all.1.0), others all.1.1)

-- the names of a statement of that layer
layer_named : (files : List FileTree) → AreTrees files → (file statement : ℕ) (layer : FormLayer) → layer_at files file statement ≡ Some layer → Each (λ (m : Mention). IsNameAt files file m.token) (mentions_in layer)
layer_named files are file statement layer is = by (form_at files file statement) (mentions_named files are file statement) is where
  by : (found : Option Form) → Each (λ (m : Mention). IsNameAt files file m.token) (option_map_or mentions_of found []) → option_map out-Form found ≡ Some layer
      → Each (λ (m : Mention). IsNameAt files file m.token) (mentions_in layer)
  by None all is = absurd (cc is)
  by (Some form) all is = subst (λ (l : FormLayer). Each (λ (m : Mention). IsNameAt files file m.token) (mentions_in l)) (some_same (out-Form form) layer is) all where
    some_same : (x y : FormLayer) → Some x ≡ Some y → x ≡ y
    some_same x y same = cc same

pub renames_spelled : (files : List FileTree) → AreTrees files → (file statement name : ℕ) (renames : List Rename) → layer_at files file statement ≡ Some (Form-F.UseAll name renames) → AreRenames files file renames
renames_spelled files are file statement name renames is = renames_named (IsNameAt files file) renames (layer_named files are file statement (Form-F.UseAll name renames) is).1

pub only_spelled : (files : List FileTree) → AreTrees files → (file statement name : ℕ) (items : List OnlyItem) → layer_at files file statement ≡ Some (Form-F.UseOnly name items) → AreOnlyItems files file items
only_spelled files are file statement name items is = only_named (IsNameAt files file) items (layer_named files are file statement (Form-F.UseOnly name items) is).1
