-- What is known of a project before it is known what USE makes accessible.
use Rattle.std.specs.Prelude.{◌≡◌, ◌&&◌, ℕ, Bool, List, length, map, slice_get, Some}
use Rattle.std.specs.List.{filter}
use Rattle.ftn_tree.specs.declared.mention.Mention.{Mention}
use Rattle.ftn_tree.specs.declared.table.Extent.{Extent}
use Rattle.ftn_tree.specs.declared.unit.FileTree.{FileTree}
use Rattle.ftn_tree.specs.DeclaredEntities.{tables_of, own_mentions, is_named}
use Rattle.ftn_tree.specs.Extents.{scoping as units_of}
use Rattle.ftn_tree.specs.Meanings.{is_plain, stands_plain}
use Rattle.ftn_tree.specs.Projects.{AreTrees}
use Rattle.ftn_tree.specs.Sayings.{sayings, same_name}
use Rattle.decl_table.specs.steps.Heard.{heard_in, heard_of}
use Rattle.decl_table.specs.steps.Located.{IsScoping}
use Rattle.decl_table.specs.steps.Noted.{noted_in, noted_of}
use Rattle.decl_table.specs.steps.Seen.{has_come}
use Rattle.scope_bind.specs.declared.known.Known.{Known}
use Rattle.scope_bind.specs.declared.names.Names.{Names}
use Rattle.scope_bind.specs.steps.Small.{IsSmall}
use Rattle.scope_bind.specs.steps.Globals.{AreGlobals}
use Rattle.scope_bind.specs.steps.Numbering.{IsNumbering}
use Rattle.scope_bind.specs.steps.Told.{told_in, told_of}

abbrev pub is_plain_of : List FileTree → ℕ → List ℕ → Mention → Bool
is_plain_of files file name m = is_plain m && is_named files file name m

-- what is said of the names of a scoping unit
pub record AreNames (files : List FileTree) (e : Extent) (n : Names) : Type 0 where
  pub heard : (name : List ℕ) → heard_in n.heard name ≡ heard_of (filter (same_name name) (sayings files e))
  pub noted : (name : List ℕ) → noted_in n.noted name ≡ noted_of files e.file name (own_mentions files e)
  pub told : (name : List ℕ) → told_in n.told name ≡ told_of (filter (same_name name) (sayings files e))
  pub plain : (name : List ℕ) → has_come n.plain name ≡ stands_plain files e name

-- of each scoping unit
pub record AreAllNames (files : List FileTree) (all : List Names) : Type 0 where
  pub count : length all ≡ length (units_of files)
  pub each : (at : ℕ) (e : Extent) (n : Names) → slice_get (units_of files) at ≡ Some e → slice_get all at ≡ Some n → AreNames files e n

pub record IsKnown (k : Known) : Type 0 where
  pub trees : AreTrees k.files.now
  pub small : IsSmall k.files.now
  pub tables : k.tables.now ≡ tables_of k.files.now
  pub scoping : IsScoping k.files.now k.scoping.now
  pub said : map (λ one. one.items) k.said.now ≡ map (sayings k.files.now) (units_of k.files.now)
  pub own : map (λ one. one.items) k.own.now ≡ map (own_mentions k.files.now) (units_of k.files.now)
  pub names : AreAllNames k.files.now k.names.now
  pub globals : AreGlobals k.files.now k.globals.now
  pub numbering : IsNumbering k.files.now k.numbering.now
