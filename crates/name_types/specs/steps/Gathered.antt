-- What is kept of the names of a project, by what its files define. It serves the proof alone.
use Rattle.std.specs.Prelude.{◌≡◌, ℕ, Bool, List, map, slice_get, Option, Some, None}
use Rattle.std.specs.Option.{option_map, option_map_or, option_and_then}
use Rattle.std.specs.List.{filter_map}
use Rattle.ftn_tree.specs.declared.table.EntityKind.{EntityKind}
use Rattle.ftn_tree.specs.declared.table.EntityKind.TheVariants as kinds
use Rattle.ftn_tree.specs.declared.table.Extent.{Extent}
use Rattle.ftn_tree.specs.declared.intrinsic.Intrinsic.{Intrinsic as IntrinsicFunction}
use Rattle.ftn_tree.specs.declared.unit.FileTree.{FileTree}
use Rattle.ftn_tree.specs.DeclaredEntities.{has_result_at}
use Rattle.ftn_tree.specs.EntityValues.{values_of}
use Rattle.ftn_tree.specs.Extents.{scoping, layer_at}
use Rattle.ftn_tree.specs.Intrinsics.{function_named}
use Rattle.ftn_tree.specs.KeyKinds.{datum_of, key_at, kind_of, sort_of, rank_of, may_be_defined}
use Rattle.ftn_tree.specs.Meanings.{Key, unit, own, intrinsic_function}
use Rattle.ftn_tree.specs.Procedures.{signature_of, specific_keys}
use Rattle.ftn_tree.specs.Scopes.{host_number}
use Rattle.const_value.specs.steps.Gathered.{IsGathered, entity_index}
use Rattle.const_value.specs.steps.Projects.{sort_seen}
use Rattle.name_types.specs.declared.names.Naming.{Naming}
use Rattle.name_types.specs.declared.names.Names.{Names}
use Rattle.name_types.specs.declared.names.What.{What}
use Rattle.name_types.specs.declared.names.What.TheVariants as what
use Rattle.name_types.specs.steps.Kinds.{signature_seen}

-- what an entity is, scoping units by their extents
pub data Due : Type 0 where
  Data : Bool → Due
  Function : Option Extent → Bool → Due
  Subroutine : Option Extent → Due
  Generic : List Extent → Due
  Intrinsic : Option IntrinsicFunction → Due
  Other : Due

abbrev pub extent_numbered : List FileTree → ℕ → Option Extent
extent_numbered files number = slice_get (scoping files) number

abbrev pub what_seen : List FileTree → What → Due
what_seen files (what.Data definable) = Data definable
what_seen files (what.Function scope answer) = Function (extent_numbered files scope) answer
what_seen files (what.Subroutine scope) = Subroutine (extent_numbered files scope)
what_seen files (what.Generic specifics) = Generic (filter_map (extent_numbered files) specifics.items)
what_seen files (what.Intrinsic function) = Intrinsic function
what_seen files what.Other = Other

abbrev pub unit_in : Key → Option Extent
unit_in (unit e) = Some e
unit_in other = None

abbrev pub unit_due : List FileTree → EntityKind → Extent → Due
unit_due files kinds.Function e = Function (Some e) (has_result_at (layer_at files e.file e.opening))
unit_due files kinds.Subroutine e = Subroutine (Some e)
unit_due files other e = Other

abbrev pub own_due : List FileTree → EntityKind → Extent → List ℕ → Due
own_due files kinds.Generic e name = Generic (filter_map unit_in (specific_keys files e name))
own_due files kinds.Construct e name = Other
own_due files other e name = Data (may_be_defined files (own e name))

abbrev pub due : List FileTree → Key → Due
due files (unit e) = unit_due files (kind_of files (unit e)) e
due files (own e name) = own_due files (kind_of files (own e name)) e name
due files (intrinsic_function name) = Intrinsic (function_named name)
due files other = Other

pub record IsNaming (files : List FileTree) (key : Key) (naming : Naming) : Type 0 where
  pub sort : option_map sort_seen naming.sort ≡ option_and_then (sort_of files) (datum_of files key)
  pub rank : naming.rank ≡ option_map_or (rank_of files) (datum_of files key) 0
  pub what : what_seen files naming.what ≡ due files key

-- of an entity that a name denotes, there is one that is right
pub record HasNaming (files : List FileTree) (names : Names) (key : Key) : Type 0 where
  pub naming : Naming
  pub at : slice_get names.namings.items (entity_index files key) ≡ Some naming
  pub right : IsNaming files key naming

pub record AreNames (files : List FileTree) (names : Names) : Type 0 where
  pub gathered : IsGathered files names.project.now
  pub values : names.values.now ≡ values_of files
  pub hosts : names.hosts.items ≡ map (host_number files) (scoping files)
  pub signatures : map signature_seen names.signatures.items ≡ map (signature_of files) (scoping files)
  pub namings : (file token : ℕ) (key : Key) → key_at files file token ≡ Some key → HasNaming files names key
