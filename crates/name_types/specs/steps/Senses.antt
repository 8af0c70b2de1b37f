-- What names are by what the code keeps of them. It serves the proof alone.
use Rattle.std.specs.Borrow.{Bor}
use Rattle.std.specs.Prelude.{◌≡◌, ℕ, zero, suc, ◌==◌, Bool, true, false, not, ◌&&◌, ◌||◌, if◌then◌else◌, List, length, slice_get, Option, Some, None}
use Rattle.std.specs.List.{filter_map}
use Rattle.std.specs.Option.{option_copied, option_map, option_map_or, option_and_then}
use Rattle.ftn_tree.specs.declared.table.Extent.{Extent}
use Rattle.ftn_tree.specs.declared.unit.FileTree.{FileTree}
use Rattle.ftn_tree.specs.KeyKinds as kinds
use Rattle.ftn_tree.specs.KeyKinds.{key_at}
use Rattle.ftn_tree.specs.Procedures as spec
use Rattle.ftn_tree.specs.Procedures.{sense_at, called_sense}
use Rattle.ftn_tree.specs.Sorts.{Sort}
use Rattle.ftn_tree.specs.TypeFaults.{sort_at, rank_at}
use Rattle.const_expr.specs.Namings.{entity_in}
use Rattle.const_value.specs.steps.Projects.{row_in, sort_seen}
use Rattle.name_types.specs.declared.kinds.Sense.{Sense}
use Rattle.name_types.specs.declared.kinds.Sense.TheVariants as kept
use Rattle.name_types.specs.declared.kinds.Signature.{Signature}
use Rattle.name_types.specs.declared.names.Naming.{Naming}
use Rattle.name_types.specs.declared.names.What.{What}
use Rattle.name_types.specs.declared.names.What.TheVariants as what
use Rattle.name_types.specs.declared.names.Names.{Names}
use Rattle.name_types.specs.declared.names.Setting.{Setting}
use Rattle.name_types.specs.steps.Kinds.{kind_seen, signature_seen}

abbrev pub naming_at : Names → ℕ → ℕ → Option Naming
naming_at names file token = option_and_then (slice_get names.namings.items) (entity_in (row_in names.project.now.rows.items file) token)

abbrev pub signature_at : List Signature → ℕ → Option spec.Signature
signature_at signatures scope = option_map signature_seen (slice_get signatures scope)

abbrev pub host_in : List (Option ℕ) → ℕ → Option ℕ
host_in hosts scope = option_and_then (λ host. host) (slice_get hosts scope)

-- a scoping unit is another one or inside it: no more than that many hosts on
abbrev pub is_within : ℕ → List (Option ℕ) → ℕ → ℕ → Bool
is_within zero hosts outer scope = scope == outer
is_within (suc rest) hosts outer scope = (scope == outer) || option_map_or (is_within rest hosts outer) (host_in hosts scope) false

abbrev pub is_inside : List (Option ℕ) → ℕ → ℕ → Bool
is_inside hosts outer scope = is_within (length hosts) hosts outer scope

abbrev pub lent : {A : Type 0} → Option (Bor A) → Option A
lent o = option_copied o

-- ---- with its scoping unit's signature, and without one nothing

abbrev pub procedure_by : List Signature → ℕ → spec.Sense
procedure_by signatures scope = option_map_or spec.Procedure (signature_at signatures scope) spec.Other

abbrev pub itself_by : List Signature → ℕ → spec.Sense
itself_by signatures scope = option_map_or spec.Itself (signature_at signatures scope) spec.Other

abbrev pub specifics_by : List Signature → List ℕ → List spec.Signature
specifics_by signatures scopes = filter_map (signature_at signatures) scopes

abbrev pub sense_seen : Sense → spec.Sense
sense_seen (kept.Data kind definable) = spec.Data (kind_seen kind) definable
sense_seen (kept.Itself signature) = spec.Itself (signature_seen signature.now)
sense_seen (kept.Procedure signature) = spec.Procedure (signature_seen signature.now)
sense_seen (kept.Generic specifics signatures) = spec.Generic (specifics_by signatures.now specifics.now)
sense_seen (kept.Intrinsic function) = spec.Intrinsic function
sense_seen kept.Other = spec.Other

abbrev pub data_by : Option Sort → ℕ → Bool → spec.Sense
data_by sort rank definable = option_map_or (λ s. spec.Data (kinds.kind s rank) definable) sort spec.Other

abbrev pub called_in : List Signature → What → spec.Sense
called_in signatures (what.Function scope answer) = procedure_by signatures scope
called_in signatures (what.Subroutine scope) = procedure_by signatures scope
called_in signatures (what.Generic specifics) = spec.Generic (specifics_by signatures specifics.items)
called_in signatures (what.Intrinsic function) = spec.intrinsic_sense function
called_in signatures _ = spec.Other

abbrev pub called_of : List Signature → Option Naming → spec.Sense
called_of signatures None = spec.Other
called_of signatures (Some naming) = called_in signatures naming.what

-- a function's name as that of its result, or as its own with arguments where it is no array
abbrev pub own_by : List Signature → ℕ → Option Sort → ℕ → Bool → spec.Sense
own_by signatures scope sort rank has_args =
    if has_args && option_map_or (λ s. rank == 0) sort true then itself_by signatures scope else data_by sort rank true

-- in an expression, seen from a scoping unit
abbrev pub sense_in : Names → ℕ → Option Sort → ℕ → What → Bool → spec.Sense
sense_in names from sort rank (what.Data definable) has_args = data_by sort rank definable
sense_in names from sort rank (what.Function scope answer) has_args =
    if not answer && is_inside names.hosts.items scope from then own_by names.signatures.items scope sort rank has_args
    else if has_args then procedure_by names.signatures.items scope else spec.Other
sense_in names from sort rank (what.Subroutine scope) has_args = spec.Other
sense_in names from sort rank other has_args = if has_args then called_in names.signatures.items other else spec.Other

abbrev pub sense_of : Names → ℕ → Option Naming → Bool → spec.Sense
sense_of names from None has_args = spec.Other
sense_of names from (Some naming) has_args = sense_in names from (option_map sort_seen naming.sort) naming.rank naming.what has_args

abbrev pub sense_by : Setting → ℕ → Bool → spec.Sense
sense_by s token has_args = sense_of s.names.now s.scope (naming_at s.names.now s.file token) has_args

abbrev pub called_by : Setting → ℕ → spec.Sense
called_by s token = called_of s.names.now.signatures.items (naming_at s.names.now s.file token)

-- the type of what a name denotes, and the rank of what it denotes by its own name
abbrev pub sort_of : Naming → Option Sort
sort_of naming = option_map sort_seen naming.sort

abbrev pub rank_in : ℕ → What → Option ℕ
rank_in rank (what.Data definable) = Some rank
rank_in rank _ = None

abbrev pub rank_of : Naming → Option ℕ
rank_of naming = rank_in naming.rank naming.what

abbrev pub sort_by : Setting → ℕ → Option Sort
sort_by s token = option_and_then sort_of (naming_at s.names.now s.file token)

abbrev pub rank_by : Setting → ℕ → Option ℕ
rank_by s token = option_and_then rank_of (naming_at s.names.now s.file token)

-- ---- what is kept is right, seen from a scoping unit

pub record IsRight (files : List FileTree) (e : Extent) (s : Setting) : Type 0 where
  pub file : s.file ≡ e.file
  pub sense : (token : ℕ) (has_args : Bool) → sense_by s token has_args ≡ sense_at files e token has_args
  pub called : (token : ℕ) → called_by s token ≡ called_sense files (key_at files e.file token)
  pub sort : (token : ℕ) → sort_by s token ≡ sort_at files e token
  pub rank : (token : ℕ) → rank_by s token ≡ rank_at files e token
