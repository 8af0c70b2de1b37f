-- What the entities are that names denote: their kinds, their types without lengths, their ranks, and whether they may be defined (Fortran 90,
-- 2.5.1, 5.1, 5.3, 12.5.2.1, 14.7.6).
use Rattle.std.specs.Prelude.{ℕ, ◌==◌, Bool, true, false, not, ◌&&◌, ◌||◌, List, length, Option, Some, None}
use Rattle.std.specs.List.{find, list_any}
use Rattle.std.specs.Option.{option_map, option_map_or, unwrap_or}
use Rattle.ftn_base.specs.declared.entity.Letter.{Letter}
use Rattle.ftn_base.specs.declared.entity.Letter.TheVariants as letter
use Rattle.ftn_tree.specs.declared.mention.Role.TheVariants as role
use Rattle.ftn_tree.specs.declared.parts.TypeSpec.{TypeSpec}
use Rattle.ftn_tree.specs.declared.parts.TypeSpec.TheVariants as type
use Rattle.ftn_tree.specs.declared.table.EntityKind.{EntityKind}
use Rattle.ftn_tree.specs.declared.table.EntityKind.TheVariants as kinds
use Rattle.ftn_tree.specs.declared.table.Extent.{Extent}
use Rattle.ftn_tree.specs.declared.unit.FileTree.{FileTree}
use Rattle.ftn_tree.specs.Roles.{says}
use Rattle.ftn_tree.specs.Extents.{layer_at, same_extent}
use Rattle.ftn_tree.specs.Scopes.{scope_name, chain}
use Rattle.ftn_tree.specs.Sayings.{Saying}
use Rattle.ftn_tree.specs.DeclaredEntities.{is_said, is_referenced, has_result_at, kind_said, unit_kind_at}
use Rattle.ftn_tree.specs.Meanings.{Key, unit, own, block, intrinsic_function, Meaning, one}
use Rattle.ftn_tree.specs.Bindings.{Denoting, denotings}
use Rattle.ftn_tree.specs.NameFaults.{said_of, letter_of}
use Rattle.ftn_tree.specs.Sorts.{Sort, Whole, Truth, Text, sort_of_type}
use Rattle.ftn_tree.specs.Declarations.{typing_of, written_bounds}

-- ---- what stands at a token

abbrev pub is_at : ℕ → ℕ → Denoting → Bool
is_at file token d = (d.at.file == file) && (d.at.token == token)

abbrev pub key_of : Meaning → Option Key
key_of (one key) = Some key
key_of _ = None

-- what the name at a token denotes, where it is one entity
abbrev pub key_at : List FileTree → ℕ → ℕ → Option Key
key_at files file token = option_map_or (λ (d : Denoting). key_of d.meaning) (find (is_at file token) (denotings files)) None

-- ---- kinds

abbrev pub kind_of : List FileTree → Key → EntityKind
kind_of files (unit e) = unit_kind_at (layer_at files e.file e.opening)
kind_of files (own e name) =
    unwrap_or (kind_said (has_result_at (layer_at files e.file e.opening)) (is_referenced files e name) (said_of files e name)) kinds.Variable
kind_of files (block name) = kinds.Block
kind_of files (intrinsic_function name) = kinds.Intrinsic

abbrev pub is_constant : EntityKind → Bool
is_constant kinds.Constant = true
is_constant _ = false

abbrev pub is_dummy : EntityKind → Bool
is_dummy kinds.Dummy = true
is_dummy _ = false

abbrev pub is_function : EntityKind → Bool
is_function kinds.Function = true
is_function _ = false

-- ---- where what an entity holds is declared

-- a scoping unit and a name. The result of a function without RESULT has the function's (12.5.2.2)
pub record Datum : Type 0 where
  pub scope : Extent
  pub name : List ℕ

abbrev pub datum : Extent → List ℕ → Datum
datum e name = record { scope = e; name = name }

abbrev pub datum_of : List FileTree → Key → Option Datum
datum_of files (unit e) = Some (datum e (scope_name files e))
datum_of files (own e name) = Some (datum e name)
datum_of files _ = None

-- ---- types without lengths, and ranks

abbrev pub written_sort : TypeSpec → Sort
written_sort type.Integer = Whole
written_sort type.Logical = Truth
written_sort (type.Character length) = Text

abbrev pub letter_sort : Letter → Option Sort
letter_sort (letter.Known ty) = Some (sort_of_type ty)
letter_sort _ = None

-- 5.1, 5.3: the type that is written, else that of the first letter
abbrev pub sort_of : List FileTree → Datum → Option Sort
sort_of files d = option_map_or (λ typing. Some (written_sort typing.0)) (typing_of files d.scope d.name) (letter_sort (letter_of files d.scope d.name))

-- 2.4.5: the number of dimensions, 0 of a scalar
abbrev pub rank_of : List FileTree → Datum → ℕ
rank_of files d = length (written_bounds files d.scope d.name)

-- a type without its length, and a rank
pub record Kind : Type 0 where
  pub sort : Sort
  pub rank : ℕ

abbrev pub kind : Sort → ℕ → Kind
kind sort rank = record { sort = sort; rank = rank }

abbrev pub kind_of_datum : List FileTree → Datum → Option Kind
kind_of_datum files d = option_map (λ sort. kind sort (rank_of files d)) (sort_of files d)

-- ---- intents (5.1.2.3), and what may be defined (14.7.6)

abbrev pub is_in : List Saying → Bool
is_in said = is_said (λ s. says role.IntentIn s.said) said

-- what is passed to it is defined
abbrev pub is_out : List Saying → Bool
is_out said = not (is_in said) && is_said (λ s. says role.IntentOut s.said || says role.IntentInOut s.said) said

-- in the function and in what is inside it, its name is that of its result (12.5.2.2)
abbrev pub is_result_in : List FileTree → Extent → Extent → Bool
is_result_in files e function = list_any (same_extent function) (chain files e)

abbrev pub is_result : List FileTree → Extent → Extent → Bool
is_result files e function =
    is_function (unit_kind_at (layer_at files function.file function.opening))
    && not (has_result_at (layer_at files function.file function.opening)) && is_result_in files e function

-- a variable, a constant, a dummy argument or a result, seen from a scoping unit
abbrev pub is_data : List FileTree → Extent → Key → Bool
is_data files e (unit function) = is_result files e function
is_data files e (own home name) = is_kind (kind_of files (own home name)) where
  is_kind : EntityKind → Bool
  is_kind kinds.Generic = false
  is_kind kinds.Construct = false
  is_kind _ = true
is_data files e _ = false

-- not a constant, and no dummy argument with INTENT(IN)
abbrev pub may_be_defined : List FileTree → Key → Bool
may_be_defined files (own home name) =
    not (is_constant (kind_of files (own home name))) && not (is_dummy (kind_of files (own home name)) && is_in (said_of files home name))
may_be_defined files (unit function) = true
may_be_defined files _ = false
