-- What statements write for a name, of each the first. It serves the proof alone.
use Rattle.std.specs.Prelude.{ℕ, List, [], slice_get, Option, None}
use Rattle.std.specs.List.{filter_map}
use Rattle.std.specs.Option.{option_map, option_or, option_copied, unwrap_or}
use Rattle.ftn_tree.specs.declared.expr.Expr.{Expr}
use Rattle.ftn_tree.specs.declared.parts.BoundPair.{BoundPair}
use Rattle.ftn_tree.specs.declared.parts.CharLength.{CharLength}
use Rattle.ftn_tree.specs.declared.parts.TypeSpec.{TypeSpec}
use Rattle.ftn_tree.specs.declared.unit.FileTree.{FileTree}
use Rattle.ftn_tree.specs.Declarations.{Declared, declarations_of}
use Rattle.ftn_tree.specs.KeyKinds.{Datum}
use Rattle.const_value.specs.declared.written.Typing.{Typing}
use Rattle.const_value.specs.declared.written.Written.{Written}

-- a type as it is written, with the entity's own length, and the token of the name
pub record TypedAs : Type 0 where
  pub name : ℕ
  pub ty : TypeSpec
  pub length : Option CharLength

-- the first type, bounds and value
pub record WrittenAs : Type 0 where
  pub typing : Option TypedAs
  pub bounds : Option (List BoundPair)
  pub value : Option Expr

-- ---- what the code keeps

abbrev pub typing_seen : Typing → TypedAs
typing_seen t = record { name = t.name; ty = t.ty.now; length = option_copied t.length }

abbrev pub written_seen : Written → WrittenAs
written_seen w = record { typing = option_map typing_seen w.typing; bounds = option_copied w.bounds; value = option_copied w.value }

-- ---- one statement after the other

abbrev pub typed_as : ℕ → Option CharLength → TypeSpec → TypedAs
typed_as name length ty = record { name = name; ty = ty; length = length }

abbrev pub typing_in : Declared → Option TypedAs
typing_in d = option_map (typed_as d.name d.length) d.ty

abbrev pub nothing : WrittenAs
nothing = record { typing = None; bounds = None; value = None }

abbrev pub with_declared : WrittenAs → Declared → WrittenAs
with_declared w d = record { typing = option_or w.typing (typing_in d); bounds = option_or w.bounds d.bounds; value = option_or w.value d.value }

abbrev pub pairs : WrittenAs → List BoundPair
pairs w = unwrap_or w.bounds []

-- ---- all statements

abbrev pub bounds_in : Declared → Option (List BoundPair)
bounds_in d = d.bounds

abbrev pub value_in : Declared → Option Expr
value_in d = d.value

abbrev pub written_in : List Declared → WrittenAs
written_in all = record { typing = slice_get (filter_map typing_in all) 0; bounds = slice_get (filter_map bounds_in all) 0; value = slice_get (filter_map value_in all) 0 }

abbrev pub written_of : List FileTree → Datum → WrittenAs
written_of files d = written_in (declarations_of files d.scope d.name)
