-- Lengths of character entities as they are written. It serves the proof alone.
use Rattle.std.specs.Prelude.{ℤ, Option, Some, None}
use Rattle.std.specs.Option.{option_or}
use Rattle.ftn_tree.specs.declared.expr.Expr.{Expr}
use Rattle.ftn_tree.specs.declared.parts.CharLength.{CharLength}
use Rattle.ftn_tree.specs.declared.parts.CharLength.TheVariants as star
use Rattle.ftn_tree.specs.declared.parts.LengthValue.{LengthValue}
use Rattle.ftn_tree.specs.declared.parts.LengthValue.TheVariants as lengths
use Rattle.ftn_tree.specs.Declarations.{type_length}
use Rattle.const_value.specs.declared.lengths.WrittenLength.{WrittenLength}
use Rattle.const_value.specs.declared.lengths.WrittenLength.TheVariants as kept
use Rattle.const_value.specs.steps.Written.{TypedAs}

-- a length as it is written
pub data LengthAs : Type 0 where
  Unwritten : LengthAs
  Whole : ℤ → LengthAs
  Star : LengthAs
  Given : Expr → LengthAs

abbrev pub length_seen : WrittenLength → LengthAs
length_seen kept.Unwritten = Unwritten
length_seen (kept.Whole z) = Whole z
length_seen kept.Star = Star
length_seen (kept.Given e) = Given e.now

abbrev pub of_value : LengthValue → LengthAs
of_value lengths.Assumed = Star
of_value (lengths.Given e) = Given e

abbrev pub of_length : CharLength → LengthAs
of_length (star.Whole token z) = Whole z
of_length (star.Paren value) = of_value value

abbrev pub length_in : Option CharLength → LengthAs
length_in None = Unwritten
length_in (Some length) = of_length length

-- the entity's own, else that of the type
abbrev pub length_as : TypedAs → LengthAs
length_as t = length_in (option_or t.length (type_length t.ty))
