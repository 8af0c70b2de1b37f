-- What the code keeps of types, procedures and expressions, by the definitions. It serves the proof alone.
use Rattle.std.specs.Prelude.{ℕ, ◌+◌, ◌*◌, List, Option}
use Rattle.std.specs.Option.{option_map}
use Rattle.ftn_tree.specs.KeyKinds as kinds
use Rattle.ftn_tree.specs.ExpressionTypes as spec
use Rattle.ftn_tree.specs.TypeFaults.{type_rank}
use Rattle.const_expr.specs.FirstTold.{soonest}
use Rattle.name_types.specs.steps.Kinds.{kind_seen}
use Rattle.type_check.specs.declared.typed.Told.{Told}
use Rattle.type_check.specs.declared.typed.Standing.{Standing}
use Rattle.type_check.specs.declared.typed.Typed.{Typed}

-- ---- the first of what is told: by the token, and then by the kind

abbrev pub told_key : spec.Told → ℕ
told_key (what, token) = token * 8 + type_rank what

abbrev pub first_told : List spec.Told → Option spec.Told
first_told told = soonest told_key told

abbrev pub told_seen : Told → spec.Told
told_seen t = (t.kind, t.token)

-- ---- expressions

-- an expression by the first of what is told of it
pub record Sight : Type 0 where
  pub first : ℕ
  pub kind : Option kinds.Kind
  pub told : Option spec.Told
  pub passed : Option spec.Told
  pub standing : spec.Standing

abbrev pub standing_seen : Standing → spec.Standing
standing_seen s = spec.standing s.reference s.element s.datum s.definable

abbrev pub typed_seen : Typed → Sight
typed_seen t = record {
  first = t.first;
  kind = option_map kind_seen t.kind;
  told = option_map told_seen t.told;
  passed = option_map told_seen t.passed;
  standing = standing_seen t.standing;
}

abbrev pub seen : spec.Typed → Sight
seen t = record { first = t.first; kind = t.kind; told = first_told t.told; passed = first_told t.passed; standing = t.standing }
