-- The first of what is told of an expression: of names that have no place in a constant one by their tokens, of operations without a value by
-- the token, and then by the kind.
use Rattle.std.specs.Prelude.{ℕ, ◌+◌, ◌*◌, nat_lt, if◌then◌else◌, List, [], ◌∷◌, Option, Some, None}
use Rattle.std.specs.List.{filter_map}
use Rattle.std.specs.Option.{option_map}
use Rattle.ftn_tree.specs.declared.intrinsic.ValueFault.{ValueFault}
use Rattle.ftn_tree.specs.ConstantFaults.{constant_rank}
use Rattle.ftn_tree.specs.Evaluations.{told_of}
use Rattle.const_expr.specs.declared.told.Breach.{Breach}
use Rattle.const_expr.specs.declared.told.Told.{Told}

-- of two, the second only where it comes before the first
abbrev pub sooner : {A : Type 0} → (A → ℕ) → Option A → Option A → Option A
sooner key None other = other
sooner key (Some a) None = Some a
sooner key (Some a) (Some b) = if nat_lt (key b) (key a) then Some b else Some a

abbrev pub soonest : {A : Type 0} → (A → ℕ) → List A → Option A
soonest key [] = None
soonest key (a ∷ all) = sooner key (Some a) (soonest key all)

abbrev pub itself : ℕ → ℕ
itself token = token

-- by the token, and then by the kind
abbrev pub breach_key : Breach → ℕ
breach_key b = b.token * 8 + constant_rank b.kind

abbrev pub breach_told : ValueFault × ℕ → Option Breach
breach_told (fault, token) = option_map (λ kind. record { kind = kind; token = token }) (told_of fault)

abbrev pub stray_first : List ℕ → Option ℕ
stray_first strays = soonest itself strays

abbrev pub breach_first : List (ValueFault × ℕ) → Option Breach
breach_first breaches = soonest breach_key (filter_map breach_told breaches)

abbrev pub told_by : List ℕ → List (ValueFault × ℕ) → Told
told_by strays breaches = record { stray = stray_first strays; breach = breach_first breaches }

abbrev pub joined : Told → Told → Told
joined one other = record { stray = sooner itself one.stray other.stray; breach = sooner breach_key one.breach other.breach }
