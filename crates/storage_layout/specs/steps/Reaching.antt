-- How far objects of the other sort and of other groups reach, for the proofs of the code.
use Rattle.std.specs.Prelude.{ℕ, max, nat_eq, Bool, true, false, if◌then◌else◌}
use Rattle.ftn_base.specs.declared.entity.Sort.{Sort}
use Rattle.ftn_base.specs.declared.entity.Sort.TheVariants.{Numeric, Character}
use Rattle.storage_layout.specs.declared.reaches.Reaches.{Reaches}
use Rattle.storage_layout.specs.steps.Beside.{beside_of}

abbrev pub against_of : Reaches → Sort → ℕ → ℕ
against_of reaches Numeric group = beside_of reaches.character.group reaches.character.end reaches.character.other group
against_of reaches Character group = beside_of reaches.numeric.group reaches.numeric.end reaches.numeric.other group

abbrev pub is_other : Sort → Sort → Bool
is_other Numeric Numeric = false
is_other Numeric Character = true
is_other Character Numeric = true
is_other Character Character = false

-- an object of that sort and group that ends there reaches farther, for whom it is of the other sort and of another group
abbrev pub further : Sort → ℕ → ℕ → Sort → ℕ → ℕ → ℕ
further sort group end asked beside before = if is_other sort asked then (if nat_eq group beside then before else max before end) else before
