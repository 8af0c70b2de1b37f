-- Where variables are (Fortran 90, 14.6.3, 12.4.1).
use Rattle.std.specs.Prelude.{ℕ, ℤ, pos, ◌+◌, map, slice_get, Result, Ok}
use Rattle.ftn_base.specs.declared.entity.Ty.{Ty}
use Rattle.ftn_base.specs.declared.entity.Ty.TheVariants.{Integer, Logical, Character}
use Rattle.ftn_base.specs.declared.entity.Length.TheVariants.{Fixed, Assumed}
use Rattle.core_prog.specs.declared.storage.Limit.{Limit}
use Rattle.core_prog.specs.declared.storage.Limit.TheVariants as limit
use Rattle.core_prog.specs.declared.storage.Dimension.{Dimension}
use Rattle.core_prog.specs.declared.storage.Home.{Home}
use Rattle.core_prog.specs.declared.storage.Home.TheVariants as home
use Rattle.core_prog.specs.declared.storage.Area.{Area}
use Rattle.core_prog.specs.declared.storage.Variable.{Variable}
use Rattle.core_prog.specs.Ends.{End, ◌>>=◌, found}
use Rattle.ftn_tree.specs.Arrays.{Axis, axis_from, elements}
use Rattle.core_prog.specs.Memory.{Holding, Memory, frame_of}
use Rattle.core_prog.specs.Programs.{Program, Procedure}

-- the units of one element; an assumed length is known only where the dummy argument is
abbrev pub unit_of : Ty → ℕ
unit_of Integer = 1
unit_of Logical = 1
unit_of (Character (Fixed n)) = n
unit_of (Character Assumed) = 0

-- a bound that is a number
abbrev pub number_in : Limit → ℤ
number_in (limit.Number z) = z
number_in other = pos 0

abbrev pub fixed_axis : Dimension → Axis
fixed_axis d = axis_from (number_in d.low, number_in d.high)

-- a variable in an area
abbrev pub stored_in : Variable → ℕ → Area → Holding
stored_in v offset area =
    record { ty = v.ty; first = area.start + offset; unit = unit_of v.ty; axes = map fixed_axis v.dimensions; count = elements (map fixed_axis v.dimensions) }

abbrev pub home_of : Program → Variable → Home → Memory → Result Holding End
home_of program v (home.Stored area offset owner) memory = found (slice_get program.areas area) >>= (λ a. Ok (stored_in v offset a))
home_of program v (home.Dummy procedure position) memory =
    found (frame_of procedure memory.active) >>= (λ frame. found (slice_get frame.held position))

-- where the variable of that number is
abbrev pub holding : Program → ℕ → Memory → Result Holding End
holding program number memory = found (slice_get program.variables number) >>= (λ v. home_of program v v.home memory)

abbrev pub procedure : Program → ℕ → Result Procedure End
procedure program number = found (slice_get program.procedures number)
