-- The entry of a procedure and its exit (Fortran 90, 12.4.1, 12.5.2, 14.7.6).
use Rattle.std.specs.Prelude.{ℕ, ℤ, ◌+◌, ◌*◌, ◌/◌, slice_get, ◌==◌, nat_eq, nat_le, Bool, false, if◌then◌else◌, List, [], ◌∷◌, ◌++◌, map, length, take, drop, replicate, Option, Some, None, Result, Ok, Err}
use Rattle.std.specs.List.{repeat}
use Rattle.ftn_base.specs.declared.entity.Ty.{Ty}
use Rattle.ftn_base.specs.declared.entity.Ty.TheVariants.{Integer, Character}
use Rattle.ftn_base.specs.declared.entity.Length.TheVariants.{Assumed}
use Rattle.ftn_tree.specs.declared.value.Value.{Value}
use Rattle.core_prog.specs.declared.site.Site.{Site}
use Rattle.core_prog.specs.declared.outcome.FaultCode.TheVariants as code
use Rattle.core_prog.specs.declared.storage.Area.{Area}
use Rattle.core_prog.specs.declared.storage.Content.{Content}
use Rattle.core_prog.specs.declared.storage.Content.TheVariants.{Nothing}
use Rattle.core_prog.specs.declared.storage.Dimension.{Dimension}
use Rattle.core_prog.specs.declared.storage.Limit.{Limit}
use Rattle.core_prog.specs.declared.storage.Limit.TheVariants as limit
use Rattle.core_prog.specs.declared.storage.Variable.{Variable}
use Rattle.core_prog.specs.Ends.{End, Faulted, Cut, ◌>>=◌, found}
use Rattle.core_prog.specs.Operations.{as_whole}
use Rattle.core_prog.specs.Contents.{contents_of, units_of, stored}
use Rattle.ftn_tree.specs.Arrays.{Axis, span, elements, is_open}
use Rattle.core_prog.specs.Memory.{Holding, Memory, element_at, is_active, read_at}
use Rattle.core_prog.specs.Programs.{Program}
use Rattle.core_prog.specs.Holdings.{unit_of, holding}

-- an actual argument: units of variables (the first, how many, those of one element), or so many elements of a value, which get a place
pub data Argument : Type 0 where
  units : ℕ → ℕ → ℕ → Argument
  own : Value → ℕ → Argument

-- what a dummy argument takes: the first unit, how many, those of one element
pub record Taken : Type 0 where
  pub first : ℕ
  pub units : ℕ
  pub unit : ℕ

-- places of their own lie behind all other units, in the order of the arguments
abbrev pub taken : ℕ → List Argument → List Taken
taken next [] = []
taken next (units first n unit ∷ rest) = record { first = first; units = n; unit = unit } ∷ taken next rest
taken next (own value n ∷ rest) = record { first = next; units = n * units_of value; unit = units_of value } ∷ taken (next + n * units_of value) rest

abbrev pub own_contents : List Argument → List Content
own_contents [] = []
own_contents (units first n unit ∷ rest) = own_contents rest
own_contents (own value n ∷ rest) = repeat n (contents_of (units_of value) value) ++ own_contents rest

abbrev pub is_emptied_by : ℕ → Option ℕ → Bool
is_emptied_by number None = false
is_emptied_by number (Some procedure) = nat_eq procedure number

-- 14.7.6: the areas that aren't kept become undefined
abbrev pub emptied : ℕ → List Area → List Content → List Content
emptied number [] cells = cells
emptied number (area ∷ areas) cells =
    emptied number areas (if is_emptied_by number area.emptied then stored area.start (replicate area.size Nothing) cells else cells)

-- a dummy argument with its first unit alone, as bounds read it
abbrev pub begun : Taken → Holding
begun t = record { ty = Integer; first = t.first; unit = 1; axes = []; count = 1 }

-- 5.1.2.2: a bound of a dummy array, at the entry
abbrev pub limit_at : Program → Site → Memory → Limit → Result ℤ End
limit_at program at memory (limit.Number z) = Ok z
limit_at program at memory (limit.Dummy number) = holding program number memory >>= (λ h. read_at at (element_at h 0) memory >>= as_whole)
limit_at program at memory limit.Open = Err Cut

abbrev pub upper_at : Program → Site → Memory → ℤ → Limit → Result Axis End
upper_at program at memory low limit.Open = Ok (record { low = low; extent = None })
upper_at program at memory low high = limit_at program at memory high >>= (λ z. Ok (record { low = low; extent = Some (span low z) }))

abbrev pub axes_at : Program → Site → Memory → List Dimension → Result (List Axis) End
axes_at program at memory [] = Ok []
axes_at program at memory (d ∷ ds) =
    limit_at program at memory d.low >>= (λ low. upper_at program at memory low d.high >>= (λ axis. axes_at program at memory ds >>= (λ axes. Ok (axis ∷ axes))))

-- 5.1.1.5: an assumed length is that of the actual argument
abbrev pub unit_taken : Ty → ℕ → ℕ
unit_taken (Character Assumed) n = n
unit_taken ty n = unit_of ty

-- 5.1.2.4.4: an array of assumed size has as many whole elements as the units bear
abbrev pub count_taken : List Axis → ℕ → ℕ → ℕ
count_taken axes n unit = if is_open axes then (if unit == 0 then 0 else n / unit) else elements axes

abbrev pub holding_taken : Variable → List Axis → Taken → Holding
holding_taken v axes t =
    record { ty = v.ty; first = t.first; unit = unit_taken v.ty t.unit; axes = axes; count = count_taken axes t.units (unit_taken v.ty t.unit) }

-- 12.4.1.1: a dummy argument needs no more units than it takes
abbrev pub within : Site → ℕ → Holding → Result Holding End
within at n h = if nat_le (h.count * h.unit) n then Ok h else Err (Faulted code.Extent at)

-- the dummy arguments in their order
abbrev pub held_at : Program → Site → Memory → List ℕ → List Taken → Result (List Holding) End
held_at program at memory (number ∷ numbers) (t ∷ ts) =
    found (slice_get program.variables number) >>= (λ v. axes_at program at memory v.dimensions >>= (λ axes.
    within at t.units (holding_taken v axes t) >>= (λ h. held_at program at memory numbers ts >>= (λ hs. Ok (h ∷ hs)))))
held_at program at memory numbers ts = Ok []

-- the frame of a procedure on top
abbrev pub with_frame : ℕ → List Holding → Memory → Memory
with_frame number held memory = record memory { active = record { procedure = number; held = held } ∷ memory.active }

-- areas emptied, and places for arguments that have none
abbrev pub prepared : Program → ℕ → List Argument → Memory → Memory
prepared program number args memory = record memory { cells = emptied number program.areas memory.cells ++ own_contents args }

-- all dummy arguments are associated first, and then take their units in order
abbrev pub entered : Program → Site → ℕ → List ℕ → List Argument → Memory → Result Memory End
entered program at number dummies args memory =
    let after = prepared program number args memory in
    let ts = taken (length memory.cells) args in
    held_at program at (with_frame number (map begun ts) after) dummies ts >>= (λ held. Ok (with_frame number held after))

-- only the first units stay, and the procedure is active no more
abbrev pub left : ℕ → Memory → Memory
left mark memory = record { cells = take mark memory.cells; active = drop 1 memory.active }

abbrev pub not_active : Site → ℕ → Memory → Result (Unit {0}) End
not_active at number memory = if is_active number memory then Err (Faulted code.Recursion at) else Ok tt

-- 12.5.2.2: the value of a function's result
abbrev pub result_at : Program → Site → Option ℕ → Memory → Result (Option Value) End
result_at program at None memory = Ok None
result_at program at (Some number) memory = holding program number memory >>= (λ h. read_at at (element_at h 0) memory >>= (λ value. Ok (Some value)))
