-- What a run has in memory (this project's own): the contents of all storage units, and the active procedures.
use Rattle.std.specs.Prelude.{ℕ, ℤ, ◌+◌, ◌-◌, ◌*◌, nat_eq, Bool, if◌then◌else◌, List, [], ◌∷◌, Option, Some, None, Result, Ok}
use Rattle.std.specs.List.{list_any}
use Rattle.ftn_base.specs.declared.entity.Ty.{Ty}
use Rattle.ftn_tree.specs.declared.value.Value.{Value}
use Rattle.core_prog.specs.declared.site.Site.{Site}
use Rattle.core_prog.specs.declared.storage.Content.{Content}
use Rattle.core_prog.specs.declared.outcome.FaultCode.TheVariants as code
use Rattle.core_prog.specs.Ends.{End, Faulted, ◌>>=◌, or_end}
use Rattle.ftn_tree.specs.Arrays.{Axis, element, part}
use Rattle.core_prog.specs.Contents.{units_from, value_in, stored, contents_of}

-- where a variable is: its type, its first unit, the units of one element, its dimensions, its elements
pub record Holding : Type 0 where
  pub ty : Ty
  pub first : ℕ
  pub unit : ℕ
  pub axes : List Axis
  pub count : ℕ

-- an active procedure, and where its dummy arguments are
pub record Frame : Type 0 where
  pub procedure : ℕ
  pub held : List Holding

-- the innermost procedure first
pub record Memory : Type 0 where
  pub cells : List Content
  pub active : List Frame

-- the frame of a procedure, where it is active
abbrev pub frame_of : ℕ → List Frame → Option Frame
frame_of number [] = None
frame_of number (frame ∷ frames) = if nat_eq frame.procedure number then Some frame else frame_of number frames

abbrev pub is_active : ℕ → Memory → Bool
is_active number memory = list_any (λ (frame : Frame). nat_eq frame.procedure number) memory.active

-- units of a variable, element or substring; the units of one element, and the units from here to the array's end
pub record Place : Type 0 where
  pub ty : Ty
  pub first : ℕ
  pub units : ℕ
  pub unit : ℕ
  pub behind : ℕ

abbrev pub in_bounds : {A : Type 0} → Site → Option A → Result A End
in_bounds at a = or_end (Faulted code.Bounds at) a

-- 6.1, 6.2: the units that a designator names, with its subscripts and its substring range
abbrev pub place_of : Site → Holding → List ℤ → Option (ℤ × ℤ) → Result Place End
place_of at h subscripts range =
    in_bounds at (element h.count h.axes subscripts) >>= (λ n. in_bounds at (part h.unit range) >>= (λ s.
    Ok (record { ty = h.ty; first = h.first + n * h.unit + s.0; units = s.1; unit = h.unit; behind = (h.count - n) * h.unit })))

-- an element by its place in array order
abbrev pub element_at : Holding → ℕ → Place
element_at h n = record { ty = h.ty; first = h.first + n * h.unit; units = h.unit; unit = h.unit; behind = (h.count - n) * h.unit }

-- 14.7: the value that a reference finds
abbrev pub read_at : Site → Place → Memory → Result Value End
read_at at p memory = or_end (Faulted code.Undefined at) (value_in p.ty (units_from p.first p.units memory.cells))

abbrev pub with_value : Place → Value → Memory → Memory
with_value p value memory = record memory { cells = stored p.first (contents_of p.units value) memory.cells }
