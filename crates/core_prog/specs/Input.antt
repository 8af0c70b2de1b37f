-- READ: the runs of bytes that its items take, and the end of its last record (Fortran 90, 9.4.2, 10.8.1; the form is this project's own).
use Rattle.std.specs.Prelude.{ℕ, zero, suc, ◌==◌, if◌then◌else◌, List, [], ◌∷◌, ◌++◌, Option, Some, None, Result}
use Rattle.ftn_base.specs.declared.entity.Ty.{Ty}
use Rattle.ftn_tree.specs.declared.value.Value.{Value}
use Rattle.ftn_tree.specs.ListItems.{is_item_byte, item_of}
use Rattle.core_prog.specs.declared.site.Site.{Site}
use Rattle.core_prog.specs.declared.outcome.FaultCode.TheVariants as code
use Rattle.core_prog.specs.Ends.{End, Faulted, Cut, or_end}
use Rattle.core_prog.specs.Memory.{Place, Holding, element_at}
use Rattle.core_prog.specs.States.{M, ◌>>=◌, ◌>>◌, pure, ends, tick, told, puts, takes, by_input}

-- how much of a record one READ has taken: nothing, its last byte being no LF, its last byte being LF
pub data Last : Type 0 where
  Nothing : Last
  Amid : Last
  Over : Last

abbrev pub last_of : ℕ → Last
last_of byte = if byte == 10 then Over else Amid

-- the input's end also ends a run; where no run begins there is no record
abbrev pub run_end : Site → List ℕ → M (List ℕ × Last)
run_end at [] = ends (Faulted code.End at)
run_end at (byte ∷ bytes) = pure (byte ∷ bytes, Amid)

-- a byte that stands in no item ends a run, and none before it
abbrev pub run_past : (List ℕ → M (List ℕ × Last)) → List ℕ → ℕ → M (List ℕ × Last)
run_past more [] byte = more []
run_past more (first ∷ bytes) byte = pure (first ∷ bytes, last_of byte)

abbrev pub run_with : Site → (List ℕ → M (List ℕ × Last)) → List ℕ → Option ℕ → M (List ℕ × Last)
run_with at more found None = run_end at found
run_with at more found (Some byte) = if is_item_byte byte then more (found ++ byte ∷ []) else run_past more found byte

-- the run of an item, with the byte that ends it; the number is more than there are bytes
abbrev pub run_of : Site → ℕ → List ℕ → M (List ℕ × Last)
run_of at zero found = ends Cut
run_of at (suc n) found = takes >>= run_with at (run_of at n) found

abbrev pub item_at : Site → List ℕ → Ty → Result Value End
item_at at bytes ty = or_end (Faulted code.Input at) (item_of bytes ty)

-- a scalar: its run is taken and tested, its step is taken, and it is stored
abbrev pub scalar_in : Site → Place → M Last
scalar_in at p =
    by_input (λ n. run_of at n []) >>= (λ run. told (item_at at run.0 p.ty) >>= (λ value. tick >> (puts p value >> pure run.1)))

-- so many elements of an array, from that one on
abbrev pub elements_in : Site → Holding → ℕ → ℕ → Last → M Last
elements_in at h n zero last = pure last
elements_in at h n (suc more) last = scalar_in at (element_at h n) >>= elements_in at h (suc n) more

abbrev pub rest_with : Site → (Last → M (Unit {0})) → Last → Option ℕ → M (Unit {0})
rest_with at more Nothing None = ends (Faulted code.End at)
rest_with at more last None = pure tt
rest_with at more last (Some byte) = more (last_of byte)

-- the rest of the record; where nothing was taken, a record
abbrev pub rest_of : Site → ℕ → Last → M (Unit {0})
rest_of at zero last = ends Cut
rest_of at (suc n) Over = pure tt
rest_of at (suc n) last = takes >>= rest_with at (rest_of at n) last
