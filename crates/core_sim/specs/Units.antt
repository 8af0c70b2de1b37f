-- Storage units of two programs that are one by a pairing (Fortran 90, 14.6.3; the pairing is this project's own).
use Rattle.std.specs.Prelude.{◌≡◌, ◌<◌, ℕ, ◌+◌, Bool, ◌&&◌, nat_le, nat_lt, List, flat_map, sum_by, slice_get, Option, Some}
use Rattle.std.specs.List.{list_any}
use Rattle.core_prog.specs.declared.storage.Area.{Area}
use Rattle.core_prog.specs.declared.storage.Content.{Content}
use Rattle.core_prog.specs.declared.storage.Home.TheVariants as home
use Rattle.core_prog.specs.declared.storage.Variable.{Variable}
use Rattle.core_prog.specs.Programs.{Program}
use Rattle.core_prog.specs.Entries.{is_emptied_by}
use Rattle.core_prog.specs.Lawful.{units_of_all}
use Rattle.core_prog.specs.Runs.{area_contents}
use Rattle.core_sim.specs.Pairings.{Pairing, partner, IsPaired}

-- how many units all areas have
abbrev pub units_in : Program → ℕ
units_in program = sum_by (λ (a : Area). a.size) program.areas

-- what they hold before a run begins
abbrev pub first_contents : Program → List Content
first_contents program = flat_map area_contents program.areas

-- a unit of a variable that is no dummy argument, by its number in the row of all units
pub record IsUnit (program : Program) (number unit at : ℕ) : Type 0 where
  pub variable : Variable
  pub declared : slice_get program.variables number ≡ Some variable
  pub place : ℕ
  pub offset : ℕ
  pub owner : Option ℕ
  pub stored : variable.home ≡ home.Stored place offset owner
  pub area : Area
  pub laid : slice_get program.areas place ≡ Some area
  pub inside : unit < units_of_all program variable
  pub here : at ≡ area.start + offset + unit

-- the same unit of a variable and its partner
pub record SameUnit (pairing : Pairing) (old new : Program) (at at' : ℕ) : Type 0 where
  pub number : ℕ
  pub unit : ℕ
  pub paired : IsPaired pairing.variable number
  pub before : IsUnit old number unit at
  pub after : IsUnit new (partner pairing.variable number) unit at'

-- 14.7.6: a unit that becomes undefined at the entry of that procedure
abbrev pub is_emptied : Program → ℕ → ℕ → Bool
is_emptied program number at =
    list_any (λ (area : Area). is_emptied_by number area.emptied && (nat_le area.start at && nat_lt at (area.start + area.size))) program.areas
