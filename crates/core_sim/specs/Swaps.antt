-- What is asked of the two procedures that stand for a variable (this project's own).
use Rattle.std.specs.Prelude.{◌≡◌, ℕ, Bool, true, false, not, ◌&&◌, [], ◌∷◌, slice_get, Option, Some, None}
use Rattle.core_prog.specs.declared.site.Site.{Site}
use Rattle.core_prog.specs.declared.storage.Home.{Home}
use Rattle.core_prog.specs.declared.storage.Home.TheVariants as home
use Rattle.core_prog.specs.declared.storage.Variable.{Variable}
use Rattle.core_prog.specs.Programs.{Program}
use Rattle.ftn_tree.specs.Sorts.{Text, is_sort, sort_of_type}
use Rattle.core_prog.specs.Sorts.{is_scalar}
use Rattle.core_prog.specs.Terms.{variable, none, designator, no_section}
use Rattle.core_prog.specs.Actions.{Block, does, assign, row, empty}
use Rattle.core_sim.specs.Pairings.{Pairing, Swap, partner, IsPaired}
use Rattle.core_sim.specs.Units.{IsUnit, SameUnit, is_emptied}

-- the one statement TO = FROM
abbrev pub copying : Site → ℕ → Site → ℕ → Block
copying at to at' from = row (does (assign (designator at to none no_section) (variable (designator at' from none no_section)))) empty

-- an integer or logical scalar
abbrev pub is_one_unit : Variable → Bool
is_one_unit v = is_scalar v && not (is_sort Text (Some (sort_of_type v.ty)))

abbrev pub is_stored : Home → Bool
is_stored (home.Stored area offset owner) = true
is_stored (home.Dummy procedure position) = false

-- a variable of the new program that is like one of the old
pub record IsLike (program : Program) (number : ℕ) (v : Variable) : Type 0 where
  pub like : Variable
  pub declared : slice_get program.variables number ≡ Some like
  pub ty : like.ty ≡ v.ty
  pub scalar : like.dimensions ≡ []

-- a procedure of the new program that is no partner, and at whose entry no unit of a partner becomes undefined
pub record IsMade (pairing : Pairing) (old new : Program) (number : ℕ) : Type 0 where
  pub no_partner : (other : ℕ) → pairing.procedure other ≡ Some number → ⊥
  pub keeps : (at at' : ℕ) → SameUnit pairing old new at at' → is_emptied new number at' ≡ false

-- the function gives what the variable's partner holds, by a result that shares no unit with a partner
pub record IsGetter (pairing : Pairing) (old new : Program) (s : Swap) (v : Variable) : Type 0 where
  pub result : ℕ
  pub at : Site
  pub from : Site
  pub there : slice_get new.procedures s.getter ≡ Some (record { dummies = []; result = Some result; body = copying at result from (partner pairing.variable s.variable) })
  pub like : IsLike new result v
  pub stored : is_stored like.like.home ≡ true
  pub apart : (at at' : ℕ) → SameUnit pairing old new at at' → IsUnit new result 0 at' → ⊥
  pub made : IsMade pairing old new s.getter

-- the subroutine stores what its dummy argument holds
pub record IsSetter (pairing : Pairing) (old new : Program) (s : Swap) (v : Variable) : Type 0 where
  pub dummy : ℕ
  pub at : Site
  pub from : Site
  pub there : slice_get new.procedures s.setter ≡ Some (record { dummies = dummy ∷ []; result = None; body = copying at (partner pairing.variable s.variable) from dummy })
  pub like : IsLike new dummy v
  pub made : IsMade pairing old new s.setter

pub record IsSwap (pairing : Pairing) (old new : Program) (s : Swap) : Type 0 where
  pub variable : Variable
  pub declared : slice_get old.variables s.variable ≡ Some variable
  pub paired : IsPaired pairing.variable s.variable
  pub one_unit : is_one_unit variable ≡ true
  pub stored : is_stored variable.home ≡ true
  pub getter : IsGetter pairing old new s variable
  pub setter : IsSetter pairing old new s variable

-- variables stay variables
abbrev pub HasNoSwap : Pairing → Type 0
HasNoSwap pairing = (unit : Option ℕ) → pairing.swap unit ≡ None
