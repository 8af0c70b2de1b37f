-- When two resolved programs do the same: the premises of the laws (this project's own).
use Rattle.std.specs.Prelude.{◌≡◌, ℕ, List, [], ◌∷◌, map, slice_get, Option, Some, None}
use Rattle.std.specs.Option.{option_map}
use Rattle.core_prog.specs.declared.storage.Dimension.{Dimension}
use Rattle.core_prog.specs.declared.storage.Limit.{Limit}
use Rattle.core_prog.specs.declared.storage.Limit.TheVariants as limit
use Rattle.core_prog.specs.declared.storage.Home.{Home}
use Rattle.core_prog.specs.declared.storage.Home.TheVariants as home
use Rattle.core_prog.specs.declared.storage.Variable.{Variable}
use Rattle.core_prog.specs.Programs.{Program, Procedure}
use Rattle.core_prog.specs.Lawful.{IsLawful}
use Rattle.core_sim.specs.Pairings.{Pairing, Swap, partner, IsPaired}
use Rattle.core_sim.specs.Swaps.{IsSwap}
use Rattle.core_sim.specs.Renaming.{renamed_block}
use Rattle.core_sim.specs.Covering.{CoversBlock}
use Rattle.core_sim.specs.Units.{SameUnit, is_emptied, first_contents}

module _ (pairing : Pairing) where
  abbrev pub renamed_limit : Limit → Limit
  renamed_limit (limit.Dummy number) = limit.Dummy (partner pairing.variable number)
  renamed_limit other = other

  abbrev pub renamed_dimension : Dimension → Dimension
  renamed_dimension d = record { low = renamed_limit d.low; high = renamed_limit d.high }

  -- both are in areas, or both are the dummy argument at one position of procedures that are partners
  abbrev pub SameHome : Home → Home → Type 0
  SameHome (home.Stored area offset owner) (home.Stored area' offset' owner') = Unit {0}
  SameHome (home.Dummy number position) (home.Dummy number' position') = (pairing.procedure number ≡ Some number') × (position' ≡ position)
  SameHome before after = ⊥

  abbrev pub ArePaired : List ℕ → Type 0
  ArePaired [] = Unit {0}
  ArePaired (number ∷ numbers) = IsPaired pairing.variable number × ArePaired numbers

  -- 5.1.2: a bound that is a dummy argument has a partner
  abbrev pub CoversLimit : Limit → Type 0
  CoversLimit (limit.Dummy number) = IsPaired pairing.variable number
  CoversLimit other = Unit {0}

  abbrev pub CoversDimensions : List Dimension → Type 0
  CoversDimensions [] = Unit {0}
  CoversDimensions (d ∷ ds) = CoversLimit d.low × CoversLimit d.high × CoversDimensions ds

  abbrev pub CoversResult : Option ℕ → Type 0
  CoversResult None = Unit {0}
  CoversResult (Some number) = IsPaired pairing.variable number

  pub record SameVariable (before after : Variable) : Type 0 where
    pub ty : after.ty ≡ before.ty
    pub dimensions : after.dimensions ≡ map renamed_dimension before.dimensions
    pub bounds : CoversDimensions before.dimensions
    pub home : SameHome before.home after.home

  pub record SameProcedure (number : ℕ) (before after : Procedure) : Type 0 where
    pub dummies : after.dummies ≡ map (partner pairing.variable) before.dummies
    pub dummies_paired : ArePaired before.dummies
    pub result : after.result ≡ option_map (partner pairing.variable) before.result
    pub result_paired : CoversResult before.result
    pub body : after.body ≡ renamed_block pairing (pairing.swap (Some number)) before.body
    pub covered : CoversBlock pairing before.body

-- both are there, and are related
abbrev pub Both : {A : Type 0} → (A → A → Type 0) → Option A → Option A → Type 0
Both Same (Some before) (Some after) = Same before after
Both Same before after = ⊥

-- storage is the same by the pairing
pub record SameStorage (pairing : Pairing) (old new : Program) : Type 0 where
  -- units of partners are one in the old program exactly where they are one in the new one
  pub shared : (at at' to to' : ℕ) → SameUnit pairing old new at at' → SameUnit pairing old new to to' → (at ≡ to → at' ≡ to') × (at' ≡ to' → at ≡ to)
  pub emptied : (at at' number : ℕ) → SameUnit pairing old new at at' → IsPaired pairing.procedure number → is_emptied old number at ≡ is_emptied new (partner pairing.procedure number) at'
  pub initial : (at at' : ℕ) → SameUnit pairing old new at at' → slice_get (first_contents old) at ≡ slice_get (first_contents new) at'

pub record Premises (pairing : Pairing) (old new : Program) : Type 0 where
  pub lawful : IsLawful old
  pub lawful_new : IsLawful new
  pub main : new.main ≡ renamed_block pairing (pairing.swap None) old.main
  pub covered : CoversBlock pairing old.main
  pub procedures : (number : ℕ) → IsPaired pairing.procedure number → Both (SameProcedure pairing number) (slice_get old.procedures number) (slice_get new.procedures (partner pairing.procedure number))
  pub one_procedure : (number other both : ℕ) → pairing.procedure number ≡ Some both → pairing.procedure other ≡ Some both → number ≡ other
  pub variables : (number : ℕ) → IsPaired pairing.variable number → Both (SameVariable pairing) (slice_get old.variables number) (slice_get new.variables (partner pairing.variable number))
  pub storage : SameStorage pairing old new
  pub swaps : (unit : Option ℕ) (s : Swap) → pairing.swap unit ≡ Some s → IsSwap pairing old new s
