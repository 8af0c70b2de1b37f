-- A program and the same one with its variable laid out anew, behind another one in an area of two units, meet the premises.
--   module m
--     integer :: v = 1
--   end module m
--   program p
--     use m
--     v = v + 1
--     print *, v
--   end program p
use Rattle.std.proofs.Common.{inl, ◌≡◌, ◌<◌, ◌+◌, ℕ, zero, suc, [], ◌∷◌, refl, sym, ap, subst, ◌∙◌, arith}
use Rattle.std.specs.Prelude.{pos, slice_get, Option, Some, None}
use Rattle.ftn_base.specs.declared.entity.Ty.TheVariants as type
use Rattle.ftn_tree.specs.declared.operator.Operator.TheVariants as op
use Rattle.core_prog.specs.declared.storage.Content.TheVariants as content
use Rattle.core_prog.specs.declared.storage.Area.{Area}
use Rattle.core_prog.specs.declared.storage.Variable.{Variable}
use Rattle.core_prog.specs.Actions as act
use Rattle.core_prog.specs.Programs.{Program}
use Rattle.core_prog.specs.Lawful.{IsLawful, IsArea, IsAtHome, units_of_all}
use Rattle.core_prog.specs.declared.storage.Home.TheVariants as home
use Rattle.core_prog.proofs.Samples.{number, plain, of, two, area, units, stored, stored_at, main, block}
use Rattle.core_sim.specs.Pairings.{Pairing, partner, IsPaired}
use Rattle.core_sim.specs.Units.{IsUnit, SameUnit, first_contents}
use Rattle.core_sim.specs.Premises.{Premises, SameVariable, Both}
use Rattle.core_sim.specs.Keeping.{AlikeWithin}
use Rattle.core_sim.proofs.Places.{only_one}
use Rattle.core_sim.proofs.Runs.{alike_within}

abbrev statements : ℕ → act.Block
statements v = block ((act.does (act.assign (plain v) (two op.Plus (of v) (number 1)))) ∷ (act.does (act.print (act.scalar (of v) act.no_written))) ∷ [])

abbrev first : Variable
first = stored type.Integer [] 0

abbrev last : Variable
last = stored_at 1 None type.Integer [] 0

abbrev one_unit : Area
one_unit = area 0 1 ((units 1 (content.Whole (pos 1))) ∷ []) None

abbrev two_units : Area
two_units = area 0 2 ((units 1 content.Nothing) ∷ (units 1 (content.Whole (pos 1))) ∷ []) None

abbrev alone : Program
alone = main (first ∷ []) [] (one_unit ∷ []) (statements 0)

abbrev behind : Program
behind = main (first ∷ last ∷ []) [] (two_units ∷ []) (statements 1)

abbrev second : ℕ → Option ℕ
second zero = Some 1
second (suc n) = None

abbrev moved : Pairing
moved = record { variable = second; procedure = λ _. None; site = λ at. at; swap = λ _. None }

only_first : (n : ℕ) → IsPaired second n → n ≡ 0
only_first zero e = refl
only_first (suc n) e = absurd (cc e)

alone_lawful : IsLawful alone
alone_lawful = record {
  areas = areas;
  few = omega arith;
  variables = variables;
  procedures = λ n proc e. absurd (cc e);
  statements = refl;
}
  where
    areas : (n : ℕ) (a : Area) → slice_get alone.areas n ≡ Some a → IsArea alone n a
    areas zero a e = let same : one_unit ≡ a = cc e in subst (IsArea alone 0) same (record { begins = refl; given = omega arith; emptier = tt })
    areas (suc n) a e = absurd (cc e)

    variables : (n : ℕ) (v : Variable) → slice_get alone.variables n ≡ Some v → IsAtHome alone n v v.home
    variables zero v e = let same : first ≡ v = cc e in subst (λ w. IsAtHome alone 0 w w.home) same (record { area = _; there = refl; fixed = refl; some = omega arith; inside = omega arith; owned = tt; emptier = inl refl })
    variables (suc n) v e = absurd (cc e)

behind_lawful : IsLawful behind
behind_lawful = record {
  areas = areas;
  few = omega arith;
  variables = variables;
  procedures = λ n proc e. absurd (cc e);
  statements = refl;
}
  where
    areas : (n : ℕ) (a : Area) → slice_get behind.areas n ≡ Some a → IsArea behind n a
    areas zero a e = let same : two_units ≡ a = cc e in subst (IsArea behind 0) same (record { begins = refl; given = omega arith; emptier = tt })
    areas (suc n) a e = absurd (cc e)

    variables : (n : ℕ) (v : Variable) → slice_get behind.variables n ≡ Some v → IsAtHome behind n v v.home
    variables zero v e = let same : first ≡ v = cc e in subst (λ w. IsAtHome behind 0 w w.home) same (record { area = _; there = refl; fixed = refl; some = omega arith; inside = omega arith; owned = tt; emptier = inl refl })
    variables (suc zero) v e = let same : last ≡ v = cc e in subst (λ w. IsAtHome behind 1 w w.home) same (record { area = _; there = refl; fixed = refl; some = omega arith; inside = omega arith; owned = tt; emptier = inl refl })
    variables (suc (suc n)) v e = absurd (cc e)

-- a unit by what is declared of its variable
pub unit_at : (program : Program) (number unit at : ℕ) (v : Variable) (place offset : ℕ) (owner : Option ℕ) (a : Area) → slice_get program.variables number ≡ Some v → v.home ≡ home.Stored place offset owner → slice_get program.areas place ≡ Some a →
    IsUnit program number unit at → (unit < units_of_all program v) × (at ≡ a.start + offset + unit)
unit_at program number unit at v place offset owner a d h l u =
    let v_same : u.variable ≡ v = only_one (slice_get program.variables number) u.variable v u.declared d in
    let stored : home.Stored u.place u.offset u.owner ≡ home.Stored place offset owner = sym u.stored ∙ ap (λ (w : Variable). w.home) v_same ∙ h in
    let place_same : u.place ≡ place = cc stored in
    let offset_same : u.offset ≡ offset = cc stored in
    let there : slice_get program.areas place ≡ Some u.area = subst (λ n. slice_get program.areas n ≡ Some u.area) place_same u.laid in
    let area_same : u.area ≡ a = only_one (slice_get program.areas place) u.area a there l in
    (subst (λ w. unit < units_of_all program w) v_same u.inside, u.here ∙ ap (λ (b : Area). b.start + u.offset + unit) area_same ∙ ap (λ n. a.start + n + unit) offset_same)

only_unit : (at at' unit : ℕ) → (unit < 1) × (at ≡ 0 + 0 + unit) → (unit < 1) × (at' ≡ 0 + 1 + unit) → (at ≡ 0) × (at' ≡ 1)
only_unit at at' unit h k = let q = h.0 in let e = h.1 in let f = k.1 in (omega arith, omega arith)

-- the one unit
at_units : (at at' : ℕ) → SameUnit moved alone behind at at' → (at ≡ 0) × (at' ≡ 1)
at_units at at' u = by_number u.number (only_first u.number u.paired) u.before u.after
  where
    by_number : (number : ℕ) → number ≡ 0 → IsUnit alone number u.unit at → IsUnit behind (partner second number) u.unit at' → (at ≡ 0) × (at' ≡ 1)
    by_number zero e before after = only_unit at at' u.unit (unit_at alone 0 u.unit at first 0 0 None one_unit refl refl refl before) (unit_at behind 1 u.unit at' last 0 1 None two_units refl refl refl after)
    by_number (suc n) e before after = absurd (omega arith)

premises : Premises moved alone behind
premises = record {
  lawful = alone_lawful;
  lawful_new = behind_lawful;
  main = refl;
  covered = (((refl, tt, tt), ((refl, tt, tt), tt)), (((refl, tt, tt), tt), tt));
  procedures = λ n e. absurd (cc e);
  one_procedure = λ n other both e. absurd (cc e);
  variables = variables;
  storage = record {
    shared = λ at at' to to' u v. (λ e. (at_units at at' u).1 ∙ sym (at_units to to' v).1, λ e. (at_units at at' u).0 ∙ sym (at_units to to' v).0);
    emptied = λ at at' n u e. absurd (cc e);
    initial = initial;
  };
  swaps = λ unit s e. absurd (cc e);
}
  where
    variables : (n : ℕ) → IsPaired second n → Both (SameVariable moved) (slice_get alone.variables n) (slice_get behind.variables (partner second n))
    variables zero e = record { ty = refl; dimensions = refl; bounds = tt; home = tt }
    variables (suc n) e = absurd (cc e)

    initial : (at at' : ℕ) → SameUnit moved alone behind at at' → slice_get (first_contents alone) at ≡ slice_get (first_contents behind) at'
    initial at at' u = ap (slice_get (first_contents alone)) (at_units at at' u).0 ∙ sym (ap (slice_get (first_contents behind)) (at_units at at' u).1)

pub moved_alike : AlikeWithin 1 alone behind
moved_alike = alike_within moved alone behind premises (λ _. refl) 1 (omega arith)
