-- A program and the same one with two procedures in place of its module's variable: the premises, and runs of both.
--   module m                      module m
--     integer :: v = 1              integer, private :: v = 1
--                                 contains
--                                   function get_v()
--                                     integer :: get_v
--                                     get_v = v
--                                   end function get_v
--                                   subroutine set_v(new_v)
--                                     integer, intent(in) :: new_v
--                                     v = new_v
--                                   end subroutine set_v
--   end module m                  end module m
--   program p                     program p
--     use m                         use m
--     integer :: x                  integer :: x
--     v = v + 1                     call set_v(get_v() + 1)
--     x = v                         x = get_v()
--     v = x                         call set_v(x)
--     print *, v                    print *, get_v()
--   end program p                 end program p
use Rattle.std.proofs.Common.{inl, inr, ◌≡◌, ◌<◌, ◌⊎◌, ◌+◌, ℕ, zero, suc, [], ◌∷◌, refl, sym, ap, subst, ◌∙◌, arith}
use Rattle.std.specs.Prelude.{pos, false, slice_get, codes, Option, Some, None}
use Rattle.std.specs.Fmt.{digits}
use Rattle.ftn_base.specs.declared.entity.Ty.TheVariants as type
use Rattle.ftn_tree.specs.declared.operator.Operator.TheVariants as op
use Rattle.core_prog.specs.declared.outcome.Outcome.TheVariants as outcome
use Rattle.core_prog.specs.declared.storage.Content.TheVariants as content
use Rattle.core_prog.specs.declared.storage.Area.{Area}
use Rattle.core_prog.specs.declared.storage.Variable.{Variable}
use Rattle.core_prog.specs.Actions as act
use Rattle.core_prog.specs.Terms.{Term, call, no_passed, by_value, alone}
use Rattle.core_prog.specs.Programs.{Program, Procedure}
use Rattle.core_prog.specs.Lawful.{IsLawful, IsArea, IsAtHome, IsProcedure, IsDummyOf}
use Rattle.core_prog.proofs.Samples.{here, number, plain, of, two, area, units, stored, stored_at, dummy, procedure, main, block, result, line, Takes}
use Rattle.core_sim.specs.Pairings.{Pairing, Swap, partner, IsPaired}
use Rattle.core_sim.specs.Units.{IsUnit, SameUnit, first_contents, is_emptied}
use Rattle.core_sim.specs.Swaps.{copying, IsSwap}
use Rattle.core_sim.specs.Premises.{Premises, SameVariable, Both}
use Rattle.core_sim.specs.Keeping.{AlikeWithin}
use Rattle.core_sim.proofs.Example.{unit_at}
use Rattle.core_sim.proofs.Swapped.{runs_within}

-- ---- the two programs

abbrev v : Variable
v = stored type.Integer [] 0

abbrev x : Variable
x = stored type.Integer [] 1

abbrev given : Variable
given = stored_at 0 (Some 0) type.Integer [] 2

abbrev new_v : Variable
new_v = dummy type.Integer [] 1 0

abbrev area_of_v : Area
area_of_v = area 0 1 ((units 1 (content.Whole (pos 1))) ∷ []) None

abbrev area_of_x : Area
area_of_x = area 1 1 [] None

abbrev area_of_given : Area
area_of_given = area 2 1 [] (Some 0)

abbrev open_one : Program
open_one = main (v ∷ x ∷ []) [] (area_of_v ∷ area_of_x ∷ [])
    (block ((act.does (act.assign (plain 0) (two op.Plus (of 0) (number 1)))) ∷ (act.does (act.assign (plain 1) (of 0))) ∷ (act.does (act.assign (plain 0) (of 1))) ∷ (act.does (act.print (act.scalar (of 0) act.no_written))) ∷ []))

abbrev get_v : Procedure
get_v = procedure [] (Some 2) (copying here 2 here 0)

abbrev set_v : Procedure
set_v = procedure (3 ∷ []) None (copying here 0 here 3)

abbrev got : Term
got = call here 0 no_passed

abbrev closed_one : Program
closed_one = main (v ∷ x ∷ given ∷ new_v ∷ []) (get_v ∷ set_v ∷ []) (area_of_v ∷ area_of_x ∷ area_of_given ∷ [])
    (block ((act.does (act.call here 1 (by_value (two op.Plus got (number 1)) no_passed))) ∷ (act.does (act.assign (plain 1) got)) ∷ (act.does (act.call here 1 (alone (plain 1) no_passed))) ∷ (act.does (act.print (act.scalar got act.no_written))) ∷ []))

-- ---- runs

ten_steps : Takes open_one [] 9 (result outcome.Stop (line (codes " 2")) 0)
unfolding digits
ten_steps = (refl, refl)

thirty_steps : Takes closed_one [] 29 (result outcome.Stop (line (codes " 2")) 0)
unfolding digits
thirty_steps = (refl, refl)

-- ---- the pairing

abbrev kept : ℕ → Option ℕ
kept zero = Some 0
kept (suc zero) = Some 1
kept (suc (suc n)) = None

abbrev the_swap : Swap
the_swap = record { variable = 0; getter = 0; setter = 1 }

abbrev outside : Option ℕ → Option Swap
outside None = Some the_swap
outside (Some n) = None

abbrev closing : Pairing
closing = record { variable = kept; procedure = λ _. None; site = λ at. at; swap = outside }

open_lawful : IsLawful open_one
open_lawful = record {
  areas = areas;
  few = omega arith;
  variables = variables;
  procedures = λ n proc e. absurd (cc e);
  statements = refl;
}
  where
    areas : (n : ℕ) (a : Area) → slice_get open_one.areas n ≡ Some a → IsArea open_one n a
    areas zero a e = let same : area_of_v ≡ a = cc e in subst (IsArea open_one 0) same (record { begins = refl; given = omega arith; emptier = tt })
    areas (suc zero) a e = let same : area_of_x ≡ a = cc e in subst (IsArea open_one 1) same (record { begins = refl; given = omega arith; emptier = tt })
    areas (suc (suc n)) a e = absurd (cc e)

    variables : (n : ℕ) (w : Variable) → slice_get open_one.variables n ≡ Some w → IsAtHome open_one n w w.home
    variables zero w e = let same : v ≡ w = cc e in subst (λ w. IsAtHome open_one 0 w w.home) same (record { area = _; there = refl; fixed = refl; some = omega arith; inside = omega arith; owned = tt; emptier = inl refl })
    variables (suc zero) w e = let same : x ≡ w = cc e in subst (λ w. IsAtHome open_one 1 w w.home) same (record { area = _; there = refl; fixed = refl; some = omega arith; inside = omega arith; owned = tt; emptier = inl refl })
    variables (suc (suc n)) w e = absurd (cc e)

closed_lawful : IsLawful closed_one
closed_lawful = record {
  areas = areas;
  few = omega arith;
  variables = variables;
  procedures = procedures;
  statements = refl;
}
  where
    areas : (n : ℕ) (a : Area) → slice_get closed_one.areas n ≡ Some a → IsArea closed_one n a
    areas zero a e = let same : area_of_v ≡ a = cc e in subst (IsArea closed_one 0) same (record { begins = refl; given = omega arith; emptier = tt })
    areas (suc zero) a e = let same : area_of_x ≡ a = cc e in subst (IsArea closed_one 1) same (record { begins = refl; given = omega arith; emptier = tt })
    areas (suc (suc zero)) a e = let same : area_of_given ≡ a = cc e in subst (IsArea closed_one 2) same (record { begins = refl; given = omega arith; emptier = omega arith })
    areas (suc (suc (suc n))) a e = absurd (cc e)

    variables : (n : ℕ) (w : Variable) → slice_get closed_one.variables n ≡ Some w → IsAtHome closed_one n w w.home
    variables zero w e = let same : v ≡ w = cc e in subst (λ w. IsAtHome closed_one 0 w w.home) same (record { area = _; there = refl; fixed = refl; some = omega arith; inside = omega arith; owned = tt; emptier = inl refl })
    variables (suc zero) w e = let same : x ≡ w = cc e in subst (λ w. IsAtHome closed_one 1 w w.home) same (record { area = _; there = refl; fixed = refl; some = omega arith; inside = omega arith; owned = tt; emptier = inl refl })
    variables (suc (suc zero)) w e = let same : given ≡ w = cc e in subst (λ w. IsAtHome closed_one 2 w w.home) same (record { area = _; there = refl; fixed = refl; some = omega arith; inside = omega arith; owned = omega arith; emptier = inr refl })
    variables (suc (suc (suc zero))) w e = let same : new_v ≡ w = cc e in subst (λ w. IsAtHome closed_one 3 w w.home) same (record { proc = _; there = refl; listed = refl; bounds = refl })
    variables (suc (suc (suc (suc n)))) w e = absurd (cc e)

    no_dummies : (position number : ℕ) → slice_get get_v.dummies position ≡ Some number → IsDummyOf closed_one 0 position (slice_get closed_one.variables number)
    no_dummies position number e = absurd (cc e)

    one_dummy : (position number : ℕ) → slice_get set_v.dummies position ≡ Some number → IsDummyOf closed_one 1 position (slice_get closed_one.variables number)
    one_dummy zero number e = let same : 3 ≡ number = cc e in subst (λ n. IsDummyOf closed_one 1 0 (slice_get closed_one.variables n)) same refl
    one_dummy (suc position) number e = absurd (cc e)

    procedures : (n : ℕ) (p : Procedure) → slice_get closed_one.procedures n ≡ Some p → IsProcedure closed_one n p
    procedures zero p e = let same : get_v ≡ p = cc e in subst (IsProcedure closed_one 0) same (record { dummies = no_dummies; result = refl; body = refl })
    procedures (suc zero) p e = let same : set_v ≡ p = cc e in subst (IsProcedure closed_one 1) same (record { dummies = one_dummy; result = tt; body = refl })
    procedures (suc (suc n)) p e = absurd (cc e)

-- ---- storage

only_one : (at at' unit first : ℕ) → (unit < 1) × (at ≡ first + 0 + unit) → (unit < 1) × (at' ≡ first + 0 + unit) → (at ≡ first) × (at' ≡ first)
only_one at at' unit first h k = let q = h.0 in let e = h.1 in let f = k.1 in (omega arith, omega arith)

-- the units of partners
abbrev AreUnits : ℕ → ℕ → Type 0
AreUnits at at' = ((at ≡ 0) × (at' ≡ 0)) ⊎ ((at ≡ 1) × (at' ≡ 1))

at_units : (at at' : ℕ) → SameUnit closing open_one closed_one at at' → AreUnits at at'
at_units at at' u = by_number u.number u.paired u.before u.after
  where
    by_number : (number : ℕ) → IsPaired kept number → IsUnit open_one number u.unit at → IsUnit closed_one (partner kept number) u.unit at' → AreUnits at at'
    by_number zero e before after = inl (only_one at at' u.unit 0 (unit_at open_one 0 u.unit at v 0 0 None area_of_v refl refl refl before) (unit_at closed_one 0 u.unit at' v 0 0 None area_of_v refl refl refl after))
    by_number (suc zero) e before after = inr (only_one at at' u.unit 1 (unit_at open_one 1 u.unit at x 1 0 None area_of_x refl refl refl before) (unit_at closed_one 1 u.unit at' x 1 0 None area_of_x refl refl refl after))
    by_number (suc (suc n)) e before after = absurd (cc e)

same_place : (at at' : ℕ) → AreUnits at at' → at ≡ at'
same_place at at' (inl u) = u.0 ∙ sym u.1
same_place at at' (inr u) = u.0 ∙ sym u.1

not_emptied : (number : ℕ) → is_emptied closed_one number 0 ≡ false → is_emptied closed_one number 1 ≡ false → (at at' : ℕ) → SameUnit closing open_one closed_one at at' → is_emptied closed_one number at' ≡ false
not_emptied number e f at at' u = by_units (at_units at at' u)
  where
    by_units : AreUnits at at' → is_emptied closed_one number at' ≡ false
    by_units (inl p) = ap (is_emptied closed_one number) p.1 ∙ e
    by_units (inr p) = ap (is_emptied closed_one number) p.1 ∙ f

initial : (at at' : ℕ) → AreUnits at at' → slice_get (first_contents open_one) at ≡ slice_get (first_contents closed_one) at'
initial at at' (inl u) = ap (slice_get (first_contents open_one)) u.0 ∙ sym (ap (slice_get (first_contents closed_one)) u.1)
initial at at' (inr u) = ap (slice_get (first_contents open_one)) u.0 ∙ sym (ap (slice_get (first_contents closed_one)) u.1)

apart : (at at' : ℕ) → SameUnit closing open_one closed_one at at' → IsUnit closed_one 2 0 at' → ⊥
apart at at' u w = by_units (at_units at at' u) (unit_at closed_one 2 0 at' given 2 0 (Some 0) area_of_given refl refl refl w)
  where
    by_units : AreUnits at at' → (0 < 1) × (at' ≡ 2 + 0 + 0) → ⊥
    by_units (inl p) h = let e = p.1 in let f = h.1 in omega arith
    by_units (inr p) h = let e = p.1 in let f = h.1 in omega arith

is_swap : IsSwap closing open_one closed_one the_swap
is_swap = record {
  variable = v;
  declared = refl;
  paired = refl;
  one_unit = refl;
  stored = refl;
  getter = record {
    result = 2;
    at = here;
    from = here;
    there = refl;
    like = record { like = given; declared = refl; ty = refl; scalar = refl };
    stored = refl;
    apart = apart;
    made = record { no_partner = λ other e. cc e; keeps = not_emptied 0 refl refl };
  };
  setter = record {
    dummy = 3;
    at = here;
    from = here;
    there = refl;
    like = record { like = new_v; declared = refl; ty = refl; scalar = refl };
    made = record { no_partner = λ other e. cc e; keeps = not_emptied 1 refl refl };
  };
}

premises : Premises closing open_one closed_one
premises = record {
  lawful = open_lawful;
  lawful_new = closed_lawful;
  main = refl;
  covered = (((refl, tt, tt), ((refl, tt, tt), tt)), (((refl, tt, tt), (refl, tt, tt)), (((refl, tt, tt), (refl, tt, tt)), (((refl, tt, tt), tt), tt))));
  procedures = λ n e. absurd (cc e);
  one_procedure = λ n other both e. absurd (cc e);
  variables = variables;
  storage = record {
    shared = λ at at' to to' u w. (
      λ e. sym (same_place at at' (at_units at at' u)) ∙ e ∙ same_place to to' (at_units to to' w),
      λ e. same_place at at' (at_units at at' u) ∙ e ∙ sym (same_place to to' (at_units to to' w)),
    );
    emptied = λ at at' n u e. absurd (cc e);
    initial = λ at at' u. initial at at' (at_units at at' u);
  };
  swaps = swaps;
}
  where
    variables : (n : ℕ) → IsPaired kept n → Both (SameVariable closing) (slice_get open_one.variables n) (slice_get closed_one.variables (partner kept n))
    variables zero e = record { ty = refl; dimensions = refl; bounds = tt; home = tt }
    variables (suc zero) e = record { ty = refl; dimensions = refl; bounds = tt; home = tt }
    variables (suc (suc n)) e = absurd (cc e)

    swaps : (unit : Option ℕ) (s : Swap) → outside unit ≡ Some s → IsSwap closing open_one closed_one s
    swaps None s e = let same : the_swap ≡ s = cc e in subst (IsSwap closing open_one closed_one) same is_swap
    swaps (Some n) s e = absurd (cc e)

pub closed_alike : AlikeWithin 8 open_one closed_one
closed_alike = runs_within closing open_one closed_one premises 8 (omega arith)
