-- Lawful programs (Fortran 90, 5.1.2, 7.5.1, 8.1, 12.4, 14.6.3): each number names what is there, each variable lies in its area, and
-- statements have the types and the numbers of arguments that they are to have.
use Rattle.std.specs.Prelude.{◌≡◌, ◌≤◌, ◌<◌, ◌⊎◌, ℕ, suc, ◌+◌, ◌*◌, Bool, true, false, not, ◌&&◌, ◌||◌, nat_lt, is_none, List, [], ◌∷◌, map, take, length, slice_get, sum_by, Option, Some, None}
use Rattle.std.specs.List.{list_all}
use Rattle.ftn_base.specs.Limits.{most_units_of_all}
use Rattle.core_prog.specs.declared.storage.Area.{Area}
use Rattle.core_prog.specs.declared.storage.Run as runs
use Rattle.core_prog.specs.declared.storage.Dimension.{Dimension}
use Rattle.core_prog.specs.declared.storage.Limit.{Limit}
use Rattle.core_prog.specs.declared.storage.Limit.TheVariants as limit
use Rattle.core_prog.specs.declared.storage.Home.{Home}
use Rattle.core_prog.specs.declared.storage.Home.TheVariants as home
use Rattle.core_prog.specs.declared.storage.Variable.{Variable}
use Rattle.ftn_tree.specs.Arrays.{elements}
use Rattle.core_prog.specs.Holdings.{unit_of, fixed_axis}
use Rattle.core_prog.specs.Programs.{Program, Procedure}
use Rattle.core_prog.specs.Actions.{Written, no_written, scalar, array, constants, Wanted, no_wanted, one, each, Action, assign, fill, call, exit, cycle, return, stop, continue, print, read, Statement, does, choose, select, count, while, forever, Block, empty, row, Arms, no_arms, arm, Cases, no_cases, case}
use Rattle.core_prog.specs.Terms.{Passed}
use Rattle.ftn_tree.specs.Sorts.{Sort, Whole, Truth, is_sort, sort_of_type}
use Rattle.core_prog.specs.Sorts.{is_scalar, ◌>>=◌, if_so, dummies_of, sort_of, sort_of_designator, is_whole, are_passed}

-- the type of a whole array; that of a scalar
abbrev pub array_sort : Program → ℕ → Option Sort
array_sort program number = slice_get program.variables number >>= (λ v. if_so (not (is_scalar v)) (sort_of_type v.ty))

abbrev pub scalar_sort : Program → ℕ → Option Sort
scalar_sort program number = slice_get program.variables number >>= (λ v. if_so (is_scalar v) (sort_of_type v.ty))

-- both have a type, and it is one
abbrev pub agree : Option Sort → Option Sort → Bool
agree (Some sort) found = is_sort sort found
agree None found = false

abbrev pub has_sort : Option Sort → Bool
has_sort found = not (is_none found)

module _ (program : Program) where
  abbrev pub are_written : Written → Bool
  are_written no_written = true
  are_written (scalar term rest) = has_sort (sort_of program term) && are_written rest
  are_written (array at number rest) = has_sort (array_sort program number) && are_written rest
  are_written (constants v bounds rest) = are_written rest

  abbrev pub are_wanted : Wanted → Bool
  are_wanted no_wanted = true
  are_wanted (one of rest) = has_sort (sort_of_designator program of) && are_wanted rest
  are_wanted (each at number rest) = has_sort (array_sort program number) && are_wanted rest

  -- a subroutine and its actual arguments
  abbrev pub is_call : Passed → Option Procedure → Bool
  is_call args None = false
  is_call args (Some proc) = is_none proc.result && are_passed program args (dummies_of program proc)

  -- inside so many DO constructs, in a procedure or not
  abbrev pub is_action : ℕ → Bool → Action → Bool
  is_action depth inside (assign target term) = agree (sort_of_designator program target) (sort_of program term)
  is_action depth inside (fill number term) = agree (array_sort program number) (sort_of program term)
  is_action depth inside (call at number args) = is_call args (slice_get program.procedures number)
  is_action depth inside (exit number) = nat_lt number depth
  is_action depth inside (cycle number) = nat_lt number depth
  is_action depth inside return = inside
  is_action depth inside stop = true
  is_action depth inside continue = true
  is_action depth inside (print items) = are_written items
  is_action depth inside (read at items) = are_wanted items

  abbrev mutual
    pub is_statement : ℕ → Bool → Statement → Bool
    is_statement depth inside (does action) = is_action depth inside action
    is_statement depth inside (choose arms otherwise) = are_arms depth inside arms && is_block depth inside otherwise
    is_statement depth inside (select term cases otherwise) = is_sort Whole (sort_of program term) && (are_cases depth inside cases && is_block depth inside otherwise)
    is_statement depth inside (count at number from to by turn) =
        is_sort Whole (scalar_sort program number) && is_sort Whole (sort_of program from) && is_sort Whole (sort_of program to) && is_whole program by && is_block (suc depth) inside turn
    is_statement depth inside (while term turn) = is_sort Truth (sort_of program term) && is_block (suc depth) inside turn
    is_statement depth inside (forever turn) = is_block (suc depth) inside turn

    pub is_block : ℕ → Bool → Block → Bool
    is_block depth inside empty = true
    is_block depth inside (row first rest) = is_statement depth inside first && is_block depth inside rest

    pub are_arms : ℕ → Bool → Arms → Bool
    are_arms depth inside no_arms = true
    are_arms depth inside (arm term turn rest) = is_sort Truth (sort_of program term) && is_block depth inside turn && are_arms depth inside rest

    pub are_cases : ℕ → Bool → Cases → Bool
    are_cases depth inside no_cases = true
    are_cases depth inside (case values turn rest) = is_block depth inside turn && are_cases depth inside rest

  -- a procedure of that number, where one is named
  abbrev pub IsNamed : Option ℕ → Type 0
  IsNamed None = Unit {0}
  IsNamed (Some number) = number < length program.procedures

  -- areas adjoin in the row of all units
  pub record IsArea (number : ℕ) (area : Area) : Type 0 where
    pub begins : area.start ≡ sum_by (λ (a : Area). a.size) (take number program.areas)
    pub given : sum_by (λ (r : runs.Run). r.count) area.initial ≤ area.size
    pub emptier : IsNamed area.emptied

  abbrev pub is_number : Limit → Bool
  is_number (limit.Number z) = true
  is_number other = false

  abbrev pub is_fixed : Dimension → Bool
  is_fixed d = is_number d.low && is_number d.high

  abbrev pub units_of_all : Variable → ℕ
  units_of_all v = elements (map fixed_axis v.dimensions) * unit_of v.ty

  -- the units of a variable lie in its area; an area that is emptied is that of the procedure's own variables
  pub record IsStored (v : Variable) (number offset : ℕ) (owner : Option ℕ) : Type 0 where
    pub area : Area
    pub there : slice_get program.areas number ≡ Some area
    pub fixed : list_all is_fixed v.dimensions ≡ true
    pub some : 0 < units_of_all v
    pub inside : offset + units_of_all v ≤ area.size
    pub owned : IsNamed owner
    pub emptier : (area.emptied ≡ None) ⊎ (area.emptied ≡ owner)

  abbrev pub is_dummy : Home → Bool
  is_dummy (home.Dummy procedure position) = true
  is_dummy other = false

  abbrev pub is_bounding : Option Variable → Bool
  is_bounding None = false
  is_bounding (Some v) = is_dummy v.home && is_scalar v && is_sort Whole (Some (sort_of_type v.ty))

  -- a bound of a dummy array: a number, or a scalar integer dummy argument; an upper bound may be open
  abbrev pub is_limit : Limit → Bool
  is_limit (limit.Number z) = true
  is_limit (limit.Dummy number) = is_bounding (slice_get program.variables number)
  is_limit limit.Open = false

  abbrev pub is_open_limit : Limit → Bool
  is_open_limit limit.Open = true
  is_open_limit other = false

  -- 5.1.2.4.4: only the last upper bound may be open
  abbrev pub are_dimensions : List Dimension → Bool
  are_dimensions [] = true
  are_dimensions (d ∷ []) = is_limit d.low && (is_limit d.high || is_open_limit d.high)
  are_dimensions (d ∷ e ∷ ds) = is_limit d.low && is_limit d.high && are_dimensions (e ∷ ds)

  pub record IsTaken (v : Variable) (number procedure position : ℕ) : Type 0 where
    pub proc : Procedure
    pub there : slice_get program.procedures procedure ≡ Some proc
    pub listed : slice_get proc.dummies position ≡ Some number
    pub bounds : are_dimensions v.dimensions ≡ true

  abbrev pub IsAtHome : ℕ → Variable → Home → Type 0
  IsAtHome number v (home.Stored area offset owner) = IsStored v area offset owner
  IsAtHome number v (home.Dummy procedure position) = IsTaken v number procedure position

  -- a dummy argument of this procedure at this position
  abbrev pub IsDummyOf : ℕ → ℕ → Option Variable → Type 0
  IsDummyOf number position None = ⊥
  IsDummyOf number position (Some v) = v.home ≡ home.Dummy number position

  abbrev pub IsResult : Option ℕ → Type 0
  IsResult None = Unit {0}
  IsResult (Some number) = has_sort (scalar_sort program number) ≡ true

  pub record IsProcedure (number : ℕ) (proc : Procedure) : Type 0 where
    pub dummies : (position dummy : ℕ) → slice_get proc.dummies position ≡ Some dummy → IsDummyOf number position (slice_get program.variables dummy)
    pub result : IsResult proc.result
    pub body : is_block 0 true proc.body ≡ true

pub record IsLawful (program : Program) : Type 0 where
  pub areas : (number : ℕ) (area : Area) → slice_get program.areas number ≡ Some area → IsArea program number area
  pub few : sum_by (λ (a : Area). a.size) program.areas ≤ most_units_of_all
  pub variables : (number : ℕ) (v : Variable) → slice_get program.variables number ≡ Some v → IsAtHome program number v v.home
  pub procedures : (number : ℕ) (proc : Procedure) → slice_get program.procedures number ≡ Some proc → IsProcedure program number proc
  pub statements : is_block program 0 false program.main ≡ true
