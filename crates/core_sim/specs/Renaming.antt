-- Trees with each variable and procedure replaced by its partner, each token by that which stands for it, and a swapped variable by calls (this
-- project's own).
use Rattle.std.specs.Prelude.{ℕ, nat_eq, if◌then◌else◌, Option, Some, None}
use Rattle.core_prog.specs.declared.site.Site.{Site}
use Rattle.core_prog.specs.Terms.{Term, literal, paren, unary, binary, variable, constant, intrinsic, call, Terms, none, more, Designator, designator, Named, named, Section, no_section, section, Bound, no_bound, bound, Passed, no_passed, by_value, alone, to_end, constants}
use Rattle.core_prog.specs.Actions as act
use Rattle.core_sim.specs.Pairings.{Pairing, Swap, partner}

abbrev pub number_of : Designator → ℕ
number_of (designator at number subscripts range) = number

abbrev pub site_of : Designator → Site
site_of (designator at number subscripts range) = at

-- the swap of a variable
abbrev pub swap_of : Option Swap → ℕ → Option Swap
swap_of None number = None
swap_of (Some s) number = if nat_eq s.variable number then Some s else None

-- a read of a variable, or a call of the function in its place
abbrev pub read_as : Option Swap → Site → Designator → Term
read_as None at of = variable of
read_as (Some s) at of = call at s.getter no_passed

-- a variable alone as an actual argument goes by reference, a call is a value
abbrev pub passed_as : Option Swap → Site → Designator → Passed
passed_as None at of = alone of no_passed
passed_as (Some s) at of = by_value (call at s.getter no_passed) no_passed

-- an assignment, or a call of the subroutine with the right side as actual argument
abbrev pub assigned_as : Option Swap → Site → Designator → Term → Passed → act.Action
assigned_as None at of term args = act.assign of term
assigned_as (Some s) at of term args = act.call at s.setter args

module _ (pairing : Pairing) (swap : Option Swap) where
  abbrev mutual
    pub renamed_term : Term → Term
    renamed_term (literal v) = literal v
    renamed_term (paren inner) = paren (renamed_term inner)
    renamed_term (unary at operator arg) = unary (pairing.site at) operator (renamed_term arg)
    renamed_term (binary at operator left right) = binary (pairing.site at) operator (renamed_term left) (renamed_term right)
    renamed_term (variable of) = read_as (swap_of swap (number_of of)) (pairing.site (site_of of)) (renamed_designator of)
    renamed_term (constant of) = constant (renamed_named of)
    renamed_term (intrinsic at function args) = intrinsic (pairing.site at) function (renamed_terms args)
    renamed_term (call at number args) = call (pairing.site at) (partner pairing.procedure number) (renamed_passed args)

    pub renamed_terms : Terms → Terms
    renamed_terms none = none
    renamed_terms (more term rest) = more (renamed_term term) (renamed_terms rest)

    pub renamed_designator : Designator → Designator
    renamed_designator (designator at number subscripts range) =
        designator (pairing.site at) (partner pairing.variable number) (renamed_terms subscripts) (renamed_section range)

    pub renamed_named : Named → Named
    renamed_named (named at v bounds subscripts range) = named (pairing.site at) v bounds (renamed_terms subscripts) (renamed_section range)

    pub renamed_section : Section → Section
    renamed_section no_section = no_section
    renamed_section (section low high) = section (renamed_bound low) (renamed_bound high)

    pub renamed_bound : Bound → Bound
    renamed_bound no_bound = no_bound
    renamed_bound (bound term) = bound (renamed_term term)

    pub renamed_passed : Passed → Passed
    renamed_passed no_passed = no_passed
    renamed_passed (by_value term rest) = by_value (renamed_term term) (renamed_passed rest)
    renamed_passed (alone of rest) = alone (renamed_designator of) (renamed_passed rest)
    renamed_passed (to_end of rest) = to_end (renamed_designator of) (renamed_passed rest)
    renamed_passed (constants of rest) = constants (renamed_named of) (renamed_passed rest)

  -- a right side as an actual argument
  abbrev pub passed_of : Term → Passed
  passed_of (variable of) = passed_as (swap_of swap (number_of of)) (pairing.site (site_of of)) (renamed_designator of)
  passed_of other = by_value (renamed_term other) no_passed

  abbrev pub renamed_written : act.Written → act.Written
  renamed_written act.no_written = act.no_written
  renamed_written (act.scalar term rest) = act.scalar (renamed_term term) (renamed_written rest)
  renamed_written (act.array at number rest) = act.array (pairing.site at) (partner pairing.variable number) (renamed_written rest)
  renamed_written (act.constants v bounds rest) = act.constants v bounds (renamed_written rest)

  abbrev pub renamed_wanted : act.Wanted → act.Wanted
  renamed_wanted act.no_wanted = act.no_wanted
  renamed_wanted (act.one of rest) = act.one (renamed_designator of) (renamed_wanted rest)
  renamed_wanted (act.each at number rest) = act.each (pairing.site at) (partner pairing.variable number) (renamed_wanted rest)

  abbrev pub renamed_action : act.Action → act.Action
  renamed_action (act.assign target term) =
      assigned_as (swap_of swap (number_of target)) (pairing.site (site_of target)) (renamed_designator target) (renamed_term term) (passed_of term)
  renamed_action (act.fill number term) = act.fill (partner pairing.variable number) (renamed_term term)
  renamed_action (act.call at number args) = act.call (pairing.site at) (partner pairing.procedure number) (renamed_passed args)
  renamed_action (act.exit depth) = act.exit depth
  renamed_action (act.cycle depth) = act.cycle depth
  renamed_action act.return = act.return
  renamed_action act.stop = act.stop
  renamed_action act.continue = act.continue
  renamed_action (act.print items) = act.print (renamed_written items)
  renamed_action (act.read at items) = act.read (pairing.site at) (renamed_wanted items)

  abbrev mutual
    pub renamed_statement : act.Statement → act.Statement
    renamed_statement (act.does action) = act.does (renamed_action action)
    renamed_statement (act.choose arms otherwise) = act.choose (renamed_arms arms) (renamed_block otherwise)
    renamed_statement (act.select term cases otherwise) = act.select (renamed_term term) (renamed_cases cases) (renamed_block otherwise)
    renamed_statement (act.count at number from to by turn) =
        act.count (pairing.site at) (partner pairing.variable number) (renamed_term from) (renamed_term to) (renamed_bound by) (renamed_block turn)
    renamed_statement (act.while term turn) = act.while (renamed_term term) (renamed_block turn)
    renamed_statement (act.forever turn) = act.forever (renamed_block turn)

    pub renamed_block : act.Block → act.Block
    renamed_block act.empty = act.empty
    renamed_block (act.row first rest) = act.row (renamed_statement first) (renamed_block rest)

    pub renamed_arms : act.Arms → act.Arms
    renamed_arms act.no_arms = act.no_arms
    renamed_arms (act.arm term turn rest) = act.arm (renamed_term term) (renamed_block turn) (renamed_arms rest)

    pub renamed_cases : act.Cases → act.Cases
    renamed_cases act.no_cases = act.no_cases
    renamed_cases (act.case values turn rest) = act.case values (renamed_block turn) (renamed_cases rest)
