-- What executable statements do (Fortran 90, 7.5, 8, 9.4, 12.4). Each statement takes a step when it begins, each turn of a DO too.
use Rattle.std.specs.Prelude.{ℕ, zero, suc, ℤ, pos, ◌+ℤ◌, ◌-ℤ◌, ◌==◌, int_div, int_le, unsigned_abs, Bool, true, ◌&&◌, if◌then◌else◌, List, [], ◌∷◌, ◌++◌, map, Option, Some, None, Result, Ok, Err}
use Rattle.std.specs.List.{list_any}
use Rattle.ftn_base.specs.Arithmetic.{sum}
use Rattle.ftn_tree.specs.declared.value.Value.{Value}
use Rattle.ftn_tree.specs.declared.value.Value.TheVariants.{Whole}
use Rattle.ftn_tree.specs.ListRecords.{record_of}
use Rattle.core_prog.specs.declared.site.Site.{Site}
use Rattle.core_prog.specs.declared.outcome.FaultCode.TheVariants as code
use Rattle.core_prog.specs.declared.stmt.CaseValues.{CaseValues}
use Rattle.core_prog.specs.Ends.{End, Stopped, Faulted, Cut}
use Rattle.core_prog.specs.Operations.{as_whole, as_truth, whole_at}
use Rattle.ftn_tree.specs.Arrays.{at_least_zero, axis_from, elements}
use Rattle.core_prog.specs.Memory.{Holding, element_at, read_at}
use Rattle.core_prog.specs.Programs.{Program}
use Rattle.core_prog.specs.Holdings.{holding}
use Rattle.core_prog.specs.Actions.{Written, no_written, scalar, array, constants, Wanted, no_wanted, one, each, Action, assign, fill, call, exit, cycle, return, stop, continue, print, read, Statement, does, choose, select, count, while, forever, Block, empty, row, Arms, no_arms, arm, Cases, no_cases, case}
use Rattle.core_prog.specs.Terms.{Term, designator}
use Rattle.core_prog.specs.Input.{Last, Nothing, scalar_in, elements_in, rest_of}
use Rattle.core_prog.specs.States.{M, ◌>>=◌, ◌>>◌, pure, ends, tick, told, asks, puts, emits, by_input, Way, GoOn, Exit, Cycle, Return, onward, around}
use Rattle.core_prog.specs.Values.{value_of, place_at, arguments_of, bound_or, called}

-- so many elements of an array, from that one on, as values of an output list
abbrev pub elements_out : Site → Holding → ℕ → ℕ → M (List Value)
elements_out at h n zero = pure []
elements_out at h n (suc more) = tick >> (asks (read_at at (element_at h n)) >>= (λ v. elements_out at h (suc n) more >>= (λ vs. pure (v ∷ vs))))

abbrev pub copies_out : Value → ℕ → M (List Value)
copies_out v zero = pure []
copies_out v (suc more) = tick >>= (λ _. copies_out v more >>= (λ vs. pure (v ∷ vs)))

-- the value in so many elements, from that one on
abbrev pub filled : Holding → Value → ℕ → ℕ → M Way
filled h v n zero = pure GoOn
filled h v n (suc more) = tick >>= (λ _. puts (element_at h n) v >> filled h v (suc n) more)

-- 8.1.3: the value is one of the range
abbrev pub is_from : Option ℤ → ℤ → Bool
is_from None z = true
is_from (Some low) z = int_le low z

abbrev pub is_to : Option ℤ → ℤ → Bool
is_to None z = true
is_to (Some high) z = int_le z high

abbrev pub has : ℤ → CaseValues → Bool
has z values = is_from values.low z && is_to values.high z

-- 8.1.4.4.1: how many turns a DO with a variable has, from its first value, what it goes to and what it grows by
abbrev pub turn_count : ℤ → ℤ → ℤ → ℕ
turn_count from to by = at_least_zero (int_div ((to -ℤ from) +ℤ by) by)

abbrev pub not_zero : Site → ℤ → Result (Unit {0}) End
not_zero at z = if unsigned_abs z == 0 then Err (Faulted code.Zero at) else Ok tt

-- 8.1.4.4.2: the DO variable grows
abbrev pub grown : Site → Holding → ℤ → M (Unit {0})
grown at h by = asks (read_at at (element_at h 0)) >>= (λ v. told (as_whole v) >>= (λ z. told (whole_at at (sum z by)) >>= puts (element_at h 0)))

-- so many turns, with something after each that is over by itself or by CYCLE
abbrev pub rounds : ℕ → M (Unit {0}) → M Way → M Way
rounds zero after turn = pure GoOn
rounds (suc n) after turn = tick >> (turn >>= around (after >>= (λ _. rounds n after turn)))

-- turns while a test holds; the number is more than there are steps
abbrev pub turns : ℕ → M Bool → M Way → M Way
turns zero test turn = ends Cut
turns (suc n) test turn = test >>= (λ again. if again then tick >> (turn >>= (λ way. around (turns n test turn) way)) else pure GoOn)

-- a turn takes a step, so the steps that are left are more than the turns
abbrev pub looped : M Bool → M Way → M Way
looped test turn = λ s. turns (suc s.left) test turn s

module _ (program : Program) (body : ℕ → M Way) where
  abbrev pub whole_of : Term → M ℤ
  whole_of term = value_of program body term >>= (λ v. told (as_whole v))

  abbrev pub truth_of : Term → M Bool
  truth_of term = value_of program body term >>= (λ v. told (as_truth v))

  -- 9.4.2: the values of an output list
  abbrev pub written : Written → M (List Value)
  written no_written = pure []
  written (scalar term rest) = value_of program body term >>= (λ v. written rest >>= (λ vs. pure (v ∷ vs)))
  written (array at number rest) = tick >> (asks (holding program number) >>= (λ h. elements_out at h 0 h.count >>= (λ vs. written rest >>= (λ ws. pure (vs ++ ws)))))
  written (constants v bounds rest) = tick >> (copies_out v (elements (map axis_from bounds)) >>= (λ vs. written rest >>= (λ ws. pure (vs ++ ws))))

  -- 9.4.2: an input list; each item is stored before the next one's subscripts are evaluated
  abbrev pub wanted : Wanted → Last → M Last
  wanted no_wanted last = pure last
  wanted (one (designator at number subscripts range) rest) last = place_at program body (designator at number subscripts range) >>= (λ p. scalar_in at p >>= wanted rest)
  wanted (each at number rest) last = asks (holding program number) >>= (λ h. elements_in at h 0 h.count last >>= wanted rest)

  -- 8.1.4.4: DO with a variable, from the values of its three expressions
  abbrev pub counted : Site → ℕ → M Way → ℤ → ℤ → ℤ → M Way
  counted at number turn from to by =
      told (not_zero at by) >> (asks (holding program number) >>= (λ h. puts (element_at h 0) (Whole from) >> rounds (turn_count from to by) (grown at h by) turn))

  -- 2.1: statements without a block
  abbrev pub act : Action → M Way
  act (assign target term) = tick >> (place_at program body target >>= (λ p. value_of program body term >>= (λ v. puts p v >> pure GoOn)))
  act (fill number term) = tick >> (value_of program body term >>= (λ v. asks (holding program number) >>= (λ h. filled h v 0 h.count)))
  act (call at number args) = tick >> (arguments_of program body args >>= (λ found. called program body at number found >> pure GoOn))
  act (exit depth) = tick >> pure (Exit depth)
  act (cycle depth) = tick >> pure (Cycle depth)
  act return = tick >> pure Return
  act stop = tick >> ends Stopped
  act continue = tick >> pure GoOn
  act (print items) = tick >> (written items >>= (λ vs. emits (record_of vs) >> pure GoOn))
  act (read at items) = tick >> (wanted items Nothing >>= (λ last. by_input (λ n. rest_of at n last) >> pure GoOn))

  abbrev mutual
    pub perform : Statement → M Way
    perform (does action) = act action
    perform (choose arms otherwise) = chosen arms (block otherwise)
    perform (select term cases otherwise) = tick >> (whole_of term >>= (λ z. selected z cases (block otherwise)))
    perform (count at number from to by turn) = tick >> (whole_of from >>= (λ a. whole_of to >>= (λ b. bound_or program body (pos 1) by >>= (λ c. counted at number (block turn) a b c))))
    perform (while term turn) = tick >> looped (truth_of term) (block turn)
    perform (forever turn) = tick >> looped (pure true) (block turn)

    pub block : Block → M Way
    block empty = pure GoOn
    block (row first rest) = perform first >>= (λ way. onward (block rest) way)

    -- 8.1.2: IF takes a step for each condition that is evaluated
    pub chosen : Arms → M Way → M Way
    chosen no_arms otherwise = otherwise
    chosen (arm term body rest) otherwise = tick >> (truth_of term >>= (λ holds. if holds then block body else chosen rest otherwise))

    -- 8.1.3: the block of the case that has the value
    pub selected : ℤ → Cases → M Way → M Way
    selected z no_cases otherwise = otherwise
    selected z (case values body rest) otherwise = if list_any (has z) values then block body else selected z rest otherwise
