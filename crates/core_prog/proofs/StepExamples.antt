-- Small programs, computed: the steps that each of them takes.
use Rattle.std.specs.Prelude.{◌≡◌, refl, pos, negsuc, false, [], ◌∷◌, codes, Some, None}
use Rattle.std.specs.Fmt.{digits}
use Rattle.ftn_base.specs.declared.entity.Ty.TheVariants as type
use Rattle.ftn_base.specs.declared.entity.Length.TheVariants.{Fixed, Assumed}
use Rattle.ftn_tree.specs.declared.value.Value.TheVariants as value
use Rattle.ftn_tree.specs.declared.operator.Operator.TheVariants as op
use Rattle.ftn_tree.specs.declared.intrinsic.Intrinsic.TheVariants as function
use Rattle.core_prog.specs.declared.outcome.Outcome.TheVariants as outcome
use Rattle.core_prog.specs.declared.storage.Content.TheVariants as content
use Rattle.core_prog.specs.declared.storage.Limit.TheVariants as limit
use Rattle.core_prog.specs.Terms.{literal, paren, variable, constant, intrinsic, none, more, designator, named, no_section, section, no_bound, bound, no_passed, by_value, alone, to_end}
use Rattle.core_prog.specs.Terms as term
use Rattle.core_prog.specs.Actions as act
use Rattle.core_prog.specs.Programs.{Program}
use Rattle.core_prog.specs.Runs.{run}
use Rattle.core_prog.proofs.Samples.{here, number, text, plain, at, of, one, two, area, units, stored, stored_at, dummy, bounds, range, procedure, main, block, result, lines, Takes}

-- PRINT, and its node
--   program p
--     print *, 1
--   end program p
abbrev pub nothing_but_print : Program
nothing_but_print =
    main []
    []
    []
    (block ((act.does (act.print (act.scalar (number 1) act.no_written))) ∷ []))

nothing_but_print_in_2_steps : Takes nothing_but_print [] 1 (result outcome.Stop (lines ((codes " 1") ∷ [])) 0)
unfolding digits
nothing_but_print_in_2_steps = (refl, refl)

-- a variable of a module with an initial value
--   module m
--     integer :: v = 1
--   end module m
--   program p
--     use m
--     v = v + 1
--     print *, v
--   end program p
abbrev pub module_variable : Program
module_variable =
    main ((stored type.Integer [] 0) ∷ [])
    []
    ((area 0 1 ((units 1 (content.Whole (pos 1))) ∷ []) None) ∷ [])
    (block ((act.does (act.assign (plain 0) (two op.Plus (of 0) (number 1)))) ∷ (act.does (act.print (act.scalar (of 0) act.no_written))) ∷ []))

module_variable_in_6_steps : Takes module_variable [] 5 (result outcome.Stop (lines ((codes " 2") ∷ [])) 0)
unfolding digits
module_variable_in_6_steps = (refl, refl)

-- the same by a function and a subroutine: entries and exits take steps
--   module m
--     integer :: v = 1
--     private :: v
--   contains
--     function get_v()
--       integer :: get_v
--       get_v = v
--     end function get_v
--     subroutine set_v(new_v)
--       integer, intent(in) :: new_v
--       v = new_v
--     end subroutine set_v
--   end module m
--   program p
--     use m
--     call set_v(get_v() + 1)
--     print *, get_v()
--   end program p
abbrev pub getter_and_setter : Program
getter_and_setter =
    main ((stored type.Integer [] 0) ∷ (stored_at 0 (Some 0) type.Integer [] 1) ∷ (dummy type.Integer [] 1 0) ∷ [])
    ((procedure [] (Some 1) (block ((act.does (act.assign (plain 1) (of 0))) ∷ []))) ∷ (procedure (2 ∷ []) None (block ((act.does (act.assign (plain 0) (of 2))) ∷ []))) ∷ [])
    ((area 0 1 ((units 1 (content.Whole (pos 1))) ∷ []) None) ∷ (area 1 1 [] (Some 0)) ∷ [])
    (block ((act.does (act.call here 1 (by_value (two op.Plus (term.call here 0 no_passed) (number 1)) no_passed))) ∷ (act.does (act.print (act.scalar (term.call here 0 no_passed) act.no_written))) ∷ []))

getter_and_setter_in_18_steps : Takes getter_and_setter [] 17 (result outcome.Stop (lines ((codes " 2") ∷ [])) 0)
unfolding digits
getter_and_setter_in_18_steps = (refl, refl)

-- a sign binds more loosely than a power or a quotient
--   program p
--     print *, -7/2, -2**2, 7 - 2 - 1, 2**3**2
--   end program p
abbrev pub signs_and_powers : Program
signs_and_powers =
    main []
    []
    []
    (block ((act.does (act.print (act.scalar (one op.Minus (two op.Divide (number 7) (number 2))) (act.scalar (one op.Minus (two op.Power (number 2) (number 2))) (act.scalar (two op.Minus (two op.Minus (number 7) (number 2)) (number 1)) (act.scalar (two op.Power (number 2) (two op.Power (number 3) (number 2))) act.no_written)))))) ∷ []))

signs_and_powers_in_19_steps : Takes signs_and_powers [] 18 (result outcome.Stop (lines ((codes " -3 -4 4 512") ∷ [])) 0)
unfolding digits
signs_and_powers_in_19_steps = (refl, refl)

-- DO with a variable: a step for each turn, none for the additions
--   program p
--     character(len=3) :: c
--     integer :: i
--     c = 'abcdef'
--     do i = 1, 10, 4
--     end do
--     print *, c, c == 'abc ', i
--   end program p
abbrev pub counted_turns : Program
counted_turns =
    main ((stored (type.Character (Fixed 3)) [] 0) ∷ (stored type.Integer [] 1) ∷ [])
    []
    ((area 0 3 [] None) ∷ (area 3 1 [] None) ∷ [])
    (block ((act.does (act.assign (plain 0) (text (codes "abcdef")))) ∷ (act.count here 1 (number 1) (number 10) (bound (number 4)) act.empty) ∷ (act.does (act.print (act.scalar (of 0) (act.scalar (two op.Eq (of 0) (text (codes "abc "))) (act.scalar (of 1) act.no_written))))) ∷ []))

counted_turns_in_15_steps : Takes counted_turns [] 14 (result outcome.Stop (lines ((codes " abc T 13") ∷ [])) 0)
unfolding digits
counted_turns_in_15_steps = (refl, refl)

-- DO WHILE: the condition comes before the step of its turn
--   program p
--     integer :: n = 2
--     do while (n > 0)
--       n = n - 1
--     end do
--   end program p
abbrev pub tested_turns : Program
tested_turns =
    main ((stored type.Integer [] 0) ∷ [])
    []
    ((area 0 1 ((units 1 (content.Whole (pos 2))) ∷ []) None) ∷ [])
    (block ((act.while (two op.Gt (of 0) (number 0)) (block ((act.does (act.assign (plain 0) (two op.Minus (of 0) (number 1)))) ∷ []))) ∷ []))

tested_turns_in_20_steps : Takes tested_turns [] 19 (result outcome.Stop [] 0)
unfolding digits
tested_turns_in_20_steps = (refl, refl)

-- EXIT and CYCLE, also of an outer DO
--   program p
--     integer :: i = 0
--     outer: do
--       i = i + 1
--       do
--         if (i < 2) cycle outer
--         exit outer
--       end do
--     end do outer
--     print *, i
--   end program p
abbrev pub left_turns : Program
left_turns =
    main ((stored type.Integer [] 0) ∷ [])
    []
    ((area 0 1 ((units 1 (content.Whole (pos 0))) ∷ []) None) ∷ [])
    (block ((act.forever (block ((act.does (act.assign (plain 0) (two op.Plus (of 0) (number 1)))) ∷ (act.forever (block ((act.choose (act.arm (two op.Lt (of 0) (number 2)) (block ((act.does (act.cycle 1)) ∷ [])) act.no_arms) act.empty) ∷ (act.does (act.exit 1)) ∷ []))) ∷ []))) ∷ (act.does (act.print (act.scalar (of 0) act.no_written))) ∷ []))

left_turns_in_27_steps : Takes left_turns [] 26 (result outcome.Stop (lines ((codes " 2") ∷ [])) 0)
unfolding digits
left_turns_in_27_steps = (refl, refl)

-- an array gets a scalar and is printed: a step for each element
--   program p
--     integer :: a(2)
--     a = 7
--     print *, a
--   end program p
abbrev pub array_of_one_value : Program
array_of_one_value =
    main ((stored type.Integer ((bounds (limit.Number (pos 1)) (limit.Number (pos 2))) ∷ []) 0) ∷ [])
    []
    ((area 0 2 [] None) ∷ [])
    (block ((act.does (act.fill 0 (number 7))) ∷ (act.does (act.print (act.array here 0 act.no_written))) ∷ []))

array_of_one_value_in_8_steps : Takes array_of_one_value [] 7 (result outcome.Stop (lines ((codes " 7 7") ∷ [])) 0)
unfolding digits
array_of_one_value_in_8_steps = (refl, refl)

-- IF: each condition that is evaluated takes a step, and ELSE none
--   program p
--     logical :: l = .false.
--     if (l) then
--       stop
--     else if (l) then
--       stop
--     else
--       print *, l
--     end if
--   end program p
abbrev pub conditions_in_turn : Program
conditions_in_turn =
    main ((stored type.Logical [] 0) ∷ [])
    []
    ((area 0 1 ((units 1 (content.Truth false)) ∷ []) None) ∷ [])
    (block ((act.choose (act.arm (of 0) (block ((act.does act.stop) ∷ [])) (act.arm (of 0) (block ((act.does act.stop) ∷ [])) act.no_arms)) (block ((act.does (act.print (act.scalar (of 0) act.no_written))) ∷ []))) ∷ []))

conditions_in_turn_in_6_steps : Takes conditions_in_turn [] 5 (result outcome.Stop (lines ((codes " F") ∷ [])) 0)
unfolding digits
conditions_in_turn_in_6_steps = (refl, refl)

-- SELECT CASE: no step for its cases
--   program p
--     integer :: n = 4
--     select case (n)
--     case (1, 3)
--       stop
--     case (:0, 4:6)
--       print *
--     case default
--       stop
--     end select
--   end program p
abbrev pub one_case : Program
one_case =
    main ((stored type.Integer [] 0) ∷ [])
    []
    ((area 0 1 ((units 1 (content.Whole (pos 4))) ∷ []) None) ∷ [])
    (block ((act.select (of 0) (act.case ((range (Some (pos 1)) (Some (pos 1))) ∷ (range (Some (pos 3)) (Some (pos 3))) ∷ []) (block ((act.does act.stop) ∷ [])) (act.case ((range None (Some (pos 0))) ∷ (range (Some (pos 4)) (Some (pos 6))) ∷ []) (block ((act.does (act.print act.no_written)) ∷ [])) act.no_cases)) (block ((act.does act.stop) ∷ []))) ∷ []))

one_case_in_3_steps : Takes one_case [] 2 (result outcome.Stop (lines ((codes " ") ∷ [])) 0)
unfolding digits
one_case_in_3_steps = (refl, refl)

-- a dummy array takes the rest of the array, the others their own units
--   program p
--     integer :: a(4)
--     integer :: n = 2
--     a = 1
--     call s(a(2), n, 5)
--     print *, a
--   end program p
--   subroutine s(b, n, k)
--     integer :: n, k, b(n)
--     b(2) = k
--   end subroutine s
abbrev pub units_of_an_array : Program
units_of_an_array =
    main ((stored type.Integer ((bounds (limit.Number (pos 1)) (limit.Number (pos 4))) ∷ []) 0) ∷ (stored type.Integer [] 1) ∷ (dummy type.Integer ((bounds (limit.Number (pos 1)) (limit.Dummy 3)) ∷ []) 0 0) ∷ (dummy type.Integer [] 0 1) ∷ (dummy type.Integer [] 0 2) ∷ [])
    ((procedure (2 ∷ 3 ∷ 4 ∷ []) None (block ((act.does (act.assign (at 2 (number 2)) (of 4))) ∷ []))) ∷ [])
    ((area 0 4 [] None) ∷ (area 4 1 ((units 1 (content.Whole (pos 2))) ∷ []) None) ∷ [])
    (block ((act.does (act.fill 0 (number 1))) ∷ (act.does (act.call here 0 (to_end (at 0 (number 2)) (alone (plain 1) (by_value (number 5) no_passed))))) ∷ (act.does (act.print (act.array here 0 act.no_written))) ∷ []))

units_of_an_array_in_22_steps : Takes units_of_an_array [] 21 (result outcome.Stop (lines ((codes " 1 1 5 1") ∷ [])) 0)
unfolding digits
units_of_an_array_in_22_steps = (refl, refl)

-- an assumed length is that of the argument
--   program p
--     character(len=5) :: c = 'abcde'
--     call s(c(2:4))
--     print *, c
--   end program p
--   subroutine s(d)
--     character(len=*) :: d
--     d(len(d):) = 'x'
--   end subroutine s
abbrev pub length_of_the_argument : Program
length_of_the_argument =
    main ((stored (type.Character (Fixed 5)) [] 0) ∷ (dummy (type.Character Assumed) [] 0 0) ∷ [])
    ((procedure (1 ∷ []) None (block ((act.does (act.assign (designator here 1 none (section (bound (intrinsic here function.Len (more (of 1) none))) no_bound)) (text (codes "x")))) ∷ []))) ∷ [])
    ((area 0 5 ((units 1 (content.Byte 97)) ∷ (units 1 (content.Byte 98)) ∷ (units 1 (content.Byte 99)) ∷ (units 1 (content.Byte 100)) ∷ (units 1 (content.Byte 101)) ∷ []) None) ∷ [])
    (block ((act.does (act.call here 0 (alone (designator here 0 none (section (bound (number 2)) (bound (number 4)))) no_passed))) ∷ (act.does (act.print (act.scalar (of 0) act.no_written))) ∷ []))

length_of_the_argument_in_12_steps : Takes length_of_the_argument [] 11 (result outcome.Stop (lines ((codes " abcxe") ∷ [])) 0)
unfolding digits
length_of_the_argument_in_12_steps = (refl, refl)

-- an array of assumed size has as many whole elements as the units bear
--   program p
--     integer :: a(5)
--     a = 3
--     call s(a)
--   end program p
--   subroutine s(b)
--     integer :: b(2, *)
--     print *, b(1, 3)
--   end subroutine s
abbrev pub whole_elements : Program
whole_elements =
    main ((stored type.Integer ((bounds (limit.Number (pos 1)) (limit.Number (pos 5))) ∷ []) 0) ∷ (dummy type.Integer ((bounds (limit.Number (pos 1)) (limit.Number (pos 2))) ∷ (bounds (limit.Number (pos 1)) limit.Open) ∷ []) 0 0) ∷ [])
    ((procedure (1 ∷ []) None (block ((act.does (act.print (act.scalar (variable (designator here 1 (more (number 1) (more (number 3) none)) no_section)) act.no_written))) ∷ []))) ∷ [])
    ((area 0 5 [] None) ∷ [])
    (block ((act.does (act.fill 0 (number 3))) ∷ (act.does (act.call here 0 (to_end (plain 0) no_passed))) ∷ []))

whole_elements_in_15_steps : Takes whole_elements [] 14 (result outcome.Stop (lines ((codes " 3") ∷ [])) 0)
unfolding digits
whole_elements_in_15_steps = (refl, refl)

-- both operands of .AND. are evaluated, from left to right
--   program p
--     logical :: f
--     external f
--     print *, f(1) .and. f(2)
--   end program p
--   logical function f(n)
--     integer :: n
--     print *, n
--     f = n > 1
--   end function f
abbrev pub both_operands : Program
both_operands =
    main ((stored_at 0 (Some 0) type.Logical [] 0) ∷ (dummy type.Integer [] 0 0) ∷ [])
    ((procedure (1 ∷ []) (Some 0) (block ((act.does (act.print (act.scalar (of 1) act.no_written))) ∷ (act.does (act.assign (plain 0) (two op.Gt (of 1) (number 1)))) ∷ []))) ∷ [])
    ((area 0 1 [] (Some 0)) ∷ [])
    (block ((act.does (act.print (act.scalar (two op.And (term.call here 0 (by_value (number 1) no_passed)) (term.call here 0 (by_value (number 2) no_passed))) act.no_written))) ∷ []))

both_operands_in_22_steps : Takes both_operands [] 21 (result outcome.Stop (lines ((codes " 1") ∷ (codes " 2") ∷ (codes " F") ∷ [])) 0)
unfolding digits
both_operands_in_22_steps = (refl, refl)

-- an array that is a named constant gets a place of its own, with the elements from the named one on
--   program p
--     integer, parameter :: k(3) = 4
--     call s(k(2))
--     print *, k
--   end program p
--   subroutine s(b)
--     integer :: b(2)
--     b(1) = 1
--     print *, b
--   end subroutine s
abbrev pub place_of_its_own : Program
place_of_its_own =
    main ((dummy type.Integer ((bounds (limit.Number (pos 1)) (limit.Number (pos 2))) ∷ []) 0 0) ∷ [])
    ((procedure (0 ∷ []) None (block ((act.does (act.assign (at 0 (number 1)) (number 1))) ∷ (act.does (act.print (act.array here 0 act.no_written))) ∷ []))) ∷ [])
    []
    (block ((act.does (act.call here 0 (term.constants (named here (value.Whole (pos 4)) (((pos 1), (pos 3)) ∷ []) (more (number 2) none) no_section) no_passed))) ∷ (act.does (act.print (act.constants (value.Whole (pos 4)) (((pos 1), (pos 3)) ∷ []) act.no_written))) ∷ []))

place_of_its_own_in_17_steps : Takes place_of_its_own [] 16 (result outcome.Stop (lines ((codes " 1 4") ∷ (codes " 4 4 4") ∷ [])) 0)
unfolding digits
place_of_its_own_in_17_steps = (refl, refl)

-- the intrinsic functions
--   program p
--     print *, abs(-2), mod(-7, 3), sign(3, -1), min(3, 1, 2), max(3, 4)
--     print *, len('ab '), len_trim('ab '), trim('ab ') // 'c', ichar('A'), char(66), index('abcab', 'ca')
--   end program p
abbrev pub intrinsic_functions : Program
intrinsic_functions =
    main []
    []
    []
    (block ((act.does (act.print (act.scalar (intrinsic here function.Abs (more (one op.Minus (number 2)) none)) (act.scalar (intrinsic here function.Mod (more (one op.Minus (number 7)) (more (number 3) none))) (act.scalar (intrinsic here function.Sign (more (number 3) (more (one op.Minus (number 1)) none))) (act.scalar (intrinsic here function.Min (more (number 3) (more (number 1) (more (number 2) none)))) (act.scalar (intrinsic here function.Max (more (number 3) (more (number 4) none))) act.no_written))))))) ∷ (act.does (act.print (act.scalar (intrinsic here function.Len (more (text (codes "ab ")) none)) (act.scalar (intrinsic here function.LenTrim (more (text (codes "ab ")) none)) (act.scalar (two op.Concat (intrinsic here function.Trim (more (text (codes "ab ")) none)) (text (codes "c"))) (act.scalar (intrinsic here function.Ichar (more (text (codes "A")) none)) (act.scalar (intrinsic here function.Char (more (number 66) none)) (act.scalar (intrinsic here function.Index (more (text (codes "abcab")) (more (text (codes "ca")) none))) act.no_written)))))))) ∷ []))

intrinsic_functions_in_35_steps : Takes intrinsic_functions [] 34 (result outcome.Stop (lines ((codes " 2 -1 -3 1 4") ∷ (codes " 3 2 abc 65 B 3") ∷ [])) 0)
unfolding digits
intrinsic_functions_in_35_steps = (refl, refl)

-- DATA gives initial values
--   program p
--     integer :: a(3), n
--     data a, n / 2*7, -1, 5 /
--     print *, a, n
--   end program p
abbrev pub given_by_data : Program
given_by_data =
    main ((stored type.Integer ((bounds (limit.Number (pos 1)) (limit.Number (pos 3))) ∷ []) 0) ∷ (stored type.Integer [] 1) ∷ [])
    []
    ((area 0 3 ((units 2 (content.Whole (pos 7))) ∷ (units 1 (content.Whole (negsuc 0))) ∷ []) None) ∷ (area 3 1 ((units 1 (content.Whole (pos 5))) ∷ []) None) ∷ [])
    (block ((act.does (act.print (act.array here 0 (act.scalar (of 1) act.no_written)))) ∷ []))

given_by_data_in_6_steps : Takes given_by_data [] 5 (result outcome.Stop (lines ((codes " 7 7 -1 5") ∷ [])) 0)
unfolding digits
given_by_data_in_6_steps = (refl, refl)

-- EQUIVALENCE: one storage unit
--   program p
--     integer :: i, a(2)
--     equivalence (i, a(2))
--     i = 5
--     print *, a(2)
--   end program p
abbrev pub one_unit : Program
one_unit =
    main ((stored_at 1 None type.Integer [] 0) ∷ (stored type.Integer ((bounds (limit.Number (pos 1)) (limit.Number (pos 2))) ∷ []) 0) ∷ [])
    []
    ((area 0 2 [] None) ∷ [])
    (block ((act.does (act.assign (plain 0) (number 5))) ∷ (act.does (act.print (act.scalar (variable (at 1 (number 2))) act.no_written))) ∷ []))

one_unit_in_5_steps : Takes one_unit [] 4 (result outcome.Stop (lines ((codes " 5") ∷ [])) 0)
unfolding digits
one_unit_in_5_steps = (refl, refl)

-- cut, it has printed nothing
nothing_but_print_cut : (run nothing_but_print [] 0 ≡ result outcome.Spent [] 0) × (run nothing_but_print [] 1 ≡ result outcome.Spent [] 0)
nothing_but_print_cut = (refl, refl)
