-- Small programs, computed: each fault of a run.
use Rattle.std.specs.Prelude.{refl, pos, true, false, [], ◌∷◌, codes, Some, None}
use Rattle.std.specs.Fmt.{digits}
use Rattle.ftn_base.specs.declared.entity.Ty.TheVariants as type
use Rattle.ftn_base.specs.declared.entity.Length.TheVariants.{Fixed}
use Rattle.ftn_tree.specs.declared.value.Value.TheVariants as value
use Rattle.ftn_tree.specs.declared.operator.Operator.TheVariants as op
use Rattle.ftn_tree.specs.declared.intrinsic.Intrinsic.TheVariants as function
use Rattle.core_prog.specs.declared.outcome.Outcome.TheVariants as outcome
use Rattle.core_prog.specs.declared.outcome.FaultCode.TheVariants as code
use Rattle.core_prog.specs.declared.storage.Content.TheVariants as content
use Rattle.core_prog.specs.declared.storage.Limit.TheVariants as limit
use Rattle.core_prog.specs.Terms.{literal, paren, variable, constant, intrinsic, none, more, designator, named, no_section, section, no_bound, bound, no_passed, by_value, alone, to_end}
use Rattle.core_prog.specs.Terms as term
use Rattle.core_prog.specs.Actions as act
use Rattle.core_prog.specs.Programs.{Program}
use Rattle.core_prog.proofs.Samples.{here, number, plain, at, of, one, two, area, units, stored, stored_at, dummy, bounds, procedure, main, block, result, line, lines, Takes}

-- a unit that holds another type
--   program p
--     call s
--   end program p
--   subroutine s
--     integer, save :: i
--     logical, save :: l
--     equivalence (i, l)
--     i = 1
--     print *, l
--   end subroutine s
abbrev pub integer_read_as_logical : Program
integer_read_as_logical =
    main ((stored_at 0 (Some 0) type.Integer [] 0) ∷ (stored_at 0 (Some 0) type.Logical [] 0) ∷ [])
    ((procedure [] None (block ((act.does (act.assign (plain 0) (number 1))) ∷ (act.does (act.print (act.scalar (of 1) act.no_written))) ∷ []))) ∷ [])
    ((area 0 1 [] None) ∷ [])
    (block ((act.does (act.call here 0 no_passed)) ∷ []))

integer_read_as_logical_in_6_steps : Takes integer_read_as_logical [] 5 (result (outcome.Fault code.Undefined) [] 0)
unfolding digits
integer_read_as_logical_in_6_steps = (refl, refl)

-- a local variable is undefined at each entry
--   program p
--     call s(.true.)
--     call s(.false.)
--   end program p
--   subroutine s(first)
--     logical :: first
--     integer :: n
--     if (first) n = 1
--     print *, n
--   end subroutine s
abbrev pub emptied_at_entry : Program
emptied_at_entry =
    main ((dummy type.Logical [] 0 0) ∷ (stored_at 0 (Some 0) type.Integer [] 0) ∷ [])
    ((procedure (0 ∷ []) None (block ((act.choose (act.arm (of 0) (block ((act.does (act.assign (plain 1) (number 1))) ∷ [])) act.no_arms) act.empty) ∷ (act.does (act.print (act.scalar (of 1) act.no_written))) ∷ []))) ∷ [])
    ((area 0 1 [] (Some 0)) ∷ [])
    (block ((act.does (act.call here 0 (by_value (literal (value.Truth true)) no_passed))) ∷ (act.does (act.call here 0 (by_value (literal (value.Truth false)) no_passed))) ∷ []))

emptied_at_entry_in_17_steps : Takes emptied_at_entry [] 16 (result (outcome.Fault code.Undefined) (lines ((codes " 1") ∷ [])) 0)
unfolding digits
emptied_at_entry_in_17_steps = (refl, refl)

-- an integer outside 32 bits
--   program p
--     print *, 2147483647 + 1
--   end program p
abbrev pub sum_too_large : Program
sum_too_large =
    main []
    []
    []
    (block ((act.does (act.print (act.scalar (two op.Plus (number 2147483647) (number 1)) act.no_written))) ∷ []))

sum_too_large_in_4_steps : Takes sum_too_large [] 3 (result (outcome.Fault code.Overflow) [] 0)
unfolding digits
sum_too_large_in_4_steps = (refl, refl)

-- the last addition of a DO
--   program p
--     integer :: i
--     do i = 2147483647, 2147483647
--     end do
--   end program p
abbrev pub variable_too_large : Program
variable_too_large =
    main ((stored type.Integer [] 0) ∷ [])
    []
    ((area 0 1 [] None) ∷ [])
    (block ((act.count here 0 (number 2147483647) (number 2147483647) no_bound act.empty) ∷ []))

variable_too_large_in_4_steps : Takes variable_too_large [] 3 (result (outcome.Fault code.Overflow) [] 0)
unfolding digits
variable_too_large_in_4_steps = (refl, refl)

-- a zero divisor
--   program p
--     integer :: n = 0
--     print *, 1 / n
--   end program p
abbrev pub no_divisor : Program
no_divisor =
    main ((stored type.Integer [] 0) ∷ [])
    []
    ((area 0 1 ((units 1 (content.Whole (pos 0))) ∷ []) None) ∷ [])
    (block ((act.does (act.print (act.scalar (two op.Divide (number 1) (of 0)) act.no_written))) ∷ []))

no_divisor_in_4_steps : Takes no_divisor [] 3 (result (outcome.Fault code.Zero) [] 0)
unfolding digits
no_divisor_in_4_steps = (refl, refl)

-- a zero increment of DO
--   program p
--     integer :: i
--     do i = 1, 2, 0
--     end do
--   end program p
abbrev pub no_increment : Program
no_increment =
    main ((stored type.Integer [] 0) ∷ [])
    []
    ((area 0 1 [] None) ∷ [])
    (block ((act.count here 0 (number 1) (number 2) (bound (number 0)) act.empty) ∷ []))

no_increment_in_4_steps : Takes no_increment [] 3 (result (outcome.Fault code.Zero) [] 0)
unfolding digits
no_increment_in_4_steps = (refl, refl)

-- 0 to a negative power
--   program p
--     integer :: n = 0
--     print *, n ** (-1)
--   end program p
abbrev pub zero_to_a_negative_power : Program
zero_to_a_negative_power =
    main ((stored type.Integer [] 0) ∷ [])
    []
    ((area 0 1 ((units 1 (content.Whole (pos 0))) ∷ []) None) ∷ [])
    (block ((act.does (act.print (act.scalar (two op.Power (of 0) (paren (one op.Minus (number 1)))) act.no_written))) ∷ []))

zero_to_a_negative_power_in_5_steps : Takes zero_to_a_negative_power [] 4 (result (outcome.Fault code.Zero) [] 0)
unfolding digits
zero_to_a_negative_power_in_5_steps = (refl, refl)

-- a subscript out of range, which is tested before the right side is evaluated
--   program p
--     integer :: a(2)
--     integer :: n = 0
--     a(3) = 1 / n
--   end program p
abbrev pub element_out_of_range : Program
element_out_of_range =
    main ((stored type.Integer ((bounds (limit.Number (pos 1)) (limit.Number (pos 2))) ∷ []) 0) ∷ (stored type.Integer [] 1) ∷ [])
    []
    ((area 0 2 [] None) ∷ (area 2 1 ((units 1 (content.Whole (pos 0))) ∷ []) None) ∷ [])
    (block ((act.does (act.assign (at 0 (number 3)) (two op.Divide (number 1) (of 1)))) ∷ []))

element_out_of_range_in_2_steps : Takes element_out_of_range [] 1 (result (outcome.Fault code.Bounds) [] 0)
unfolding digits
element_out_of_range_in_2_steps = (refl, refl)

-- a substring out of range
--   program p
--     character(len=2) :: c = 'ab'
--     print *, c(3:2)
--     print *, c(1:3)
--   end program p
abbrev pub substring_out_of_range : Program
substring_out_of_range =
    main ((stored (type.Character (Fixed 2)) [] 0) ∷ [])
    []
    ((area 0 2 ((units 1 (content.Byte 97)) ∷ (units 1 (content.Byte 98)) ∷ []) None) ∷ [])
    (block ((act.does (act.print (act.scalar (variable (designator here 0 none (section (bound (number 3)) (bound (number 2))))) act.no_written))) ∷ (act.does (act.print (act.scalar (variable (designator here 0 none (section (bound (number 1)) (bound (number 3))))) act.no_written))) ∷ []))

substring_out_of_range_in_8_steps : Takes substring_out_of_range [] 7 (result (outcome.Fault code.Bounds) (lines ((codes " ") ∷ [])) 0)
unfolding digits
substring_out_of_range_in_8_steps = (refl, refl)

-- a dummy argument that needs more units than it takes
--   program p
--     integer :: a(2)
--     call s(a(2))
--   end program p
--   subroutine s(b)
--     integer :: b(2)
--     b = 1
--   end subroutine s
abbrev pub too_few_units : Program
too_few_units =
    main ((stored type.Integer ((bounds (limit.Number (pos 1)) (limit.Number (pos 2))) ∷ []) 0) ∷ (dummy type.Integer ((bounds (limit.Number (pos 1)) (limit.Number (pos 2))) ∷ []) 0 0) ∷ [])
    ((procedure (1 ∷ []) None (block ((act.does (act.fill 1 (number 1))) ∷ []))) ∷ [])
    ((area 0 2 [] None) ∷ [])
    (block ((act.does (act.call here 0 (to_end (at 0 (number 2)) no_passed))) ∷ []))

too_few_units_in_4_steps : Takes too_few_units [] 3 (result (outcome.Fault code.Extent) [] 0)
unfolding digits
too_few_units_in_4_steps = (refl, refl)

-- a bound that holds nothing, before the extent
--   program p
--     integer :: a(2), n
--     call s(a, n)
--   end program p
--   subroutine s(b, n)
--     integer :: n, b(n)
--     b = 1
--   end subroutine s
abbrev pub unknown_bound : Program
unknown_bound =
    main ((stored type.Integer ((bounds (limit.Number (pos 1)) (limit.Number (pos 2))) ∷ []) 0) ∷ (stored type.Integer [] 1) ∷ (dummy type.Integer ((bounds (limit.Number (pos 1)) (limit.Dummy 3)) ∷ []) 0 0) ∷ (dummy type.Integer [] 0 1) ∷ [])
    ((procedure (2 ∷ 3 ∷ []) None (block ((act.does (act.fill 2 (number 1))) ∷ []))) ∷ [])
    ((area 0 2 [] None) ∷ (area 2 1 [] None) ∷ [])
    (block ((act.does (act.call here 0 (to_end (plain 0) (alone (plain 1) no_passed)))) ∷ []))

unknown_bound_in_4_steps : Takes unknown_bound [] 3 (result (outcome.Fault code.Undefined) [] 0)
unfolding digits
unknown_bound_in_4_steps = (refl, refl)

-- a call of an active procedure
--   program p
--     call s(1)
--   end program p
--   subroutine s(n)
--     integer :: n
--     call s(n + 1)
--   end subroutine s
abbrev pub calls_itself : Program
calls_itself =
    main ((dummy type.Integer [] 0 0) ∷ [])
    ((procedure (0 ∷ []) None (block ((act.does (act.call here 0 (by_value (two op.Plus (of 0) (number 1)) no_passed))) ∷ []))) ∷ [])
    []
    (block ((act.does (act.call here 0 (by_value (number 1) no_passed))) ∷ []))

calls_itself_in_7_steps : Takes calls_itself [] 6 (result (outcome.Fault code.Recursion) [] 0)
unfolding digits
calls_itself_in_7_steps = (refl, refl)

-- CHAR of a number that is no byte
--   program p
--     integer :: n = 256
--     print *, char(n)
--   end program p
abbrev pub no_byte : Program
no_byte =
    main ((stored type.Integer [] 0) ∷ [])
    []
    ((area 0 1 ((units 1 (content.Whole (pos 256))) ∷ []) None) ∷ [])
    (block ((act.does (act.print (act.scalar (intrinsic here function.Char (more (of 0) none)) act.no_written))) ∷ []))

no_byte_in_3_steps : Takes no_byte [] 2 (result (outcome.Fault code.Range) [] 0)
unfolding digits
no_byte_in_3_steps = (refl, refl)

-- ICHAR of two characters
--   program p
--     character(len=2) :: c = 'ab'
--     print *, ichar(c)
--   end program p
abbrev pub no_one_character : Program
no_one_character =
    main ((stored (type.Character (Fixed 2)) [] 0) ∷ [])
    []
    ((area 0 2 ((units 1 (content.Byte 97)) ∷ (units 1 (content.Byte 98)) ∷ []) None) ∷ [])
    (block ((act.does (act.print (act.scalar (intrinsic here function.Ichar (more (of 0) none)) act.no_written))) ∷ []))

no_one_character_in_3_steps : Takes no_one_character [] 2 (result (outcome.Fault code.Range) [] 0)
unfolding digits
no_one_character_in_3_steps = (refl, refl)

-- a result that holds nothing, after the step of the exit
--   program p
--     integer :: f
--     external f
--     print *, f()
--   end program p
--   integer function f()
--     continue
--   end function f
abbrev pub result_not_given : Program
result_not_given =
    main ((stored_at 0 (Some 0) type.Integer [] 0) ∷ [])
    ((procedure [] (Some 0) (block ((act.does act.continue) ∷ []))) ∷ [])
    ((area 0 1 [] (Some 0)) ∷ [])
    (block ((act.does (act.print (act.scalar (term.call here 0 no_passed) act.no_written))) ∷ []))

result_not_given_in_5_steps : Takes result_not_given [] 4 (result (outcome.Fault code.Undefined) [] 0)
unfolding digits
result_not_given_in_5_steps = (refl, refl)

-- an item that is no integer
--   program p
--     integer :: n
--     read *, n
--   end program p
abbrev pub no_integer_item : Program
no_integer_item =
    main ((stored type.Integer [] 0) ∷ [])
    []
    ((area 0 1 [] None) ∷ [])
    (block ((act.does (act.read here (act.one (plain 0) act.no_wanted))) ∷ []))

no_integer_item_in_3_steps : Takes no_integer_item (line (codes "x")) 2 (result (outcome.Fault code.Input) [] 2)
unfolding digits
no_integer_item_in_3_steps = (refl, refl)

-- no record where one is needed
--   program p
--     integer :: n, k
--     read *, n, k
--   end program p
abbrev pub no_more_records : Program
no_more_records =
    main ((stored type.Integer [] 0) ∷ (stored type.Integer [] 1) ∷ [])
    []
    ((area 0 1 [] None) ∷ (area 1 1 [] None) ∷ [])
    (block ((act.does (act.read here (act.one (plain 0) (act.one (plain 1) act.no_wanted)))) ∷ []))

no_more_records_in_4_steps : Takes no_more_records (line (codes "7")) 3 (result (outcome.Fault code.End) [] 2)
unfolding digits
no_more_records_in_4_steps = (refl, refl)
