-- What may not be said of one name in one scoping unit (Fortran 90, 5.1.2, 5.2, 5.5, 12.3.2, 12.5.2, 14.1.2). Which of two sayings comes
-- later makes no difference; the fault is at the later one.
use Rattle.std.specs.Prelude.{Bool, true, false, not, ◌&&◌, ◌||◌}
use Rattle.ftn_tree.specs.declared.mention.Role.TheVariants as role
use Rattle.ftn_tree.specs.Roles.{says}
use Rattle.ftn_tree.specs.Sayings.{Saying, typed, bounded, valued, parameter, initial, saved, dummy, answer, argument, external, intrinsic, body, outside, member, tied, intent, public, private, inside, declares}

-- ---- declared twice

-- a procedure inside, a generic name or a construct name is no other declared name; what an interface body declares is no argument and no result
abbrev pub two_kinds : Saying → Saying → Bool
two_kinds one other = (inside one && declares other) || (body one && argument other)

-- an intrinsic procedure is no external one
abbrev pub two_procedures : Saying → Saying → Bool
two_procedures one other = intrinsic one && (external other || body other)

-- two sayings, one of which comes later
abbrev pub twice_in : Saying → Saying → Bool
twice_in one other =
    (typed one && typed other) || (bounded one && bounded other) || (valued one && valued other)
    || (dummy one && argument other) || two_kinds one other || two_procedures one other

abbrev pub is_twice : Saying → Saying → Bool
is_twice one other = twice_in one other || twice_in other one

-- one saying by itself: DIMENSION twice, or EXTERNAL and INTRINSIC, among the attributes of a declaration
abbrev pub is_twice_itself : Saying → Bool
is_twice_itself s = says role.DimensionTwice s.said || (external s && intrinsic s)

-- ---- attributes that exclude each other

-- 12.5.2: an argument or a result
abbrev pub not_of_argument : Saying → Bool
not_of_argument s = parameter s || saved s || initial s || external s || intrinsic s || member s || tied s

-- 5.1.2.1: a named constant
abbrev pub not_of_constant : Saying → Bool
not_of_constant s = saved s || intent s || member s || tied s

-- 5.5.2, 11.4: a member of a common block. A BLOCK DATA gives initial values to those of named blocks
abbrev pub not_of_member : Bool → Saying → Saying → Bool
not_of_member block_data m s = saved s || (initial s && not (block_data && says role.NamedMember m.said))

-- 12.3.2: a procedure outside
abbrev pub not_of_procedure : Saying → Bool
not_of_procedure s = bounded s || saved s || parameter s || initial s || member s || tied s

abbrev pub excludes : Bool → Saying → Saying → Bool
excludes block_data one other =
    (argument one && not_of_argument other) || (parameter one && not_of_constant other) || (member one && not_of_member block_data one other)
    || (outside one && not_of_procedure other) || (public one && private other)

-- two sayings, one of which comes later; a member of COMMON is listed once
abbrev pub is_excluded : Bool → Saying → Saying → Bool
is_excluded block_data one other = excludes block_data one other || excludes block_data other one || (member one && member other)
