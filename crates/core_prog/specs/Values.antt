-- What expressions, designators and actual arguments give (Fortran 90, 7.1.7, 6, 12.4). Each node takes a step before its operands,
-- which go from left to right.
use Rattle.std.specs.Prelude.{ℕ, ℤ, pos, ◌-◌, List, [], ◌∷◌, map, length, take, drop, Option, Some, None, Ok}
use Rattle.ftn_tree.specs.declared.value.Value.{Value}
use Rattle.ftn_tree.specs.declared.value.Value.TheVariants as value
use Rattle.core_prog.specs.declared.site.Site.{Site}
use Rattle.core_prog.specs.Ends.{found}
use Rattle.core_prog.specs.Operations.{unary_of, binary_of, intrinsic_of, as_whole}
use Rattle.core_prog.specs.Contents.{units_of}
use Rattle.ftn_tree.specs.Arrays.{Axis, axis_from, elements, element, part}
use Rattle.core_prog.specs.Memory.{Place, in_bounds, place_of, read_at}
use Rattle.core_prog.specs.Programs.{Program, Procedure}
use Rattle.core_prog.specs.Holdings.{holding, procedure}
use Rattle.core_prog.specs.Entries.{Argument, units, own, entered, left, not_active, result_at}
use Rattle.core_prog.specs.Terms.{Term, literal, paren, unary, binary, variable, constant, intrinsic, call, Terms, none, more, Designator, designator, Named, named, Section, no_section, section, Bound, no_bound, bound, Passed, no_passed, by_value, alone, to_end, constants}
use Rattle.core_prog.specs.States.{M, Way, ◌>>=◌, ◌>>◌, pure, tick, told, asks, remembers}

-- characters of a value, from that one on
abbrev pub cut_out : ℕ × ℕ → Value → Value
cut_out (from, n) (value.Chars text) = value.Chars (take n (drop from text))
cut_out range other = other

-- the element of a constant array that is named, and its substring
abbrev pub constant_of : Site → Value → List Axis → List ℤ → Option (ℤ × ℤ) → M Value
constant_of at v axes subscripts range =
    told (in_bounds at (element (elements axes) axes subscripts)) >>= (λ _.
    told (in_bounds at (part (units_of v) range)) >>= (λ found. pure (cut_out found v)))

-- the elements of a constant array from the named one to its end
abbrev pub constants_of : Site → Value → List Axis → List ℤ → M Argument
constants_of at v axes subscripts =
    told (in_bounds at (element (elements axes) axes subscripts)) >>= (λ n. pure (own v (elements axes - n)))

-- 12.5.2: the exit, whose step comes before the result is read
abbrev pub leaving : Program → Site → Procedure → ℕ → M (Option Value)
leaving program at proc mark =
    tick >> (asks (result_at program at proc.result) >>= (λ result. asks (λ memory. Ok (left mark memory)) >>= (λ outside. remembers outside >> pure result)))

module _ (program : Program) (body : ℕ → M Way) where
  -- what a procedure does from its entry to its exit
  abbrev pub entering : Site → ℕ → List Argument → M (Option Value)
  entering at number args = do
    proc ← told (procedure program number)
    mark ← asks (λ memory. Ok (length memory.cells))
    inside ← asks (entered program at number proc.dummies args)
    remembers inside
    body number
    leaving program at proc mark

  -- a call: the procedure isn't active; the entry takes a step
  abbrev pub called : Site → ℕ → List Argument → M (Option Value)
  called at number args = asks (not_active at number) >> (tick >> entering at number args)

  abbrev mutual
    pub value_of : Term → M Value
    value_of (literal v) = tick >> pure v
    value_of (paren inner) = value_of inner
    value_of (unary at operator arg) = tick >> (value_of arg >>= (λ a. told (unary_of at operator a)))
    value_of (binary at operator left right) = tick >> (value_of left >>= (λ a. value_of right >>= (λ b. told (binary_of at operator a b))))
    value_of (variable of) = tick >> read_of of
    value_of (constant of) = tick >> constant_in of
    value_of (intrinsic at function args) = tick >> (values_of args >>= (λ vs. told (intrinsic_of at function vs)))
    value_of (call at number args) = tick >> (arguments_of args >>= (λ found_args. called at number found_args >>= (λ result. told (found result))))

    pub values_of : Terms → M (List Value)
    values_of none = pure []
    values_of (more term rest) = value_of term >>= (λ v. values_of rest >>= (λ vs. pure (v ∷ vs)))

    -- subscripts
    pub wholes_of : Terms → M (List ℤ)
    wholes_of none = pure []
    wholes_of (more term rest) = value_of term >>= (λ v. told (as_whole v) >>= (λ z. wholes_of rest >>= (λ zs. pure (z ∷ zs))))

    -- a bound, or else what stands for it without a step
    pub bound_or : ℤ → Bound → M ℤ
    bound_or z no_bound = pure z
    bound_or z (bound term) = value_of term >>= (λ v. told (as_whole v))

    -- 6.1.1: a substring range, of a text of that length
    pub range_of : ℕ → Section → M (Option (ℤ × ℤ))
    range_of length no_section = pure None
    range_of length (section low high) = bound_or (pos 1) low >>= (λ a. bound_or (pos length) high >>= (λ b. pure (Some (a, b))))

    -- the units of a variable, element or substring: all subscripts, then the range, and then one test
    pub place_at : Designator → M Place
    place_at (designator at number subscripts range) =
        asks (holding program number) >>= (λ h. wholes_of subscripts >>= (λ zs. range_of h.unit range >>= (λ r. told (place_of at h zs r))))

    pub read_of : Designator → M Value
    read_of (designator at number subscripts range) =
        asks (holding program number) >>= (λ h. wholes_of subscripts >>= (λ zs. range_of h.unit range >>= (λ r.
        told (place_of at h zs r) >>= (λ p. asks (read_at at p)))))

    pub constant_in : Named → M Value
    constant_in (named at v bounds subscripts range) =
        wholes_of subscripts >>= (λ zs. range_of (units_of v) range >>= (λ r. constant_of at v (map axis_from bounds) zs r))

    pub constants_from : Named → M Argument
    constants_from (named at v bounds subscripts range) =
        wholes_of subscripts >>= (λ zs. constants_of at v (map axis_from bounds) zs)

    -- 12.4.1: actual arguments, in their order
    pub arguments_of : Passed → M (List Argument)
    arguments_of no_passed = pure []
    arguments_of (by_value term rest) = value_of term >>= (λ v. arguments_of rest >>= (λ args. pure (own v 1 ∷ args)))
    arguments_of (alone of rest) = tick >> (place_at of >>= (λ p. arguments_of rest >>= (λ args. pure (units p.first p.units p.units ∷ args))))
    arguments_of (to_end of rest) = tick >> (place_at of >>= (λ p. arguments_of rest >>= (λ args. pure (units p.first p.behind p.unit ∷ args))))
    arguments_of (constants of rest) = tick >> (constants_from of >>= (λ arg. arguments_of rest >>= (λ args. pure (arg ∷ args))))
