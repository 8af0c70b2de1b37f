-- Subscripts, one after the other. It serves the proof alone.
use Rattle.std.specs.Prelude.{ℕ, ℤ, int_lt, ◌==◌, Bool, true, false, not, ◌&&◌, ◌||◌, if◌then◌else◌, List, [], ◌∷◌, length, Option, Some, None}
use Rattle.ftn_tree.specs.declared.intrinsic.ValueFault.TheVariants.{OutOfRange, IllTyped}
use Rattle.ftn_tree.specs.declared.value.Value.{Value}
use Rattle.ftn_tree.specs.declared.value.Value.TheVariants as value
use Rattle.std.specs.Option.{option_map}
use Rattle.const_expr.specs.declared.references.Parts.{Parts}
use Rattle.const_expr.specs.declared.references.Lookup.{Lookup}
use Rattle.const_expr.specs.declared.references.Lookup.TheVariants as lookup

abbrev pub is_whole : Value → Bool
is_whole (value.Whole z) = true
is_whole _ = false

abbrev pub are_whole : List Value → Bool
are_whole [] = true
are_whole (v ∷ vs) = is_whole v && are_whole vs

abbrev pub is_within : Value → ℤ × ℤ → Bool
is_within (value.Whole z) (low, high) = not (int_lt z low) && not (int_lt high z)
is_within _ pair = false

abbrev pub are_within : List Value → List (ℤ × ℤ) → Bool
are_within [] pairs = true
are_within (v ∷ vs) [] = true
are_within (v ∷ vs) (pair ∷ pairs) = is_within v pair && are_within vs pairs

abbrev pub in_bounds : List Value → Option (List (ℤ × ℤ)) → Lookup
in_bounds vs None = lookup.Unknown
in_bounds vs (Some pairs) = if are_within vs pairs then lookup.There else lookup.Fault OutOfRange

abbrev pub look_up : ℕ → Option (List (ℤ × ℤ)) → List Value → Lookup
look_up rank bounds vs =
    if (rank == 0) || (not (length vs == rank) || not (are_whole vs)) then lookup.Fault IllTyped else in_bounds vs bounds

abbrev pub found_in : ℕ → Option (List (ℤ × ℤ)) → Option (List Value) → Lookup
found_in rank bounds None = lookup.Unknown
found_in rank bounds (Some vs) = look_up rank bounds vs

abbrev pub element_by : ℕ → Option (List (ℤ × ℤ)) → Option Parts → Lookup
element_by rank bounds None = if rank == 0 then lookup.There else lookup.Fault IllTyped
element_by rank bounds (Some parts) = found_in rank bounds (option_map (λ vs. vs.items) parts.values)
