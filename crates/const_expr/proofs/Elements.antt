-- Subscripts, one after the other, are an element of an array.
use Rattle.std.proofs.Common.{◌≡◌, refl, sym, ◌∙◌, ap, ap₂, subst, cond, arith, ℕ, suc, ℤ, pos, negsuc, Bool, true, false, List, [], ◌∷◌, map, length, Option, Some, None, Ok, Err}
use Rattle.std.specs.Prelude.{◌+ℤ◌, ◌-ℤ◌, int_lt, nat_lt, ◌==◌, not, ◌&&◌, ◌||◌}
use Rattle.std.specs.Option.{is_some, option_map, option_and_then}
use Rattle.std.proofs.lemmas.Bool.{le-ltb}
use Rattle.std.proofs.lemmas.Bool.Decides.{nat_tests}
use Rattle.std.proofs.lemmas.Int.{ints}
use Rattle.ftn_tree.specs.declared.intrinsic.ValueFault.TheVariants.{OutOfRange, IllTyped}
use Rattle.ftn_tree.specs.declared.value.Value.{Value}
use Rattle.ftn_tree.specs.declared.value.Value.TheVariants as value
use Rattle.ftn_tree.specs.Arrays.{Axis, axis_from, span, from_low, next_axis, place_in, at_least_zero}
use Rattle.ftn_tree.specs.Evaluations.{all_wholes, at_element, if_in_range}
use Rattle.ftn_tree.specs.Evaluations as spec
use Rattle.const_expr.specs.declared.references.Parts.{Parts}
use Rattle.const_expr.specs.declared.references.Lookup.{Lookup}
use Rattle.const_expr.specs.declared.references.Lookup.TheVariants as lookup
use Rattle.const_expr.specs.steps.Parts.{looked_up, AreParts}
use Rattle.const_expr.specs.steps.Subscripts.{are_whole, are_within, in_bounds, look_up, found_in, element_by}

-- ---- one subscript

below : (z low : ℤ) (n : ℕ) → z -ℤ low ≡ negsuc n → int_lt z low ≡ true
below z low n e = grind (arith, ints)

above : (z low : ℤ) (n : ℕ) → z -ℤ low ≡ pos n → int_lt z low ≡ false
above z low n e = grind (arith, ints)

inside : (z low high : ℤ) (n m : ℕ) → z -ℤ low ≡ pos n → (high -ℤ low) +ℤ pos 1 ≡ pos m → nat_lt n m ≡ true → int_lt high z ≡ false
inside z low high n m e f g = grind (arith, ints, nat_tests)

outside : (z low high : ℤ) (n m : ℕ) → z -ℤ low ≡ pos n → (high -ℤ low) +ℤ pos 1 ≡ pos m → nat_lt n m ≡ false → int_lt high z ≡ true
outside z low high n m e f g = grind (arith, ints, nat_tests)

beyond : (z low high : ℤ) (n m : ℕ) → z -ℤ low ≡ pos n → (high -ℤ low) +ℤ pos 1 ≡ negsuc m → int_lt high z ≡ true
beyond z low high n m e f = grind (arith, ints)

there_if : (n : ℕ) (b : Bool) → b ≡ is_some (cond b (Some n) None)
there_if n true = refl
there_if n false = refl

up_to : (z low high : ℤ) (n : ℕ) (w : ℤ) → z -ℤ low ≡ pos n → (high -ℤ low) +ℤ pos 1 ≡ w → not (int_lt high z) ≡ is_some (cond (nat_lt n (at_least_zero w)) (Some n) None)
up_to z low high n (pos m) e f = by (nat_lt n m) refl ∙ there_if n (nat_lt n m) where
  by : (x : Bool) → nat_lt n m ≡ x → not (int_lt high z) ≡ nat_lt n m
  by true g = ap not (inside z low high n m e f g) ∙ sym g
  by false g = ap not (outside z low high n m e f g) ∙ sym g
up_to z low high n (negsuc m) e f = ap not (beyond z low high n m e f) ∙ ap (λ x. is_some (cond x (Some n) None)) (sym (le-ltb n 0 (omega arith)))

within_one : (z low high d : ℤ) → z -ℤ low ≡ d → (not (int_lt z low) && not (int_lt high z)) ≡ is_some (from_low (Some (span low high)) d)
within_one z low high (negsuc n) e = ap (λ t. not t && not (int_lt high z)) (below z low n e)
within_one z low high (pos n) e =
    ap (λ t. not t && not (int_lt high z)) (above z low n e) ∙ up_to z low high n ((high -ℤ low) +ℤ pos 1) e refl

-- ---- all of them

both : (axis : Axis) (n rest : Option ℕ) → (is_some n && is_some rest) ≡ is_some (next_axis axis n rest)
both axis (Some n) (Some m) = refl
both axis (Some n) None = refl
both axis None rest = refl

within_all : (zs : List ℤ) (pairs : List (ℤ × ℤ)) → are_within (map value.Whole zs) pairs ≡ is_some (place_in (map axis_from pairs) zs)
within_all [] [] = refl
within_all [] (pair ∷ pairs) = refl
within_all (z ∷ zs) [] = refl
within_all (z ∷ zs) ((low, high) ∷ pairs) =
    ap₂ (λ a b. a && b) (within_one z low high (z -ℤ low) refl) (within_all zs pairs)
    ∙ both (axis_from (low, high)) (from_low (Some (span low high)) (z -ℤ low)) (place_in (map axis_from pairs) zs)

abbrev numbers : List Value → List ℤ
numbers [] = []
numbers (value.Whole z ∷ vs) = z ∷ numbers vs
numbers (value.Truth t ∷ vs) = numbers vs
numbers (value.Chars t ∷ vs) = numbers vs

whole_list : (vs : List Value) → are_whole vs ≡ true → vs ≡ map value.Whole (numbers vs)
whole_list [] e = refl
whole_list (value.Whole z ∷ vs) e = ap (λ rest. value.Whole z ∷ rest) (whole_list vs e)
whole_list (value.Truth t ∷ vs) e = absurd (cc (e))
whole_list (value.Chars t ∷ vs) e = absurd (cc (e))

other_list : (vs : List Value) → are_whole vs ≡ false → all_wholes vs ≡ None
other_list [] e = absurd (cc (e))
other_list (value.Whole z ∷ vs) e = ap (option_map (λ zs. z ∷ zs)) (other_list vs e)
other_list (value.Truth t ∷ vs) e = refl
other_list (value.Chars t ∷ vs) e = refl

known_list : (zs : List ℤ) → all_wholes (map value.Whole zs) ≡ Some zs
known_list [] = refl
known_list (z ∷ zs) = ap (option_map (λ rest. z ∷ rest)) (known_list zs)

all_are : (zs : List ℤ) → are_whole (map value.Whole zs) ≡ true
all_are [] = refl
all_are (z ∷ zs) = all_are zs

same_length : (zs : List ℤ) → length (map value.Whole zs) ≡ length zs
same_length [] = refl
same_length (z ∷ zs) = ap (λ n. suc n) (same_length zs)

-- ---- looking up

refused : (a b : Bool) (found : Lookup) (v : Value) → looked_up (cond (a || (b || true)) (lookup.Fault IllTyped) found) v ≡ Some (Err IllTyped)
refused true b found v = refl
refused false true found v = refl
refused false false found v = refl

by_range : (w : Bool) (v : Value) → looked_up (cond w lookup.There (lookup.Fault OutOfRange)) v ≡ Some (if_in_range w v)
by_range true v = refl
by_range false v = refl

found_by :
    (a b : Bool) (zs : List ℤ) (bounds : Option (List (ℤ × ℤ))) (v : Value) →
    looked_up (cond (a || (not b || false)) (lookup.Fault IllTyped) (in_bounds (map value.Whole zs) bounds)) v
    ≡ cond a (Some (Err IllTyped)) (cond b (option_map (λ pairs. if_in_range (is_some (place_in (map axis_from pairs) zs)) v) bounds) (Some (Err IllTyped)))
found_by true b zs bounds v = refl
found_by false false zs bounds v = refl
found_by false true zs None v = refl
found_by false true zs (Some pairs) v = by_range (are_within (map value.Whole zs) pairs) v ∙ ap (λ w. Some (if_in_range w v)) (within_all zs pairs)

of_wholes :
    (v : Value) (rank : ℕ) (bounds : Option (List (ℤ × ℤ))) (zs : List ℤ) →
    looked_up (look_up rank bounds (map value.Whole zs)) v ≡ at_element v rank bounds (all_wholes (map value.Whole zs))
of_wholes v rank bounds zs =
    ap₂ (λ n w. looked_up (cond ((rank == 0) || (not (n == rank) || not w)) (lookup.Fault IllTyped) (in_bounds (map value.Whole zs) bounds)) v) (same_length zs) (all_are zs)
    ∙ found_by (rank == 0) (length zs == rank) zs bounds v ∙ sym (ap (at_element v rank bounds) (known_list zs))

pub looked_up_is :
    (v : Value) (rank : ℕ) (bounds : Option (List (ℤ × ℤ))) (vs : List Value) → looked_up (look_up rank bounds vs) v ≡ at_element v rank bounds (all_wholes vs)
looked_up_is v rank bounds vs = by (are_whole vs) refl where
  by : (x : Bool) → are_whole vs ≡ x → looked_up (look_up rank bounds vs) v ≡ at_element v rank bounds (all_wholes vs)
  by true e = subst (λ us. looked_up (look_up rank bounds us) v ≡ at_element v rank bounds (all_wholes us)) (sym (whole_list vs e)) (of_wholes v rank bounds (numbers vs))
  by false e =
      ap (λ w. looked_up (cond ((rank == 0) || (not (length vs == rank) || not w)) (lookup.Fault IllTyped) (in_bounds vs bounds)) v) e
      ∙ refused (rank == 0) (not (length vs == rank)) (in_bounds vs bounds) v ∙ sym (ap (at_element v rank bounds) (other_list vs e))

-- ---- elements

found_is :
    (v : Value) (rank : ℕ) (bounds : Option (List (ℤ × ℤ))) (vs : Option (List Value)) →
    looked_up (found_in rank bounds vs) v ≡ option_and_then (λ us. at_element v rank bounds (all_wholes us)) vs
found_is v rank bounds None = refl
found_is v rank bounds (Some vs) = looked_up_is v rank bounds vs

unwritten : (b : Bool) (v : Value) → looked_up (cond b lookup.There (lookup.Fault IllTyped)) v ≡ cond b (Some (Ok v)) (Some (Err IllTyped))
unwritten true v = refl
unwritten false v = refl

pub element_is :
    (v : Value) (rank : ℕ) (bounds : Option (List (ℤ × ℤ))) (es : Option (List spec.Evaluated)) (parts : Option Parts) → AreParts es parts →
    looked_up (element_by rank bounds parts) v ≡ spec.element_of rank bounds es v
element_is v rank bounds None None known = unwritten (rank == 0) v
element_is v rank bounds None (Some parts) known = absurd known
element_is v rank bounds (Some es) None known = absurd known
element_is v rank bounds (Some es) (Some parts) known =
    found_is v rank bounds (option_map (λ vs. vs.items) parts.values) ∙ ap (option_and_then (λ us. at_element v rank bounds (all_wholes us))) known.values
