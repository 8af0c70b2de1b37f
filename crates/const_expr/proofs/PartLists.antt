-- Values of parts, and what is told of ranges.
use Rattle.std.proofs.Common.{◌≡◌, refl, sym, ◌∙◌, ap, ap₂, List, [], ◌∷◌, ◌++◌, Option, Some, None}
use Rattle.std.specs.Option.{option_map, option_and_then}
use Rattle.ftn_tree.specs.declared.value.Value.{Value}
use Rattle.ftn_tree.specs.declared.value.Value.TheVariants as value
use Rattle.std.specs.Prelude.{Result, Ok, pos}
use Rattle.ftn_tree.specs.declared.intrinsic.ValueFault.{ValueFault}
use Rattle.ftn_tree.specs.Evaluations as spec
use Rattle.ftn_tree.specs.declared.intrinsic.Intrinsic.{Intrinsic}
use Rattle.ftn_tree.specs.Intrinsics.{intrinsic_value}
use Rattle.std.proofs.lemmas.List.{append-nil}
use Rattle.ftn_tree.specs.Evaluations.{all_values, ends_of, parts_of, function_value, bound_or, last_of, part_of, substring_of, then_part}
use Rattle.const_expr.specs.declared.evaluated.Evaluated.{Evaluated}
use Rattle.const_expr.specs.declared.references.Parts.{Parts}
use Rattle.const_expr.specs.declared.references.Range.{Range}
use Rattle.const_expr.specs.declared.told.Told.{Told}
use Rattle.const_expr.specs.FirstTold.{joined, told_by}
use Rattle.const_expr.specs.Seen.{seen, told_in}
use Rattle.const_expr.specs.steps.Parts.{told_in_parts, range_seen, values_with, AreParts}
use Rattle.const_expr.proofs.Firsts.{told_of_one, told_of_parts}

-- ---- one more value

one_value : (v : Option Value) → option_and_then (λ x. option_map (λ xs. x ∷ xs) (Some [])) v ≡ values_with (Some []) v
one_value None = refl
one_value (Some v) = refl

further : (v : Option Value) (vs : Option (List Value)) (w : Option Value) →
    option_and_then (λ x. option_map (λ xs. x ∷ xs) (values_with vs w)) v ≡ values_with (option_and_then (λ x. option_map (λ xs. x ∷ xs) vs) v) w
further None vs w = refl
further (Some v) None w = refl
further (Some v) (Some vs) None = refl
further (Some v) (Some vs) (Some w) = refl

pub all_values_more : (es : List spec.Evaluated) (e : spec.Evaluated) → all_values (es ++ e ∷ []) ≡ values_with (all_values es) e.value
all_values_more [] e = one_value e.value
all_values_more (first ∷ es) e =
    ap (λ vs. option_and_then (λ x. option_map (λ xs. x ∷ xs) vs) first.value) (all_values_more es e) ∙ further first.value (all_values es) e.value

-- ---- ranges

ends_are : (low high : Option spec.Evaluated) → ends_of (Some (low, None)) ++ ends_of (Some (high, None)) ≡ ends_of (Some (low, high))
ends_are None None = refl
ends_are None (Some b) = refl
ends_are (Some a) None = refl
ends_are (Some a) (Some b) = refl

pub told_of_ends :
    (r : Option (Option spec.Evaluated × Option spec.Evaluated)) (range : Range) (one two all : Told) → Some range ≡ range_seen r →
    ((e : Option spec.Evaluated) → range.low ≡ option_map seen e → one ≡ told_in_parts (ends_of (Some (e, None)))) →
    ((e : Option spec.Evaluated) → range.high ≡ option_map seen e → two ≡ told_in_parts (ends_of (Some (e, None)))) →
    all ≡ joined one two → all ≡ told_in_parts (ends_of r)
told_of_ends None range one two all is first second same = absurd (cc (is))
told_of_ends (Some (low, high)) range one two all is first second same =
    let here : range ≡ record { low = option_map seen low; high = option_map seen high } = cc (is) in
    same ∙ ap₂ joined (first low (ap (λ (x : Range). x.low) here)) (second high (ap (λ (x : Range). x.high) here))
    ∙ told_of_parts (ends_of (Some (low, None))) (ends_of (Some (high, None))) ∙ ap told_in_parts (ends_are low high)

-- ---- arguments and subscripts

pub told_of_two : (a b : spec.Evaluated) → joined (told_in a) (told_in b) ≡ told_in_parts (a ∷ b ∷ [])
told_of_two a b = ap₂ joined (sym (told_of_one a)) (sym (told_of_one b)) ∙ told_of_parts (a ∷ []) (b ∷ [])

pub all_parts : (es : Option (List spec.Evaluated)) (r : Option (Option spec.Evaluated × Option spec.Evaluated)) → parts_of es None ++ ends_of r ≡ parts_of es r
all_parts None r = refl
all_parts (Some es) r = ap (λ xs. xs ++ ends_of r) (append-nil es)

pub no_call :
    (function : Intrinsic) (es : List spec.Evaluated) (r : Option (Option spec.Evaluated × Option spec.Evaluated)) (range : Range) →
    Some range ≡ range_seen r → function_value function es r ≡ None
no_call function es None range is = absurd (cc (is))
no_call function es (Some (low, high)) range is = refl

pub a_call :
    (function : Intrinsic) (es : List spec.Evaluated) (r : Option (Option spec.Evaluated × Option spec.Evaluated)) (vs : Option (List Value)) →
    None ≡ range_seen r → vs ≡ all_values es → function_value function es r ≡ option_map (intrinsic_value function) vs
a_call function es None vs is known = ap (option_map (intrinsic_value function)) (sym known)
a_call function es (Some (low, high)) vs is known = absurd (cc (is))

pub some_parts : (es : Option (List spec.Evaluated)) (parts : Parts) → AreParts es (Some parts) → parts.told ≡ told_in_parts (parts_of es None)
some_parts None parts known = absurd known
some_parts (Some es) parts known = known.told ∙ ap told_in_parts (sym (append-nil es))

pub no_parts : (es : Option (List spec.Evaluated)) → AreParts es None → told_by [] [] ≡ told_in_parts (parts_of es None)
no_parts None known = refl
no_parts (Some es) known = absurd known

-- ---- substrings

pub end_value : (d : Value) (e : Option spec.Evaluated) (end : Evaluated) → Some end ≡ option_map seen e → end.value ≡ bound_or d e
end_value d None end is = absurd (cc (is))
end_value d (Some e) end is = let here : end ≡ seen e = cc (is) in ap (λ (x : Evaluated). x.value) here

-- the value of a substring by the values of its ends
pub by_ends :
    (v : Value) (low high : Option spec.Evaluated) (a b : Option Value) → a ≡ bound_or (value.Whole (pos 1)) low → b ≡ bound_or (last_of v) high →
    option_and_then (λ x. option_map (part_of v x) b) a ≡ substring_of (Some (low, high)) v
by_ends v low high a b one other = ap₂ (λ x y. option_and_then (λ z. option_map (part_of v z) y) x) one other

pub unranged :
    (r : Option (Option spec.Evaluated × Option spec.Evaluated)) (w v : Value) → w ≡ v → None ≡ range_seen r → Some (Ok w) ≡ then_part r (Some (Ok v))
unranged None w v same is = ap (λ x. then_part None (Some (Ok x))) same
unranged (Some (low, high)) w v same is = absurd (cc (is))

pub by_range :
    (Q : Option (Result Value ValueFault) → Type 0) (v : Value) (r : Option (Option spec.Evaluated × Option spec.Evaluated)) (range : Range) → Some range ≡ range_seen r →
    ((low high : Option spec.Evaluated) → Some range ≡ range_seen (Some (low, high)) → Q (substring_of (Some (low, high)) v)) → Q (then_part r (Some (Ok v)))
by_range Q v None range is f = absurd (cc (is))
by_range Q v (Some (low, high)) range is f = f low high is
