-- The first of what is told of several parts.
use Rattle.std.proofs.Common.{◌≡◌, refl, sym, ◌∙◌, ap, ap₂, cond, Bool, true, false, ℕ, arith, List, [], ◌∷◌, ◌++◌, Option, Some, None}
use Rattle.std.specs.Prelude.{nat_lt}
use Rattle.std.specs.List.{filter_map, flat_map}
use Rattle.std.proofs.lemmas.Bool.{lt-ltb, le-ltb, ltb-true, ltb-false}
use Rattle.std.proofs.lemmas.List.{append-nil}
use Rattle.std.proofs.lemmas.List.Elements.{filter_map-append}
use Rattle.std.proofs.lemmas.Grind.{flat_map-append}
use Rattle.ftn_tree.specs.declared.intrinsic.ValueFault.{ValueFault}
use Rattle.ftn_tree.specs.Evaluations as spec
use Rattle.const_expr.specs.FirstTold.{sooner, soonest, itself, breach_key, breach_told, told_by, joined}
use Rattle.const_expr.specs.Seen.{told_in}
use Rattle.const_expr.specs.steps.Parts.{told_in_parts}

sooner_still : {A : Type 0} (key : A → ℕ) (a b c : Option A) → sooner key (sooner key a b) c ≡ sooner key a (sooner key b c)
sooner_still key None b c = refl
sooner_still key (Some a) None c = refl
sooner_still key (Some a) (Some b) None = by (nat_lt (key b) (key a)) where
  by : (x : Bool) → sooner key (cond x (Some b) (Some a)) None ≡ cond x (Some b) (Some a)
  by true = refl
  by false = refl
sooner_still key (Some a) (Some b) (Some c) = by (nat_lt (key b) (key a)) refl (nat_lt (key c) (key b)) refl where
  by : (x : Bool) → nat_lt (key b) (key a) ≡ x → (y : Bool) → nat_lt (key c) (key b) ≡ y
      → sooner key (cond x (Some b) (Some a)) (Some c) ≡ sooner key (Some a) (cond y (Some c) (Some b))
  by true p true q =
      ap (λ t. cond t (Some c) (Some b)) q
      ∙ sym (ap (λ t. cond t (Some c) (Some a)) (lt-ltb (key c) (key a) (omega (arith, ltb-true (key b) (key a) p, ltb-true (key c) (key b) q))))
  by true p false q = ap (λ t. cond t (Some c) (Some b)) q ∙ sym (ap (λ t. cond t (Some b) (Some a)) p)
  by false p true q = refl
  by false p false q =
      ap (λ t. cond t (Some c) (Some a)) (le-ltb (key c) (key a) (omega (arith, ltb-false (key b) (key a) p, ltb-false (key c) (key b) q)))
      ∙ sym (ap (λ t. cond t (Some b) (Some a)) p)

soonest_of_both : {A : Type 0} (key : A → ℕ) (xs ys : List A) → soonest key (xs ++ ys) ≡ sooner key (soonest key xs) (soonest key ys)
soonest_of_both key [] ys = refl
soonest_of_both key (x ∷ xs) ys = ap (sooner key (Some x)) (soonest_of_both key xs ys) ∙ sym (sooner_still key (Some x) (soonest key xs) (soonest key ys))

pub told_of_both :
    (s t : List ℕ) (b c : List (ValueFault × ℕ)) → joined (told_by s b) (told_by t c) ≡ told_by (s ++ t) (b ++ c)
told_of_both s t b c =
    ap₂ (λ x y. record { stray = x; breach = y }) (sym (soonest_of_both itself s t))
    (sym (ap (soonest breach_key) (filter_map-append breach_told b c) ∙ soonest_of_both breach_key (filter_map breach_told b) (filter_map breach_told c)))

pub told_of_parts : (es fs : List spec.Evaluated) → joined (told_in_parts es) (told_in_parts fs) ≡ told_in_parts (es ++ fs)
told_of_parts es fs =
    told_of_both (flat_map (λ (e : spec.Evaluated). e.strays) es) (flat_map (λ (e : spec.Evaluated). e.strays) fs)
    (flat_map (λ (e : spec.Evaluated). e.breaches) es) (flat_map (λ (e : spec.Evaluated). e.breaches) fs)
    ∙ sym (ap₂ told_by (flat_map-append (λ (e : spec.Evaluated). e.strays) es fs) (flat_map-append (λ (e : spec.Evaluated). e.breaches) es fs))

pub told_of_one : (e : spec.Evaluated) → told_in_parts (e ∷ []) ≡ told_in e
told_of_one e = ap₂ told_by (append-nil e.strays) (append-nil e.breaches)

pub told_of_fault : (s : List ℕ) (b c : List (ValueFault × ℕ)) → joined (told_by s b) (told_by [] c) ≡ told_by s (b ++ c)
told_of_fault s b c = told_of_both s [] b c ∙ ap (λ x. told_by x (b ++ c)) (append-nil s)
