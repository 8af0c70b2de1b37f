-- The block of each area is noted by turns.
use Rattle.std.proofs.Common.{◌≡◌, ◌≢◌, ℕ, ◌+◌, ◌<◌, List, Bool, true, false, Option, Some, None, slice_get, set, take, nat_eq, length, get_or, refl, sym, ◌∙◌, ap, arith}
use Rattle.std.proofs.lemmas.List.{length-set, length-take-le, get_or-take, get_or-set_same, get_or-set_other}
use Rattle.std.proofs.lemmas.Option.{slice_get-get_or}
use Rattle.std.proofs.lemmas.Bool.{eqb-true, eq-eqb}
use Rattle.storage_layout.specs.steps.Numbered.{IsBlockOf, AreBlocksOf}
use Rattle.storage_layout.proofs.Start.{clash}

module _ (count : ℕ) (names class size : List ℕ) (blocks : List (Option ℕ)) (k area name : ℕ) (inside : k < length names) (area_is : get_or class (count + k) 0 ≡ area) (name_is : get_or names k 0 ≡ name)
    (known : area < length size) (old : AreBlocksOf count (take k names) class size blocks) where
  counted : length (take (k + 1) names) ≡ k + 1
  counted = length-take-le (k + 1) names (omega arith)

  counted_before : length (take k names) ≡ k
  counted_before = length-take-le k names (omega arith)

  all : length blocks ≡ length size
  all = old.all

  here : (a : ℕ) → a ≡ area → (found : Option ℕ) × (slice_get (set blocks area (Some name)) a ≡ Some found) × IsBlockOf count (take (k + 1) names) class a found
  here a e = (
    Some name,
    ap (slice_get (set blocks area (Some name))) e ∙ slice_get-get_or (set blocks area (Some name)) area None (let l : length (set blocks area (Some name)) ≡ length blocks = length-set blocks area (Some name) in let same = all in omega (arith, known, l, same))
        ∙ ap Some (get_or-set_same blocks area (Some name) None (let same = all in omega (arith, known, same))),
    (k, (let l = counted in omega (arith, l)), area_is ∙ sym e, get_or-take (k + 1) names k 0 (omega arith) ∙ name_is),
  )

  still : (a : ℕ) → a ≢ area → (found : Option ℕ) → IsBlockOf count (take k names) class a found → IsBlockOf count (take (k + 1) names) class a found
  still a apart None is = λ i lt same. by_case i lt same (nat_eq i k) refl
    where
      by_case : (i : ℕ) → i < length (take (k + 1) names) → get_or class (count + i) 0 ≡ a → (b : Bool) → nat_eq i k ≡ b → ⊥
      by_case i lt same true e = apart (sym same ∙ ap (λ (n : ℕ). get_or class (count + n) 0) (eqb-true i k e) ∙ area_is)
      by_case i lt same false e =
          let l = counted in let before = counted_before in
          let other : i ≢ k = (λ eq. clash (nat_eq i k) (eq-eqb i k eq) e) in
          is i (omega (arith, lt, l, before, other)) same
  still a apart (Some number) is = let l = counted in let before = counted_before in let lt = is.1 in let less : is.0 < k = omega (arith, lt, before) in
      (is.0, (omega (arith, less, l)), is.2, get_or-take (k + 1) names is.0 0 (omega (arith, less)) ∙ sym (get_or-take k names is.0 0 less) ∙ is.3)

  there : (a : ℕ) → a ≢ area → a < length size → (found : Option ℕ) × (slice_get (set blocks area (Some name)) a ≡ Some found) × IsBlockOf count (take (k + 1) names) class a found
  there a apart lt =
      let before = old.each a lt in
      let l : length (set blocks area (Some name)) ≡ length blocks = length-set blocks area (Some name) in
      let same = all in (
        before.0,
        slice_get-get_or (set blocks area (Some name)) a None (omega (arith, lt, l, same)) ∙ ap Some (get_or-set_other blocks area a (Some name) None apart)
            ∙ sym (slice_get-get_or blocks a None (omega (arith, lt, same))) ∙ before.1,
        still a apart before.0 before.2,
      )

  pub noted : AreBlocksOf count (take (k + 1) names) class size (set blocks area (Some name))
  noted = record {
    all = length-set blocks area (Some name) ∙ all;
    each = λ a lt. by_case a lt (nat_eq a area) refl;
  }
    where
      by_case : (a : ℕ) → a < length size → (b : Bool) → nat_eq a area ≡ b → (found : Option ℕ) × (slice_get (set blocks area (Some name)) a ≡ Some found) × IsBlockOf count (take (k + 1) names) class a found
      by_case a lt true e = here a (eqb-true a area e)
      by_case a lt false e = there a (λ eq. clash (nat_eq a area) (eq-eqb a area eq) e) lt
