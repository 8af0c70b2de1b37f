-- The first of the kept ties that contradicts those before it is a tie that was given, and the first such one.
use Rattle.std.proofs.Common.{suc, ◌≡◌, ◌≢◌, ℕ, ◌+◌, ◌-◌, ◌<◌, ◌≤◌, List, [], ◌∷◌, ◌++◌, Bool, true, false, Contains, All, AllPairs, take, drop, nat_lt, length, refl, sym, ◌∙◌, subst, ap, arith}
use Rattle.std.proofs.lemmas.List.{length-append, take-append-le, take-append-drop, append-nil}
use Rattle.std.proofs.lemmas.List.Elements.{Contains-append_left, All-take}
use Rattle.std.proofs.lemmas.Bool.{ltb-true, ltb-false}
use Rattle.ftn_base.specs.declared.entity.Tie.{Tie}
use Rattle.ftn_base.specs.Storage.{IsContradicted, tie_links}
use Rattle.ftn_base.proofs.WalkLaws.{leads_more}
use Rattle.ftn_base.specs.declared.storage.Member.{Member}
use Rattle.ftn_base.specs.StorageMembers.{list_links, links}
use Rattle.ftn_base.specs.StorageFaults.{IsFirst}
use Rattle.storage_layout.specs.steps.Numbered.{AreMemberTies}
use Rattle.storage_layout.proofs.Potential.{lists_agree}
use Rattle.storage_layout.proofs.Carried.{contradicts_on, contradicts_back, tie_from, tie_there}
use Rattle.storage_layout.proofs.Growing.{contradicted_more, is_first}

pub take_past : {X : Type 0} (xs ys : List X) (n : ℕ) → take (length xs + n) (xs ++ ys) ≡ xs ++ take n ys
take_past {X = X} [] ys n = let none : length {A = X} [] + n ≡ n = omega arith in ap (λ (k : ℕ). take k ys) none
take_past {X = X} (x ∷ xs) ys n = let more : length (x ∷ xs) + n ≡ suc (length xs + n) = omega arith in
    ap (λ (k : ℕ). take k (x ∷ (xs ++ ys))) more ∙ ap (λ (rest : List X). x ∷ rest) (take_past xs ys n)

pub fewer : (some more : List Tie) → IsContradicted (tie_links some) → IsContradicted (tie_links (some ++ more))
fewer some more bad = record {
  thing = bad.thing;
  by = bad.by;
  apart = bad.apart;
  back = leads_more (tie_links some) (tie_links (some ++ more)) bad.thing bad.thing bad.by
      (λ link there. (let tie = tie_from some link there in subst (Contains (tie_links (some ++ more))) tie.2 (tie_there (some ++ more) tie.0 (Contains-append_left some more tie.0 tie.1)))) bad.back;
}

module _ (names sizes : List ℕ) (members : List Member) (given member_ties : List Tie)
    (are : AreMemberTies (length sizes) names sizes [] members member_ties)
    (known : All (λ tie. (tie.a < length sizes) × (tie.b < length sizes)) given) (there : (member : Member) → Contains members member → member.object < length sizes)
    (once : AllPairs (λ earlier later. earlier.object ≢ later.object) members) where
  Contradicts : List Tie → Type 0
  Contradicts some = IsContradicted (links sizes members some)

  none_known : All {X = Tie} (λ (tie : Tie). (tie.a < length sizes) × (tie.b < length sizes)) []
  none_known k d lt = absurd (omega (arith, lt))

  -- the ties of members alone do not contradict each other
  members_agree : IsContradicted (tie_links member_ties) → ⊥
  members_agree bad =
      let with_none : IsContradicted (tie_links (member_ties ++ [])) = subst (λ (ties : List Tie). IsContradicted (tie_links ties)) (sym (append-nil member_ties)) bad in
      lists_agree sizes members once (subst IsContradicted (append-nil (list_links sizes members)) (contradicts_back names sizes members [] member_ties are none_known there with_none))

  pub conflict : (number : ℕ) → number < length (member_ties ++ given) → (IsContradicted (tie_links (take number (member_ties ++ given))) → ⊥) → IsContradicted (tie_links (take (number + 1) (member_ties ++ given)))
      → (length member_ties ≤ number) × IsFirst (λ some. IsContradicted (links sizes members some)) given (number - length member_ties)
  conflict number lt before here = by_case (nat_lt number (length member_ties)) refl
    where
      early : number < length member_ties → ⊥
      early less =
          let front : take (number + 1) (member_ties ++ given) ≡ take (number + 1) member_ties = take-append-le (number + 1) member_ties given (omega arith) in
          let bad : IsContradicted (tie_links (take (number + 1) member_ties)) = subst (λ (ties : List Tie). IsContradicted (tie_links ties)) front here in
          members_agree (subst (λ (ties : List Tie). IsContradicted (tie_links ties)) (take-append-drop (number + 1) member_ties) (fewer (take (number + 1) member_ties) (drop (number + 1) member_ties) bad))

      late : length member_ties ≤ number → IsFirst (λ some. IsContradicted (links sizes members some)) given (number - length member_ties)
      late high =
          let k : ℕ = number - length member_ties in
          let at : length member_ties + k ≡ number = omega arith in
          let all : length (member_ties ++ given) ≡ length member_ties + length given = length-append member_ties given in
          let front : take number (member_ties ++ given) ≡ member_ties ++ take k given = ap (λ (n : ℕ). take n (member_ties ++ given)) (sym at) ∙ take_past member_ties given k in
          let next : length member_ties + (k + 1) ≡ number + 1 = omega arith in
          let longer : take (number + 1) (member_ties ++ given) ≡ member_ties ++ take (k + 1) given = ap (λ (n : ℕ). take n (member_ties ++ given)) (sym next) ∙ take_past member_ties given (k + 1) in
          is_first (λ some. IsContradicted (links sizes members some)) given k (λ m n le. contradicted_more sizes members given m n le) (omega (arith, lt, all, at))
          (contradicts_back names sizes members (take (k + 1) given) member_ties are (All-take (λ tie. (tie.a < length sizes) × (tie.b < length sizes)) (k + 1) given known) there
          (subst (λ (ties : List Tie). IsContradicted (tie_links ties)) longer here))
          (λ bad. before (subst (λ (ties : List Tie). IsContradicted (tie_links ties)) (sym front)
          (contradicts_on names sizes members (take k given) member_ties are (All-take (λ tie. (tie.a < length sizes) × (tie.b < length sizes)) k given known) there bad)))

      by_case : (b : Bool) → nat_lt number (length member_ties) ≡ b → (length member_ties ≤ number) × IsFirst (λ some. IsContradicted (links sizes members some)) given (number - length member_ties)
      by_case true e = absurd (early (ltb-true number (length member_ties) e))
      by_case false e = (ltb-false number (length member_ties) e, late (ltb-false number (length member_ties) e))
