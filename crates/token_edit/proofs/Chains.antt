-- Edits that fit, as a chain of ranges, each from the end of the one before it on.
use Rattle.std.proofs.Common.{◌≡◌, ℕ, ◌≤◌, Bool, true, ◌&&◌, nat_le, List, [], ◌∷◌, refl, arith}
use Rattle.std.specs.List.{list_all}
use Rattle.std.proofs.lemmas.Bool.{and_parts, and_from, leb-true, le-leb}
use Rattle.std.proofs.lemmas.Bool.Decides.{same_from_decides}
use Rattle.token_edit.specs.Edits.{lies_in, are_apart, fit}
use Rattle.token_edit.specs.declared.edit.Edit.{Edit}

abbrev pub is_chain : ℕ → ℕ → List Edit → Bool
is_chain at long [] = nat_le at long
is_chain at long (edit ∷ edits) = nat_le at edit.range.start && nat_le edit.range.start edit.range.end && is_chain edit.range.end long edits

-- what a chain says of its first edit
pub record Link (at long : ℕ) (edit : Edit) (edits : List Edit) : Type 0 where
  pub starts : at ≤ edit.range.start
  pub rises : edit.range.start ≤ edit.range.end
  pub rest : is_chain edit.range.end long edits ≡ true

pub first_link : (at long : ℕ) (edit : Edit) (edits : List Edit) → is_chain at long (edit ∷ edits) ≡ true → Link at long edit edits
first_link at long edit edits h =
    let starts : Bool = nat_le at edit.range.start in
    let rises : Bool = nat_le edit.range.start edit.range.end in
    let all = and_parts (starts && rises) (is_chain edit.range.end long edits) h in
    let two = and_parts starts rises all.0 in
    record { starts = leb-true at edit.range.start two.0; rises = leb-true edit.range.start edit.range.end two.1; rest = all.1 }

pub chain_from : (at long : ℕ) (edit : Edit) (edits : List Edit) → Link at long edit edits → is_chain at long (edit ∷ edits) ≡ true
chain_from at long edit edits h =
    let starts : Bool = nat_le at edit.range.start in
    let rises : Bool = nat_le edit.range.start edit.range.end in
    and_from (starts && rises) (is_chain edit.range.end long edits) (and_from starts rises (le-leb at edit.range.start h.starts) (le-leb edit.range.start edit.range.end h.rises)) h.rest

pub chain_inside : (at long : ℕ) (edits : List Edit) → is_chain at long edits ≡ true → at ≤ long
chain_inside at long [] h = leb-true at long h
chain_inside at long (edit ∷ edits) h =
    let link = first_link at long edit edits h in
    let starts = link.starts in
    let rises = link.rises in
    let rest : edit.range.end ≤ long = chain_inside edit.range.end long edits link.rest in
    omega arith

-- all ranges start there or later
abbrev start_from : ℕ → List Edit → Bool
start_from at edits = list_all (λ (edit : Edit). nat_le at edit.range.start) edits

later_from : (at next : ℕ) (edits : List Edit) → at ≤ next → start_from next edits ≡ true → start_from at edits ≡ true
later_from at next [] le h = refl
later_from at next (edit ∷ edits) le h =
    let parts = and_parts (nat_le next edit.range.start) (start_from next edits) h in
    let start = leb-true next edit.range.start parts.0 in
    and_from (nat_le at edit.range.start) (start_from at edits) (le-leb at edit.range.start (omega arith)) (later_from at next edits le parts.1)

fit_first : (long : ℕ) (edit : Edit) (edits : List Edit) → fit long (edit ∷ edits) ≡ true → (edit.range.start ≤ edit.range.end) × (edit.range.end ≤ long) × (start_from edit.range.end edits ≡ true) × (fit long edits ≡ true)
fit_first long edit edits h =
    let all = and_parts (lies_in long edit && list_all (lies_in long) edits) (start_from edit.range.end edits && are_apart edits) h in
    let lie = and_parts (lies_in long edit) (list_all (lies_in long) edits) all.0 in
    let apart = and_parts (start_from edit.range.end edits) (are_apart edits) all.1 in
    let two = and_parts (nat_le edit.range.start edit.range.end) (nat_le edit.range.end long) lie.0 in
    (leb-true edit.range.start edit.range.end two.0, leb-true edit.range.end long two.1, apart.0, and_from (list_all (lies_in long) edits) (are_apart edits) lie.1 apart.1)

pub chain_of_fit : (at long : ℕ) (edits : List Edit) → at ≤ long → start_from at edits ≡ true → fit long edits ≡ true → is_chain at long edits ≡ true
chain_of_fit at long [] inside starts h = le-leb at long inside
chain_of_fit at long (edit ∷ edits) inside starts h =
    let first = fit_first long edit edits h in
    chain_from at long edit edits (record {
      starts = leb-true at edit.range.start (and_parts (nat_le at edit.range.start) (start_from at edits) starts).0;
      rises = first.0;
      rest = chain_of_fit edit.range.end long edits first.1 first.2 first.3;
    })

fit_of_chain : (at long : ℕ) (edits : List Edit) → is_chain at long edits ≡ true → (start_from at edits ≡ true) × (fit long edits ≡ true)
fit_of_chain at long [] h = (refl, refl)
fit_of_chain at long (edit ∷ edits) h =
    let link = first_link at long edit edits h in
    let starts = link.starts in
    let rises = link.rises in
    let inside = chain_inside edit.range.end long edits link.rest in
    let rest = fit_of_chain edit.range.end long edits link.rest in
    let parts = and_parts (list_all (lies_in long) edits) (are_apart edits) rest.1 in
    let lie : lies_in long edit ≡ true = and_from (nat_le edit.range.start edit.range.end) (nat_le edit.range.end long) (le-leb edit.range.start edit.range.end rises) (le-leb edit.range.end long inside) in (
      and_from (nat_le at edit.range.start) (start_from at edits) (le-leb at edit.range.start starts) (later_from at edit.range.end edits (omega arith) rest.0),
      and_from (lies_in long edit && list_all (lies_in long) edits) (start_from edit.range.end edits && are_apart edits)
          (and_from (lies_in long edit) (list_all (lies_in long) edits) lie parts.0)
          (and_from (start_from edit.range.end edits) (are_apart edits) rest.0 parts.1),
    )

start_anywhere : (edits : List Edit) → start_from 0 edits ≡ true
start_anywhere [] = refl
start_anywhere (edit ∷ edits) = and_from (nat_le 0 edit.range.start) (start_from 0 edits) (le-leb 0 edit.range.start (omega arith)) (start_anywhere edits)

pub fit_is_chain : (long : ℕ) (edits : List Edit) → fit long edits ≡ is_chain 0 long edits
fit_is_chain long edits =
    same_from_decides {P = fit long edits ≡ true} (fit long edits) (is_chain 0 long edits) ((λ h. h), (λ h. h))
    ((λ h. (fit_of_chain 0 long edits h).1), (λ h. chain_of_fit 0 long edits (omega arith) (start_anywhere edits) h))
