-- The last member of a block in a scoping unit ends where all of them do.
use Rattle.std.proofs.Common.{zero, ◌≡◌, ℕ, ◌+◌, List, [], ◌∷◌, ◌++◌, ◌⊎◌, inl, inr, Bool, true, false, Contains, map, filter, sum, get_or, refl, sym, ◌∙◌, subst, ap, arith}
use Rattle.std.proofs.lemmas.Bool.Decides.{nat_tests}
use Rattle.std.proofs.lemmas.List.{append-nil, append_assoc, map_push}
use Rattle.std.proofs.lemmas.List.Elements.{filter-append}
use Rattle.std.proofs.lemmas.List.Sums.{sum_by_push}
use Rattle.ftn_base.specs.Storage.{member_link}
use Rattle.ftn_base.specs.declared.storage.Member.{Member}
use Rattle.ftn_base.specs.StorageMembers.{is_in, units_in, start_after, links_after}
use Rattle.storage_layout.proofs.Potential.{cons_more}

one_kept : (p : Member → Bool) (member : Member) → p member ≡ true → filter p (member ∷ []) ≡ member ∷ []
one_kept p member e = grind arith

none_kept : (p : Member → Bool) (member : Member) → p member ≡ false → filter p (member ∷ []) ≡ []
none_kept p member e = grind arith

pub units_more : (sizes : List ℕ) (before : List Member) (member : Member) (number scope : ℕ) → is_in number scope member ≡ true
    → units_in sizes (before ++ member ∷ []) number scope ≡ units_in sizes before number scope + get_or sizes member.object 0
units_more sizes before member number scope e =
    ap (λ (ms : List Member). sum (map (λ m. get_or sizes m.object 0) ms)) (filter-append (is_in number scope) before (member ∷ []) ∙ ap (λ (ms : List Member). filter (is_in number scope) before ++ ms) (one_kept (is_in number scope) member e))
    ∙ ap sum (map_push (λ m. get_or sizes m.object 0) (filter (is_in number scope) before) member)
    ∙ sum_by_push (λ (x : ℕ). x) (map (λ m. get_or sizes m.object 0) (filter (is_in number scope) before)) (get_or sizes member.object 0)

pub units_same : (sizes : List ℕ) (before : List Member) (member : Member) (number scope : ℕ) → is_in number scope member ≡ false
    → units_in sizes (before ++ member ∷ []) number scope ≡ units_in sizes before number scope
units_same sizes before member number scope e =
    ap (λ (ms : List Member). sum (map (λ m. get_or sizes m.object 0) ms))
    (filter-append (is_in number scope) before (member ∷ []) ∙ ap (λ (ms : List Member). filter (is_in number scope) before ++ ms) (none_kept (is_in number scope) member e) ∙ append-nil (filter (is_in number scope) before))

-- a member of the block that ends where all members of the scoping unit do
pub record EndsAll (sizes : List ℕ) (before members : List Member) (number scope total : ℕ) : Type 0 where
  pub member : Member
  pub there : Contains members member
  pub start : ℕ
  pub link : Contains (links_after sizes before members) (member_link number member.object start)
  pub end : start + get_or sizes member.object 0 ≡ total

block_is : (number scope : ℕ) (member : Member) → is_in number scope member ≡ true → member.block ≡ number
block_is number scope member e = grind (arith, nat_tests)

scope_is : (number scope : ℕ) (member : Member) → is_in number scope member ≡ true → member.scope ≡ scope
scope_is number scope member e = grind (arith, nat_tests)

later_ends : (sizes : List ℕ) (before rest : List Member) (member : Member) (number scope total : ℕ) → EndsAll sizes (before ++ member ∷ []) rest number scope total → EndsAll sizes before (member ∷ rest) number scope total
later_ends sizes before rest member number scope total it = record {
  member = it.member;
  there = cons_more member rest it.member it.there;
  start = it.start;
  link = cons_more (member_link member.block member.object (start_after sizes before member)) (links_after sizes (before ++ member ∷ []) rest) (member_link number it.member.object it.start) it.link;
  end = it.end;
}

here_ends : (sizes : List ℕ) (before rest : List Member) (member : Member) (number scope total : ℕ) → is_in number scope member ≡ true
    → units_in sizes (before ++ member ∷ []) number scope ≡ total → EndsAll sizes before (member ∷ rest) number scope total
here_ends sizes before rest member number scope total e all = record {
  member = member;
  there = (zero, (omega arith), refl);
  start = units_in sizes before number scope;
  link = (zero, (omega arith), ap (λ (b : ℕ). member_link b member.object (units_in sizes before b member.scope)) (block_is number scope member e) ∙ ap (λ (s : ℕ). member_link number member.object (units_in sizes before number s)) (scope_is number scope member e));
  end = sym (units_more sizes before member number scope e) ∙ all;
}

pub ends_all : (sizes : List ℕ) (before members : List Member) (number scope : ℕ)
    → (units_in sizes before number scope ≡ units_in sizes (before ++ members) number scope) ⊎ EndsAll sizes before members number scope (units_in sizes (before ++ members) number scope)
ends_all sizes before [] number scope = inl (ap (λ (ms : List Member). units_in sizes ms number scope) (sym (append-nil before)))
ends_all sizes before (member ∷ rest) number scope =
    by_case (is_in number scope member) refl
    (subst (λ (ms : List Member). (units_in sizes (before ++ member ∷ []) number scope ≡ units_in sizes ms number scope) ⊎ EndsAll sizes (before ++ member ∷ []) rest number scope (units_in sizes ms number scope))
    (append_assoc before (member ∷ []) rest) (ends_all sizes (before ++ member ∷ []) rest number scope))
  where
    by_case : (b : Bool) → is_in number scope member ≡ b → (units_in sizes (before ++ member ∷ []) number scope ≡ (units_in sizes (before ++ member ∷ rest) number scope)) ⊎ EndsAll sizes (before ++ member ∷ []) rest number scope (units_in sizes (before ++ member ∷ rest) number scope)
        → (units_in sizes before number scope ≡ (units_in sizes (before ++ member ∷ rest) number scope)) ⊎ EndsAll sizes before (member ∷ rest) number scope (units_in sizes (before ++ member ∷ rest) number scope)
    by_case b e (inr later) = inr (later_ends sizes before rest member number scope (units_in sizes (before ++ member ∷ rest) number scope) later)
    by_case true e (inl all) = inr (here_ends sizes before rest member number scope (units_in sizes (before ++ member ∷ rest) number scope) e all)
    by_case false e (inl all) = inl (sym (units_same sizes before member number scope e) ∙ all)
