-- The first finding, one place after the other.
use Rattle.std.proofs.Common.{◌≡◌, ℕ, zero, suc, ◌+◌, ◌-◌, ◌<◌, ◌≤◌, Bool, true, false, cond, List, [], ◌∷◌, ◌++◌, filter, length, map, take, Option, Some, None, refl, sym, ap, ap₂, ◌∙◌, arith, append_assoc, append-nil}
use Rattle.std.specs.Prelude.{slice_get}
use Rattle.std.specs.List.{flat_map, range_with_len}
use Rattle.std.specs.Option.{unwrap_or}
use Rattle.std.proofs.lemmas.List.{flat_map_more}
use Rattle.ftn_tree.specs.declared.table.Extent.{Extent}
use Rattle.ftn_tree.specs.declared.unit.FileTree.{FileTree}
use Rattle.ftn_tree.specs.DeclarationFaults.{Finding, first_finding}
use Rattle.ftn_tree.specs.Extents.{scoping}
use Rattle.decl_table.proofs.Turns.{taken}
use Rattle.scope_bind.specs.declared.finding.Kinds.{Kinds}
use Rattle.scope_bind.specs.steps.Findings.{rank_of, earlier}
use Rattle.scope_bind.specs.steps.Globals.{no_extent, unit_at}
use Rattle.scope_bind.proofs.FindingOrder.{earlier_joins, first_joined, nothing_more}

pub flat_taken : {X A : Type 0} (f : X → List A) (all : List X) (i : ℕ) (x : X) → slice_get all i ≡ Some x → flat_map f (take (i + 1) all) ≡ flat_map f (take i all) ++ f x
flat_taken f all i x there = ap (flat_map f) (taken all i x there) ∙ sym (flat_map_more f [] (take i all) x)

module _ (kinds : Kinds) where
  -- number after number
  pub next_turn : (f : ℕ → List Finding) (whole first next result : Option Finding) (at end : ℕ) → at < end
      → whole ≡ earlier kinds first (first_finding (rank_of kinds) (flat_map f (range_with_len at (end - at))))
      → next ≡ first_finding (rank_of kinds) (f at) → result ≡ earlier kinds first next
      → whole ≡ earlier kinds result (first_finding (rank_of kinds) (flat_map f (range_with_len (at + 1) (end - (at + 1)))))
  next_turn f whole first next result at end less is found made =
      is
      ∙ ap (λ n. earlier kinds first (first_finding (rank_of kinds) (flat_map f (range_with_len at n)))) left
      ∙ ap (earlier kinds first) (sym (first_joined kinds (f at) rest) ∙ ap (λ o. earlier kinds o (first_finding (rank_of kinds) rest)) (sym found))
      ∙ sym (earlier_joins kinds first next (first_finding (rank_of kinds) rest))
      ∙ ap (λ o. earlier kinds o (first_finding (rank_of kinds) rest)) (sym made)
    where
      rest : List Finding
      rest = flat_map f (range_with_len (at + 1) (end - (at + 1)))

      left : end - at ≡ suc (end - (at + 1))
      left = omega (arith, less)

  pub last_turn : (f : ℕ → List Finding) (whole first : Option Finding) (at end : ℕ) → end ≤ at
      → whole ≡ earlier kinds first (first_finding (rank_of kinds) (flat_map f (range_with_len at (end - at)))) → first ≡ whole
  last_turn f whole first at end past is =
      let none : end - at ≡ 0 = omega (arith, past) in
      nothing_more kinds first ∙ sym (is ∙ ap (λ n. earlier kinds first (first_finding (rank_of kinds) (flat_map f (range_with_len at n)))) none)

  -- member after member
  pub more_found : {X : Type 0} (f : X → List Finding) (all : List X) (i : ℕ) (x : X) → slice_get all i ≡ Some x → (first next result : Option Finding)
      → first ≡ first_finding (rank_of kinds) (flat_map f (take i all)) → next ≡ first_finding (rank_of kinds) (f x) → result ≡ earlier kinds first next
      → result ≡ first_finding (rank_of kinds) (flat_map f (take (i + 1) all))
  more_found f all i x there first next result is found made =
      made ∙ ap₂ (earlier kinds) is found ∙ first_joined kinds (flat_map f (take i all)) (f x) ∙ ap (first_finding (rank_of kinds)) (sym (flat_taken f all i x there))

-- ---- scoping units by their numbers

by_places : {X B : Type 0} (d : X) (g : X → List B) (pre post : List X) (n : ℕ) → n ≡ length pre
    → flat_map (λ k. g (unwrap_or (slice_get (pre ++ post) k) d)) (range_with_len n (length post)) ≡ flat_map g post
by_places d g pre [] n is = refl
by_places {X} {B} d g pre (x ∷ post) n is =
    ap₂ (λ (a b : List B). a ++ b) (ap g (ap (λ o. unwrap_or o d) (here pre n is)))
    (ap (λ xs. flat_map (λ k. g (unwrap_or (slice_get xs k) d)) (range_with_len (n + 1) (length post))) (sym (append_assoc pre (x ∷ []) post))
    ∙ by_places d g (pre ++ x ∷ []) post (n + 1) (long pre n is))
  where
    here : (pre : List X) (n : ℕ) → n ≡ length pre → slice_get (pre ++ x ∷ post) n ≡ Some x
    here [] n is = ap (slice_get (x ∷ post)) is
    here (p ∷ pre) n is = ap (slice_get (p ∷ pre ++ x ∷ post)) is ∙ here pre (length pre) refl

    long : (pre : List X) (n : ℕ) → n ≡ length pre → n + 1 ≡ length (pre ++ x ∷ [])
    long [] n is = omega (arith, is)
    long (p ∷ pre) n is = let rest : length pre + 1 ≡ length (pre ++ x ∷ []) = long pre (length pre) refl in omega (arith, is, rest)

pub over_units : {B : Type 0} (files : List FileTree) (g : Extent → List B) → flat_map (λ n. g (unit_at files n)) (range_with_len 0 (length (scoping files))) ≡ flat_map g (scoping files)
over_units files g = by_places no_extent g [] (scoping files) 0 refl

-- those that pass alone
pub over_passing : {X B : Type 0} (test : X → Bool) (g : X → List B) (all : List X) → flat_map (λ x. cond (test x) (g x) []) all ≡ flat_map g (filter test all)
over_passing test g [] = refl
over_passing {X} {B} test g (x ∷ all) = by (test x) (over_passing test g all) where
  by : (b : Bool) → flat_map (λ x. cond (test x) (g x) []) all ≡ flat_map g (filter test all)
      → cond b (g x) [] ++ flat_map (λ x. cond (test x) (g x) []) all ≡ flat_map g (cond b (x ∷ filter test all) (filter test all))
  by true rest = ap (λ (more : List B). g x ++ more) rest
  by false rest = rest

pub over_single : {X B : Type 0} (test : X → Bool) (g : X → B) (all : List X) → flat_map (λ x. cond (test x) (g x ∷ []) []) all ≡ map g (filter test all)
over_single test g [] = refl
over_single {X} {B} test g (x ∷ all) = by (test x) (over_single test g all) where
  by : (b : Bool) → flat_map (λ x. cond (test x) (g x ∷ []) []) all ≡ map g (filter test all)
      → cond b (g x ∷ []) [] ++ flat_map (λ x. cond (test x) (g x ∷ []) []) all ≡ map g (cond b (x ∷ filter test all) (filter test all))
  by true rest = ap (λ (more : List B). g x ∷ more) rest
  by false rest = rest
