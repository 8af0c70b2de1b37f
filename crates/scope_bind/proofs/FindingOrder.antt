-- The first of findings by place and by a rank of their kinds: that of two lists is the earlier of the first of each.
use Rattle.std.proofs.Common.{◌≡◌, ℕ, ◌<◌, ◌≤◌, ◌⊎◌, inl, inr, arith, Bool, true, false, cond, List, [], ◌∷◌, ◌++◌, fold, Option, Some, None, refl, sym, ap, ap₂, ◌∙◌}
use Rattle.std.specs.Prelude.{◌&&◌, ◌||◌, ◌==◌, nat_lt}
use Rattle.std.proofs.lemmas.Bool.{or_cases, or_parts, or_left, or_right, or_from, and_parts, and_from, and_cases, and_left, and_right, ltb-true, ltb-false, lt-ltb, le-ltb, eqb-true, eqb-false, eq-eqb, ne_eqb, cases_eq}
use Rattle.ftn_tree.specs.DeclarationFaults.{Finding, before_in_place, first_finding}
use Rattle.scope_bind.specs.declared.finding.Kinds.{Kinds}
use Rattle.scope_bind.specs.steps.Findings.{rank_of, earlier}

-- by a number, and where that is the same by another order
module _ (number : Finding → ℕ) (order : Finding → Finding → Bool) where
  abbrev by_number : Finding → Finding → Bool
  by_number f g = nat_lt (number f) (number g) || ((number f == number g) && order f g)

Follows : (Finding → Finding → Bool) → Type 0
Follows order = (f g h : Finding) → order f g ≡ true → order g h ≡ true → order f h ≡ true

Fails : (Finding → Finding → Bool) → Type 0
Fails order = (f g h : Finding) → order f g ≡ false → order g h ≡ false → order f h ≡ false

module _ (number : Finding → ℕ) (order : Finding → Finding → Bool) where
  by_number_follows : Follows order → Follows (by_number number order)
  unfolding Follows
  by_number_follows inner f g h one other = by (or_cases (nat_lt (number f) (number g)) ((number f == number g) && order f g) one) (or_cases (nat_lt (number g) (number h)) ((number g == number h) && order g h) other)
    where
      below : number f < number h → by_number number order f h ≡ true
      below lt = or_left (nat_lt (number f) (number h)) ((number f == number h) && order f h) (lt-ltb (number f) (number h) lt)

      by : (nat_lt (number f) (number g) ≡ true) ⊎ (((number f == number g) && order f g) ≡ true) → (nat_lt (number g) (number h) ≡ true) ⊎ (((number g == number h) && order g h) ≡ true)
          → by_number number order f h ≡ true
      by (inl a) (inl b) = below (omega (arith, ltb-true (number f) (number g) a, ltb-true (number g) (number h) b))
      by (inl a) (inr b) = below (omega (arith, ltb-true (number f) (number g) a, eqb-true (number g) (number h) (and_parts (number g == number h) (order g h) b).0))
      by (inr a) (inl b) = below (omega (arith, eqb-true (number f) (number g) (and_parts (number f == number g) (order f g) a).0, ltb-true (number g) (number h) b))
      by (inr a) (inr b) =
          let (same, first) = and_parts (number f == number g) (order f g) a in
          let (equal, second) = and_parts (number g == number h) (order g h) b in
          or_right (nat_lt (number f) (number h)) ((number f == number h) && order f h)
          (and_from (number f == number h) (order f h) (eq-eqb (number f) (number h) (eqb-true (number f) (number g) same ∙ eqb-true (number g) (number h) equal)) (inner f g h first second))

  by_number_fails : Fails order → Fails (by_number number order)
  unfolding Fails
  by_number_fails inner f g h one other =
      let (above, first) = or_parts (nat_lt (number f) (number g)) ((number f == number g) && order f g) one in
      let (higher, second) = or_parts (nat_lt (number g) (number h)) ((number g == number h) && order g h) other in
      or_from (nat_lt (number f) (number h)) ((number f == number h) && order f h)
      (le-ltb (number f) (number h) (omega (arith, ltb-false (number f) (number g) above, ltb-false (number g) (number h) higher)))
      (by (ltb-false (number f) (number g) above) (ltb-false (number g) (number h) higher) (and_cases (number f == number g) (order f g) first) (and_cases (number g == number h) (order g h) second)
      (cases_eq (number f) (number h)))
    where
      apart : (number f ≡ number h → ⊥) → ((number f == number h) && order f h) ≡ false
      apart differ = and_left (number f == number h) (order f h) (ne_eqb (number f) (number h) differ)

      by : number g ≤ number f → number h ≤ number g → ((number f == number g) ≡ false) ⊎ (order f g ≡ false) → ((number g == number h) ≡ false) ⊎ (order g h ≡ false)
          → (number f ≡ number h) ⊎ (number f ≡ number h → ⊥) → ((number f == number h) && order f h) ≡ false
      by low lower a b (inr differ) = apart differ
      by low lower (inl a) b (inl same) = apart (λ e. eqb-false (number f) (number g) a (omega arith))
      by low lower (inr a) (inl b) (inl same) = apart (λ e. eqb-false (number g) (number h) b (omega arith))
      by low lower (inr a) (inr b) (inl same) = and_right (number f == number h) (order f h) (inner f g h a b)

below_follows : (a b c : ℕ) → nat_lt a b ≡ true → nat_lt b c ≡ true → nat_lt a c ≡ true
below_follows a b c one other = lt-ltb a c (omega (arith, ltb-true a b one, ltb-true b c other))

below_fails : (a b c : ℕ) → nat_lt a b ≡ false → nat_lt b c ≡ false → nat_lt a c ≡ false
below_fails a b c one other = le-ltb a c (omega (arith, ltb-false a b one, ltb-false b c other))

module _ (kinds : Kinds) where
  by_kind : Finding → Finding → Bool
  by_kind f g = nat_lt (rank_of kinds f.kind) (rank_of kinds g.kind)

  before_follows : (f g h : Finding) → before_in_place (rank_of kinds) f g ≡ true → before_in_place (rank_of kinds) g h ≡ true → before_in_place (rank_of kinds) f h ≡ true
  unfolding Follows by_kind
  before_follows =
      by_number_follows (λ f. f.at.file) (by_number (λ f. f.at.token) by_kind)
      (by_number_follows (λ f. f.at.token) by_kind (λ f g h. below_follows (rank_of kinds f.kind) (rank_of kinds g.kind) (rank_of kinds h.kind)))

  before_fails : (f g h : Finding) → before_in_place (rank_of kinds) f g ≡ false → before_in_place (rank_of kinds) g h ≡ false → before_in_place (rank_of kinds) f h ≡ false
  unfolding Fails by_kind
  before_fails =
      by_number_fails (λ f. f.at.file) (by_number (λ f. f.at.token) by_kind)
      (by_number_fails (λ f. f.at.token) by_kind (λ f g h. below_fails (rank_of kinds f.kind) (rank_of kinds g.kind) (rank_of kinds h.kind)))

  -- ---- of some and then of others

  gathered : Option Finding → List Finding → Option Finding
  gathered first [] = first
  gathered first (f ∷ more) = gathered (earlier kinds first (Some f)) more

  from_one : (first : Finding) (more : List Finding) → Some (fold (λ one other. cond (before_in_place (rank_of kinds) other one) other one) first more) ≡ gathered (Some first) more
  unfolding gathered
  from_one first [] = refl
  from_one first (f ∷ more) =
      from_one (cond (before_in_place (rank_of kinds) f first) f first) more ∙ ap (λ o. gathered o more) (inside (before_in_place (rank_of kinds) f first))
    where
      inside : (b : Bool) → Some (cond b f first) ≡ cond b (Some f) (Some first)
      inside true = refl
      inside false = refl

  first_gathered : (all : List Finding) → first_finding (rank_of kinds) all ≡ gathered None all
  unfolding gathered
  first_gathered [] = refl
  first_gathered (f ∷ more) = from_one f more

  pub nothing_more : (o : Option Finding) → o ≡ earlier kinds o None
  nothing_more None = refl
  nothing_more (Some f) = refl

  pub earlier_joins : (a b c : Option Finding) → earlier kinds (earlier kinds a b) c ≡ earlier kinds a (earlier kinds b c)
  earlier_joins None b c = refl
  earlier_joins (Some a) None c = refl
  earlier_joins (Some a) (Some b) None = sym (nothing_more (earlier kinds (Some a) (Some b)))
  earlier_joins (Some a) (Some b) (Some c) =
      by (before_in_place (rank_of kinds) b a) (before_in_place (rank_of kinds) c b) (before_in_place (rank_of kinds) c a) refl refl refl
    where
      by : (x y z : Bool) → before_in_place (rank_of kinds) b a ≡ x → before_in_place (rank_of kinds) c b ≡ y → before_in_place (rank_of kinds) c a ≡ z
          → earlier kinds (cond x (Some b) (Some a)) (Some c) ≡ earlier kinds (Some a) (cond y (Some c) (Some b))
      by true true z ba cb ca = ap (λ t. cond t (Some c) (Some b)) cb ∙ sym (ap (λ t. cond t (Some c) (Some a)) (before_follows c b a cb ba))
      by true false z ba cb ca = ap (λ t. cond t (Some c) (Some b)) cb ∙ sym (ap (λ t. cond t (Some b) (Some a)) ba)
      by false true z ba cb ca = refl
      by false false z ba cb ca = ap (λ t. cond t (Some c) (Some a)) (before_fails c b a cb ba) ∙ sym (ap (λ t. cond t (Some b) (Some a)) ba)

  gathered_after : (best : Option Finding) (all : List Finding) → gathered best all ≡ earlier kinds best (gathered None all)
  unfolding gathered
  gathered_after best [] = nothing_more best
  gathered_after best (f ∷ more) =
      gathered_after (earlier kinds best (Some f)) more ∙ earlier_joins best (Some f) (gathered None more) ∙ ap (earlier kinds best) (sym (gathered_after (Some f) more))

  gathered_both : (best : Option Finding) (xs ys : List Finding) → gathered best (xs ++ ys) ≡ gathered (gathered best xs) ys
  unfolding gathered
  gathered_both best [] ys = refl
  gathered_both best (x ∷ xs) ys = gathered_both (earlier kinds best (Some x)) xs ys

  pub first_joined : (xs ys : List Finding) → earlier kinds (first_finding (rank_of kinds) xs) (first_finding (rank_of kinds) ys) ≡ first_finding (rank_of kinds) (xs ++ ys)
  first_joined xs ys =
      ap₂ (earlier kinds) (first_gathered xs) (first_gathered ys) ∙ sym (gathered_after (gathered None xs) ys) ∙ sym (gathered_both None xs ys) ∙ sym (first_gathered (xs ++ ys))

  pub joined_is_first : (first second result : Option Finding) (xs ys : List Finding) → result ≡ earlier kinds first second
      → first ≡ first_finding (rank_of kinds) xs → second ≡ first_finding (rank_of kinds) ys → result ≡ first_finding (rank_of kinds) (xs ++ ys)
  joined_is_first first second result xs ys is one other = is ∙ ap₂ (earlier kinds) one other ∙ first_joined xs ys
