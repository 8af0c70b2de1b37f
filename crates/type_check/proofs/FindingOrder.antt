-- The order of findings by place and kind: what is before one that is before a third is before the third, and what isn't isn't.
use Rattle.std.proofs.Common.{◌≡◌, ℕ, ◌<◌, ◌≤◌, ◌⊎◌, inl, inr, arith, Bool, true, false, ◌∙◌}
use Rattle.std.specs.Prelude.{◌&&◌, ◌||◌, ◌==◌, nat_lt}
use Rattle.std.proofs.lemmas.Bool.{or_cases, or_parts, or_left, or_right, or_from, and_parts, and_from, and_cases, and_left, and_right, ltb-true, ltb-false, lt-ltb, le-ltb, eqb-true, eqb-false, eq-eqb, ne_eqb, cases_eq}
use Rattle.ftn_tree.specs.TypeFaults.{type_rank}
use Rattle.ftn_tree.specs.DeclarationFaults.{Finding, before_in_place}

-- by a number, and where that is the same by another order
module _ (number : Finding → ℕ) (order : Finding → Finding → Bool) where
  abbrev pub by_number : Finding → Finding → Bool
  by_number f g = nat_lt (number f) (number g) || ((number f == number g) && order f g)

Follows : (Finding → Finding → Bool) → Type 0
Follows order = (f g h : Finding) → order f g ≡ true → order g h ≡ true → order f h ≡ true

Fails : (Finding → Finding → Bool) → Type 0
Fails order = (f g h : Finding) → order f g ≡ false → order g h ≡ false → order f h ≡ false

module _ (number : Finding → ℕ) (order : Finding → Finding → Bool) where
  by_number_follows : Follows order → Follows (by_number number order)
  unfolding Follows
  by_number_follows inner f g h one other = by (or_cases (nat_lt (number f) (number g)) ((number f == number g) && order f g) one) (or_cases (nat_lt (number g) (number h)) ((number g == number h) && order g h) other)
    where
      below : number f < number h → by_number number order f h ≡ true
      below lt = or_left (nat_lt (number f) (number h)) ((number f == number h) && order f h) (lt-ltb (number f) (number h) lt)

      by : (nat_lt (number f) (number g) ≡ true) ⊎ (((number f == number g) && order f g) ≡ true) → (nat_lt (number g) (number h) ≡ true) ⊎ (((number g == number h) && order g h) ≡ true)
          → by_number number order f h ≡ true
      by (inl a) (inl b) = below (omega (arith, ltb-true (number f) (number g) a, ltb-true (number g) (number h) b))
      by (inl a) (inr b) = below (omega (arith, ltb-true (number f) (number g) a, eqb-true (number g) (number h) (and_parts (number g == number h) (order g h) b).0))
      by (inr a) (inl b) = below (omega (arith, eqb-true (number f) (number g) (and_parts (number f == number g) (order f g) a).0, ltb-true (number g) (number h) b))
      by (inr a) (inr b) =
          let (same, first) = and_parts (number f == number g) (order f g) a in
          let (equal, second) = and_parts (number g == number h) (order g h) b in
          or_right (nat_lt (number f) (number h)) ((number f == number h) && order f h)
          (and_from (number f == number h) (order f h) (eq-eqb (number f) (number h) (eqb-true (number f) (number g) same ∙ eqb-true (number g) (number h) equal)) (inner f g h first second))

  by_number_fails : Fails order → Fails (by_number number order)
  unfolding Fails
  by_number_fails inner f g h one other =
      let (above, first) = or_parts (nat_lt (number f) (number g)) ((number f == number g) && order f g) one in
      let (higher, second) = or_parts (nat_lt (number g) (number h)) ((number g == number h) && order g h) other in
      or_from (nat_lt (number f) (number h)) ((number f == number h) && order f h)
      (le-ltb (number f) (number h) (omega (arith, ltb-false (number f) (number g) above, ltb-false (number g) (number h) higher)))
      (by (ltb-false (number f) (number g) above) (ltb-false (number g) (number h) higher) (and_cases (number f == number g) (order f g) first) (and_cases (number g == number h) (order g h) second)
      (cases_eq (number f) (number h)))
    where
      apart : (number f ≡ number h → ⊥) → ((number f == number h) && order f h) ≡ false
      apart differ = and_left (number f == number h) (order f h) (ne_eqb (number f) (number h) differ)

      by : number g ≤ number f → number h ≤ number g → ((number f == number g) ≡ false) ⊎ (order f g ≡ false) → ((number g == number h) ≡ false) ⊎ (order g h ≡ false)
          → (number f ≡ number h) ⊎ (number f ≡ number h → ⊥) → ((number f == number h) && order f h) ≡ false
      by low lower a b (inr differ) = apart differ
      by low lower (inl a) b (inl same) = apart (λ e. eqb-false (number f) (number g) a (omega arith))
      by low lower (inr a) (inl b) (inl same) = apart (λ e. eqb-false (number g) (number h) b (omega arith))
      by low lower (inr a) (inr b) (inl same) = and_right (number f == number h) (order f h) (inner f g h a b)

by_kind : Finding → Finding → Bool
by_kind f g = nat_lt (type_rank f.kind) (type_rank g.kind)

below_follows : (a b c : ℕ) → nat_lt a b ≡ true → nat_lt b c ≡ true → nat_lt a c ≡ true
below_follows a b c one other = lt-ltb a c (omega (arith, ltb-true a b one, ltb-true b c other))

below_fails : (a b c : ℕ) → nat_lt a b ≡ false → nat_lt b c ≡ false → nat_lt a c ≡ false
below_fails a b c one other = le-ltb a c (omega (arith, ltb-false a b one, ltb-false b c other))

pub before_follows : (f g h : Finding) → before_in_place type_rank f g ≡ true → before_in_place type_rank g h ≡ true → before_in_place type_rank f h ≡ true
unfolding Follows by_kind
before_follows =
    by_number_follows (λ f. f.at.file) (by_number (λ f. f.at.token) by_kind)
    (by_number_follows (λ f. f.at.token) by_kind (λ f g h. below_follows (type_rank f.kind) (type_rank g.kind) (type_rank h.kind)))

pub before_fails : (f g h : Finding) → before_in_place type_rank f g ≡ false → before_in_place type_rank g h ≡ false → before_in_place type_rank f h ≡ false
unfolding Fails by_kind
before_fails =
    by_number_fails (λ f. f.at.file) (by_number (λ f. f.at.token) by_kind)
    (by_number_fails (λ f. f.at.token) by_kind (λ f g h. below_fails (type_rank f.kind) (type_rank g.kind) (type_rank h.kind)))
