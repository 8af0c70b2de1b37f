-- The first of findings depends on which there are, and not on their order.
use Rattle.std.proofs.Common.{◌≡◌, ◌⊎◌, inl, inr, ℕ, zero, suc, Bool, true, false, cond, List, [], ◌∷◌, ◌++◌, Option, Some, None, refl, sym, subst, ap, ◌∙◌, arith}
use Rattle.std.specs.Prelude.{◌&&◌, ◌||◌, ◌==◌, nat_lt}
use Rattle.std.specs.List.{flat_map}
use Rattle.std.proofs.lemmas.Bool.Decides.{nat_tests}
use Rattle.ftn_base.specs.declared.fault.FaultKind.{FaultKind}
use Rattle.ftn_base.specs.declared.fault.FaultKind.TheVariants as kinds
use Rattle.ftn_tree.specs.ConstantFaults.{constant_rank}
use Rattle.ftn_tree.specs.DeclarationFaults.{Finding, before_in_place}
use Rattle.ftn_tree.specs.GlobalNames.{Place, place}
use Rattle.const_value.specs.steps.Findings.{gathered}
use Rattle.const_value.proofs.FindingOrder.{before_follows, before_fails}

-- ---- elements

abbrev pub In : {X : Type 0} → X → List X → Type 0
In x [] = ⊥
In x (y ∷ ys) = (y ≡ x) ⊎ In x ys

pub in_left : {X : Type 0} (x : X) (xs ys : List X) → In x xs → In x (xs ++ ys)
in_left x [] ys h = absurd h
in_left x (z ∷ xs) ys (inl is) = inl is
in_left x (z ∷ xs) ys (inr h) = inr (in_left x xs ys h)

pub in_right : {X : Type 0} (x : X) (xs ys : List X) → In x ys → In x (xs ++ ys)
in_right x [] ys h = h
in_right x (z ∷ xs) ys h = inr (in_right x xs ys h)

pub in_either : {X : Type 0} (x : X) (xs ys : List X) → In x (xs ++ ys) → In x xs ⊎ In x ys
in_either x [] ys h = inr h
in_either x (z ∷ xs) ys (inl is) = inl (inl is)
in_either x (z ∷ xs) ys (inr h) = by (in_either x xs ys h) where
  by : In x xs ⊎ In x ys → In x (z ∷ xs) ⊎ In x ys
  by (inl a) = inl (inr a)
  by (inr b) = inr b

pub in_flat : {X Y : Type 0} (f : X → List Y) (xs : List X) (x : X) (y : Y) → In x xs → In y (f x) → In y (flat_map f xs)
in_flat f [] x y h k = absurd h
in_flat f (z ∷ xs) x y (inl is) k = in_left y (f z) (flat_map f xs) (subst (λ w. In y (f w)) (sym is) k)
in_flat f (z ∷ xs) x y (inr h) k = in_right y (f z) (flat_map f xs) (in_flat f xs x y h k)

pub record Within {X Y : Type 0} (f : X → List Y) (xs : List X) (y : Y) : Type 0 where
  pub of : X
  pub among : In of xs
  pub here : In y (f of)

pub out_of_flat : {X Y : Type 0} (f : X → List Y) (xs : List X) (y : Y) → In y (flat_map f xs) → Within f xs y
out_of_flat f [] y h = absurd h
out_of_flat f (z ∷ xs) y h = by (in_either y (f z) (flat_map f xs) h) (out_of_flat f xs y) where
  by : In y (f z) ⊎ In y (flat_map f xs) → (In y (flat_map f xs) → Within f xs y) → Within f (z ∷ xs) y
  by (inl a) rest = record { of = z; among = inl refl; here = a }
  by (inr b) rest = let w = rest b in record { of = w.of; among = inr w.among; here = w.here }

-- ---- findings of which each has a kind of its own rank, and no second place

abbrev is_told : FaultKind → Bool
is_told kinds.NotConstant = true
is_told kinds.Overflow = true
is_told kinds.Zero = true
is_told kinds.Circular = true
is_told kinds.BadShape = true
is_told kinds.Conflicting = true
is_told _ = false

abbrev kind_ranked : ℕ → FaultKind
kind_ranked zero = kinds.NotConstant
kind_ranked (suc zero) = kinds.Overflow
kind_ranked (suc (suc zero)) = kinds.Zero
kind_ranked (suc (suc (suc zero))) = kinds.Circular
kind_ranked (suc (suc (suc (suc zero)))) = kinds.BadShape
kind_ranked (suc (suc (suc (suc (suc n))))) = kinds.Conflicting

ranked : (kind : FaultKind) → is_told kind ≡ true → kind_ranked (constant_rank kind) ≡ kind
ranked kinds.NotConstant told = refl
ranked kinds.Overflow told = refl
ranked kinds.Zero told = refl
ranked kinds.Circular told = refl
ranked kinds.BadShape told = refl
ranked kinds.Conflicting told = refl
ranked _ told = absurd (cc)

pub record IsPlain (f : Finding) : Type 0 where
  pub told : is_told f.kind ≡ true
  pub alone : f.other ≡ None

ties : (a b c x y z : ℕ) → (nat_lt a x || ((a == x) && (nat_lt b y || ((b == y) && nat_lt c z)))) ≡ false → (nat_lt x a || ((x == a) && (nat_lt y b || ((y == b) && nat_lt z c)))) ≡ false
    → (a ≡ x) × (b ≡ y) × (c ≡ z)
ties a b c x y z one other =
    let first : a ≡ x = grind (arith, nat_tests) in
    let second : b ≡ y = grind (arith, nat_tests) in
    let third : c ≡ z = grind (arith, nat_tests) in
    (first, second, third)

abbrev built : FaultKind → ℕ → ℕ → Option Place → Finding
built kind file token other = record { kind = kind; at = place file token; other = other }

alike : (f g : Finding) → IsPlain f → IsPlain g → before_in_place constant_rank f g ≡ false → before_in_place constant_rank g f ≡ false → f ≡ g
alike f g p q one other =
    let t = ties f.at.file f.at.token (constant_rank f.kind) g.at.file g.at.token (constant_rank g.kind) one other in
    let kind : f.kind ≡ g.kind = sym (ranked f.kind p.told) ∙ ap kind_ranked t.2 ∙ ranked g.kind q.told in
    ap (λ k. built k f.at.file f.at.token f.other) kind ∙ ap (λ n. built g.kind n f.at.token f.other) t.0 ∙ ap (λ n. built g.kind g.at.file n f.other) t.1
    ∙ ap (λ o. built g.kind g.at.file g.at.token o) (p.alone ∙ sym q.alone)

-- ---- the first

record IsFirst (xs : List Finding) (made : Option Finding) : Type 0 where
  found : Finding
  is : made ≡ Some found
  among : In found xs
  least : (g : Finding) → In g xs → before_in_place constant_rank g found ≡ false

not_before : (f g : Finding) (b : Bool) → before_in_place constant_rank f g ≡ b → (b ≡ true → ⊥) → before_in_place constant_rank f g ≡ false
not_before f g true is never = absurd (never refl)
not_before f g false is never = is

before_itself : (f : Finding) → before_in_place constant_rank f f ≡ false
before_itself f = same f.at.file f.at.token (constant_rank f.kind) where
  same : (a b c : ℕ) → (nat_lt a a || ((a == a) && (nat_lt b b || ((b == b) && nat_lt c c)))) ≡ false
  same a b c = grind (arith, nat_tests)

first_is : (first : Finding) (xs : List Finding) → IsFirst (first ∷ xs) (gathered (Some first) xs)
first_is first [] = record { found = first; is = refl; among = inl refl; least = only } where
  only : (g : Finding) → In g (first ∷ []) → before_in_place constant_rank g first ≡ false
  only g (inl is) = ap (λ h. before_in_place constant_rank h first) (sym is) ∙ before_itself first
  only g (inr h) = absurd h
first_is first (x ∷ xs) = by (before_in_place constant_rank x first) refl (first_is x xs) (first_is first xs) where
  by : (b : Bool) → before_in_place constant_rank x first ≡ b → IsFirst (x ∷ xs) (gathered (Some x) xs) → IsFirst (first ∷ xs) (gathered (Some first) xs)
      → IsFirst (first ∷ x ∷ xs) (gathered (cond (before_in_place constant_rank x first) (Some x) (Some first)) xs)
  by true is other one = record {
    found = other.found;
    is = ap (λ t. gathered (cond t (Some x) (Some first)) xs) is ∙ other.is;
    among = inr other.among;
    least = least;
  } where
    least : (g : Finding) → In g (first ∷ x ∷ xs) → before_in_place constant_rank g other.found ≡ false
    least g (inl same) =
        ap (λ h. before_in_place constant_rank h other.found) (sym same)
        ∙ not_before first other.found (before_in_place constant_rank first other.found) refl
        (λ less. absurd (cc (before_follows x first other.found is less, other.least x (inl refl))))
    least g (inr h) = other.least g h
  by false is other one = record {
    found = one.found;
    is = ap (λ t. gathered (cond t (Some x) (Some first)) xs) is ∙ one.is;
    among = kept one.among;
    least = least;
  } where
    kept : In one.found (first ∷ xs) → In one.found (first ∷ x ∷ xs)
    kept (inl same) = inl same
    kept (inr h) = inr (inr h)

    least : (g : Finding) → In g (first ∷ x ∷ xs) → before_in_place constant_rank g one.found ≡ false
    least g (inl same) = one.least g (inl same)
    least g (inr (inl same)) = ap (λ h. before_in_place constant_rank h one.found) (sym same) ∙ before_fails x first one.found is (one.least first (inl refl))
    least g (inr (inr h)) = one.least g (inr h)

-- those of each are among the other's
pub first_of_same : (xs ys : List Finding) → ((f : Finding) → In f xs → IsPlain f) → ((f : Finding) → In f xs → In f ys) → ((f : Finding) → In f ys → In f xs)
    → gathered None xs ≡ gathered None ys
first_of_same [] [] plain one other = refl
first_of_same [] (y ∷ ys) plain one other = absurd (other y (inl refl))
first_of_same (x ∷ xs) [] plain one other = absurd (one x (inl refl))
first_of_same (x ∷ xs) (y ∷ ys) plain one other =
    let a = first_is x xs in
    let b = first_is y ys in
    let here : In b.found (x ∷ xs) = other b.found b.among in
    a.is ∙ ap Some (alike a.found b.found (plain a.found a.among) (plain b.found here) (b.least a.found (one a.found a.among)) (a.least b.found here)) ∙ sym b.is
