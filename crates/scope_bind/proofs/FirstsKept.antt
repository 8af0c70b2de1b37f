-- The first of a list by an order stays where those are left out that come after one that isn't behind them.
use Rattle.std.proofs.Common.{◌≡◌, ℕ, ◌<◌, ◌==◌, Bool, true, false, cond, List, [], ◌∷◌, ◌++◌, Option, Some, append_assoc, refl, sym, ap, ◌∙◌, arith}
use Rattle.std.specs.Prelude.{◌&&◌, ◌||◌, nat_lt}
use Rattle.std.specs.List.{flat_map, fold, reduce, AllByRecursion as Each}
use Rattle.std.proofs.lemmas.Bool.Decides.{nat_tests}
use Rattle.std.proofs.lemmas.List.{append-nil}
use Rattle.std.proofs.lemmas.List.Sums.{fold-append}
use Rattle.ftn_base.specs.declared.fault.FaultKind.{FaultKind}
use Rattle.ftn_tree.specs.DeclarationFaults.{Finding, before_in_place}

-- what holds of each holds of it
abbrev pub Has : {X : Type 0} → List X → X → Type 1
Has {X} xs x = (P : X → Type 0) → Each P xs → P x

pub each_front : {X : Type 0} (P : X → Type 0) (xs ys : List X) → Each P (xs ++ ys) → Each P xs
each_front P [] ys all = tt
each_front P (x ∷ xs) ys all = (all.0, each_front P xs ys all.1)

pub each_back : {X : Type 0} (P : X → Type 0) (xs ys : List X) → Each P (xs ++ ys) → Each P ys
each_back P [] ys all = all
each_back P (x ∷ xs) ys all = each_back P xs ys all.1

pub has_front : {X : Type 0} (xs ys : List X) (x : X) → Has xs x → Has (xs ++ ys) x
has_front xs ys x has P all = has P (each_front P xs ys all)

pub has_back : {X : Type 0} (xs ys : List X) (x : X) → Has ys x → Has (xs ++ ys) x
has_back xs ys x has P all = has P (each_back P xs ys all)

module _ {X : Type 0} (lt : X → X → Bool) (turns : (a b : X) → lt a b ≡ true → lt b a ≡ false)
    (fails : (a b c : X) → lt a b ≡ false → lt b c ≡ false → lt a c ≡ false) where
  abbrev better : X → X → X
  better one other = cond (lt other one) other one

  abbrev pub first : List X → Option X
  first all = reduce (λ one other. cond (lt other one) other one) all

  itself : (x : X) → lt x x ≡ false
  itself x = by (lt x x) refl
    where
      by : (b : Bool) → lt x x ≡ b → lt x x ≡ false
      by true is = turns x x is
      by false is = is

  least : (x : X) (xs : List X) → Each (λ y. lt y (fold better x xs) ≡ false) (x ∷ xs)
  least x [] = (itself x, tt)
  least x (y ∷ ys) = step (lt y x) refl (least (cond (lt y x) y x) ys)
    where
      step : (b : Bool) → lt y x ≡ b → Each (λ w. lt w (fold better (cond b y x) ys) ≡ false) (cond b y x ∷ ys) → Each (λ w. lt w (fold better (cond b y x) ys) ≡ false) (x ∷ y ∷ ys)
      step true is all = (fails x y (fold better y ys) (turns y x is) all.0, all)
      step false is all = (all.0, (fails y x (fold better x ys) is all.0, all.1))

  skip_one : (xs : List X) (x y : X) (ys : List X) → Has xs y → lt x y ≡ false → first (xs ++ (x ∷ ys)) ≡ first (xs ++ ys)
  skip_one [] x y ys has behind = absurd (has (λ _. ⊥) tt)
  skip_one (w ∷ xs) x y ys has behind =
      let z : X = fold better w xs in
      let past : lt x z ≡ false = fails x y z behind (has (λ v. lt v z ≡ false) (least w xs)) in
      ap Some (fold-append better w xs (x ∷ ys) ∙ ap (λ b. fold better (cond b x z) ys) past ∙ sym (fold-append better w xs ys))

  skip_all : (xs : List X) (y : X) (extra ys : List X) → Has xs y → Each (λ x. lt x y ≡ false) extra → first (xs ++ (extra ++ ys)) ≡ first (xs ++ ys)
  skip_all xs y [] ys has all = refl
  skip_all xs y (x ∷ extra) ys has all = skip_one xs x y (extra ++ ys) has all.0 ∙ skip_all xs y extra ys has all.1

  module _ {U : Type 0} (kept extra less : U → List X) (nothing : (u : U) → less u ≡ []) (y : X) where
    pub skip_in : (us : List U) (xs ys : List X) → Has xs y → Each (λ u. Each (λ x. lt x y ≡ false) (extra u)) us
        → first (xs ++ (flat_map (λ u. kept u ++ extra u) us ++ ys)) ≡ first (xs ++ (flat_map (λ u. kept u ++ less u) us ++ ys))
    skip_in [] xs ys has all = refl
    skip_in (u ∷ us) xs ys has all =
        let whole : List X = flat_map (λ v. kept v ++ extra v) us in
        let rest : List X = flat_map (λ v. kept v ++ less v) us in
        ap (λ zs. first (xs ++ zs)) (append_assoc (kept u ++ extra u) whole ys ∙ append_assoc (kept u) (extra u) (whole ++ ys))
        ∙ ap first (sym (append_assoc xs (kept u) (extra u ++ (whole ++ ys))))
        ∙ skip_all (xs ++ kept u) y (extra u) (whole ++ ys) (has_front xs (kept u) y has) all.0
        ∙ skip_in us (xs ++ kept u) ys (has_front xs (kept u) y has) all.1
        ∙ ap first (append_assoc xs (kept u) (rest ++ ys))
        ∙ ap (λ zs. first (xs ++ zs)) (sym (append_assoc (kept u) rest ys) ∙ ap (λ k. (k ++ rest) ++ ys) (sym (append-nil (kept u)) ∙ ap (λ l. kept u ++ l) (sym (nothing u))))

-- ---- by place and kind

turns_by : (a b x y p q : ℕ) → (nat_lt a b || ((a == b) && (nat_lt x y || ((x == y) && nat_lt p q)))) ≡ true
    → (nat_lt b a || ((b == a) && (nat_lt y x || ((y == x) && nat_lt q p)))) ≡ false
turns_by a b x y p q is = grind (arith, nat_tests)

fails_by : (a b c x y z p q r : ℕ) → (nat_lt a b || ((a == b) && (nat_lt x y || ((x == y) && nat_lt p q)))) ≡ false
    → (nat_lt b c || ((b == c) && (nat_lt y z || ((y == z) && nat_lt q r)))) ≡ false
    → (nat_lt a c || ((a == c) && (nat_lt x z || ((x == z) && nat_lt p r)))) ≡ false
fails_by a b c x y z p q r one other = grind (arith, nat_tests)

pub place_turns : (rank : FaultKind → ℕ) (f g : Finding) → before_in_place rank f g ≡ true → before_in_place rank g f ≡ false
place_turns rank f g is = turns_by f.at.file g.at.file f.at.token g.at.token (rank f.kind) (rank g.kind) is

pub place_fails : (rank : FaultKind → ℕ) (f g h : Finding) → before_in_place rank f g ≡ false → before_in_place rank g h ≡ false → before_in_place rank f h ≡ false
place_fails rank f g h one other =
    fails_by f.at.file g.at.file h.at.file f.at.token g.at.token h.at.token (rank f.kind) (rank g.kind) (rank h.kind) one other
