-- Shapes that are the same, and lists of them.
use Rattle.std.proofs.Common.{◌≡◌, ◌≢◌, ℕ, ℤ, ◌<◌, Bool, ◌&&◌, List, Some, length, get_or, slice_get, int_eq, sym, ◌∙◌, ap, arith}
use Rattle.std.specs.Bool.{Decides}
use Rattle.std.specs.Cmp.Lexicographic.{pointwise}
use Rattle.std.proofs.lemmas.Bool.Decides.{Decides-and, Decides-int_eq, Decides-like}
use Rattle.std.proofs.lemmas.List.{same_lists}
use Rattle.std.proofs.lemmas.Option.{get_or_from_slice_get, slice_get-get_or}
use Rattle.std.proofs.lemmas.Slice.Eq.{slice_eq-Decides}
use Rattle.ftn_base.specs.declared.entity.Shape.{Shape}

-- ---- bounds

pair : (a b : ℤ × ℤ) → a.0 ≡ b.0 → a.1 ≡ b.1 → a ≡ b
pair a b low high = ap (λ (x : ℤ). let made : ℤ × ℤ = (x, a.1) in made) low ∙ ap (λ (y : ℤ). let made : ℤ × ℤ = (b.0, y) in made) high

pairs_decide : (a b : ℤ × ℤ) → Decides (int_eq a.0 b.0 && int_eq a.1 b.1) (a ≡ b)
pairs_decide a b =
    Decides-like (int_eq a.0 b.0 && int_eq a.1 b.1) (λ (both : (a.0 ≡ b.0) × (a.1 ≡ b.1)). pair a b both.0 both.1) (λ (e : a ≡ b). (ap (λ (p : ℤ × ℤ). p.0) e, ap (λ (p : ℤ × ℤ). p.1) e))
    (Decides-and (int_eq a.0 b.0) (int_eq a.1 b.1) (Decides-int_eq a.0 b.0) (Decides-int_eq a.1 b.1))

pub bounds_decide : (a b first second : List (ℤ × ℤ)) (result : Bool) → first ≡ a → second ≡ b → result ≡ pointwise (λ (x y : ℤ × ℤ). int_eq x.0 y.0 && int_eq x.1 y.1) first second
    → Decides result (a ≡ b)
bounds_decide a b first second result e f r =
    Decides-like result (λ (same : first ≡ second). sym e ∙ same ∙ f) (λ (same : a ≡ b). e ∙ same ∙ sym f) (slice_eq-Decides pairs_decide first second result r)

-- ---- lists, place by place

pub same_at : (a b : List Shape) (at : ℕ) (x y : Shape) → at < length a → at < length b → x ≡ get_or a at x → y ≡ get_or b at y → x ≡ y → slice_get a at ≡ slice_get b at
same_at a b at x y la lb ex ey e = slice_get-get_or a at x la ∙ ap (λ (s : Shape). Some s) (sym ex ∙ e ∙ ey) ∙ sym (slice_get-get_or b at y lb)

pub differs_at : (a b : List Shape) (at : ℕ) (x y : Shape) → at < length a → at < length b → x ≡ get_or a at x → y ≡ get_or b at y → x ≢ y → slice_get a at ≢ slice_get b at
differs_at a b at x y la lb ex ey ne e =
    let there : slice_get a at ≡ Some y = e ∙ slice_get-get_or b at y lb ∙ ap (λ (s : Shape). Some s) (sym ey) in
    ne (ex ∙ get_or_from_slice_get a at y x there)

abbrev AreAlike : List Shape → List Shape → ℕ → Type 0
AreAlike a b count = (before : ℕ) → before < count → slice_get a before ≡ slice_get b before

alike_at : (a b : List Shape) (k : ℕ) (d : Shape) → k < length b → slice_get a k ≡ slice_get b k → get_or a k d ≡ get_or b k d
alike_at a b k d lt e = get_or_from_slice_get a k (get_or b k d) d (e ∙ slice_get-get_or b k d lt)

pub all_same : (a b : List Shape) (count : ℕ) → AreAlike a b count → length a ≡ count → length b ≡ count → a ≡ b
all_same a b count alike la lb = same_lists a b (la ∙ sym lb) (λ k d lt.
    let within : k < count = omega arith in
    let within_too : k < length b = omega arith in
    alike_at a b k d within_too (alike k within))
