-- Whether a name has come, once one more is put.
use Rattle.std.proofs.Common.{◌≡◌, ℕ, Bool, true, false, not, cond, ◌||◌, List, [], ◌∷◌, ◌++◌, Bor, bytes_eq, refl, sym, ap, ap₂, ◌∙◌, arith}
use Rattle.std.specs.List.{list_any}
use Rattle.std.specs.Cmp.Lexicographic.{nat_list_eq_equiv}
use Rattle.std.proofs.lemmas.List.Folds.{list_any-append}
use Rattle.std.proofs.lemmas.Slice.Eq.{bytes_eq-Decides}
use Rattle.indexmap.specs.IndexSet.{insert_key}

abbrev among : List (Bor (List ℕ)) → List ℕ → Bool
among keys name = list_any (λ key. bytes_eq key.now name) keys

abbrev same : Bor (List ℕ) → Bor (List ℕ) → Bool
same x y = bytes_eq x.now y.now

pub turned : (keys : List (Bor (List ℕ))) (k : Bor (List ℕ)) → list_any (same k) keys ≡ among keys k.now
turned [] k = refl
turned (key ∷ keys) k = ap₂ ◌||◌ (nat_list_eq_equiv.symm k.now key.now) (turned keys k)

pub first_time : (keys : List (Bor (List ℕ))) (k : Bor (List ℕ)) (r : Bool) → r ≡ not (list_any (same k) keys) → r ≡ not (among keys k.now)
first_time keys k r is = is ∙ ap not (turned keys k)

pub put_key : (keys made : List (Bor (List ℕ))) (k : Bor (List ℕ)) (other : List ℕ) → made ≡ insert_key same keys k → among made other ≡ (bytes_eq k.now other || among keys other)
put_key keys made k other is = ap (λ ks. among ks other) is ∙ by (list_any (same k) keys) (bytes_eq k.now other) refl refl where
  alike : (b c : Bool) → (b || (c || false)) ≡ (c || b)
  alike true true = refl
  alike true false = refl
  alike false true = refl
  alike false false = refl

  by : (there named : Bool) → list_any (same k) keys ≡ there → bytes_eq k.now other ≡ named
      → among (cond there keys (keys ++ k ∷ [])) other ≡ (bytes_eq k.now other || among keys other)
  by true true there named =
      ap (among keys) (sym ((bytes_eq-Decides k.now other).0 (grind arith))) ∙ sym (turned keys k) ∙ there
      ∙ sym (ap (λ b. b || among keys other) named)
  by true false there named = sym (ap (λ b. b || among keys other) named)
  by false named there is = list_any-append (λ key. bytes_eq key.now other) keys (k ∷ []) ∙ alike (among keys other) (bytes_eq k.now other)
