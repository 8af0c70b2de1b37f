-- What a map has by a name after an insertion.
use Rattle.std.proofs.Common.{◌≡◌, ℕ, Bool, true, false, cond, List, [], ◌∷◌, Option, Some, None, Bor, bytes_eq, refl, sym, ap, ◌∙◌, true≢false}
use Rattle.std.specs.Cmp.Lexicographic.{nat_list_eq_equiv}
use Rattle.std.specs.Map.{lookup}
use Rattle.std.specs.Option.{unwrap_or}
use Rattle.indexmap.specs.IndexMap.{insert_entry}

pub lookup-insert_entry : {V : Type 0} (es : List (Bor (List ℕ) × V)) (k : Bor (List ℕ)) (v : V) (name : List ℕ)
    → lookup (λ key. bytes_eq name key.now) (insert_entry (λ x y. bytes_eq x.now y.now) es k v) ≡ cond (bytes_eq k.now name) (Some v) (lookup (λ key. bytes_eq name key.now) es)
lookup-insert_entry [] k v name = ap (λ b. cond b (Some v) None) (nat_list_eq_equiv.symm name k.now)
lookup-insert_entry {V} (e ∷ es) k v name = by (bytes_eq k.now e.0.now) (bytes_eq k.now name) (bytes_eq name e.0.now) refl refl refl (lookup-insert_entry es k v name)
  where
    at : Bor (List ℕ) → Bool
    at key = bytes_eq name key.now

    more : List (Bor (List ℕ) × V)
    more = insert_entry (λ x y. bytes_eq x.now y.now) es k v

    apart : (c d : Bool) → bytes_eq k.now e.0.now ≡ true → bytes_eq k.now name ≡ c → bytes_eq name e.0.now ≡ d → c ≡ d
    apart c d same left right = sym left ∙ nat_list_eq_equiv.congr k.now e.0.now name same ∙ nat_list_eq_equiv.symm e.0.now name ∙ right

    both : bytes_eq k.now e.0.now ≡ false → bytes_eq k.now name ≡ true → bytes_eq name e.0.now ≡ true → ⊥
    both other left right = true≢false (sym right ∙ sym (nat_list_eq_equiv.congr k.now name e.0.now left) ∙ other)

    by : (b c d : Bool) → bytes_eq k.now e.0.now ≡ b → bytes_eq k.now name ≡ c → bytes_eq name e.0.now ≡ d → lookup at more ≡ cond c (Some v) (lookup at es)
        → lookup at (cond b ((e.0, v) ∷ es) (e ∷ more)) ≡ cond c (Some v) (cond d (Some e.1) (lookup at es))
    by true true d same left right rest = ap (λ t. cond t (Some v) (lookup at es)) (right ∙ sym (apart true d same left right))
    by true false d same left right rest = ap (λ t. cond t (Some v) (lookup at es)) (right ∙ sym (apart false d same left right)) ∙ sym (ap (λ t. cond t (Some e.1) (lookup at es)) (sym (apart false d same left right)))
    by false true true other left right rest = absurd (both other left right)
    by false true false other left right rest = ap (λ t. cond t (Some e.1) (lookup at more)) right ∙ rest
    by false false d other left right rest = ap (λ t. cond t (Some e.1) (lookup at more)) right ∙ ap (cond d (Some e.1)) rest

pub or_put : {V : Type 0} (old new : List (Bor (List ℕ) × V)) (k : Bor (List ℕ)) (v none : V) (name : List ℕ) → new ≡ insert_entry (λ x y. bytes_eq x.now y.now) old k v
    → unwrap_or (lookup (λ key. bytes_eq name key.now) new) none ≡ cond (bytes_eq k.now name) v (unwrap_or (lookup (λ key. bytes_eq name key.now) old) none)
or_put {V} old new k v none name put =
    ap (λ es. unwrap_or (lookup (λ key. bytes_eq name key.now) es) none) put ∙ ap (λ o. unwrap_or o none) (lookup-insert_entry old k v name)
    ∙ by (bytes_eq k.now name) (lookup (λ key. bytes_eq name key.now) old)
  where
    by : (b : Bool) (o : Option V) → unwrap_or (cond b (Some v) o) none ≡ cond b v (unwrap_or o none)
    by true o = refl
    by false o = refl
