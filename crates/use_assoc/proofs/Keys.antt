-- The keys of a map in order of insertion.
use Rattle.std.proofs.Common.{◌≡◌, Bool, true, false, cond, List, [], ◌∷◌, ◌++◌, refl, ap, ◌∙◌}
use Rattle.std.specs.Prelude.{◌||◌}
use Rattle.std.specs.List.{list_any}
use Rattle.std.specs.Map.{keys_of}
use Rattle.std.proofs.lemmas.List.Folds.{list_any-append}
use Rattle.std.proofs.Math.Bool.{or-false}
use Rattle.indexmap.specs.IndexMap.{insert_entry}
use Rattle.indexmap.specs.IndexSet.{insert_key}

module _ {K V : Type 0} (eq : K → K → Bool) where
  -- a key that is there stays, and another goes last
  pub keys-insert_entry : (es : List (K × V)) (k : K) (v : V) → keys_of (insert_entry eq es k v) ≡ insert_key eq (keys_of es) k
  keys-insert_entry [] k v = refl
  keys-insert_entry (e ∷ es) k v = by (eq k e.0) refl (keys-insert_entry es k v)
    where
      by : (b : Bool) → eq k e.0 ≡ b → keys_of (insert_entry eq es k v) ≡ insert_key eq (keys_of es) k → keys_of (insert_entry eq (e ∷ es) k v) ≡ insert_key eq (keys_of (e ∷ es)) k
      by true h more = rw h refl
      by false h more = rw h (ap (λ ks. e.0 ∷ ks) more ∙ last (list_any (eq k) (keys_of es)))
        where
          last : (c : Bool) → (e.0 ∷ cond c (keys_of es) (keys_of es ++ k ∷ [])) ≡ cond c (e.0 ∷ keys_of es) (e.0 ∷ (keys_of es ++ k ∷ []))
          last true = refl
          last false = refl

module _ {K : Type 0} (eq : K → K → Bool) where
  -- a key that was inserted is there
  pub twice_is_once : (ks : List K) (k : K) → eq k k ≡ true → insert_key eq (insert_key eq ks k) k ≡ insert_key eq ks k
  twice_is_once ks k same = by (list_any (eq k) ks) refl
    where
      found : list_any (eq k) ks ≡ false → list_any (eq k) (ks ++ k ∷ []) ≡ true
      found none = list_any-append (eq k) ks (k ∷ []) ∙ ap (λ b. b || (eq k k || false)) none ∙ or-false (eq k k) ∙ same

      by : (b : Bool) → list_any (eq k) ks ≡ b → insert_key eq (cond b ks (ks ++ k ∷ [])) k ≡ cond b ks (ks ++ k ∷ [])
      by true e = ap (λ b. cond b ks (ks ++ k ∷ [])) e
      by false e = ap (λ b. cond b (ks ++ k ∷ []) ((ks ++ k ∷ []) ++ k ∷ [])) (found e)
