-- What stands at the number of a scoping unit in lists of what each has.
use Rattle.std.proofs.Common.{◌≡◌, ℕ, zero, suc, ◌<◌, List, [], ◌∷◌, ◌++◌, inl, inr, length, map, get_or, Option, Some, option_map, refl, sym, ap, subst, ◌∙◌}
use Rattle.std.specs.Prelude.{slice_get, ◌⊎◌}
use Rattle.std.proofs.lemmas.List.{length-map}
use Rattle.std.proofs.lemmas.Option.{slice_get-map, slice_get-get_or, get_or_from_slice_get}
use Rattle.ftn_tree.specs.declared.table.Extent.{Extent}
use Rattle.ftn_tree.specs.declared.unit.FileTree.{FileTree}
use Rattle.ftn_tree.specs.Extents.{scoping}
use Rattle.scope_bind.specs.declared.names.Names.{Names}
use Rattle.scope_bind.specs.steps.Globals.{unit_at}
use Rattle.scope_bind.specs.steps.Known.{AreNames, AreAllNames}
use Rattle.scope_bind.proofs.Units.{unit_there, unit_is}
use Rattle.scope_bind.proofs.NumberedMeanings.{of_unit}

pub map_read : {A : Type 0} (f : Extent → A) (files : List FileTree) (n : ℕ) (xs : List A) (x : A) → xs ≡ map f (scoping files) → n < length (scoping files) → x ≡ get_or xs n x → x ≡ f (unit_at files n)
map_read f files n xs x same less is =
    is ∙ get_or_from_slice_get xs n (f (unit_at files n)) x (ap (λ es. slice_get es n) same ∙ of_unit f files n less)

-- the same where the entries are lists
pub within_lists : {V A : Type 0} (g : V → A) (f : Extent → A) (files : List FileTree) (n : ℕ) (xs : List V) → map g xs ≡ map f (scoping files) → n < length (scoping files) → n < length xs
within_lists g f files n xs same less = subst (λ k. n < k) (sym (length-map (scoping files) f) ∙ ap length (sym same) ∙ length-map xs g) less

some_same : {A : Type 0} (x y : A) → Some x ≡ Some y → x ≡ y
some_same x y same = cc same

pub lists_read : {V A : Type 0} (g : V → A) (f : Extent → A) (files : List FileTree) (n : ℕ) (xs : List V) (x : V) → map g xs ≡ map f (scoping files) → n < length (scoping files)
    → x ≡ get_or xs n x → g x ≡ f (unit_at files n)
lists_read g f files n xs x same less is =
    let there : slice_get xs n ≡ Some x = slice_get-get_or xs n x (within_lists g f files n xs same less) ∙ ap Some (sym is) in
    some_same (g x) (f (unit_at files n)) (sym (slice_get-map g xs n ∙ ap (option_map g) there) ∙ ap (λ ys. slice_get ys n) same ∙ of_unit f files n less)

pub names_read : (files : List FileTree) (all : List Names) → AreAllNames files all → (n : ℕ) → n < length (scoping files) → (x : Names) → x ≡ get_or all n x → AreNames files (unit_at files n) x
names_read files all known n less x is =
    known.each n (unit_at files n) x (unit_there files n less) (slice_get-get_or all n x (subst (λ k. n < k) (sym known.count) less) ∙ ap Some (sym is))

push_get : {A : Type 0} (made : List A) (x : A) (at : ℕ) (n : A) → slice_get (made ++ x ∷ []) at ≡ Some n → (slice_get made at ≡ Some n) ⊎ ((at ≡ length made) × (x ≡ n))
push_get [] x zero n is = inr (refl, some_same x n is)
push_get [] x (suc at) n is = absurd (cc is)
push_get (y ∷ made) x zero n is = inl is
push_get {A} (y ∷ made) x (suc at) n is = by (push_get made x at n is) where
  by : (slice_get made at ≡ Some n) ⊎ ((at ≡ length made) × (x ≡ n)) → (slice_get made at ≡ Some n) ⊎ ((suc at ≡ suc (length made)) × (x ≡ n))
  by (inl there) = inl there
  by (inr (place, same)) = inr (ap suc place, same)

pub names_more : (files : List FileTree) (made now : List Names) (x : Names) (i : ℕ) (e : Extent) → length made ≡ i → slice_get (scoping files) i ≡ Some e → AreNames files e x
    → ((at : ℕ) (e : Extent) (n : Names) → slice_get (scoping files) at ≡ Some e → slice_get made at ≡ Some n → AreNames files e n) → now ≡ made ++ x ∷ []
    → (at : ℕ) (f : Extent) (n : Names) → slice_get (scoping files) at ≡ Some f → slice_get now at ≡ Some n → AreNames files f n
names_more files made now x i e long here known old pushed at f n there is = by (push_get made x at n (ap (λ ns. slice_get ns at) (sym pushed) ∙ is)) where
  by : (slice_get made at ≡ Some n) ⊎ ((at ≡ length made) × (x ≡ n)) → AreNames files f n
  by (inl was) = old at f n there was
  by (inr (place, same)) =
      let unit : e ≡ f = some_same e f (sym here ∙ ap (λ k. slice_get (scoping files) k) (sym (place ∙ long)) ∙ there) in
      subst (AreNames files f) same (subst (λ u. AreNames files u x) unit known)
