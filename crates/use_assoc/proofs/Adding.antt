-- Steps of the loops that add what each of a list gives.
use Rattle.std.proofs.Common.{◌≡◌, ℕ, suc, ◌+◌, ◌<◌, drop-cons, Bool, List, [], ◌∷◌, ◌++◌, length, drop, get_or, map, refl, sym, ap, ◌∙◌, add-one}
use Rattle.std.specs.Prelude.{◌||◌}
use Rattle.std.specs.List.{flat_map, list_any}
use Rattle.std.proofs.lemmas.List.Concat.{flat_map-cons}
use Rattle.std.proofs.lemmas.List.Sums.{fold-append}
use Rattle.indexmap.specs.IndexSet.{insert_all, insert_key}

pub opened : {A : Type 0} (xs : List A) (i : ℕ) (x : A) → i < length xs → x ≡ get_or xs i x → drop i xs ≡ x ∷ drop (i + 1) xs
opened xs i x lt at = drop-cons xs i x lt ∙ ap (λ y. y ∷ drop (suc i) xs) (sym at) ∙ ap (λ k. x ∷ drop k xs) (sym (add-one i))

pub all_append : {A : Type 0} (same : A → A → Bool) (done xs ys : List A) → insert_all same done (xs ++ ys) ≡ insert_all same (insert_all same done xs) ys
all_append same done xs ys = fold-append (insert_key same) done xs ys

pub any-map : {A B : Type 0} (p : B → Bool) (f : A → B) (xs : List A) → list_any p (map f xs) ≡ list_any (λ x. p (f x)) xs
any-map p f [] = refl
any-map p f (x ∷ xs) = ap (λ b. p (f x) || b) (any-map p f xs)

-- one turn of a loop that adds what each of a list gives
pub flat_next : {A B : Type 0} (same : B → B → Bool) (whole done more : List B) (g : A → List B) (x : A) (rest next : List A) → rest ≡ x ∷ next
    → whole ≡ insert_all same done (flat_map g rest) → more ≡ insert_all same done (g x) → whole ≡ insert_all same more (flat_map g next)
flat_next same whole done more g x rest next front so_far one =
    so_far ∙ ap (λ xs. insert_all same done (flat_map g xs)) front ∙ ap (insert_all same done) (flat_map-cons g x next)
    ∙ all_append same done (g x) (flat_map g next) ∙ ap (λ xs. insert_all same xs (flat_map g next)) (sym one)
