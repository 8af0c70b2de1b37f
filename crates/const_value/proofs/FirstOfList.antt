-- The first of what a list gives, with one more at its end.
use Rattle.std.proofs.Common.{◌≡◌, Bool, true, false, cond, List, [], ◌∷◌, ◌++◌, Option, Some, None, refl, ap, ◌∙◌}
use Rattle.std.specs.Prelude.{slice_get}
use Rattle.std.specs.List.{filter_map, find, cons_option}
use Rattle.std.specs.Option.{option_map, option_or}
use Rattle.std.proofs.lemmas.List.Folds.{find-append}

pub first_more : {X Y : Type 0} (h : X → Option Y) (xs : List X) (x : X) → slice_get (filter_map h (xs ++ x ∷ [])) 0 ≡ option_or (slice_get (filter_map h xs) 0) (h x)
first_more h [] x = by (h x) where
  by : {Y : Type 0} (o : Option Y) → slice_get (cons_option o []) 0 ≡ o
  by None = refl
  by (Some y) = refl
first_more {X} {Y} h (z ∷ xs) x = by (h z) (first_more h xs x) where
  by : (o : Option Y) → slice_get (filter_map h (xs ++ x ∷ [])) 0 ≡ option_or (slice_get (filter_map h xs) 0) (h x)
      → slice_get (cons_option o (filter_map h (xs ++ x ∷ []))) 0 ≡ option_or (slice_get (cons_option o (filter_map h xs)) 0) (h x)
  by None rest = rest
  by (Some y) rest = refl

-- the same of one that is found
pub found_more : {X Y : Type 0} (p : X → Bool) (g : X → Y) (xs : List X) (x : X) → option_map g (find p (xs ++ x ∷ [])) ≡ option_or (option_map g (find p xs)) (cond (p x) (Some (g x)) None)
found_more {X} {Y} p g xs x = ap (option_map g) (find-append p xs (x ∷ [])) ∙ by (find p xs) (p x) where
  by : (o : Option X) (b : Bool) → option_map g (option_or o (cond b (Some x) None)) ≡ option_or (option_map g o) (cond b (Some (g x)) None)
  by None true = refl
  by None false = refl
  by (Some y) b = refl
