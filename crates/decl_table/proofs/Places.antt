-- The index of the first saying that passes a test: over "or", "and", and one more saying.
use Rattle.std.proofs.Common.{◌≡◌, ℕ, suc, arith, Bool, true, false, cond, List, [], ◌∷◌, ◌++◌, length, find, Option, Some, None, is_some, option_map, option_and_then, refl, sym, ap, ◌∙◌}
use Rattle.std.specs.Prelude.{◌||◌, slice_get}
use Rattle.std.specs.List.{list_any}
use Rattle.std.specs.Option.{option_or}
use Rattle.std.proofs.Math.Path.{fun_ext}
use Rattle.ftn_tree.specs.Sayings.{Saying}
use Rattle.decl_table.specs.steps.Firsts.{place, least}

-- tests that agree
pub place_alike : (p q : Saying → Bool) (all : List Saying) → ((s : Saying) → p s ≡ q s) → place p all ≡ place q all
place_alike p q all same = ap (λ test. place test all) (fun_ext same)

pub none_placed : (all : List Saying) → place (λ s. false) all ≡ None
none_placed [] = refl
none_placed (s ∷ all) = ap (option_map suc) (none_placed all)

-- one more saying
pub place_push : (p : Saying → Bool) (all : List Saying) (s : Saying) → place p (all ++ s ∷ []) ≡ option_or (place p all) (cond (p s) (Some (length all)) None)
place_push p [] s = refl
place_push p (x ∷ all) s = by (p x) (place_push p all s)
  where
    shifted : (a : Option ℕ) (b : Bool) (n : ℕ) → option_map suc (option_or a (cond b (Some n) None)) ≡ option_or (option_map suc a) (cond b (Some (suc n)) None)
    shifted None true n = refl
    shifted None false n = refl
    shifted (Some a) b n = refl

    by : (b : Bool) → place p (all ++ s ∷ []) ≡ option_or (place p all) (cond (p s) (Some (length all)) None)
        → cond b (Some 0) (option_map suc (place p (all ++ s ∷ []))) ≡ option_or (cond b (Some 0) (option_map suc (place p all))) (cond (p s) (Some (suc (length all))) None)
    by true more = refl
    by false more = ap (option_map suc) more ∙ shifted (place p all) (p s) (length all)

-- ---- two tests

least_left : (o : Option ℕ) → least (Some 0) (option_map suc o) ≡ Some 0
least_left None = refl
least_left (Some b) = ap Some (omega arith)

least_right : (o : Option ℕ) → least (option_map suc o) (Some 0) ≡ Some 0
least_right None = refl
least_right (Some a) = ap Some (omega arith)

least_shifted : (a b : Option ℕ) → option_map suc (least a b) ≡ least (option_map suc a) (option_map suc b)
least_shifted None b = refl
least_shifted (Some a) None = refl
least_shifted (Some a) (Some b) = ap Some (omega arith)

pub place_or : (p q : Saying → Bool) (all : List Saying) → place (λ s. p s || q s) all ≡ least (place p all) (place q all)
place_or p q [] = refl
place_or p q (s ∷ all) = by (p s) (q s) (place_or p q all)
  where
    by : (a b : Bool) → place (λ s. p s || q s) all ≡ least (place p all) (place q all)
        → cond (a || b) (Some 0) (option_map suc (place (λ s. p s || q s) all)) ≡ least (cond a (Some 0) (option_map suc (place p all))) (cond b (Some 0) (option_map suc (place q all)))
    by true true more = sym (ap Some (omega arith))
    by true false more = sym (least_left (place q all))
    by false true more = sym (least_right (place p all))
    by false false more = ap (option_map suc) more ∙ least_shifted (place p all) (place q all)

-- ---- what stands there

pub place_found : (p : Saying → Bool) (xs ys : List Saying) → option_and_then (slice_get (xs ++ ys)) (place p xs) ≡ find p xs
place_found p [] ys = refl
place_found p (x ∷ xs) ys = by (p x) (place_found p xs ys)
  where
    shifted : (o : Option ℕ) → option_and_then (slice_get (x ∷ (xs ++ ys))) (option_map suc o) ≡ option_and_then (slice_get (xs ++ ys)) o
    shifted None = refl
    shifted (Some k) = refl

    by : (b : Bool) → option_and_then (slice_get (xs ++ ys)) (place p xs) ≡ find p xs
        → option_and_then (slice_get (x ∷ (xs ++ ys))) (cond b (Some 0) (option_map suc (place p xs))) ≡ cond b (Some x) (find p xs)
    by true more = refl
    by false more = shifted (place p xs) ∙ more

pub any_placed : (p : Saying → Bool) (all : List Saying) → list_any p all ≡ is_some (place p all)
any_placed p [] = refl
any_placed p (s ∷ all) = by (p s) (any_placed p all)
  where
    shifted : (o : Option ℕ) → is_some o ≡ is_some (option_map suc o)
    shifted None = refl
    shifted (Some k) = refl

    by : (b : Bool) → list_any p all ≡ is_some (place p all) → (b || list_any p all) ≡ is_some (cond b (Some 0) (option_map suc (place p all)))
    by true more = refl
    by false more = more ∙ shifted (place p all)
