-- The first sayings of a name, with one more saying.
use Rattle.std.proofs.Common.{◌≡◌, ℕ, Bool, true, false, cond, List, [], ◌∷◌, ◌++◌, length, Option, Some, None, refl, sym, ap, ap₂, ◌∙◌}
use Rattle.std.specs.Prelude.{◌&&◌}
use Rattle.std.specs.Option.{option_or}
use Rattle.std.proofs.Math.Path.{fun_ext}
use Rattle.ftn_tree.specs.Sayings.{Saying}
use Rattle.decl_table.specs.steps.Firsts.{place, first, with, next, each_thing, firsts_of, alone, joined}
use Rattle.decl_table.proofs.Places.{place_push}

-- it is ours
pub joined_is : (ours : Saying → Bool) (all : List Saying) (s : Saying) (i : ℕ) → i ≡ length all → ours s ≡ true → joined i (firsts_of ours all) (alone s) ≡ firsts_of ours (all ++ s ∷ [])
joined_is ours all s i last is_ours = ap each_thing (fun_ext one)
  where
    here : (b : Bool) → with (Some i) (first b) ≡ cond (true && b) (Some i) None
    here true = refl
    here false = refl

    one : (test : Saying → Bool) → next i (place (λ x. ours x && test x) all) (first (test s)) ≡ place (λ x. ours x && test x) (all ++ s ∷ [])
    one test = ap (option_or (place (λ x. ours x && test x) all)) (here (test s) ∙ ap₂ (λ o n. cond (o && test s) (Some n) None) (sym is_ours) last) ∙ sym (place_push (λ x. ours x && test x) all s)

-- it is none of ours
pub passed_is : (ours : Saying → Bool) (all : List Saying) (s : Saying) → ours s ≡ false → firsts_of ours all ≡ firsts_of ours (all ++ s ∷ [])
passed_is ours all s other = ap each_thing (fun_ext one)
  where
    kept : (o : Option ℕ) → o ≡ option_or o None
    kept None = refl
    kept (Some k) = refl

    one : (test : Saying → Bool) → place (λ x. ours x && test x) all ≡ place (λ x. ours x && test x) (all ++ s ∷ [])
    one test =
        kept (place (λ x. ours x && test x) all)
        ∙ ap (λ o. option_or (place (λ x. ours x && test x) all) (cond (o && test s) (Some (length all)) None)) (sym other) ∙ sym (place_push (λ x. ours x && test x) all s)
