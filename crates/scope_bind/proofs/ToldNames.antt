-- What is told of each name, with one more saying before.
use Rattle.std.proofs.Common.{◌≡◌, ℕ, arith, Bool, true, false, cond, List, ◌∷◌, Option, Some, option_map, bytes_eq, refl, sym, ap, ap₂, ◌∙◌}
use Rattle.std.specs.List.{filter, find, list_any}
use Rattle.std.proofs.lemmas.Slice.Eq.{bytes_eq-Decides}
use Rattle.ftn_tree.specs.Sayings.{Saying, same_name}
use Rattle.ftn_tree.specs.NameFaults.{opens_name}
use Rattle.scope_bind.specs.declared.told.Told.{Told}
use Rattle.scope_bind.specs.steps.Told.{told_of, after, earlier, first_token, is_external, is_own}

pub first_more : (what : Saying → Bool) (s : Saying) (all : List Saying) → first_token what (s ∷ all) ≡ earlier (what s) s.said.token (first_token what all)
first_more what s all = by (what s) where
  by : (b : Bool) → option_map (λ (s : Saying). s.said.token) (cond b (Some s) (find what all)) ≡ cond b (Some s.said.token) (first_token what all)
  by true = refl
  by false = refl

abbrev told_with : List Saying → Option ℕ → Option ℕ → Told
told_with all opens begins = record { external = list_any is_external all; opens = opens; begins = begins }

pub told_more : (s : Saying) (all : List Saying) → told_of (s ∷ all) ≡ after s (told_of all)
told_more s all = ap₂ (told_with (s ∷ all)) (first_more opens_name s all) (first_more is_own s all)

pub told_next : (s : Saying) (rest : List Saying) (name : List ℕ) (new here there : Told) (key : List ℕ) → key ≡ s.name
    → new ≡ cond (bytes_eq key name) (after s here) there → here ≡ told_of (filter (same_name key) rest) → there ≡ told_of (filter (same_name name) rest)
    → new ≡ told_of (filter (same_name name) (s ∷ rest))
told_next s rest name new here there key same_key put one other = by (bytes_eq s.name name) refl where
  by : (b : Bool) → bytes_eq s.name name ≡ b → new ≡ told_of (filter (same_name name) (s ∷ rest))
  by true same =
      put ∙ ap (λ b. cond b (after s here) there) (ap (λ k. bytes_eq k name) same_key ∙ same)
      ∙ ap (after s) (one ∙ ap (λ k. told_of (filter (same_name k) rest)) (same_key ∙ (bytes_eq-Decides s.name name).0 (grind arith)))
      ∙ sym (told_more s (filter (same_name name) rest)) ∙ ap (λ b. told_of (cond b (s ∷ filter (same_name name) rest) (filter (same_name name) rest))) (sym same)
  by false apart =
      put ∙ ap (λ b. cond b (after s here) there) (ap (λ k. bytes_eq k name) same_key ∙ apart) ∙ other
      ∙ ap (λ b. told_of (cond b (s ∷ filter (same_name name) rest) (filter (same_name name) rest))) (sym apart)
