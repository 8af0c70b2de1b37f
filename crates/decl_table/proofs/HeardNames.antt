-- What is heard of each name, with one more saying before.
use Rattle.std.proofs.Common.{◌≡◌, ℕ, ◌-◌, ◌<◌, ◌≤◌, suc, arith, Bool, true, false, cond, List, ◌∷◌, drop, length, get_or, drop-cons, Option, Some, option_map, bytes_eq, refl, sym, ap, ap₂, ◌∙◌}
use Rattle.std.specs.List.{filter, find, list_any}
use Rattle.std.proofs.lemmas.Slice.Eq.{bytes_eq-Decides}
use Rattle.ftn_tree.specs.declared.mention.Role.{Role}
use Rattle.ftn_tree.specs.declared.mention.Role.TheVariants as role
use Rattle.ftn_tree.specs.Sayings.{Saying, same_name}
use Rattle.ftn_tree.specs.Sayings as said
use Rattle.decl_table.specs.declared.heard.Heard.{Heard}
use Rattle.decl_table.specs.steps.Heard.{heard_of, after, earlier, first_token, is, shaped}

pub first_more : (role : Role) (s : Saying) (all : List Saying) → first_token role (s ∷ all) ≡ earlier (is role s) s.said.token (first_token role all)
first_more role s all = by (is role s) where
  by : (b : Bool) → option_map (λ (s : Saying). s.said.token) (cond b (Some s) (find (is role) all)) ≡ cond b (Some s.said.token) (first_token role all)
  by true = refl
  by false = refl

abbrev heard_with : List Saying → Option ℕ → Option ℕ → Heard
heard_with all generic label = record {
  dummy = list_any said.dummy all;
  answer = list_any said.answer all;
  inner = list_any (is role.Inner) all;
  generic = generic;
  label = label;
  outside = list_any said.outside all;
  parameter = list_any said.parameter all;
  declared = list_any said.declares all;
  typed = list_any said.typed all;
  shaped = list_any shaped all;
}

pub heard_more : (s : Saying) (all : List Saying) → heard_of (s ∷ all) ≡ after s (heard_of all)
heard_more s all = ap₂ (heard_with (s ∷ all)) (first_more role.Generic s all) (first_more role.Label s all)

pub heard_next : (s : Saying) (rest : List Saying) (name : List ℕ) (new here there : Heard) (key : List ℕ) → key ≡ s.name
    → new ≡ cond (bytes_eq key name) (after s here) there → here ≡ heard_of (filter (same_name key) rest) → there ≡ heard_of (filter (same_name name) rest)
    → new ≡ heard_of (filter (same_name name) (s ∷ rest))
heard_next s rest name new here there key same_key put one other = by (bytes_eq s.name name) refl where
  by : (b : Bool) → bytes_eq s.name name ≡ b → new ≡ heard_of (filter (same_name name) (s ∷ rest))
  by true same =
      put ∙ ap (λ b. cond b (after s here) there) (ap (λ k. bytes_eq k name) same_key ∙ same)
      ∙ ap (after s) (one ∙ ap (λ k. heard_of (filter (same_name k) rest)) (same_key ∙ (bytes_eq-Decides s.name name).0 (grind arith)))
      ∙ sym (heard_more s (filter (same_name name) rest)) ∙ ap (λ b. heard_of (cond b (s ∷ filter (same_name name) rest) (filter (same_name name) rest))) (sym same)
  by false apart =
      put ∙ ap (λ b. cond b (after s here) there) (ap (λ k. bytes_eq k name) same_key ∙ apart) ∙ other
      ∙ ap (λ b. heard_of (cond b (s ∷ filter (same_name name) rest) (filter (same_name name) rest))) (sym apart)

before_next : (at : ℕ) → 0 < at → suc (at - 1) ≡ at
before_next at some = omega (arith, some)

pub opened_before : {X : Type 0} (all : List X) (at : ℕ) (s : X) → 0 < at → at ≤ length all → s ≡ get_or all (at - 1) s → drop (at - 1) all ≡ s ∷ drop at all
opened_before all at s some lt same =
    drop-cons all (at - 1) s (omega (arith, some, lt)) ∙ ap (λ y. y ∷ drop (suc (at - 1)) all) (sym same) ∙ ap (λ k. s ∷ drop k all) (before_next at some)

pub at_start : (at : ℕ) → at ≤ 0 → at ≡ 0
at_start at low = omega (arith, low)
