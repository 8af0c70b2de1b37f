-- The names that are said, with one saying more.
use Rattle.std.proofs.Common.{◌≡◌, ℕ, ◌+◌, ◌<◌, Bool, true, false, List, [], ◌∷◌, ◌++◌, length, take, get_or, refl, sym, ap, ◌∙◌, subst}
use Rattle.std.specs.Prelude.{◌||◌}
use Rattle.std.specs.Str.{bytes_eq}
use Rattle.std.proofs.lemmas.List.{take_more}
use Rattle.std.proofs.lemmas.List.Folds.{list_any-append}
use Rattle.ftn_tree.specs.DeclaredEntities.{names_after}
use Rattle.ftn_tree.specs.Sayings.{Saying}
use Rattle.decl_table.specs.steps.Seen.{is_among}
use Rattle.const_value.proofs.NamedPlaces.{same_bytes}
use Rattle.const_value.proofs.NamePlaces.{name_again, name_more}
use Rattle.type_check.specs.steps.SaidNames.{with_first}

module _ (said : List Saying) (i : ℕ) (s : Saying) (less : i < length said) (is : s ≡ get_or said i s) where
  abbrev before : List (List ℕ)
  before = names_after [] (take i said)

  next : names_after [] (take (i + 1) said) ≡ names_after [] (take i said ++ s ∷ [])
  next = ap (names_after []) (take_more said i s less ∙ ap (λ x. take i said ++ x ∷ []) (sym is))

  pub names_turn : (come : Bool) → come ≡ is_among s.name before → with_first come s.name before ≡ names_after [] (take (i + 1) said)
  names_turn true is = sym (next ∙ name_again (take i said) s (sym is))
  names_turn false is = sym (next ∙ name_more (take i said) s (sym is))

  or_false : (b c : Bool) → (c || (b || false)) ≡ (b || c)
  or_false true true = refl
  or_false true false = refl
  or_false false true = refl
  or_false false false = refl

  pub come_turn : (name : List ℕ) → (bytes_eq s.name name || is_among name before) ≡ is_among name (names_after [] (take (i + 1) said))
  come_turn name = by (is_among s.name before) refl (bytes_eq s.name name) refl where
    by : (come : Bool) → is_among s.name before ≡ come → (same : Bool) → bytes_eq s.name name ≡ same → (bytes_eq s.name name || is_among name before) ≡ is_among name (names_after [] (take (i + 1) said))
    by true is true same =
        ap (λ b. b || is_among name before) same ∙ sym (subst (λ n. is_among n before ≡ true) (same_bytes s.name name same) is) ∙ ap (is_among name) (sym (next ∙ name_again (take i said) s is))
    by true is false same = ap (λ b. b || is_among name before) same ∙ ap (is_among name) (sym (next ∙ name_again (take i said) s is))
    by false is b same =
        sym (ap (is_among name) (next ∙ name_more (take i said) s is) ∙ list_any-append (λ earlier. bytes_eq earlier name) before (s.name ∷ []) ∙ or_false (bytes_eq s.name name) (is_among name before))

-- the names so far, and which have come, with one saying more
pub both_turn : (said : List Saying) (i : ℕ) (s : Saying) (less : i < length said) (is : s ≡ get_or said i s) (name : List ℕ) → name ≡ s.name → (old new : List (List ℕ)) (come later : List ℕ → Bool)
    → old ≡ names_after [] (take i said) → ((other : List ℕ) → come other ≡ is_among other (names_after [] (take i said))) → new ≡ with_first (come name) name old
    → ((other : List ℕ) → later other ≡ (bytes_eq name other || come other))
    → (new ≡ names_after [] (take (i + 1) said)) × ((other : List ℕ) → later other ≡ is_among other (names_after [] (take (i + 1) said)))
both_turn said i s less is name same old new come later so_far came more put = (
  more ∙ ap (λ names. with_first (come name) name names) so_far ∙ ap (λ n. with_first (come n) n (names_after [] (take i said))) same ∙ names_turn said i s less is (come s.name) (came s.name),
  λ other. put other ∙ ap (λ n. bytes_eq n other || come other) same ∙ ap (λ b. bytes_eq s.name other || b) (came other) ∙ come_turn said i s less is other,
)
