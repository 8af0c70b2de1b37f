-- What is said of a name, with one more saying.
use Rattle.std.proofs.Common.{◌≡◌, ℕ, Bool, true, false, cond, ◌||◌, List, [], ◌∷◌, ◌++◌, filter, Option, bytes_eq, refl, ap, ap₂, ◌∙◌, append-nil}
use Rattle.std.specs.List.{list_any}
use Rattle.std.proofs.lemmas.List.Folds.{list_any-append}
use Rattle.std.proofs.lemmas.List.Elements.{filter-append}
use Rattle.ftn_tree.specs.Sayings.{Saying, same_name, answer}
use Rattle.ftn_tree.specs.DeclaredEntities.{may_be_own}
use Rattle.ftn_tree.specs.NameFaults.{opens_name}
use Rattle.const_value.specs.declared.said.Said.{Said}
use Rattle.const_value.specs.steps.Said.{bars, defines, gives, said_in, token_of, with_saying}
use Rattle.const_value.proofs.FirstOfList.{found_more}

abbrev made : Option ℕ → Option ℕ → Bool → Bool → Bool → Bool → Said
made opened first given defined answer barred = record { opened = opened; first = first; given = given; defined = defined; answer = answer; barred = barred }

any_more : (p : Saying → Bool) (all : List Saying) (s : Saying) → list_any p (all ++ s ∷ []) ≡ (list_any p all || p s)
any_more p all s = list_any-append p all (s ∷ []) ∙ by (list_any p all) (p s) where
  by : (a b : Bool) → (a || (b || false)) ≡ (a || b)
  by true b = refl
  by false true = refl
  by false false = refl

pub said_more : (in_block_data : Bool) (all : List Saying) (s : Saying) → said_in in_block_data (all ++ s ∷ []) ≡ with_saying in_block_data (said_in in_block_data all) s
said_more in_block_data all s =
    ap₂ (λ o f. made o f (list_any gives (all ++ s ∷ [])) (list_any defines (all ++ s ∷ [])) (list_any answer (all ++ s ∷ [])) (list_any (bars in_block_data) (all ++ s ∷ [])))
    (found_more opens_name token_of all s) (found_more (λ s. may_be_own s.said.role) token_of all s)
    ∙ (ap₂ (λ g d. made w.opened w.first g d (list_any answer (all ++ s ∷ [])) (list_any (bars in_block_data) (all ++ s ∷ []))) (any_more gives all s) (any_more defines all s)
    ∙ ap₂ (made w.opened w.first w.given w.defined) (any_more answer all s) (any_more (bars in_block_data) all s)) where
      w : Said
      w = with_saying in_block_data (said_in in_block_data all) s

pub named_more : (in_block_data : Bool) (all : List Saying) (s : Saying) (name : List ℕ)
    → said_in in_block_data (filter (same_name name) (all ++ s ∷ []))
    ≡ cond (bytes_eq s.name name) (with_saying in_block_data (said_in in_block_data (filter (same_name name) all)) s) (said_in in_block_data (filter (same_name name) all))
named_more in_block_data all s name = ap (said_in in_block_data) (filter-append (same_name name) all (s ∷ [])) ∙ by (bytes_eq s.name name) where
  by : (b : Bool) → said_in in_block_data (filter (same_name name) all ++ cond b (s ∷ []) [])
      ≡ cond b (with_saying in_block_data (said_in in_block_data (filter (same_name name) all)) s) (said_in in_block_data (filter (same_name name) all))
  by true = said_more in_block_data (filter (same_name name) all) s
  by false = ap (said_in in_block_data) (append-nil (filter (same_name name) all))
