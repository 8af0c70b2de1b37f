-- Lists of used modules as they lie in memory, and as contracts see them.
use Rattle.std.proofs.Common.{◌≡◌, ℕ, ◌<◌, List, [], Vec, length, get_or, All, Contains, ap, sym, subst, ◌∙◌, arith, inl, inr}
use Rattle.std.proofs.lemmas.Bool.{cases_lt}
use Rattle.std.proofs.lemmas.List.{get_or-map, get_or_past, length-map}
use Rattle.std.proofs.lemmas.List.Elements.{All-contains}
use Rattle.ftn_base.specs.ModuleUses.{AreKnown, Uses, used_by}
use Rattle.module_graph.specs.Uses.{used_lists}

pub lists_length : {A : Type 0} (lists : List (Vec ℕ A)) → length (used_lists lists) ≡ length lists
lists_length lists = length-map lists (λ list. list.items)

pub list_at : {A : Type 0} (lists : List (Vec ℕ A)) (i : ℕ) (list : Vec ℕ A) → i < length lists → list ≡ get_or lists i list → list.items ≡ used_by (used_lists lists) i
list_at lists i list lt at = ap (λ v. v.items) at ∙ sym (get_or-map (λ v. v.items) lists i list [] lt)

none_in_nothing : (number : ℕ) → Contains [] number → ⊥
none_in_nothing number c = let lt : c.0 < 0 = c.1 in omega arith

-- what uses another is a module
pub user_known : (uses : List (List ℕ)) (user used : ℕ) → Uses uses user used → user < length uses
user_known uses user used c = elim (cases_lt user (length uses)) [
  | inl lt ↦ lt
  | inr le ↦ absurd (none_in_nothing used (subst (λ (list : List ℕ). Contains list used) (get_or_past uses user [] le) c))
]

pub all_known : (uses : List (List ℕ)) (user : ℕ) → AreKnown uses → user < length uses → All (λ used. used < length uses) (used_by uses user)
all_known uses user known lt = known user [] lt

pub used_known : (uses : List (List ℕ)) (user used : ℕ) → AreKnown uses → Uses uses user used → used < length uses
used_known uses user used known c = All-contains (λ number. number < length uses) (used_by uses user) used (all_known uses user known (user_known uses user used c)) c

-- the entries of a list are below the count of marks
pub known_below : {A : Type 0} (lists : List (Vec ℕ A)) (list : List ℕ) (user count : ℕ) → AreKnown (used_lists lists) → user < length lists → count ≡ length lists
    → list ≡ used_by (used_lists lists) user → All (λ used. used < count) list
known_below lists list user count known lt sized e =
    let n : count ≡ length (used_lists lists) = sized ∙ sym (lists_length lists) in
    let below : user < length (used_lists lists) = subst (λ (k : ℕ). user < k) (sym (lists_length lists)) lt in
    subst (λ (k : ℕ). All (λ used. used < k) list) (sym n)
    (subst (λ (l : List ℕ). All (λ used. used < length (used_lists lists)) l) (sym e) (all_known (used_lists lists) user known below))
