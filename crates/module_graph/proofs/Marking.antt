-- Marks that are set one by one.
use Rattle.std.proofs.Common.{◌≡◌, ◌≢◌, ℕ, ◌+◌, ◌<◌, ◌≤◌, Bool, true, false, not, cond, List, [], ◌∷◌, length, get_or, set, take, take_all, replicate, All, Contains, ◌⊎◌, inl, inr, sym, ◌∙◌, subst, ap, arith, sum_by}
use Rattle.std.proofs.lemmas.Bool.{cases_Bool, cases_eq, cases_lt, true≢false}
use Rattle.std.proofs.lemmas.List.{get_or-replicate, get_or-set_other, get_or-set_same, get_or_past, length-replicate}
use Rattle.std.proofs.lemmas.List.Elements.{All-cons, All-more, All-nil, Contains-append_cases, Contains-append_left, Contains-append_right, Contains-push, Contains-push_cases}
use Rattle.std.proofs.lemmas.List.Sums.{sum_by-set}
use Rattle.module_graph.specs.steps.Marks.{IsMarked, IsUnmarked, unmarked}

pub not_both : (marks : List Bool) (number : ℕ) → IsMarked marks number → IsUnmarked marks number → ⊥
not_both marks number mark bare = true≢false (sym mark ∙ bare)

pub no_mark : (marks : List Bool) (number : ℕ) → (IsMarked marks number → ⊥) → IsUnmarked marks number
no_mark marks number none = elim (cases_Bool (get_or marks number false)) [
  | inl mark ↦ absurd (none mark)
  | inr bare ↦ bare
]

pub all_unmarked : (marks : List Bool) (count number : ℕ) → marks ≡ replicate count false → IsUnmarked marks number
all_unmarked marks count number e =
    subst (λ (m : List Bool). get_or m number false ≡ false) (sym e) (elim (cases_lt number count) [
      | inl lt ↦ get_or-replicate count number false false lt
      | inr le ↦ get_or_past (replicate count false) number false (omega (arith, length-replicate count false))
    ])

pub mark_here : (marks : List Bool) (number : ℕ) → number < length marks → IsMarked (set marks number true) number
mark_here marks number lt = get_or-set_same marks number true false lt

pub mark_other : (marks : List Bool) (number other : ℕ) → other ≢ number → IsMarked (set marks number true) other → IsMarked marks other
mark_other marks number other ne mark = sym (get_or-set_other marks number other true false ne) ∙ mark

pub mark_more : (marks : List Bool) (number other : ℕ) → number < length marks → IsMarked marks other → IsMarked (set marks number true) other
mark_more marks number other lt mark = elim (cases_eq other number) [
  | inl e ↦ subst (λ (k : ℕ). IsMarked (set marks number true) k) (sym e) (mark_here marks number lt)
  | inr ne ↦ get_or-set_other marks number other true false ne ∙ mark
]

pub unmarked_less : (marks : List Bool) (number : ℕ) → number < length marks → IsUnmarked marks number → unmarked (set marks number true) + 1 ≡ unmarked marks
unmarked_less marks number lt bare =
    let f : Bool → ℕ = λ (b : Bool). cond (not b) 1 0 in
    let e : sum_by f (set marks number true) + f (get_or marks number false) ≡ sum_by f marks + f true = sum_by-set f marks number true false lt in
    let one : f (get_or marks number false) ≡ 1 = ap f bare in
    omega arith

-- ---- all are marked, or one is not

pub in_rest : (x : ℕ) (xs : List ℕ) (number : ℕ) → Contains xs number → Contains (x ∷ xs) number
in_rest x xs number c = Contains-append_right (x ∷ []) xs number c

pub in_front : (x : ℕ) (xs : List ℕ) → Contains (x ∷ xs) x
in_front x xs = Contains-append_left (x ∷ []) xs x (Contains-push [] x)

pub none_in : (number : ℕ) → Contains [] number → ⊥
none_in number c = let lt : c.0 < 0 = c.1 in omega arith

pub front_cases : (x : ℕ) (xs : List ℕ) (number : ℕ) → Contains (x ∷ xs) number → (x ≡ number) ⊎ Contains xs number
front_cases x xs number c = elim (Contains-append_cases (x ∷ []) xs number c) [
  | inl front ↦ elim (Contains-push_cases [] x number front) [
    | inl none ↦ absurd (none_in number none)
    | inr e ↦ inl e
  ]
  | inr rest ↦ inr rest
]

abbrev pub OneUnmarked : List Bool → List ℕ → Type 0
OneUnmarked marks list = (number : ℕ) × Contains list number × IsUnmarked marks number

front_or_rest : (marks : List Bool) (x : ℕ) (xs : List ℕ) → IsMarked marks x ⊎ IsUnmarked marks x → All (IsMarked marks) xs ⊎ OneUnmarked marks xs
    → All (IsMarked marks) (x ∷ xs) ⊎ OneUnmarked marks (x ∷ xs)
front_or_rest marks x xs (inl mark) (inl all) = inl (All-cons (IsMarked marks) x xs mark all)
front_or_rest marks x xs (inl mark) (inr one) = inr (one.0, in_rest x xs one.0 one.1, one.2)
front_or_rest marks x xs (inr bare) rest = inr (x, in_front x xs, bare)

pub all_or_one : (marks : List Bool) (list : List ℕ) → All (IsMarked marks) list ⊎ OneUnmarked marks list
all_or_one marks [] = inl (All-nil (IsMarked marks))
all_or_one marks (x ∷ xs) = front_or_rest marks x xs (cases_Bool (get_or marks x false)) (all_or_one marks xs)

-- ---- the marks of a list, entry by entry

pub marked_next : (marks : List Bool) (list : List ℕ) (i : ℕ) → i < length list → IsMarked marks (get_or list i 0) → All (IsMarked marks) (take i list) → All (IsMarked marks) (take (i + 1) list)
marked_next marks list i lt mark all = All-more (IsMarked marks) list i 0 lt all mark

pub marked_whole : (marks : List Bool) (list : List ℕ) (i : ℕ) → length list ≤ i → All (IsMarked marks) (take i list) → All (IsMarked marks) list
marked_whole marks list i le all = subst (λ (l : List ℕ). All (IsMarked marks) l) (take_all i list le) all
