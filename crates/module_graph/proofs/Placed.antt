-- Placing one module more.
use Rattle.std.proofs.Common.{◌≡◌, ℕ, ◌<◌, ◌≤◌, Bool, true, false, List, [], ◌∷◌, ◌++◌, length, get_or, take, set, replicate, Contains, inl, inr, sym, ◌∙◌, subst, subst₂, ap, arith, length-set}
use Rattle.std.proofs.lemmas.Bool.{cases_eq, cases_lt}
use Rattle.std.proofs.lemmas.List.{get_or_append_left, get_or_push, length_push, length-replicate, take-append-le, take_at}
use Rattle.std.proofs.lemmas.List.Elements.{All-weaker, Contains-append_left, Contains-push, Contains-push_cases}
use Rattle.ftn_base.specs.ModuleUses.{used_by}
use Rattle.ftn_base.specs.ModuleOrders.{IsGreedy, IsNext, IsReady}
use Rattle.module_graph.specs.steps.Marks.{IsFree, IsMarked, IsPlaced}
use Rattle.module_graph.proofs.Marking.{all_unmarked, mark_here, mark_more, mark_other, no_mark, not_both}

module _ (uses : List (List ℕ)) (list : List ℕ) (marks : List Bool) (placed : IsPlaced uses list marks) where
  pub free_is_ready : (number : ℕ) → IsFree uses marks number → IsReady uses list number
  free_is_ready number free = record {
    known = free.known;
    absent = λ c. not_both marks number (placed.marked number c) free.absent;
    served = All-weaker (IsMarked marks) (Contains list) placed.listed (used_by uses number) free.served;
  }

  pub ready_is_free : (number : ℕ) → IsReady uses list number → IsFree uses marks number
  ready_is_free number ready = record {
    known = ready.known;
    absent = no_mark marks number (λ mark. ready.absent (placed.listed number mark));
    served = All-weaker (Contains list) (IsMarked marks) placed.marked (used_by uses number) ready.served;
  }

  pub next_of_free : (number : ℕ) → IsFree uses marks number → ((lesser : ℕ) → lesser < number → IsFree uses marks lesser → ⊥) → IsNext uses list number
  next_of_free number free least = record {
    ready = free_is_ready number free;
    least = λ lesser lt ready. least lesser lt (ready_is_free lesser ready);
  }

  -- one module more
  module _ (number : ℕ) (next : IsNext uses list number) where
    known : number < length marks
    known = subst (λ (k : ℕ). number < k) (sym placed.sized) next.ready.known

    greedy_old : (k : ℕ) → k < length list → IsNext uses (take k (list ++ number ∷ [])) (get_or (list ++ number ∷ []) k 0)
    greedy_old k lt =
        let le : k ≤ length list = omega arith in
        subst₂ (λ (t : List ℕ) (m : ℕ). IsNext uses t m) (sym (take-append-le k list (number ∷ []) le)) (sym (get_or_append_left list (number ∷ []) 0 k lt)) (placed.greedy k lt)

    greedy_new : (k : ℕ) → length list ≡ k → IsNext uses (take k (list ++ number ∷ [])) (get_or (list ++ number ∷ []) k 0)
    greedy_new k e =
        subst₂ (λ (t : List ℕ) (m : ℕ). IsNext uses t m) (sym (take_at list (number ∷ []) k e)) (sym (get_or_push list number 0 k e)) next

    greedy : IsGreedy uses (list ++ number ∷ [])
    greedy k lt =
        let longer = length_push list number in
        elim (cases_lt k (length list)) [
          | inl old ↦ greedy_old k old
          | inr le ↦ greedy_new k (omega arith)
        ]

    listed : (other : ℕ) → IsMarked (set marks number true) other → Contains (list ++ number ∷ []) other
    listed other mark = elim (cases_eq other number) [
      | inl e ↦ subst (λ (n : ℕ). Contains (list ++ number ∷ []) n) (sym e) (Contains-push list number)
      | inr ne ↦ Contains-append_left list (number ∷ []) other (placed.listed other (mark_other marks number other ne mark))
    ]

    marked : (other : ℕ) → Contains (list ++ number ∷ []) other → IsMarked (set marks number true) other
    marked other c = elim (Contains-push_cases list number other c) [
      | inl old ↦ mark_more marks number other known (placed.marked other old)
      | inr e ↦ subst (λ (n : ℕ). IsMarked (set marks number true) n) e (mark_here marks number known)
    ]

    pub placed_more : IsPlaced uses (list ++ number ∷ []) (set marks number true)
    placed_more = record {
      greedy = greedy;
      sized = length-set marks number true ∙ placed.sized;
      listed = listed;
      marked = marked;
    }

pub none_placed : (uses : List (List ℕ)) (list : List ℕ) (marks : List Bool) → list ≡ [] → marks ≡ replicate (length uses) false → IsPlaced uses list marks
none_placed uses list marks e m = record {
  greedy = λ k lt. absurd (let none : length list ≡ 0 = ap length e in omega arith);
  sized = ap length m ∙ length-replicate (length uses) false;
  listed = λ number mark. absurd (not_both marks number mark (all_unmarked marks (length uses) number m));
  marked = λ number c. absurd (let none : length list ≡ 0 = ap length e in let lt : c.0 < length list = c.1 in omega arith);
}
