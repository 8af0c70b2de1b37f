-- One turn of the search that finishes each number after those that it uses, and how much is left after it.
use Rattle.std.proofs.Common.{◌≡◌, ℕ, zero, suc, ◌+◌, ◌<◌, ◌≤◌, Bool, true, false, cond, List, [], ◌∷◌, ◌++◌, length, get_or, set, All, Contains, inl, inr, refl, sym, subst, ap, ◌∙◌, arith}
use Rattle.std.proofs.lemmas.Bool.{cases_lt}
use Rattle.std.proofs.lemmas.List.{get_or_default, map-append, set-get_or}
use Rattle.std.proofs.lemmas.List.Elements.{All-nil, All-push, All-weaker, Contains-get_or}
use Rattle.ftn_base.specs.ModuleUses.{AreKnown, Uses, used_by}
use Rattle.const_value.specs.declared.components.Open.{Open}
use Rattle.const_value.specs.steps.Components.{Leads, IsFinishOrder}
use Rattle.const_value.specs.steps.Searching.{IsMarked, node_of, nodes, IsPassed, IsVisited, IsSearch, Stays, open_at, unseen, left_of, left_in, left_all}
use Rattle.const_value.proofs.Searching.{All-left, All-last, none_in, mark_here, mark_stays, opened, opened_more, finished}
use Rattle.const_value.proofs.Users.{used_known}

-- ---- how much is left

left_push : (uses : List (List ℕ)) (stack : List Open) (o : Open) → left_in uses (stack ++ o ∷ []) ≡ left_in uses stack + left_of uses o
left_push uses [] o = omega arith
left_push uses (x ∷ stack) o = let rest : left_in uses (stack ++ o ∷ []) ≡ left_in uses stack + left_of uses o = left_push uses stack o in omega (arith, rest)

unseen_less : (uses : List (List ℕ)) (seen : List Bool) (n : ℕ) → n < length uses → length seen ≡ length uses → get_or seen n false ≡ false
    → unseen uses (set seen n true) + (length (used_by uses n) + 1) ≡ unseen uses seen
unseen_less [] seen n less sized new = absurd (omega arith)
unseen_less (list ∷ uses) [] n less sized new = absurd (omega arith)
unseen_less (list ∷ uses) (b ∷ seen) zero less sized new = let one : cond b 0 (length list + 1) ≡ length list + 1 = ap (λ t. cond t 0 (length list + 1)) new in omega (arith, one)
unseen_less (list ∷ uses) (b ∷ seen) (suc n) less sized new =
    let rest : unseen uses (set seen n true) + (length (used_by uses n) + 1) ≡ unseen uses seen = unseen_less uses seen n (omega arith) (omega (arith, sized)) new in omega (arith, rest)

-- ---- the numbers that are open

nodes_push : (stack : List Open) (o : Open) → nodes (stack ++ o ∷ []) ≡ nodes stack ++ o.node ∷ []
nodes_push stack o = map-append node_of stack (o ∷ [])

passed_stay : (uses : List (List ℕ)) (seen after : List Bool) → Stays seen after → (stack : List Open) → All (IsPassed uses seen) stack → All (IsPassed uses after) stack
passed_stay uses seen after stays stack all =
    All-weaker (IsPassed uses seen) (IsPassed uses after) (λ o passed k less within. stays (get_or (used_by uses o.node) k 0) (passed k less within)) stack all

none_passed : (uses : List (List ℕ)) (seen : List Bool) (number : ℕ) → IsPassed uses seen (open_at number)
none_passed uses seen number k less within = absurd (omega arith)

module _ (uses : List (List ℕ)) (seen : List Bool) (order : List ℕ) where
  -- the first is opened
  pub search_begun : (start : ℕ) (after : List Bool) (stack : List Open) → IsSearch uses seen [] order → start < length uses → get_or seen start false ≡ false
      → after ≡ set seen start true → stack ≡ cond (get_or seen start false) [] ([] ++ open_at start ∷ []) → IsSearch uses after stack order × Stays seen after × IsMarked after start
  search_begun start after stack s known new put pushed =
      let size : start < length seen = subst (λ n. start < n) (sym s.visited.sized) known in
      let is : stack ≡ open_at start ∷ [] = pushed ∙ ap (λ b. cond b [] (open_at start ∷ [])) new in
      subst (λ ls. IsSearch uses ls stack order × Stays seen ls × IsMarked ls start) (sym put) (
        subst (λ os. IsSearch uses (set seen start true) os order) (sym is) (record {
          visited = opened uses seen order [] start s.visited known new (All-nil (λ x. Leads uses x start));
          passed = All-push (IsPassed uses (set seen start true)) [] (open_at start) (All-nil (IsPassed uses (set seen start true))) (none_passed uses (set seen start true) start);
        }),
        mark_stays seen start size,
        mark_here seen start size,
      )

  module _ (front : List Open) (top : Open) (s : IsSearch uses seen (front ++ top ∷ []) order) where
    visited : IsVisited uses seen (nodes front ++ top.node ∷ []) order
    visited = subst (λ ns. IsVisited uses seen ns order) (nodes_push front top) s.visited

    top_passed : IsPassed uses seen top
    top_passed = All-last (IsPassed uses seen) front top s.passed

    pub top_known : top.node < length uses
    top_known = All-last (λ number. number < length uses) (nodes front) top.node visited.open_known

    abbrev moved : Open
    moved = record { node = top.node; next = top.next + 1 }

    -- all uses of the last one were gone through
    pub search_ended : (after : List ℕ) → length (used_by uses top.node) ≤ top.next → after ≡ order ++ top.node ∷ []
        → IsSearch uses seen front after × Stays seen seen × (left_all uses seen front < left_all uses seen (front ++ top ∷ []))
    search_ended after over is = (
      subst (λ ns. IsSearch uses seen front ns) (sym is) (record {
        visited = finished uses seen order (nodes front) top.node visited (λ k d less. all k d less);
        passed = All-left (IsPassed uses seen) front (top ∷ []) s.passed;
      }),
      λ number marked. marked,
      omega (arith, left_push uses front top),
    )
      where
        all : (k : ℕ) (d : ℕ) → k < length (used_by uses top.node) → IsMarked seen (get_or (used_by uses top.node) k d)
        all k d less = subst (λ n. IsMarked seen n) (get_or_default (used_by uses top.node) k 0 d less) (top_passed k (omega (arith, over, less)) less)

    -- the last one uses another
    pub search_on : (to : ℕ) (after : List Bool) (mid stack : List Open) → AreKnown uses → top.next < length (used_by uses top.node) → to ≡ get_or (used_by uses top.node) top.next 0
        → mid ≡ front ++ record { node = top.node; next = top.next + 1 } ∷ [] → after ≡ set seen to true → stack ≡ cond (get_or seen to false) mid (mid ++ open_at to ∷ [])
        → IsSearch uses after stack order × Stays seen after × (left_all uses after stack < left_all uses seen (front ++ top ∷ []))
    search_on to after mid stack all_known less at is put pushed = by (get_or seen to false) refl where
      use_of : Uses uses top.node to
      use_of = subst (λ k. Contains (used_by uses top.node) k) (sym at) (Contains-get_or (used_by uses top.node) top.next 0 less)

      known : to < length uses
      known = used_known uses top.node to all_known use_of

      size : to < length seen
      size = subst (λ n. to < n) (sym visited.sized) known

      mid_nodes : nodes (front ++ moved ∷ []) ≡ nodes front ++ top.node ∷ []
      mid_nodes = nodes_push front moved

      -- the use_of that is gone through now is seen
      more_passed : (now : List Bool) → Stays seen now → IsMarked now to → All (IsPassed uses now) (front ++ moved ∷ [])
      more_passed now stays marked =
          All-push (IsPassed uses now) front moved (passed_stay uses seen now stays front (All-left (IsPassed uses seen) front (top ∷ []) s.passed))
          (λ k below within. elim (cases_lt k top.next) [
            | inl old ↦ stays (get_or (used_by uses top.node) k 0) (top_passed k old within)
            | inr le ↦
                let same : top.next ≡ k = omega (arith, le, below) in
                subst (λ n. IsMarked now n) (at ∙ ap (λ j. get_or (used_by uses top.node) j 0) same) marked
          ])

      step : left_in uses (front ++ moved ∷ []) + 1 ≡ left_in uses (front ++ top ∷ [])
      step =
          let one = left_push uses front top in
          let two = left_push uses front moved in
          omega (arith, less, one, two)

      by : (b : Bool) → get_or seen to false ≡ b → IsSearch uses after stack order × Stays seen after × (left_all uses after stack < left_all uses seen (front ++ top ∷ []))
      by true there =
          let same : after ≡ seen = put ∙ ap (set seen to) (sym there) ∙ set-get_or seen to false in
          let kept : stack ≡ front ++ moved ∷ [] = pushed ∙ ap (λ b. cond b mid (mid ++ open_at to ∷ [])) there ∙ is in
          subst (λ ls. IsSearch uses ls stack order × Stays seen ls × (left_all uses ls stack < left_all uses seen (front ++ top ∷ []))) (sym same)
          (subst (λ os. IsSearch uses seen os order × Stays seen seen × (left_all uses seen os < left_all uses seen (front ++ top ∷ []))) (sym kept) (
            record {
              visited = subst (λ ns. IsVisited uses seen ns order) (sym mid_nodes) visited;
              passed = more_passed seen (λ number marked. marked) there;
            },
            λ number marked. marked,
            omega (arith, step),
          ))
      by false new =
          let more : stack ≡ (front ++ moved ∷ []) ++ open_at to ∷ [] = pushed ∙ ap (λ b. cond b mid (mid ++ open_at to ∷ [])) new ∙ ap (λ os. os ++ open_at to ∷ []) is in
          let stays = mark_stays seen to size in
          let marked = mark_here seen to size in
          let now : List Bool = set seen to true in
          subst (λ ls. IsSearch uses ls stack order × Stays seen ls × (left_all uses ls stack < left_all uses seen (front ++ top ∷ []))) (sym put)
          (subst (λ os. IsSearch uses now os order × Stays seen now × (left_all uses now os < left_all uses seen (front ++ top ∷ []))) (sym more) (
            record {
              visited =
                  subst (λ ns. IsVisited uses now ns order) (sym (nodes_push (front ++ moved ∷ []) (open_at to) ∙ ap (λ ns. ns ++ to ∷ []) mid_nodes))
                  (opened_more uses seen order (nodes front) top.node to visited known new use_of);
              passed = All-push (IsPassed uses now) (front ++ moved ∷ []) (open_at to) (more_passed now stays marked) (none_passed uses now to);
            },
            stays,
            let fewer = unseen_less uses seen to known visited.sized new in
                let pushed_left = left_push uses (front ++ moved ∷ []) (open_at to) in
                omega (arith, step, fewer, pushed_left),
          ))

-- ---- at the end

pub search_finished : (uses : List (List ℕ)) (seen : List Bool) (order : List ℕ) → IsSearch uses seen [] order → ((number : ℕ) → number < length uses → IsMarked seen number) → IsFinishOrder uses order
search_finished uses seen order s marked = record {
  known = s.visited.order_known;
  all = λ number less. elim (s.visited.all number (marked number less)) [
    | inl there ↦ there
    | inr none ↦ absurd (none_in number none)
  ];
  apart = s.visited.order_apart;
  held = s.visited.held;
}
