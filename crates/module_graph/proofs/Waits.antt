-- Modules that wait and modules that are ready, while marks are set.
use Rattle.std.proofs.Common.{◌≡◌, ◌≢◌, ℕ, ◌+◌, ◌<◌, ◌≤◌, Bool, true, false, cond, List, [], ◌∷◌, ◌++◌, Vec, length, get_or, take, set, All, Contains, ◌⊎◌, inl, inr, refl, sym, ◌∙◌, subst, subst₂, ap, arith, drop, replicate, Ordering, Less, Equal, Greater, BTreeSet, nat_cmp, is_eq}
use Rattle.std.specs.BTreeSet.{Updates, contains}
use Rattle.std.specs.Cmp.{nat_cmp_total}
use Rattle.std.proofs.lemmas.Bool.Decides.{nat_tests}
use Rattle.std.proofs.lemmas.Bool.{cases_eq, cases_lt}
use Rattle.std.proofs.lemmas.List.{get_or-map, get_or-set_other, get_or-set_same, get_or_past, length-map, map-set, take_all, take_at}
use Rattle.std.proofs.lemmas.List.Elements.{All-contains, All-get_or, All-map, All-more, All-nil, All-push, All-weaker, Contains-append_cases, Contains-append_left, Contains-get_or, Contains-push, Contains-push_cases}
use Rattle.std.proofs.lemmas.Map.Lookups.{exact_unsigned}
use Rattle.std.proofs.lemmas.Map.Views.{btree_set_contains_iff}
use Rattle.ftn_base.specs.ModuleUses.{Uses, used_by}
use Rattle.ftn_base.specs.ModuleOrders.{IsNext}
use Rattle.module_graph.specs.steps.Marks.{IsEntry, IsFree, IsMarked, IsPlaced, IsStuck, IsUnmarked, unmarked}
use Rattle.module_graph.specs.steps.Waiting.{AreCovered, IsCovered, IsGoing, IsSettled, IsSound, IsTaken, IsWaiter, waiter_lists, waiters_on}
use Rattle.module_graph.specs.declared.entries.Entry.{Entry}
use Rattle.module_graph.proofs.Marking.{in_front, in_rest, mark_here, mark_more, no_mark, not_both, unmarked_less}
use Rattle.module_graph.proofs.Placed.{next_of_free, none_placed, placed_more, ready_is_free}

pub waits_length : {A : Type 0} (lists : List (Vec Entry A)) → length (waiter_lists lists) ≡ length lists
waits_length lists = length-map lists (λ list. list.items)

pub waits_at : {A : Type 0} (lists : List (Vec Entry A)) (i : ℕ) (list : Vec Entry A) → i < length lists → list ≡ get_or lists i list → list.items ≡ waiters_on (waiter_lists lists) i
waits_at lists i list lt at = ap (λ v. v.items) at ∙ sym (get_or-map (λ v. v.items) lists i list [] lt)

pub waits_set : {A : Type 0} (lists : List (Vec Entry A)) (i : ℕ) (list : Vec Entry A) → waiter_lists (set lists i list) ≡ set (waiter_lists lists) i list.items
waits_set lists i list = map-set (λ v. v.items) lists i list

-- ---- a module more that waits

module _ (uses : List (List ℕ)) (marks : List Bool) (waits : List (List Entry)) (ready : List ℕ) (sound : IsSound uses marks waits ready)
    (used : ℕ) (waiter : Entry) (lt : used < length waits) (valid : IsWaiter uses marks used waiter) where
  abbrev more : List (List Entry)
  more = set waits used (waiters_on waits used ++ waiter ∷ [])

  on_used : waiters_on more used ≡ waiters_on waits used ++ waiter ∷ []
  on_used = get_or-set_same waits used (waiters_on waits used ++ waiter ∷ []) [] lt

  on_other : (other : ℕ) → other ≢ used → waiters_on more other ≡ waiters_on waits other
  on_other other ne = get_or-set_other waits used other (waiters_on waits used ++ waiter ∷ []) [] ne

  all_on : (other : ℕ) → All (IsWaiter uses marks other) (waiters_on more other)
  all_on other = elim (cases_eq other used) [
    | inl e ↦ subst (λ (n : ℕ). All (IsWaiter uses marks n) (waiters_on more n)) (sym e)
        (subst (λ (l : List Entry). All (IsWaiter uses marks used) l) (sym on_used) (All-push (IsWaiter uses marks used) (waiters_on waits used) waiter (sound.waiters used) valid))
    | inr ne ↦ subst (λ (l : List Entry). All (IsWaiter uses marks other) l) (sym (on_other other ne)) (sound.waiters other)
  ]

  pub waits_sound : IsSound uses marks more ready
  waits_sound = record { free = sound.free; waiters = all_on }

  among_more : (other : ℕ) (w : Entry) → Contains (waiters_on waits other) w → Contains (waiters_on more other) w
  among_more other w c = elim (cases_eq other used) [
    | inl e ↦ subst (λ (n : ℕ). Contains (waiters_on more n) w) (sym e)
        (subst (λ (l : List Entry). Contains l w) (sym on_used) (Contains-append_left (waiters_on waits used) (waiter ∷ []) w (subst (λ (n : ℕ). Contains (waiters_on waits n) w) e c)))
    | inr ne ↦ subst (λ (l : List Entry). Contains l w) (sym (on_other other ne)) c
  ]

  pub waits_kept : (number : ℕ) → IsCovered marks waits ready number → IsCovered marks more ready number
  waits_kept number covered = elim covered [
    | inl c ↦ inl c
    | inr x ↦ inr (record { used = x.used; waiter = x.waiter; no_mark = x.no_mark; among = among_more x.used x.waiter x.among; same = x.same })
  ]

  pub waits_here : IsUnmarked marks used → IsCovered marks more ready waiter.user
  waits_here bare = inr (record { used = used; waiter = waiter; no_mark = bare; among = subst (λ (l : List Entry). Contains l waiter) (sym on_used) (Contains-push (waiters_on waits used) waiter); same = refl })

-- ---- a module more that is ready

module _ (uses : List (List ℕ)) (marks : List Bool) (waits : List (List Entry)) (ready more : List ℕ) (number : ℕ)
    (kept : (other : ℕ) → Contains ready other → Contains more other) (only : (other : ℕ) → Contains more other → (other ≡ number) ⊎ Contains ready other) where
  pub ready_sound : IsSound uses marks waits ready → IsFree uses marks number → IsSound uses marks waits more
  ready_sound sound free = record {
    free = λ other c. elim (only other c) [
      | inl e ↦ subst (λ (n : ℕ). IsFree uses marks n) (sym e) free
      | inr old ↦ sound.free other old
    ];
    waiters = sound.waiters;
  }

  pub ready_kept : (other : ℕ) → IsCovered marks waits ready other → IsCovered marks waits more other
  ready_kept other covered = elim covered [
    | inl c ↦ inl (kept other c)
    | inr x ↦ inr x
  ]

-- ---- what a set says after an insertion

is_equal : (o : Ordering) → is_eq o ≡ true → o ≡ Equal
is_equal Less e = absurd cc
is_equal Equal e = refl
is_equal Greater e = absurd cc

either_true : (b c : Bool) → cond b true c ≡ true → (b ≡ true) ⊎ (c ≡ true)
either_true true c e = inl refl
either_true false c e = inr e

cond_true : (b c : Bool) → c ≡ true → cond b true c ≡ true
cond_true true c e = refl
cond_true false c e = e

module _ (old new : BTreeSet ℕ) (number : ℕ) (updates : Updates nat_cmp old new number true) where
  among : (s : BTreeSet ℕ) (n : ℕ) → contains nat_cmp s n ≡ true → Contains s.keys n
  among s n e = (btree_set_contains_iff nat_cmp_total exact_unsigned s n).0 e

  has : (s : BTreeSet ℕ) (n : ℕ) → Contains s.keys n → contains nat_cmp s n ≡ true
  has s n c = (btree_set_contains_iff nat_cmp_total exact_unsigned s n).1 c

  pub added_here : Contains new.keys number
  added_here = among new number updates.1

  pub added_kept : (other : ℕ) → Contains old.keys other → Contains new.keys other
  added_kept other c = among new other (updates.0 other ∙ cond_true _ _ (has old other c))

  pub added_only : (other : ℕ) → Contains new.keys other → (other ≡ number) ⊎ Contains old.keys other
  added_only other c = elim (either_true (is_eq (nat_cmp number other)) (contains nat_cmp old other) (sym (updates.0 other) ∙ has new other c)) [
    | inl e ↦ inl (sym (exact_unsigned number other (is_equal (nat_cmp number other) e)))
    | inr e ↦ inr (among old other e)
  ]

-- ---- a mark more

woken_more : (uses : List (List ℕ)) (marks : List Bool) (number : ℕ) → number < length marks → (waiter : Entry) → IsEntry uses marks waiter → IsEntry uses (set marks number true) waiter
woken_more uses marks number lt waiter w = record {
  known = w.known;
  front = All-weaker (IsMarked marks) (IsMarked (set marks number true)) (λ n mark. mark_more marks number n lt mark) (take waiter.at (used_by uses waiter.user)) w.front;
}

waiter_more : (uses : List (List ℕ)) (marks : List Bool) (number : ℕ) → number < length marks → (used : ℕ) (waiter : Entry) → IsWaiter uses marks used waiter → IsWaiter uses (set marks number true) used waiter
waiter_more uses marks number lt used waiter w = record { woken = woken_more uses marks number lt waiter w.woken; within = w.within; entry = w.entry }

module _ (uses : List (List ℕ)) (marks : List Bool) (waits : List (List Entry)) (ready : List ℕ) (sound : IsSound uses marks waits ready)
    (number : ℕ) (lt : number < length marks) (within : number < length waits) where
  abbrev marked : List Bool
  marked = set marks number true

  abbrev left : List (List Entry)
  left = set waits number []

  left_other : (other : ℕ) → other ≢ number → waiters_on left other ≡ waiters_on waits other
  left_other other ne = get_or-set_other waits number other [] [] ne

  pub bare_before : (other : ℕ) → IsUnmarked marked other → IsUnmarked marks other
  bare_before other bare = no_mark marks other (λ mark. not_both marked other (mark_more marks number other lt mark) bare)

  pub bare_other : (other : ℕ) → IsUnmarked marked other → other ≢ number
  bare_other other bare e = not_both marked other (subst (λ (n : ℕ). IsMarked marked n) (sym e) (mark_here marks number lt)) bare

  all_left : (other : ℕ) → All (IsWaiter uses marked other) (waiters_on left other)
  all_left other = elim (cases_eq other number) [
    | inl e ↦ subst (λ (n : ℕ). All (IsWaiter uses marked n) (waiters_on left n)) (sym e)
        (subst (λ (l : List Entry). All (IsWaiter uses marked number) l) (sym (get_or-set_same waits number [] [] within)) (All-nil (IsWaiter uses marked number)))
    | inr ne ↦ subst (λ (l : List Entry). All (IsWaiter uses marked other) l) (sym (left_other other ne))
        (All-weaker (IsWaiter uses marks other) (IsWaiter uses marked other) (λ w v. waiter_more uses marks number lt other w v) (waiters_on waits other) (sound.waiters other))
  ]

  pub marked_sound : ((other : ℕ) → Contains ready other → other ≢ number) → IsSound uses marked left ready
  marked_sound taken = record {
    free = λ other c.
        let free = sound.free other c in
        record {
          known = free.known;
          absent = get_or-set_other marks number other true false (taken other c) ∙ free.absent;
          served = All-weaker (IsMarked marks) (IsMarked marked) (λ n mark. mark_more marks number n lt mark) (used_by uses other) free.served;
        };
    waiters = all_left;
  }

  pub all_woken : All (IsEntry uses marked) (waiters_on waits number)
  all_woken = All-weaker (IsWaiter uses marks number) (IsEntry uses marked) (λ w v. woken_more uses marks number lt w v.woken) (waiters_on waits number) (sound.waiters number)

  -- what was covered is so still, or it is woken
  pub covered_or_woken : (other : ℕ) → IsCovered marks waits ready other → IsCovered marked left ready other ⊎ ((waiter : Entry) × Contains (waiters_on waits number) waiter × (waiter.user ≡ other))
  covered_or_woken other covered = elim covered [
    | inl c ↦ inl (inl c)
    | inr x ↦ elim (cases_eq x.used number) [
      | inl e ↦ inr (x.waiter, subst (λ (n : ℕ). Contains (waiters_on waits n) x.waiter) e x.among, x.same)
      | inr ne ↦ inl (inr (record {
        used = x.used;
        waiter = x.waiter;
        no_mark = get_or-set_other marks number x.used true false ne ∙ x.no_mark;
        among = subst (λ (l : List Entry). Contains l x.waiter) (sym (left_other x.used ne)) x.among;
        same = x.same;
      }))
    ]
  ]

  -- all are covered once the woken ones are
  pub covered_after : (waits_new : List (List Entry)) (ready_new : List ℕ) → ((other : ℕ) → IsCovered marked left ready other → IsCovered marked waits_new ready_new other)
      → All (λ waiter. IsUnmarked marked waiter.user → IsCovered marked waits_new ready_new waiter.user) (waiters_on waits number)
      → ((other : ℕ) → other < length uses → IsUnmarked marks other → other ≢ number → IsCovered marks waits ready other) → AreCovered uses marked waits_new ready_new
  covered_after waits_new ready_new kept woken others other known bare =
      elim (covered_or_woken other (others other known (bare_before other bare) (bare_other other bare))) [
        | inl c ↦ kept other c
        | inr w ↦
            let here = All-contains (λ waiter. IsUnmarked marked waiter.user → IsCovered marked waits_new ready_new waiter.user) (waiters_on waits number) w.0 woken w.1 in
            subst (λ (n : ℕ). IsCovered marked waits_new ready_new n) w.2 (here (subst (λ (n : ℕ). IsUnmarked marked n) (sym w.2) bare))
      ]

-- ---- the least module that is ready

pub free_is_there : (uses : List (List ℕ)) (marks : List Bool) (waits : List (List Entry)) (ready : List ℕ) → IsSound uses marks waits ready → (number : ℕ) → IsFree uses marks number → IsCovered marks waits ready number → Contains ready number
free_is_there uses marks waits ready sound number free covered = elim covered [
  | inl c ↦ c
  | inr x ↦
      let w = All-contains (IsWaiter uses marks x.used) (waiters_on waits x.used) x.waiter (sound.waiters x.used) x.among in
      let used : Uses uses x.waiter.user x.used = subst (λ (n : ℕ). Contains (used_by uses x.waiter.user) n) w.entry (Contains-get_or (used_by uses x.waiter.user) x.waiter.at 0 w.within) in
      absurd (not_both marks x.used (All-contains (IsMarked marks) (used_by uses number) x.used free.served (subst (λ (n : ℕ). Uses uses n x.used) x.same used)) x.no_mark)
]

pub less_by : (a b : ℕ) → nat_cmp a b ≡ Less → a < b
less_by a b e = grind (arith, nat_tests)

-- ---- one turn

pub already : (uses : List (List ℕ)) (marks : List Bool) (waits : List (List Entry)) (ready : List ℕ) (user : ℕ) → IsSound uses marks waits ready → IsMarked marks user → IsSettled uses marks waits ready waits ready user
already uses marks waits ready user sound mark = record { sound = sound; kept = λ number c. c; here = λ bare. absurd (not_both marks user mark bare) }

pub is_ready : (uses : List (List ℕ)) (marks : List Bool) (waits : List (List Entry)) (ready more : List ℕ) (waiter : Entry) (list : List ℕ) → IsSound uses marks waits ready → IsEntry uses marks waiter
    → IsUnmarked marks waiter.user → list ≡ used_by uses waiter.user → All (IsMarked marks) list
    → Contains more waiter.user → ((other : ℕ) → Contains ready other → Contains more other) → ((other : ℕ) → Contains more other → (other ≡ waiter.user) ⊎ Contains ready other)
    → IsSettled uses marks waits ready waits more waiter.user
is_ready uses marks waits ready more waiter list sound woken bare e all here kept only = record {
  sound = ready_sound uses marks waits ready more waiter.user kept only sound (record { known = woken.known; absent = bare; served = subst (λ (l : List ℕ). All (IsMarked marks) l) e all });
  kept = ready_kept uses marks waits ready more waiter.user kept only;
  here = λ _. inl here;
}

waits_pushed : {A : Type 0} (lists : List (Vec Entry A)) (i : ℕ) (old new : Vec Entry A) (waiter : Entry) → i < length lists → old ≡ get_or lists i old → new.items ≡ old.items ++ waiter ∷ []
    → set (waiter_lists lists) i (waiters_on (waiter_lists lists) i ++ waiter ∷ []) ≡ waiter_lists (set lists i new)
waits_pushed lists i old new waiter lt at e =
    sym (waits_set lists i new ∙ ap (λ (l : List Entry). set (waiter_lists lists) i l) (e ∙ ap (λ (l : List Entry). l ++ waiter ∷ []) (waits_at lists i old lt at)))

pub waits_on : {A : Type 0} (uses : List (List ℕ)) (marks : List Bool) (lists : List (Vec Entry A)) (ready : List ℕ) (waiter : Entry) (list : List ℕ) (at : ℕ) (old new : Vec Entry A)
    → IsSound uses marks (waiter_lists lists) ready → IsEntry uses marks waiter → list ≡ used_by uses waiter.user → at < length list → IsUnmarked marks (get_or list at 0) → All (IsMarked marks) (take at list)
    → get_or list at 0 < length lists → old ≡ get_or lists (get_or list at 0) old → new.items ≡ old.items ++ (record { user = waiter.user; at = at }) ∷ []
    → IsSettled uses marks (waiter_lists lists) ready (waiter_lists (set lists (get_or list at 0) new)) ready waiter.user
waits_on uses marks lists ready waiter list at old new sound woken e within bare front lt is items =
    let used = get_or list at 0 in
    let next : Entry = record { user = waiter.user; at = at } in
    let waits = waiter_lists lists in
    let valid : IsWaiter uses marks used next = record {
      woken = record { known = woken.known; front = subst (λ (l : List ℕ). All (IsMarked marks) (take at l)) e front };
      within = subst (λ (l : List ℕ). at < length l) e within;
      entry = ap (λ (l : List ℕ). get_or l at 0) (sym e);
    } in
    let size = waits_length lists in
    let below : used < length waits = omega arith in
    let same = waits_pushed lists used old new next lt is items in
    subst (λ (w : List (List Entry)). IsSettled uses marks waits ready w ready waiter.user) same (record {
      sound = waits_sound uses marks waits ready sound used next below valid;
      kept = waits_kept uses marks waits ready sound used next below valid;
      here = λ _. waits_here uses marks waits ready sound used next below valid bare;
    })

front_cases : (x : ℕ) (xs : List ℕ) (number : ℕ) → Contains (x ∷ xs) number → (x ≡ number) ⊎ Contains xs number
front_cases x xs number c = elim (Contains-append_cases (x ∷ []) xs number c) [
  | inl front ↦ elim (Contains-push_cases [] x number front) [
    | inl none ↦ absurd (let lt : none.0 < 0 = none.1 in omega arith)
    | inr e ↦ inl e
  ]
  | inr rest ↦ inr rest
]

-- the least module that is ready is taken
module _ (uses : List (List ℕ)) (list : List ℕ) (marks : List Bool) (waits : List (List Entry)) (ready rest : List ℕ) (number : ℕ)
    (going : IsGoing uses list marks waits ready) (e : ready ≡ number ∷ rest) (above : All (λ other. nat_cmp number other ≡ Less) rest) where
  greater : (other : ℕ) → Contains rest other → number < other
  greater other c = less_by number other (All-contains (λ x. nat_cmp number x ≡ Less) rest other above c)

  here : Contains ready number
  here = subst (λ (l : List ℕ). Contains l number) (sym e) (in_front number rest)

  cases : (other : ℕ) → Contains ready other → (number ≡ other) ⊎ Contains rest other
  cases other c = front_cases number rest other (subst (λ (l : List ℕ). Contains l other) e c)

  pub taken_free : IsFree uses marks number
  taken_free = going.sound.free number here

  not_less : (lesser : ℕ) → lesser < number → Contains ready lesser → ⊥
  not_less lesser lt c = elim (cases lesser c) [
    | inl same ↦ omega arith
    | inr later ↦ let more = greater lesser later in omega arith
  ]

  pub taken_next : IsNext uses list number
  taken_next = next_of_free uses list marks going.placed number taken_free
      (λ lesser lt free. not_less lesser lt (free_is_there uses marks waits ready going.sound lesser free (going.covered lesser free.known free.absent)))

  pub is_taken : IsTaken uses marks waits rest number
  is_taken = record {
    known = taken_free.known;
    sound = record { free = λ other c. going.sound.free other (subst (λ (l : List ℕ). Contains l other) (sym e) (in_rest number rest other c)); waiters = going.sound.waiters };
    taken = λ other c same. let more = greater other c in omega arith;
    others = λ other known bare ne. elim (going.covered other known bare) [
      | inl c ↦ elim (cases other c) [
        | inl same ↦ absurd (ne (sym same))
        | inr later ↦ inl later
      ]
      | inr x ↦ inr x
    ];
  }

  pub goes_on : (list_new : List ℕ) (marks_new : List Bool) (waits_new : List (List Entry)) (ready_new : List ℕ) → list_new ≡ list ++ number ∷ [] → marks_new ≡ set marks number true
      → IsSound uses marks_new waits_new ready_new → AreCovered uses marks_new waits_new ready_new → length waits_new ≡ length uses → IsGoing uses list_new marks_new waits_new ready_new
  goes_on list_new marks_new waits_new ready_new l m sound covered sized = record {
    placed = subst₂ (λ (a : List ℕ) (b : List Bool). IsPlaced uses a b) (sym l) (sym m) (placed_more uses list marks going.placed number taken_next);
    sound = sound;
    covered = covered;
    sized = sized;
  }

  pub turn_nearer : (marks_new : List Bool) → marks_new ≡ set marks number true → unmarked marks_new < unmarked marks
  turn_nearer marks_new m =
      let lt : number < length marks = subst (λ (n : ℕ). number < n) (sym going.placed.sized) taken_free.known in
      let less = unmarked_less marks number lt taken_free.absent in
      let same : unmarked marks_new ≡ unmarked (set marks number true) = ap unmarked m in
      omega arith

pub none_ready : (uses : List (List ℕ)) (list : List ℕ) (marks : List Bool) (waits : List (List Entry)) (ready : List ℕ) → IsGoing uses list marks waits ready → ready ≡ [] → IsStuck uses list marks
none_ready uses list marks waits ready going e = record {
  placed = going.placed;
  stuck = λ number is.
      let free = ready_is_free uses list marks going.placed number is in
      let c = free_is_there uses marks waits ready going.sound number free (going.covered number free.known free.absent) in
      let none : length ready ≡ 0 = ap length e in
      let lt : c.0 < length ready = c.1 in
      omega arith;
}

pub nothing_yet : {A : Type 0} (uses : List (List ℕ)) (marks : List Bool) (lists : List (Vec Entry A)) (ready : List ℕ) → All (λ list. list.items ≡ []) lists → ready ≡ [] → IsSound uses marks (waiter_lists lists) ready
nothing_yet {A} uses marks lists ready none e = record {
  free = λ number c. absurd (let size : length ready ≡ 0 = ap length e in let lt : c.0 < length ready = c.1 in omega arith);
  waiters = λ used. elim (cases_lt used (length (waiter_lists lists))) [
    | inl lt ↦ subst (λ (l : List Entry). All (IsWaiter uses marks used) l) (sym (All-get_or (λ (l : List Entry). l ≡ []) (waiter_lists lists) used [] lt (All-map (λ (l : List Entry). l ≡ []) (λ (v : Vec Entry A). v.items) lists none)))
        (All-nil (IsWaiter uses marks used))
    | inr le ↦ subst (λ (l : List Entry). All (IsWaiter uses marks used) l) (sym (get_or_past (waiter_lists lists) used [] le)) (All-nil (IsWaiter uses marks used))
  ];
}

-- what was lent as a slice and is written back
pub written_back : {X : Type 0} (new old : List X) (n : ℕ) → length new ≡ n → take n (new ++ drop (length new) old) ≡ new
written_back new old n e = take_at new (drop (length new) old) n e

pub going_first : (uses : List (List ℕ)) (list : List ℕ) (marks : List Bool) (waits : List (List Entry)) (ready : List ℕ) (count : ℕ) → list ≡ [] → marks ≡ replicate count false → count ≡ length uses
    → IsSound uses marks waits ready → AreCovered uses marks waits ready → length waits ≡ length uses → IsGoing uses list marks waits ready
going_first uses list marks waits ready count l m e sound covered sized = record {
  placed = none_placed uses list marks l (m ∙ ap (λ (n : ℕ). replicate n false) e);
  sound = sound;
  covered = covered;
  sized = sized;
}

abbrev pub AreWoken : List Bool → List (List Entry) → List ℕ → List Entry → Type 0
AreWoken marks waits ready woken = All (λ waiter. IsUnmarked marks waiter.user → IsCovered marks waits ready waiter.user) woken

pub woken_next : (marks : List Bool) (waits : List (List Entry)) (ready : List ℕ) (new_waits : List (List Entry)) (new_ready : List ℕ) (woken : List Entry) (i : ℕ) (d : Entry) → i < length woken
    → ((number : ℕ) → IsCovered marks waits ready number → IsCovered marks new_waits new_ready number) → (IsUnmarked marks (get_or woken i d).user → IsCovered marks new_waits new_ready (get_or woken i d).user)
    → AreWoken marks waits ready (take i woken) → AreWoken marks new_waits new_ready (take (i + 1) woken)
woken_next marks waits ready new_waits new_ready woken i d lt kept here all =
    All-more (λ waiter. IsUnmarked marks waiter.user → IsCovered marks new_waits new_ready waiter.user) woken i d lt
    (All-weaker (λ waiter. IsUnmarked marks waiter.user → IsCovered marks waits ready waiter.user) (λ waiter. IsUnmarked marks waiter.user → IsCovered marks new_waits new_ready waiter.user)
    (λ waiter c bare. kept waiter.user (c bare)) (take i woken) all) here

pub woken_whole : (marks : List Bool) (waits : List (List Entry)) (ready : List ℕ) (woken : List Entry) (i : ℕ) → length woken ≤ i → AreWoken marks waits ready (take i woken) → AreWoken marks waits ready woken
woken_whole marks waits ready woken i le all = subst (λ (l : List Entry). AreWoken marks waits ready l) (take_all i woken le) all
