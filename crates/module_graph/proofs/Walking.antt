-- Steps of walks, as the code takes them.
use Rattle.std.proofs.Common.{◌≡◌, ℕ, ◌-◌, ◌<◌, ◌≢◌, Bool, true, List, [], ◌∷◌, ◌++◌, Option, Some, None, length, get_or, take, set, All, Contains, inl, inr, refl, sym, ◌∙◌, subst, subst₂, ap, arith}
use Rattle.std.proofs.lemmas.Bool.{cases_eq}
use Rattle.std.proofs.lemmas.List.{get_or-map, length-map, length_push, map-append, map-set, set-get_or, take-map, take_at}
use Rattle.std.proofs.lemmas.List.Elements.{All-nil, All-push, All-set, All-weaker, Contains-get_or}
use Rattle.ftn_base.specs.ModuleUses.{Uses, used_by}
use Rattle.module_graph.specs.steps.Marks.{IsEntry, IsMarked, IsSearch, IsUnmarked, IsWayBack}
use Rattle.module_graph.specs.steps.Walks.{GoesBack, GoesOn, IsStep, last_of, modules_of}
use Rattle.module_graph.specs.declared.entries.Entry.{Entry}
use Rattle.module_graph.proofs.Marking.{mark_here, mark_more, mark_other, not_both}
use Rattle.module_graph.proofs.Searching as searching

-- the entry at which the walk stands
module _ (uses : List (List ℕ)) (marks : List Bool) (path : List Entry) (some : 0 < length path) (entry : Entry) (is : entry ≡ get_or path (length path - 1) entry) where
  last_is : entry.user ≡ last_of (modules_of path)
  last_is =
      let size = length-map path (λ (e : Entry). e.user) in
      let lt : length path - 1 < length path = omega arith in
      ap (λ (e : Entry). e.user) is ∙ sym (get_or-map (λ (e : Entry). e.user) path (length path - 1) entry 0 lt) ∙ ap (λ (n : ℕ). get_or (modules_of path) (n - 1) 0) (sym size)

  module _ (list : List ℕ) (listed : list ≡ used_by uses entry.user) where
    pub steps_back : All (IsMarked marks) list → (new_path : List Entry) → new_path ≡ take (length path - 1) path → GoesBack uses marks path marks new_path
    steps_back all new_path e = record {
      done = subst (λ (n : ℕ). All (IsMarked marks) (used_by uses n)) last_is (subst (λ (l : List ℕ). All (IsMarked marks) l) listed all);
      marks_then = refl;
      path_then =
          let size = length-map path (λ (e : Entry). e.user) in
          ap (λ (p : List Entry). modules_of p) e ∙ sym (take-map (λ (e : Entry). e.user) (length path - 1) path) ∙ ap (λ (n : ℕ). take (n - 1) (modules_of path)) (sym size);
    }

    module _ (at next : ℕ) (within : at < length list) (next_is : next ≡ get_or list at 0) (bare : IsUnmarked marks next) (known : next < length uses) (new_path : List Entry)
        (then_path : new_path ≡ set path (length path - 1) (record { user = entry.user; at = at }) ++ record { user = next; at = 0 } ∷ []) where
      abbrev moved : Entry
      moved = record { user = entry.user; at = at }

      used_next : Uses uses (last_of (modules_of path)) next
      used_next = subst (λ (n : ℕ). Uses uses n next) last_is (subst (λ (l : List ℕ). Contains l next) listed (subst (λ (n : ℕ). Contains list n) (sym next_is) (Contains-get_or list at 0 within)))

      same_modules : modules_of (set path (length path - 1) moved) ≡ modules_of path
      same_modules =
          let size = length-map path (λ (e : Entry). e.user) in
          map-set (λ (e : Entry). e.user) path (length path - 1) moved
          ∙ ap (λ (n : ℕ). set (modules_of path) (length path - 1) n) (last_is ∙ ap (λ (n : ℕ). get_or (modules_of path) (n - 1) 0) size)
          ∙ set-get_or (modules_of path) (length path - 1) 0

      pub steps_on : GoesOn uses marks path (set marks next true) new_path
      steps_on = record {
        next = next;
        known = known;
        used = used_next;
        no_mark = bare;
        marks_then = refl;
        path_then =
            ap (λ (p : List Entry). modules_of p) then_path
            ∙ map-append (λ (e : Entry). e.user) (set path (length path - 1) moved) (record { user = next; at = 0 } ∷ [])
            ∙ ap (λ (l : List ℕ). l ++ next ∷ []) same_modules;
      }

      pub entries_on : length marks ≡ length uses → All (IsEntry uses marks) path → All (IsMarked marks) (take at list) → All (IsEntry uses (set marks next true)) new_path
      entries_on sized all front =
          let lt : next < length marks = subst (λ (n : ℕ). next < n) (sym sized) known in
          let last_known : entry.user < length uses = subst (λ (e : Entry). e.user < length uses) (sym is) (all (length path - 1) entry (omega arith)).known in
          let kept : (n : ℕ) → IsMarked marks n → IsMarked (set marks next true) n = λ n mark. mark_more marks next n lt mark in
          let old : All (IsEntry uses (set marks next true)) path =
          All-weaker (IsEntry uses marks) (IsEntry uses (set marks next true))
          (λ e ok. record { known = ok.known; front = All-weaker (IsMarked marks) (IsMarked (set marks next true)) kept (take e.at (used_by uses e.user)) ok.front }) path all in
          let here : IsEntry uses (set marks next true) moved = record {
            known = last_known;
            front = All-weaker (IsMarked marks) (IsMarked (set marks next true)) kept (take at (used_by uses entry.user)) (subst (λ (l : List ℕ). All (IsMarked marks) (take at l)) listed front);
          } in
          let new : IsEntry uses (set marks next true) (record { user = next; at = 0 }) = record { known = known; front = All-nil (IsMarked (set marks next true)) } in
          subst (λ (p : List Entry). All (IsEntry uses (set marks next true)) p) (sym then_path)
          (All-push (IsEntry uses (set marks next true)) (set path (length path - 1) moved) (record { user = next; at = 0 }) (All-set (IsEntry uses (set marks next true)) path (length path - 1) moved here old) new)

-- ---- a step of the search for a way back

module _ (uses : List (List ℕ)) (from : ℕ) (marks : List Bool) (path : List Entry) (search : IsSearch uses from marks (modules_of path)) (some : 0 < length path)
    (new_marks : List Bool) (new_path : List Entry) where
  begun : 0 < length (modules_of path)
  begun = let size = length-map path (λ (e : Entry). e.user) in omega arith

  leads_to : GoesOn uses marks path new_marks new_path → IsMarked new_marks from → (next : ℕ) × Uses uses (last_of (modules_of path)) from × (modules_of new_path ≡ modules_of path ++ next ∷ [])
  leads_to step mark = elim (cases_eq from step.next) [
    | inl e ↦ (step.next, subst (λ (n : ℕ). Uses uses (last_of (modules_of path)) n) (sym e) step.used, step.path_then)
    | inr ne ↦ absurd (not_both marks from (mark_other marks step.next from ne (subst (λ (m : List Bool). IsMarked m from) step.marks_then mark)) search.open_source)
  ]

  front_of : (next : ℕ) → modules_of new_path ≡ modules_of path ++ next ∷ [] → (rest : List Entry) → rest ≡ take (length new_path - 1) new_path → modules_of rest ≡ modules_of path
  front_of next e rest front =
      let size = length-map new_path (λ (e : Entry). e.user) in
      let more = length_push (modules_of path) next in
      let same : length (modules_of new_path) ≡ length (modules_of path ++ next ∷ []) = ap length e in
      let count : length (modules_of path) ≡ length new_path - 1 = omega arith in
      ap (λ (p : List Entry). modules_of p) front ∙ sym (take-map (λ (e : Entry). e.user) (length new_path - 1) new_path) ∙ ap (λ (l : List ℕ). take (length new_path - 1) l) e
      ∙ take_at (modules_of path) (next ∷ []) (length new_path - 1) count

  arrived : GoesOn uses marks path new_marks new_path → IsMarked new_marks from → (rest : List Entry) → rest ≡ take (length new_path - 1) new_path → IsWayBack uses from (modules_of rest)
  arrived step mark rest front =
      let to = leads_to step mark in
      subst (λ (l : List ℕ). IsWayBack uses from l) (sym (front_of to.0 to.2 rest front)) (searching.found uses from marks (modules_of path) search begun to.1)

  pub at_source : (left : Option ℕ) → IsStep uses marks path new_marks new_path left → IsMarked new_marks from → (rest : List Entry) → rest ≡ take (length new_path - 1) new_path → IsWayBack uses from (modules_of rest)
  at_source None step mark rest front = arrived step mark rest front
  at_source (Some left) step mark rest front = absurd (not_both marks from (subst (λ (m : List Bool). IsMarked m from) step.marks_then mark) search.open_source)

  gone_on : GoesOn uses marks path new_marks new_path → IsUnmarked new_marks from → IsSearch uses from new_marks (modules_of new_path)
  gone_on step bare =
      let other : step.next ≢ from = λ e.
      let within : from < length marks = subst (λ (n : ℕ). n < length marks) e (subst (λ (n : ℕ). step.next < n) (sym search.sized) step.known) in
      not_both new_marks from (subst (λ (m : List Bool). IsMarked m from) (sym step.marks_then) (subst (λ (n : ℕ). IsMarked (set marks n true) from) (sym e) (mark_here marks from within))) bare in
      subst₂ (λ (m : List Bool) (l : List ℕ). IsSearch uses from m l) (sym step.marks_then) (sym step.path_then)
      (searching.on uses from marks (modules_of path) search begun step.next step.used step.no_mark other step.known)

  gone_back : GoesBack uses marks path new_marks new_path → IsSearch uses from new_marks (modules_of new_path)
  gone_back step = subst₂ (λ (m : List Bool) (l : List ℕ). IsSearch uses from m l) (sym step.marks_then) (sym step.path_then) (searching.back uses from marks (modules_of path) search begun step.done)

  pub under_way : (left : Option ℕ) → IsStep uses marks path new_marks new_path left → IsUnmarked new_marks from → IsSearch uses from new_marks (modules_of new_path)
  under_way None step bare = gone_on step bare
  under_way (Some left) step bare = gone_back step
