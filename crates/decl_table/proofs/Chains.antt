-- The scoping units around a scoping unit are those around its host, and the host.
use Rattle.std.proofs.Common.{◌≡◌, ℕ, ◌≤◌, ◌<◌, Bool, true, false, List, [], ◌∷◌, ◌++◌, Option, Some, None, refl, sym, ap, ◌∙◌, subst, inl, inr, arith, if◌then◌else◌, append_assoc}
use Rattle.std.specs.Prelude.{◌⊎◌}
use Rattle.std.specs.List.{filter, last_or}
use Rattle.std.proofs.lemmas.Bool.Decides.{nat_tests}
use Rattle.std.proofs.lemmas.List.Elements.{filter-append}
use Rattle.ftn_tree.specs.declared.table.Extent.{Extent}
use Rattle.ftn_tree.specs.Extents.{covers}
use Rattle.decl_table.proofs.Order.{Each, Comes, Ordered}
use Rattle.decl_table.proofs.Hosts.{before_it, after_it}

-- ---- the last that passes

some_last : (x : Extent) (ys : List Extent) → last_or (Some x) ys ≡ None → ⊥
some_last x [] is = cc is
some_last x (y ∷ ys) is = some_last y ys is

module _ (test : Extent → Bool) where
  abbrev pub Split : List Extent → Extent → Type 0
  Split xs h = (a : List Extent) × (b : List Extent) × (xs ≡ a ++ h ∷ b) × (test h ≡ true) × (filter test b ≡ [])

  pub none_of : (o : Option Extent) (xs : List Extent) → last_or o (filter test xs) ≡ None → filter test xs ≡ []
  none_of o [] is = refl
  none_of o (x ∷ xs) is = by (λ o is. none_of o xs is) (test x) refl is where
    by : ((o : Option Extent) → last_or o (filter test xs) ≡ None → filter test xs ≡ []) → (passes : Bool) → test x ≡ passes
        → last_or o (filter test (x ∷ xs)) ≡ None → filter test (x ∷ xs) ≡ []
    by rest true passes is = absurd (some_last x (filter test xs) (subst (λ b. last_or o (if b then x ∷ filter test xs else filter test xs) ≡ None) passes is))
    by rest false passes is = rw passes (rest o (subst (λ b. last_or o (if b then x ∷ filter test xs else filter test xs) ≡ None) passes is))

  pub last_split : (o : Option Extent) (h : Extent) (xs : List Extent) → last_or o (filter test xs) ≡ Some h → ((o ≡ Some h) × (filter test xs ≡ [])) ⊎ Split xs h
  last_split o h [] is = inl (is, refl)
  last_split o h (x ∷ xs) is = by (λ o is. last_split o h xs is) (test x) refl is where
    further : Split xs h → Split (x ∷ xs) h
    further (a, b, is, passes, none) = (x ∷ a, b, ap (λ (ys : List Extent). x ∷ ys) is, passes, none)

    here : test x ≡ true → ((Some x ≡ Some h) × (filter test xs ≡ [])) ⊎ Split xs h → Split (x ∷ xs) h
    here passes (inl (is, none)) =
        let same : x ≡ h = cc is in
        ([], xs, ap (λ (y : Extent). y ∷ xs) same, subst (λ y. test y ≡ true) same passes, none)
    here passes (inr split) = further split

    beyond : test x ≡ false → ((o ≡ Some h) × (filter test xs ≡ [])) ⊎ Split xs h → ((o ≡ Some h) × (filter test (x ∷ xs) ≡ [])) ⊎ Split (x ∷ xs) h
    beyond fails (inl (is, none)) = inl (is, rw fails none)
    beyond fails (inr split) = inr (further split)

    by : ((o : Option Extent) → last_or o (filter test xs) ≡ Some h → ((o ≡ Some h) × (filter test xs ≡ [])) ⊎ Split xs h) → (passes : Bool) → test x ≡ passes
        → last_or o (filter test (x ∷ xs)) ≡ Some h → ((o ≡ Some h) × (filter test (x ∷ xs) ≡ [])) ⊎ Split (x ∷ xs) h
    by rest true passes is = inr (here passes (rest (Some x) (subst (λ b. last_or o (if b then x ∷ filter test xs else filter test xs) ≡ Some h) passes is)))
    by rest false passes is = beyond passes (rest o (subst (λ b. last_or o (if b then x ∷ filter test xs else filter test xs) ≡ Some h) passes is))

-- ---- chains

itself : (e : Extent) → e.opening < e.ending → covers e.file e.opening e ≡ true
itself e less = grind (arith, nat_tests)

later_not : (e f : Extent) → Comes e f → covers e.file e.opening f ≡ false
later_not e f (inl less) = grind (arith, nat_tests)
later_not e f (inr (same, less, side)) = grind (arith, nat_tests)

none_later : (e : Extent) (post : List Extent) → Each (Comes e) post → filter (covers e.file e.opening) post ≡ []
none_later e [] all = refl
none_later e (f ∷ post) (first, all) = rw (later_not e f first) (none_later e post all)

pub chain_is : (count : ℕ → ℕ) (pre : List Extent) (e : Extent) (post : List Extent) → Ordered count (pre ++ e ∷ post)
    → filter (covers e.file e.opening) (pre ++ e ∷ post) ≡ filter (covers e.file e.opening) pre ++ e ∷ []
chain_is count pre e post ordered =
    let (within, later) = after_it count pre e post ordered in
    filter-append (covers e.file e.opening) pre (e ∷ post)
    ∙ ap (λ (more : List Extent). filter (covers e.file e.opening) pre ++ more) (rw (itself e within.0) (ap (λ (more : List Extent). e ∷ more) (none_later e post later)))

covers_file : (h e : Extent) → covers e.file e.opening h ≡ true → h.file ≡ e.file
covers_file h e is = grind (arith, nat_tests)

covers_end : (h e : Extent) → covers e.file e.opening h ≡ true → e.opening ≤ h.ending
covers_end h e is = grind (arith, nat_tests)

yes_covers : (p e : Extent) → p.file ≡ e.file → p.opening ≤ e.opening → e.opening ≤ p.ending → covers e.file e.opening p ≡ true
yes_covers p e same first last = grind (arith, nat_tests)

not_covers : (p e : Extent) → p.ending < e.opening → covers e.file e.opening p ≡ false
not_covers p e less = grind (arith, nat_tests)

not_file : (p e : Extent) → p.file < e.file → covers e.file e.opening p ≡ false
not_file p e less = grind (arith, nat_tests)

begins_after : (h e : Extent) → Comes h e → h.file ≡ e.file → h.opening < e.opening
begins_after h e (inl less) same = absurd (omega arith)
begins_after h e (inr (is, less, side)) same = less

same_covers : (p h e : Extent) → Comes p h → Comes h e → covers e.file e.opening h ≡ true → covers e.file e.opening p ≡ covers h.file h.opening p
same_covers p h e (inl less) second is =
    let file : h.file ≡ e.file = covers_file h e is in not_file p e (omega arith) ∙ sym (not_file p h less)
same_covers p h e (inr (same, less, inl within)) second is =
    let file : h.file ≡ e.file = covers_file h e is in
    let end : e.opening ≤ h.ending = covers_end h e is in
    let begin : h.opening < e.opening = begins_after h e second file in
    yes_covers p e (same ∙ file) (omega arith) (omega arith) ∙ sym (yes_covers p h same (omega arith) (omega arith))
same_covers p h e (inr (same, less, inr apart)) second is =
    let file : h.file ≡ e.file = covers_file h e is in
    let begin : h.opening < e.opening = begins_after h e second file in
    not_covers p e (omega arith) ∙ sym (not_covers p h apart)

same_fronts : (h e : Extent) (a : List Extent) → Each (λ p. Comes p h) a → Comes h e → covers e.file e.opening h ≡ true
    → filter (covers e.file e.opening) a ≡ filter (covers h.file h.opening) a
same_fronts h e [] all second is = refl
same_fronts h e (p ∷ a) (first, all) second is =
    rw (same_covers p h e first second is) (ap (λ (more : List Extent). if covers h.file h.opening p then p ∷ more else more) (same_fronts h e a all second is))

-- the scoping units around one whose host is h
pub host_chain : (count : ℕ → ℕ) (pre : List Extent) (e : Extent) (post : List Extent) (h : Extent) → Ordered count (pre ++ e ∷ post)
    → Split (covers e.file e.opening) pre h → filter (covers e.file e.opening) pre ≡ filter (covers h.file h.opening) (pre ++ e ∷ post)
host_chain count pre e post h ordered (a, b, is, passes, none) =
    let whole : pre ++ e ∷ post ≡ a ++ h ∷ (b ++ e ∷ post) = ap (λ (xs : List Extent). xs ++ e ∷ post) is ∙ append_assoc a (h ∷ b) (e ∷ post) in
    let around : Ordered count (a ++ h ∷ (b ++ e ∷ post)) = subst (Ordered count) whole ordered in
    let earlier : Each (λ p. Comes p h) a = before_it count a h (b ++ e ∷ post) around in
    let second : Comes h e = at_end b ((after_it count a h (b ++ e ∷ post) around).1) in
    ap (filter (covers e.file e.opening)) is
    ∙ filter-append (covers e.file e.opening) a (h ∷ b)
    ∙ ap (λ (more : List Extent). filter (covers e.file e.opening) a ++ more) (rw (passes) (ap (λ (more : List Extent). h ∷ more) none))
    ∙ ap (λ (front : List Extent). front ++ h ∷ []) (same_fronts h e a earlier second passes)
    ∙ sym (chain_is count a h (b ++ e ∷ post) around)
    ∙ ap (filter (covers h.file h.opening)) (sym whole)
  where
    at_end : (b : List Extent) → Each (Comes h) (b ++ e ∷ post) → Comes h e
    at_end [] (first, rest) = first
    at_end (x ∷ b) (first, rest) = at_end b rest
