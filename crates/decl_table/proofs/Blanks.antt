-- The first statement of some units that lists blank common.
use Rattle.std.proofs.Common.{◌≡◌, ℕ, zero, suc, ◌+◌, ◌-◌, ◌≤◌, ◌<◌, arith, Bool, true, false, cond, List, [], ◌∷◌, ◌++◌, map, Some, None, refl, sym, ap, ◌∙◌}
use Rattle.std.specs.List.{filter, find, range_with_len}
use Rattle.std.proofs.lemmas.List.{append-nil, map-append}
use Rattle.ftn_tree.specs.declared.table.Extent.{Extent}
use Rattle.ftn_tree.specs.declared.unit.FileTree.{FileTree}
use Rattle.ftn_tree.specs.Extents.{layer_at}
use Rattle.ftn_tree.specs.Scopes.{all_statements, first_token_at}
use Rattle.ftn_tree.specs.GlobalNames.{Place, place}
use Rattle.ftn_tree.specs.DeclaredEntities.{Drafted, draft_blank, lists_blank_at}
use Rattle.decl_table.specs.declared.draft.Draft.{Draft}
use Rattle.decl_table.specs.steps.Blocks.{block_as}
use Rattle.decl_table.specs.steps.Blanks.{blanks_of}
use Rattle.decl_table.specs.steps.Drafts.{drafted_of}

one_less : (at end : ℕ) → at < end → end - at ≡ suc (end - (at + 1))
one_less at end less = omega (arith, less)

none_left : (at end : ℕ) → end ≤ at → end - at ≡ zero
none_left at end past = omega (arith, past)

module _ (test : ℕ → Bool) (at end : ℕ) where
  pub found_here : at < end → test at ≡ true → find test (range_with_len at (end - at)) ≡ Some at
  found_here less passes =
      ap (λ n. find test (range_with_len at n)) (one_less at end less) ∙ ap (λ b. cond b (Some at) (find test (range_with_len (at + 1) (end - (at + 1))))) passes

  pub found_later : at < end → test at ≡ false → find test (range_with_len at (end - at)) ≡ find test (range_with_len (at + 1) (end - (at + 1)))
  found_later less passes =
      ap (λ n. find test (range_with_len at n)) (one_less at end less) ∙ ap (λ b. cond b (Some at) (find test (range_with_len (at + 1) (end - (at + 1))))) passes

  pub found_none : end ≤ at → find test (range_with_len at (end - at)) ≡ None
  found_none past = ap (λ n. find test (range_with_len at n)) (none_left at end past)

-- ---- over units

filter_found : (test : ℕ → Bool) (xs : List ℕ) (x : ℕ) → find test xs ≡ Some x → (rest : List ℕ) × (filter test xs ≡ x ∷ rest)
filter_found test [] x is = absurd (cc is)
filter_found test (y ∷ xs) x is = by (filter_found test xs x) (test y) refl where
  by : (find test xs ≡ Some x → (rest : List ℕ) × (filter test xs ≡ x ∷ rest)) → (b : Bool) → test y ≡ b → (rest : List ℕ) × (filter test (y ∷ xs) ≡ x ∷ rest)
  by again true passes =
      let same : Some y ≡ Some x = sym (ap (λ b. cond b (Some y) (find test xs)) passes) ∙ is in
      (filter test xs, ap (λ b. cond b (y ∷ filter test xs) (filter test xs)) passes ∙ ap (λ z. z ∷ filter test xs) (cc same))
  by again false passes =
      let (rest, all) = again (sym (ap (λ b. cond b (Some y) (find test xs)) passes) ∙ is) in
      (rest, ap (λ b. cond b (y ∷ filter test xs) (filter test xs)) passes ∙ all)

filter_none : (test : ℕ → Bool) (xs : List ℕ) → find test xs ≡ None → filter test xs ≡ []
filter_none test [] is = refl
filter_none test (y ∷ xs) is = by (filter_none test xs) (test y) refl where
  by : (find test xs ≡ None → filter test xs ≡ []) → (b : Bool) → test y ≡ b → filter test (y ∷ xs) ≡ []
  by again true passes = absurd (cc (sym (ap (λ b. cond b (Some y) (find test xs)) passes) ∙ is))
  by again false passes =
      ap (λ b. cond b (y ∷ filter test xs) (filter test xs)) passes ∙ again (sym (ap (λ b. cond b (Some y) (find test xs)) passes) ∙ is)

module _ (files : List FileTree) (e : Extent) (rest : List Extent) where
  abbrev test : ℕ → Bool
  test statement = lists_blank_at (layer_at files e.file statement)

  abbrev here : List ℕ → List Place
  here statements = map (λ statement. place e.file (first_token_at files e.file statement)) statements

  pub blank_later : find test (all_statements e) ≡ None → draft_blank files (blanks_of files (e ∷ rest)) ≡ draft_blank files (blanks_of files rest)
  blank_later none = ap (λ statements. draft_blank files (here statements ++ blanks_of files rest)) (filter_none test (all_statements e) none)

  pub blank_here : (statement : ℕ) → find test (all_statements e) ≡ Some statement → (d : Draft)
      → d ≡ block_as (record { file = e.file; token = first_token_at files e.file statement }) true None
      → draft_blank files (blanks_of files (e ∷ rest)) ≡ drafted_of files d ∷ []
  blank_here statement is d drawn =
      let (more, all) = filter_found test (all_statements e) statement is in
      ap (λ statements. draft_blank files (here statements ++ blanks_of files rest)) all ∙ ap (λ d. drafted_of files d ∷ []) (sym drawn)

pub with_blank : (files : List FileTree) (start made now : List Draft) (d : Draft) (blank : List Drafted) → blank ≡ drafted_of files d ∷ [] → made ≡ start → now ≡ made ++ d ∷ []
    → map (drafted_of files) now ≡ map (drafted_of files) start ++ blank
with_blank files start made now d blank is same pushed =
    ap (map (drafted_of files)) (pushed ∙ ap (λ xs. xs ++ d ∷ []) same) ∙ map-append (drafted_of files) start (d ∷ [])
    ∙ ap (λ xs. map (drafted_of files) start ++ xs) (sym is)

pub without_blank : (files : List FileTree) (start now : List Draft) (blank : List Drafted) → blank ≡ [] → now ≡ start
    → map (drafted_of files) now ≡ map (drafted_of files) start ++ blank
without_blank files start now blank is same =
    ap (map (drafted_of files)) same ∙ sym (append-nil (map (drafted_of files) start)) ∙ ap (λ xs. map (drafted_of files) start ++ xs) (sym is)
