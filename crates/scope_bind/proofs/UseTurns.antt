-- Statements of USE one after another, and program units one after another.
use Rattle.std.proofs.Common.{◌≡◌, ℕ, zero, suc, ◌+◌, ◌<◌, ◌==◌, Bool, true, false, not, cond, List, [], ◌∷◌, ◌++◌, filter, map, length, Option, Some, None, slice_get, refl, sym, ap, ap₂, subst, ◌∙◌, arith}
use Rattle.std.specs.List.{cons_option, filter_map, flat_map, range_with_len}
use Rattle.std.specs.Option.{is_none, is_some, option_and_then, option_map, option_map_or}
use Rattle.ftn_base.specs.declared.fault.FaultKind.TheVariants.{Cycle, Unknown}
use Rattle.ftn_tree.specs.declared.table.Extent.{Extent}
use Rattle.ftn_tree.specs.declared.unit.FileTree.{FileTree}
use Rattle.ftn_tree.specs.DeclarationFaults.{Finding, first_finding, found}
use Rattle.ftn_tree.specs.Extents.{host_of, same_extent, scoping}
use Rattle.ftn_tree.specs.GlobalNames.{has_no_host, place, program_units}
use Rattle.ftn_tree.specs.Meanings.{module_number}
use Rattle.ftn_tree.specs.NameFaults.{UseStatement, use_rank, use_statement_at, use_statements, used_number}
use Rattle.ftn_tree.specs.Projects.{AreTrees}
use Rattle.ftn_tree.specs.Scopes.{all_statements, first_token_at, host_number, name_at, scope_number}
use Rattle.decl_table.proofs.OwnStatements.{told_apart}
use Rattle.scope_bind.specs.steps.Globals.{IsNumber, unit_at}
use Rattle.scope_bind.specs.steps.UseFaults.{IsModuleScope, is_marked, marks_in, outer_uses, use_at, use_by, uses_by}
use Rattle.scope_bind.specs.steps.Uses.{module_token_at}
use Rattle.scope_bind.proofs.Units.{host_is, unit_is, unit_there}

-- ---- lists

flat_filter_map : {A B C : Type 0} (f : B → List C) (g : A → Option B) (xs : List A) → flat_map (λ x. option_map_or f (g x) []) xs ≡ flat_map f (filter_map g xs)
flat_filter_map f g [] = refl
flat_filter_map {A} {B} f g (x ∷ xs) = by (g x) (flat_filter_map f g xs)
  where
    by : (o : Option B) → flat_map (λ y. option_map_or f (g y) []) xs ≡ flat_map f (filter_map g xs)
        → (option_map_or f o [] ++ flat_map (λ y. option_map_or f (g y) []) xs) ≡ flat_map f (cons_option o (filter_map g xs))
    by None e = e
    by (Some y) e = ap (λ l. f y ++ l) e

flat_filter : {A C : Type 0} (f : A → List C) (test : A → Bool) (xs : List A) → flat_map (λ x. cond (test x) (f x) []) xs ≡ flat_map f (filter test xs)
flat_filter f test [] = refl
flat_filter f test (x ∷ xs) = by (test x) (flat_filter f test xs)
  where
    by : (b : Bool) → flat_map (λ y. cond (test y) (f y) []) xs ≡ flat_map f (filter test xs)
        → (cond b (f x) [] ++ flat_map (λ y. cond (test y) (f y) []) xs) ≡ flat_map f (cond b (x ∷ filter test xs) (filter test xs))
    by true e = ap (λ l. f x ++ l) e
    by false e = e

-- what is made of each by its number
flat_numbered : {A C : Type 0} (f : A → List C) (at : ℕ → A) (xs : List A) (start : ℕ) → ((k : ℕ) (x : A) → slice_get xs k ≡ Some x → at (start + k) ≡ x)
    → flat_map (λ k. f (at k)) (range_with_len start (length xs)) ≡ flat_map f xs
flat_numbered f at [] start is = refl
flat_numbered f at (x ∷ xs) start is =
    ap₂ (λ a b. a ++ b) (ap f (ap at (sym (start_is start)) ∙ is 0 x refl))
    (flat_numbered f at xs (start + 1) (λ k y there. ap at (next_is start k) ∙ is (suc k) y there))
  where
    start_is : (n : ℕ) → n + 0 ≡ n
    start_is n = omega arith

    next_is : (n k : ℕ) → n + 1 + k ≡ n + suc k
    next_is n k = omega arith

-- ---- hosts

no_host : (files : List FileTree) → AreTrees files → (e : Extent) → is_some (host_number files e) ≡ not (has_no_host files e)
no_host files are e = by (host_of files e) refl
  where
    by : (host : Option Extent) → host_of files e ≡ host → is_some (option_and_then (scope_number files) host) ≡ not (option_map_or (λ h. false) host true)
    by None is = refl
    by (Some h) is = let there = host_is files are e h is in ap is_some there.1

module _ (files : List FileTree) where
  -- ---- one statement

  module _ (e : Extent) (marks : List Bool) (statement : ℕ) where
    abbrev IsTold : Option Finding → Type 0
    IsTold result = result ≡ first_finding use_rank (use_at files e marks statement)

    pub no_use : module_token_at files e.file statement ≡ None → IsTold None
    no_use is = sym (ap (λ o. first_finding use_rank (option_map_or (use_by files e marks) (option_map (λ name. record { statement = statement; name = name }) o) [])) is)

    -- the statement is a USE, of that module or of none
    by_token : (token : ℕ) → module_token_at files e.file statement ≡ Some token
        → use_at files e marks statement ≡ use_by files e marks (record { statement = statement; name = token })
    by_token token is = ap (λ o. option_map_or (use_by files e marks) (option_map (λ name. record { statement = statement; name = name }) o) []) is

    abbrev both : ℕ → Option ℕ → List Finding
    both token used =
        cond (is_none used) (found Unknown (place e.file token) ∷ []) []
        ++ cond (is_marked marks used) (found Cycle (place e.file (first_token_at files e.file statement)) ∷ []) []

    pub use_told : (token : ℕ) (used : Option ℕ) → module_token_at files e.file statement ≡ Some token → module_number files (name_at files e.file token) ≡ used
        → first_finding use_rank (use_at files e marks statement) ≡ first_finding use_rank (both token used)
    use_told token used is names = ap (first_finding use_rank) (by_token token is ∙ ap (both token) names)

    pub no_module : (token : ℕ) → module_token_at files e.file statement ≡ Some token → module_number files (name_at files e.file token) ≡ None → IsTold (Some (found Unknown (place e.file token)))
    no_module token is names = sym (use_told token None is names)

    pub on_cycle_told : (token used : ℕ) → module_token_at files e.file statement ≡ Some token → module_number files (name_at files e.file token) ≡ Some used → is_marked marks (Some used) ≡ true
        → IsTold (Some (found Cycle (place e.file (first_token_at files e.file statement))))
    on_cycle_told token used is names marked =
        sym (use_told token (Some used) is names ∙ ap (λ b. first_finding use_rank (cond b (found Cycle (place e.file (first_token_at files e.file statement)) ∷ []) [])) marked)

    pub nothing_told : (token used : ℕ) → module_token_at files e.file statement ≡ Some token → module_number files (name_at files e.file token) ≡ Some used → is_marked marks (Some used) ≡ false
        → IsTold None
    nothing_told token used is names bare =
        sym (use_told token (Some used) is names ∙ ap (λ b. first_finding use_rank (cond b (found Cycle (place e.file (first_token_at files e.file statement)) ∷ []) [])) bare)

  pub statements_told : (e : Extent) (marks : List Bool) → flat_map (use_at files e marks) (all_statements e) ≡ flat_map (use_by files e marks) (use_statements files e)
  statements_told e marks = flat_filter_map (use_by files e marks) (use_statement_at files e.file) (all_statements e)

  -- ---- program units

  pub units_told : (on_cycle : Option ℕ) (marks : List Bool) → flat_map (outer_uses files on_cycle marks) (range_with_len 0 (length (scoping files))) ≡ flat_map (uses_by files on_cycle marks) (program_units files)
  units_told on_cycle marks =
      flat_numbered (λ e. cond (has_no_host files e) (uses_by files on_cycle marks e) []) (unit_at files) (scoping files) 0
      (λ k e there. ap (unit_at files) (start_is k) ∙ unit_is files k e there)
      ∙ flat_filter (uses_by files on_cycle marks) (has_no_host files) (scoping files)
    where
      start_is : (k : ℕ) → 0 + k ≡ k
      start_is k = omega arith

  module _ (are : AreTrees files) (on_cycle : Option ℕ) (marks : List Bool) (scope : ℕ) (within : IsNumber files scope) where
    counts : (which : Option ℕ) → IsModuleScope files which
        → marks_in scope which marks ≡ cond (option_map_or (λ s. same_extent (unit_at files scope) (unit_at files s)) which false) marks []
    counts None cycle = refl
    counts (Some cyclic) cycle =
        ap (λ b. cond b marks []) (told_apart files are scope cyclic (unit_at files scope) (unit_at files cyclic) (unit_there files scope within) (unit_there files cyclic cycle))

    abbrev IsUnitTold : Option Finding → Type 0
    IsUnitTold result = result ≡ first_finding use_rank (outer_uses files on_cycle marks scope)

    pub inner_told : is_some (host_number files (unit_at files scope)) ≡ true → IsUnitTold None
    inner_told has = sym (ap (λ b. first_finding use_rank (cond b (uses_by files on_cycle marks (unit_at files scope)) [])) (by (has_no_host files (unit_at files scope)) (sym (no_host files are (unit_at files scope)) ∙ has)))
      where
        by : (b : Bool) → not b ≡ true → b ≡ false
        by true is = absurd cc
        by false is = refl

    pub outer_told : IsModuleScope files on_cycle → is_some (host_number files (unit_at files scope)) ≡ false → (result : Option Finding)
        → result ≡ first_finding use_rank (flat_map (use_by files (unit_at files scope) (marks_in scope on_cycle marks)) (use_statements files (unit_at files scope))) → IsUnitTold result
    outer_told cycle has result is =
        is ∙ ap (λ ms. first_finding use_rank (flat_map (use_by files (unit_at files scope) ms) (use_statements files (unit_at files scope)))) (counts on_cycle cycle)
        ∙ sym (ap (λ b. first_finding use_rank (cond b (uses_by files on_cycle marks (unit_at files scope)) [])) (by (has_no_host files (unit_at files scope)) (sym (no_host files are (unit_at files scope)) ∙ has)))
      where
        by : (b : Bool) → not b ≡ false → b ≡ true
        by true is = refl
        by false is = absurd cc
