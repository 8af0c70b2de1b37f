-- Where no module leads back to itself, what modules export is made of what all modules export.
use Rattle.std.proofs.Common.{◌≡◌, ℕ, zero, suc, ◌<◌, ◌≤◌, Bool, true, false, cond, List, [], ◌∷◌, ◌++◌, map, length, get_or, Option, Some, None, Contains, refl, sym, ap, ap₂, subst, ◌∙◌, arith}
use Rattle.std.specs.Prelude.{not, nat_eq, slice_get}
use Rattle.std.specs.List.{filter_map, flat_map, position, cons_option, AllByRecursion as Each}
use Rattle.std.specs.Option.{option_and_then, option_map, unwrap_or}
use Rattle.std.proofs.lemmas.List.{length-map}
use Rattle.std.proofs.lemmas.List.Elements.{Contains-append_right, Contains-get_or}
use Rattle.std.proofs.lemmas.List.Quantifiers.{position-Some}
use Rattle.std.proofs.lemmas.Option.{slice_get-map, slice_get_within}
use Rattle.ftn_base.specs.Accessible.{exports_of, given_by, is_same_by, lists_of, modules_of, once}
use Rattle.ftn_base.specs.Exports.{PairOf, exported}
use Rattle.ftn_base.specs.ModuleUses.{Uses, used_by}
use Rattle.ftn_base.specs.declared.uses.UseItem.{UseItem}
use Rattle.ftn_base.specs.declared.uses.UseList.{UseList}
use Rattle.ftn_tree.specs.declared.form.Form.TheOpen.{Form-F}
use Rattle.ftn_tree.specs.declared.table.Extent.{Extent}
use Rattle.ftn_tree.specs.declared.unit.FileTree.{FileTree}
use Rattle.ftn_tree.specs.Bindings.{module_token}
use Rattle.ftn_tree.specs.DeclarationFaults.{Finding}
use Rattle.ftn_tree.specs.Extents.{layer_at, same_extent, scoping}
use Rattle.ftn_tree.specs.GlobalNames.{has_no_host, program_units}
use Rattle.ftn_tree.specs.Layers.{FormLayer}
use Rattle.ftn_tree.specs.Meanings as spec
use Rattle.ftn_tree.specs.Meanings.{Key, all_exports, exports_after, exports_from, is_module, module_number, module_numbered, own_pairs, access_of, accessible_from, same_key, use_at, use_lists}
use Rattle.ftn_tree.specs.NameFaults.{UseStatement, cycle_use, is_on_cycle, leads_to, module_uses, unknown_use, use_findings, use_statement_at, use_statements, used_number}
use Rattle.ftn_tree.specs.Projects.{AreTrees}
use Rattle.ftn_tree.specs.Scopes.{all_statements, name_at, own_statements, scope_kind}
use Rattle.decl_table.proofs.Arounds.{ordered_units, split_at}
use Rattle.decl_table.proofs.Hosts.{before_it, position_is}
use Rattle.decl_table.proofs.Order.{Ordered, ordered_filter, statements_in}
use Rattle.const_value.proofs.Members.{each_at, each_filter, each_weaker}
use Rattle.const_value.proofs.Rounds.{filter_map_some, index_map, reach, reach_fits, reach_less, reach_some}

-- ---- lists

both_empty : {A : Type 0} (xs ys : List A) → xs ++ ys ≡ [] → (xs ≡ []) × (ys ≡ [])
both_empty [] ys is = (refl, is)
both_empty (x ∷ xs) ys is = absurd (cc is)

flat_empty : {A B : Type 0} (f : A → List B) (xs : List A) → flat_map f xs ≡ [] → Each (λ x. f x ≡ []) xs
flat_empty f [] is = tt
flat_empty f (x ∷ xs) is = let parts = both_empty (f x) (flat_map f xs) is in (parts.0, flat_empty f xs parts.1)

each_contains : {A : Type 0} (P : A → Type 0) (xs : List A) (x : A) → Each P xs → Contains xs x → P x
each_contains P [] x all there = absurd (let less : there.0 < 0 = there.1 in omega arith)
each_contains {A} P (y ∷ xs) x all there = by there.0 there.1 there.2 (λ k less is. each_contains P xs x all.1 (k, less, is)) where
  by : (k : ℕ) → k < length (y ∷ xs) → get_or (y ∷ xs) k x ≡ x → ((k : ℕ) → k < length xs → get_or xs k x ≡ x → P x) → P x
  by zero less is rest = subst P is all.0
  by (suc k) less is rest = rest k (omega (arith, less)) is

each_self : {A : Type 0} (xs : List A) → Each (Contains xs) xs
each_self [] = tt
each_self (x ∷ xs) = (Contains-get_or (x ∷ xs) 0 x (omega arith), each_weaker (Contains xs) (Contains (x ∷ xs)) (λ y there. Contains-append_right (x ∷ []) xs y there) xs (each_self xs))

each_once : {A : Type 0} (P : A → Type 0) (same : A → A → Bool) (xs : List A) → Each P xs → Each P (once same xs)
each_once P same [] all = tt
each_once P same (x ∷ xs) all = (all.0, each_filter P (λ y. not (same y x)) (once same xs) (each_once P same xs all.1))

each_map : {A B : Type 0} (Q : B → Type 0) (f : A → B) (xs : List A) → Each (λ x. Q (f x)) xs → Each Q (map f xs)
each_map Q f [] all = tt
each_map Q f (x ∷ xs) all = (all.0, each_map Q f xs all.1)

each_append : {A : Type 0} (P : A → Type 0) (xs ys : List A) → Each P xs → Each P ys → Each P (xs ++ ys)
each_append P [] ys all more = more
each_append P (x ∷ xs) ys all more = (all.0, each_append P xs ys all.1 more)

each_flat : {A B : Type 0} (Q : B → Type 0) (f : A → List B) (xs : List A) → Each (λ x. Each Q (f x)) xs → Each Q (flat_map f xs)
each_flat Q f [] all = tt
each_flat Q f (x ∷ xs) all = each_append Q (f x) (flat_map f xs) all.0 (each_flat Q f xs all.1)

flat_alike : {A B : Type 0} (f g : A → List B) (xs : List A) → Each (λ x. f x ≡ g x) xs → flat_map f xs ≡ flat_map g xs
flat_alike f g [] all = refl
flat_alike f g (x ∷ xs) all = ap₂ (λ ys zs. ys ++ zs) all.0 (flat_alike f g xs all.1)

module _ (files : List FileTree) (are : AreTrees files) (fine : use_findings files ≡ []) where
  abbrev pub uses : List (List ℕ)
  uses = module_uses files

  pub sized : length (module_uses files) ≡ length (module_numbered files)
  sized = length-map (module_numbered files) (λ e. filter_map (used_number files e.file) (use_statements files e))

  -- ---- a module by its number

  module_there : (i : ℕ) (e : Extent) → slice_get (module_numbered files) i ≡ Some e → position (same_extent e) (module_numbered files) ≡ Some i
  module_there i e there =
      let (a, b, split, long) = split_at (module_numbered files) i e there in
      ap (λ es. position (same_extent e) es) split
      ∙ position_is a e b (before_it (λ file. statements_in file files) a e b (subst (Ordered (λ file. statements_in file files)) split ordered))
      ∙ ap Some long
    where
      ordered : Ordered (λ file. statements_in file files) (module_numbered files)
      ordered =
          ordered_filter (λ file. statements_in file files) (λ e. is_module (scope_kind files e)) (program_units files)
          (ordered_filter (λ file. statements_in file files) (has_no_host files) (scoping files) (ordered_units files are))

  used_is : (i : ℕ) (e : Extent) → slice_get (module_numbered files) i ≡ Some e → used_by (module_uses files) i ≡ filter_map (used_number files e.file) (use_statements files e)
  used_is i e there = index_map (λ (e : Extent). filter_map (used_number files e.file) (use_statements files e)) (module_numbered files) i e [] there

  -- what it uses doesn't lead back
  not_back : (i : ℕ) (e : Extent) → slice_get (module_numbered files) i ≡ Some e → Each (λ u. leads_to (module_uses files) u i ≡ false) (filter_map (used_number files e.file) (use_statements files e))
  not_back i e there = each_used (use_statements files e) here where
    here : Each (λ one_use. unknown_use files e one_use ++ cycle_use files e one_use ≡ []) (use_statements files e)
    here =
        flat_empty (λ one_use. unknown_use files e one_use ++ cycle_use files e one_use) (use_statements files e)
        (each_at (λ e. flat_map (λ one_use. unknown_use files e one_use ++ cycle_use files e one_use) (use_statements files e) ≡ []) (module_numbered files) i e
        (each_filter (λ e. flat_map (λ one_use. unknown_use files e one_use ++ cycle_use files e one_use) (use_statements files e) ≡ []) (λ e. is_module (scope_kind files e)) (program_units files)
        (flat_empty (λ e. flat_map (λ one_use. unknown_use files e one_use ++ cycle_use files e one_use) (use_statements files e)) (program_units files) fine)) there)

    if_empty : (b : Bool) (f : Finding) → cond b (f ∷ []) [] ≡ [] → b ≡ false
    if_empty true f is = absurd (cc is)
    if_empty false f is = refl

    one_not : (one_use : UseStatement) → unknown_use files e one_use ++ cycle_use files e one_use ≡ [] → is_on_cycle files (Some i) (used_number files e.file one_use) ≡ false
    one_not one_use none =
        ap (λ o. is_on_cycle files o (used_number files e.file one_use)) (sym (module_there i e there))
        ∙ if_empty (is_on_cycle files (position (same_extent e) (module_numbered files)) (used_number files e.file one_use)) _ ((both_empty (unknown_use files e one_use) (cycle_use files e one_use) none).1)

    each_used : (all : List UseStatement) → Each (λ one_use. unknown_use files e one_use ++ cycle_use files e one_use ≡ []) all
        → Each (λ u. leads_to (module_uses files) u i ≡ false) (filter_map (used_number files e.file) all)
    each_used [] none = tt
    each_used (one_use ∷ all) none = by (used_number files e.file one_use) (one_not one_use none.0) (each_used all none.1) where
      by : (o : Option ℕ) → is_on_cycle files (Some i) o ≡ false → Each (λ u. leads_to (module_uses files) u i ≡ false) (filter_map (used_number files e.file) all)
          → Each (λ u. leads_to (module_uses files) u i ≡ false) (cons_option o (filter_map (used_number files e.file) all))
      by None is rest = rest
      by (Some u) is rest = (is, rest)

  -- a module is one of the project's
  known : (i : ℕ) (e : Extent) → slice_get (module_numbered files) i ≡ Some e → Each (λ u. u < length (module_numbered files)) (filter_map (used_number files e.file) (use_statements files e))
  known i e there = each_used (use_statements files e) where
    each_used : (all : List UseStatement) → Each (λ u. u < length (module_numbered files)) (filter_map (used_number files e.file) all)
    each_used [] = tt
    each_used (one_use ∷ all) = by (used_number files e.file one_use) refl (each_used all) where
      by : (o : Option ℕ) → used_number files e.file one_use ≡ o → Each (λ u. u < length (module_numbered files)) (filter_map (used_number files e.file) all)
          → Each (λ u. u < length (module_numbered files)) (cons_option o (filter_map (used_number files e.file) all))
      by None is rest = rest
      by (Some u) is rest = ((position-Some _ (module_numbered files) u e is).0, rest)

  -- ---- what is used leads to fewer modules

  member : (u : ℕ) → u < length (module_numbered files) → (e : Extent) × (slice_get (module_numbered files) u ≡ Some e)
  member u less = at (module_numbered files) u less where
    at : (es : List Extent) (u : ℕ) → u < length es → (e : Extent) × (slice_get es u ≡ Some e)
    at [] u less = absurd (omega (arith, less))
    at (e ∷ es) zero less = (e, refl)
    at (e ∷ es) (suc u) less = at es u (omega (arith, less))

  pub by_reach : (Q : ℕ → ℕ → Type 0)
      → ((r i : ℕ) (e : Extent) → slice_get (module_numbered files) i ≡ Some e → ((u : ℕ) → Uses (module_uses files) i u → Q r u) → Q (suc r) i)
      → (i : ℕ) (e : Extent) → slice_get (module_numbered files) i ≡ Some e → Q (length (module_numbered files)) i
  by_reach Q step i e there =
      settled (length (module_uses files)) i e there (reach_fits (module_uses files) i) (length (module_numbered files)) (let fits = reach_fits (module_uses files) i in let size = sized in omega (arith, fits, size))
    where
      within : (i : ℕ) (e : Extent) → slice_get (module_numbered files) i ≡ Some e → i < length (module_uses files)
      within i e there = subst (λ n. i < n) (sym sized) (slice_get_within (module_numbered files) i e there)

      settled : (k i : ℕ) (e : Extent) → slice_get (module_numbered files) i ≡ Some e → reach (module_uses files) i ≤ k → (r : ℕ) → reach (module_uses files) i ≤ r → Q r i
      settled zero i e there le r fits = absurd (let some : 1 ≤ reach (module_uses files) i = reach_some (module_uses files) i (within i e there) in omega (arith, some, le))
      settled (suc k) i e there le zero fits = absurd (let some : 1 ≤ reach (module_uses files) i = reach_some (module_uses files) i (within i e there) in omega (arith, some, fits))
      settled (suc k) i e there le (suc r) fits =
          step r i e there (λ u use_of.
          let here : Contains (filter_map (used_number files e.file) (use_statements files e)) u = subst (λ us. Contains us u) (used_is i e there) use_of in
          let back : leads_to (module_uses files) u i ≡ false = each_contains (λ u. leads_to (module_uses files) u i ≡ false) (filter_map (used_number files e.file) (use_statements files e)) u (not_back i e there) here in
          let less : suc (reach (module_uses files) u) ≤ reach (module_uses files) i = reach_less (module_uses files) i u (within i e there) use_of back in
          let (x, at) = member u (each_contains (λ u. u < length (module_numbered files)) (filter_map (used_number files e.file) (use_statements files e)) u (known i e there) here) in
          settled k u x at (omega (arith, less, le)) r (omega (arith, less, fits)))

  -- ---- the modules of a module's USE statements

  abbrev AreUsed : ℕ → List UseList → Type 0
  AreUsed i lists = Each (λ (list : UseList). Uses (module_uses files) i list.«module») lists

  pub lists_used : (i : ℕ) (e : Extent) → slice_get (module_numbered files) i ≡ Some e → Each (λ number. Uses (module_uses files) i number) (modules_of (use_lists files e))
  lists_used i e there =
      each_once (λ number. Uses (module_uses files) i number) nat_eq (map (λ (list : UseList). list.«module») (use_lists files e))
      (each_map (λ number. Uses (module_uses files) i number) (λ (list : UseList). list.«module») (use_lists files e)
      (each_flat (λ (list : UseList). Uses (module_uses files) i list.«module») (λ statement. use_at files e.file (layer_at files e.file statement)) (own_statements files e)
      (each_filter (λ statement. AreUsed i (use_at files e.file (layer_at files e.file statement))) _ (all_statements e)
      (each_weaker (Contains (all_statements e)) (λ statement. AreUsed i (use_at files e.file (layer_at files e.file statement))) at_statement (all_statements e) (each_self (all_statements e))))))
    where
      used : (statement name : ℕ) (items : List UseItem) (only : Bool) → Contains (all_statements e) statement → option_and_then module_token (layer_at files e.file statement) ≡ Some name
          → AreUsed i (spec.list_if_known only items (module_number files (name_at files e.file name)))
      used statement name items only among is = by (module_number files (name_at files e.file name)) refl where
        one_use : UseStatement
        one_use = record { statement = statement; name = name }

        by : (o : Option ℕ) → module_number files (name_at files e.file name) ≡ o → AreUsed i (spec.list_if_known only items o)
        by None at = tt
        by (Some number) at = (
          subst (λ us. Contains us number) (sym (used_is i e there))
              (filter_map_some (used_number files e.file) (use_statements files e) (record { statement = statement; name = name }) number
              (filter_map_some (use_statement_at files e.file) (all_statements e) statement (record { statement = statement; name = name }) among
              (ap (option_map (λ name. record { statement = statement; name = name })) is)) at),
          tt,
        )

      at_statement : (statement : ℕ) → Contains (all_statements e) statement → AreUsed i (use_at files e.file (layer_at files e.file statement))
      at_statement statement among = by (layer_at files e.file statement) refl where
        by : (layer : Option FormLayer) → layer_at files e.file statement ≡ layer → AreUsed i (use_at files e.file layer)
        by (Some (Form-F.UseAll name renames)) is = used statement name _ false among (ap (option_and_then module_token) is)
        by (Some (Form-F.UseOnly name items)) is = used statement name _ true among (ap (option_and_then module_token) is)
        by other is = tt

  -- ---- exports

  pub accessible_alike : (xss yss : List (List (PairOf Key))) (e : Extent) → Each (λ number. exports_of xss number ≡ exports_of yss number) (modules_of (use_lists files e)) → accessible_from files xss e ≡ accessible_from files yss e
  accessible_alike xss yss e all =
      ap (once (is_same_by same_key))
      (flat_alike (λ number. given_by (exports_of xss number) (lists_of number (use_lists files e))) (λ number. given_by (exports_of yss number) (lists_of number (use_lists files e))) (modules_of (use_lists files e))
      (each_weaker (λ number. exports_of xss number ≡ exports_of yss number) (λ number. given_by (exports_of xss number) (lists_of number (use_lists files e)) ≡ given_by (exports_of yss number) (lists_of number (use_lists files e)))
      (λ number same. ap (λ pairs. given_by pairs (lists_of number (use_lists files e))) same) (modules_of (use_lists files e)) all))

  round_at : (rounds i : ℕ) (e : Extent) → slice_get (module_numbered files) i ≡ Some e → exports_of (exports_after files (suc rounds)) i ≡ exports_from files (exports_after files rounds) e
  round_at rounds i e there =
      ap (λ o. unwrap_or o []) (slice_get-map (exports_from files (exports_after files rounds)) (module_numbered files) i ∙ ap (option_map (exports_from files (exports_after files rounds))) there)

  -- with as many rounds as there are modules each is made of all
  pub fixed : (i : ℕ) (e : Extent) → slice_get (module_numbered files) i ≡ Some e → exports_of (all_exports files) i ≡ exports_from files (all_exports files) e
  fixed i e there =
      by_reach (λ r i. exports_of (exports_after files r) i ≡ exports_of (exports_after files (suc r)) i)
      (λ r i e there before.
      round_at r i e there
      ∙ ap (λ pairs. exported (own_pairs files pairs e) pairs (access_of files e))
      (accessible_alike (exports_after files r) (exports_after files (suc r)) e
      (each_weaker (λ number. Uses (module_uses files) i number) (λ number. exports_of (exports_after files r) number ≡ exports_of (exports_after files (suc r)) number) before (modules_of (use_lists files e)) (lists_used i e there)))
      ∙ sym (round_at (suc r) i e there))
      i e there
      ∙ round_at (length (module_numbered files)) i e there
