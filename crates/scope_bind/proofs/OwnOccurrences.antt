-- A name that stands in a scoping unit's own statements has an occurrence with that scoping unit's number.
use Rattle.std.proofs.Common.{◌≡◌, ℕ, ◌+◌, ◌<◌, ◌==◌, nat_eq, Bool, true, false, cond, List, [], ◌∷◌, filter, map, length, get_or, Option, Some, None, slice_get, option_map, refl, sym, ap, ap₂, subst, ◌∙◌, arith}
use Rattle.std.specs.Prelude.{◌&&◌}
use Rattle.std.specs.List.{enumerate_from, flat_map, list_any, position, range_with_len, AllByRecursion as Each}
use Rattle.std.specs.Option.{is_some, option_and_then, option_map_or}
use Rattle.std.specs.Str.{bytes_eq}
use Rattle.std.proofs.lemmas.Bool.{and_parts, eqb-true}
use Rattle.std.proofs.lemmas.List.Folds.{list_any_at}
use Rattle.std.proofs.lemmas.List.FromFn.{get_or-enumerate_from, get_or-range_with_len, length-enumerate_from, length-range_with_len}
use Rattle.std.proofs.lemmas.Option.{get_or_from_slice_get, slice_get_within}
use Rattle.ftn_tree.specs.declared.form.Form.{Form}
use Rattle.ftn_tree.specs.declared.mention.Mention.{Mention}
use Rattle.ftn_tree.specs.declared.unit.Statement.{Statement}
use Rattle.ftn_tree.specs.declared.table.Extent.{Extent}
use Rattle.ftn_tree.specs.declared.table.Occurrence.{Occurrence}
use Rattle.ftn_tree.specs.declared.unit.FileTree.{FileTree}
use Rattle.ftn_tree.specs.DeclaredEntities.{is_named, number_at, occurrence, occurrences_in, occurrences_of, own_mentions}
use Rattle.ftn_tree.specs.Extents.{form_at, form_in, is_some_extent, same_extent, scope_of, scoping}
use Rattle.ftn_tree.specs.Mentions.{mentions_of}
use Rattle.ftn_tree.specs.Sayings.{mentions_at}
use Rattle.ftn_tree.specs.Scopes.{all_statements, name_at, own_statements, scope_number}
use Rattle.scope_bind.specs.steps.Numbering.{own_occurrence}
use Rattle.scope_bind.proofs.Leading.{same_number}
use Rattle.scope_bind.proofs.Members.{IsIn, all_in, any_flat, any_map, each_of, each_flat, each_passed, each_weaker, is_in, one_passes, place_found}

-- ---- members with their numbers

in_numbered : {A : Type 0} (xs : List A) (k : ℕ) (x : A) → slice_get xs k ≡ Some x → (q : ℕ × A → Bool) → q (k, x) ≡ true → list_any q (enumerate_from 0 xs) ≡ true
in_numbered xs k x at q passes =
    let lt : k < length xs = slice_get_within xs k x at in
    let size = length-enumerate_from 0 xs in
    let within : k < length (enumerate_from 0 xs) = omega arith in
    let start : 0 + k ≡ k = omega arith in
    let here : get_or (enumerate_from 0 xs) k (0, x) ≡ (k, x) =
    get_or-enumerate_from 0 xs k (0, x) lt ∙ ap₂ (λ (n : ℕ) y. (n, y)) start (get_or_from_slice_get xs k x x at) in
    list_any_at q (enumerate_from 0 xs) k (0, x) within (ap q here ∙ passes)

in_range : (count k : ℕ) → k < count → (q : ℕ → Bool) → q k ≡ true → list_any q (range_with_len 0 count) ≡ true
in_range count k lt q passes =
    let size = length-range_with_len 0 count in
    let within : k < length (range_with_len 0 count) = omega arith in
    let here : get_or (range_with_len 0 count) k 0 ≡ k = let at = get_or-range_with_len 0 count k 0 lt in omega arith in
    list_any_at q (range_with_len 0 count) k 0 within (ap q here ∙ passes)

module _ (files : List FileTree) where
  -- ---- each mention has its occurrence

  abbrev pub Occurs : ℕ → ℕ → Mention → Type 0
  Occurs file statement m = (p : Occurrence → Bool) → p (occurrence files file statement m) ≡ true → list_any p (occurrences_of files) ≡ true

  in_file : (file statement : ℕ) (tree : FileTree) (s : Statement) (m : Mention) → slice_get files file ≡ Some tree → slice_get tree.statements statement ≡ Some s
      → IsIn (mentions_at files file statement) m → Occurs file statement m
  in_file file statement tree s m of_file at there p passes =
      any_flat p (λ one. occurrences_in files one.0 one.1) (enumerate_from 0 files)
      (in_numbered files file tree of_file (λ one. list_any p (occurrences_in files one.0 one.1))
      (any_flat p (λ st. map (occurrence files file st) (mentions_at files file st)) (range_with_len 0 (length tree.statements))
      (in_range (length tree.statements) statement (slice_get_within tree.statements statement s at) (λ st. list_any p (map (occurrence files file st) (mentions_at files file st)))
      (sym (any_map p (occurrence files file statement) (mentions_at files file statement)) ∙ is_in (mentions_at files file statement) m there (λ one. p (occurrence files file statement one)) passes))))

  pub occur_at : (file statement : ℕ) → Each (Occurs file statement) (mentions_at files file statement)
  occur_at file statement = of_file (slice_get files file) refl
    where
      none : form_at files file statement ≡ None → Each (Occurs file statement) (mentions_at files file statement)
      none e = subst (λ (o : Option Form). Each (Occurs file statement) (option_map_or mentions_of o [])) (sym e) tt

      of_statement : (tree : FileTree) (found : Option Statement) → slice_get files file ≡ Some tree → slice_get tree.statements statement ≡ found → Each (Occurs file statement) (mentions_at files file statement)
      of_statement tree None e past = none (ap (λ o. option_and_then (form_in statement) o) e ∙ ap (option_map (λ s. s.form)) past)
      of_statement tree (Some s) e at =
          each_weaker (IsIn (mentions_at files file statement)) (Occurs file statement) (λ m there. in_file file statement tree s m e at there) (mentions_at files file statement) (all_in (mentions_at files file statement))

      of_file : (found : Option FileTree) → slice_get files file ≡ found → Each (Occurs file statement) (mentions_at files file statement)
      of_file None past = none (ap (λ o. option_and_then (form_in statement) o) past)
      of_file (Some tree) e = of_statement tree (slice_get tree.statements statement) e refl

  -- ---- the number of the scoping unit

  same_number_of : (e x : Extent) → same_extent e x ≡ true → scope_number files x ≡ scope_number files e
  same_number_of e x same =
      let both = and_parts (e.file == x.file) (e.opening == x.opening) same in
      let file : e.file ≡ x.file = eqb-true e.file x.file both.0 in
      let opening : e.opening ≡ x.opening = eqb-true e.opening x.opening both.1 in
      ap₂ (λ (f o : ℕ). position (λ (y : Extent). (f == y.file) && (o == y.opening)) (scoping files)) (sym file) (sym opening)

  number_is : (e : Extent) (number statement : ℕ) → scope_number files e ≡ Some number → is_some_extent e (scope_of files e.file statement) ≡ true → number_at files e.file statement ≡ number
  number_is e number statement is inside = by (scope_of files e.file statement) inside
    where
      by : (found : Option Extent) → is_some_extent e found ≡ true → option_map_or (λ n. n) (option_and_then (scope_number files) found) 0 ≡ number
      by None inside = absurd (let no : false ≡ true = inside in cc)
      by (Some x) inside = ap (λ o. option_map_or (λ n. n) o 0) (same_number_of e x inside ∙ is)

  -- a name that stands in own statements occurs with that number
  pub own_occurs : (e : Extent) (number : ℕ) (name : List ℕ) → scope_number files e ≡ Some number → list_any (is_named files e.file name) (own_mentions files e) ≡ true
      → is_some (own_occurrence files number name) ≡ true
  own_occurs e number name is named =
      place_found here (occurrences_of files)
      (one_passes (is_named files e.file name) (own_mentions files e)
      (each_flat (λ m. is_named files e.file name m ≡ true → list_any here (occurrences_of files) ≡ true) (mentions_at files e.file) (own_statements files e)
      (each_weaker (λ statement. Unit {0} × (is_some_extent e (scope_of files e.file statement) ≡ true))
      (λ statement. Each (λ m. is_named files e.file name m ≡ true → list_any here (occurrences_of files) ≡ true) (mentions_at files e.file statement))
      (λ statement inside. each_weaker (Occurs e.file statement) (λ m. is_named files e.file name m ≡ true → list_any here (occurrences_of files) ≡ true)
      (λ m occurs is_it. occurs here (at_number statement m inside.1 is_it)) (mentions_at files e.file statement) (occur_at e.file statement))
      (own_statements files e)
      (each_passed (λ _. Unit {0}) (λ statement. is_some_extent e (scope_of files e.file statement)) (all_statements e) (each_of (λ _. Unit {0}) (λ _. tt) (all_statements e)))))
      named)
    where
      here : Occurrence → Bool
      here o = nat_eq o.scope number && bytes_eq o.name name

      at_number : (statement : ℕ) (m : Mention) → is_some_extent e (scope_of files e.file statement) ≡ true → is_named files e.file name m ≡ true → here (occurrence files e.file statement m) ≡ true
      at_number statement m inside is_it =
          ap₂ (λ a b. a && b) (ap (λ (n : ℕ). nat_eq n number) (number_is e number statement is inside) ∙ same_number number) is_it
