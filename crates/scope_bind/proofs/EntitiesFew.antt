-- How many scoping units and entities a project has.
use Rattle.std.proofs.Common.{◌≡◌, ℕ, zero, suc, ◌+◌, ◌-◌, ◌≤◌, ◌<◌, ◌^◌, Bool, true, false, cond, not, List, [], ◌∷◌, ◌++◌, length, length-append, map, filter, if◌then◌else◌, Option, Some, None, refl, sym, ap, ap₂, subst, ◌∙◌, arith, inl, inr}
use Rattle.std.specs.Prelude.{◌&&◌, ◌==◌, nat_le}
use Rattle.std.specs.List.{flat_map, last_or, range_with_len, sum_by, cons_option, list_any}
use Rattle.std.specs.Option.{is_some, option_map_or, option_and_then}
use Rattle.std.specs.Str.{bytes_eq}
use Rattle.std.proofs.lemmas.Bool.Decides.{nat_tests}
use Rattle.std.proofs.lemmas.List.{length-map}
use Rattle.ftn_base.specs.Accessible.{once}
use Rattle.ftn_tree.specs.declared.mention.Mention.{Mention}
use Rattle.ftn_tree.specs.declared.table.Extent.{Extent}
use Rattle.ftn_tree.specs.declared.unit.FileTree.{FileTree}
use Rattle.ftn_tree.specs.Bindings.{Denoting, denoting, denotings, letter_drafts, is_letter_typed, draft_letter, intrinsic_at, intrinsic_drafts, draft_intrinsic, is_key, bound_entities}
use Rattle.ftn_tree.specs.DeclaredEntities.{Drafted, drafts, drafts_in, draft_unit, draft_name, draft_block, draft_blank, blank_places, names_after, comes_before, put_draft, in_order, own_mentions}
use Rattle.ftn_tree.specs.Extents.{scoping, covers, encloses, innermost, scope_of, host_of, is_body, is_interface, is_some_extent, same_extent, layer_at}
use Rattle.ftn_tree.specs.GlobalNames.{Global, Place, place, same_name as same_global, firsts_after, is_common_at, block_names_at, block_names, blocks, program_units, has_no_host}
use Rattle.ftn_tree.specs.Meanings.{names_in, intrinsic_function}
use Rattle.ftn_tree.specs.declared.mention.Role.TheVariants as role
use Rattle.ftn_tree.specs.Projects.{AreTrees}
use Rattle.ftn_tree.specs.Roles.{says, mention}
use Rattle.ftn_tree.specs.Sayings.{Saying, saying, sayings, same_name, mentions_at, said_at, inner_at, inner_mention, inner_role, opened_at}
use Rattle.ftn_tree.specs.Scopes.{all_statements, own_statements, name_at, name_token}
use Rattle.decl_table.proofs.Arounds.{ordered_units}
use Rattle.decl_table.proofs.Order.{Each, Comes, Within, Ordered, statements_in, ordered_filter}
use Rattle.scope_bind.proofs.Totals.{total, total_less, total_same, total_plus, total_flat, total_filter, filter_short, each_few, OneOf, one_count}
use Rattle.scope_bind.proofs.StatementTotals.{whole, whole_plus, all_parts, one_of, statements_count}
use Rattle.scope_bind.proofs.NamesFew.{names_at, names_few, each_mention}

-- ---- lists

once_short : {X : Type 0} (same : X → X → Bool) (xs : List X) → length (once same xs) ≤ length xs
once_short same [] = omega arith
once_short same (x ∷ xs) =
    let less : length (filter (λ y. not (same y x)) (once same xs)) ≤ length (once same xs) = filter_short (λ y. not (same y x)) (once same xs) in
    let rest : length (once same xs) ≤ length xs = once_short same xs in
    omega (arith, less, rest)

names_short : (seen : List (List ℕ)) (all : List Saying) → length (names_after seen all) ≤ length all
names_short seen [] = omega arith
names_short seen (s ∷ rest) = by (list_any (λ name. bytes_eq name s.name) seen) (names_short seen rest) (names_short (s.name ∷ seen) rest) where
  by : (b : Bool) → length (names_after seen rest) ≤ length rest → length (names_after (s.name ∷ seen) rest) ≤ length rest
      → length (if b then names_after seen rest else s.name ∷ names_after (s.name ∷ seen) rest) ≤ suc (length rest)
  by true old new = omega (arith, old)
  by false old new = omega (arith, new)

firsts_short : (seen all : List Global) → length (firsts_after seen all) ≤ length all
firsts_short seen [] = omega arith
firsts_short seen (g ∷ rest) = by (list_any (λ earlier. same_global earlier.name g.name) seen) (firsts_short seen rest) (firsts_short (g ∷ seen) rest) where
  by : (b : Bool) → length (firsts_after seen rest) ≤ length rest → length (firsts_after (g ∷ seen) rest) ≤ length rest
      → length (if b then firsts_after seen rest else g ∷ firsts_after (g ∷ seen) rest) ≤ suc (length rest)
  by true old new = omega (arith, old)
  by false old new = omega (arith, new)

put_long : (d : Drafted) (all : List Drafted) → length (put_draft d all) ≡ suc (length all)
put_long d [] = refl
put_long d (first ∷ rest) = by (comes_before d first) (put_long d rest) where
  by : (b : Bool) → length (put_draft d rest) ≡ suc (length rest) → length (if b then d ∷ first ∷ rest else first ∷ put_draft d rest) ≡ suc (suc (length rest))
  by true more = refl
  by false more = ap suc more

order_long : (all : List Drafted) → length (in_order all) ≡ length all
order_long [] = refl
order_long (d ∷ rest) = put_long d (in_order rest) ∙ ap suc (order_long rest)

abbrev global : Option (List ℕ) → Place → Global
global name at = record { name = name; at = at }

-- ---- the scoping unit in which a statement stands is one

same_places : (e f x : Extent) → same_extent e x ≡ true → same_extent f x ≡ true → Comes e f → ⊥
same_places e f x one other (inl less) = grind (arith, nat_tests)
same_places e f x one other (inr (same, less, side)) = grind (arith, nat_tests)

one_scope : (files : List FileTree) (x : Option Extent) (es : List Extent) → Ordered (λ file. statements_in file files) es → OneOf (λ e. is_some_extent e x) es
one_scope files x es ordered = one_of (λ file. statements_in file files) (λ e. Unit {0}) (λ e. is_some_extent e x) es ordered (each_unit es) (apart x) where
  each_unit : (es : List Extent) → Each (λ e. Unit {0}) es
  each_unit [] = tt
  each_unit (e ∷ es) = (tt, each_unit es)

  apart : (x : Option Extent) (e f : Extent) → Comes e f → Unit {0} → Unit {0} → is_some_extent e x ≡ true → is_some_extent f x ≡ true → ⊥
  apart None e f comes here there one other = absurd (cc one)
  apart (Some x) e f comes here there one other = same_places e f x one other comes

-- ---- scoping units

units_less : (files : List FileTree) → AreTrees files → length (scoping files) ≤ whole files (λ file statement. 1)
units_less files are =
    let each : length (scoping files) ≤ total (λ e. total (opens e) (all_statements e)) (scoping files) = counted (scoping files) (ordered_units files are) in
    let all : total (λ e. total (opens e) (all_statements e)) (scoping files) ≤ whole files (λ file statement. 1) = all_parts files (scoping files) (ordered_units files are) opens (λ file statement. 1) few in
    omega (arith, each, all)
  where
    opens : Extent → ℕ → ℕ
    opens e statement = cond (e.opening == statement) 1 0

    itself : (n : ℕ) → (n == n) ≡ true
    itself n = grind (arith, nat_tests)

    one_opening : (opening n : ℕ) → 0 < n → 1 ≤ total (λ statement. cond (opening == statement) 1 0) (range_with_len opening n)
    one_opening opening zero some = absurd (omega (arith, some))
    one_opening opening (suc n) some = let first : ◌≡◌ {A = ℕ} (cond (opening == opening) 1 0) 1 = ap (λ b. cond b 1 0) (itself opening) in omega (arith, first)

    counted : (es : List Extent) → Ordered (λ file. statements_in file files) es → length es ≤ total (λ e. total (opens e) (all_statements e)) es
    counted [] all = omega arith
    counted (e ∷ es) ((order, last), later, more) =
        let here : 1 ≤ total (opens e) (all_statements e) = one_opening e.opening (e.ending + 1 - e.opening) (omega (arith, order)) in
        let rest : length es ≤ total (λ e. total (opens e) (all_statements e)) es = counted es more in
        omega (arith, here, rest)

    test : (a b c d : Bool) → cond ((a && b) && c) (cond d 1 0) 0 ≤ cond (a && d) 1 0
    test false b c d = omega arith
    test true false c d = omega arith
    test true true false d = omega arith
    test true true true d = omega arith

    few : (file statement : ℕ) → total (λ e. cond (covers file statement e) (opens e statement) 0) (scoping files) ≤ 1
    few file statement =
        let x : Option Extent = Some (record { file = file; opening = statement; ending = 0 }) in
        let less : total (λ e. cond (covers file statement e) (opens e statement) 0) (scoping files) ≤ total (λ e. cond (is_some_extent e x) 1 0) (scoping files) =
        total_less (λ e. cond (covers file statement e) (opens e statement) 0) (λ e. cond (is_some_extent e x) 1 0)
        (λ e. test (e.file == file) (nat_le e.opening statement) (nat_le statement e.ending) (e.opening == statement)) (scoping files) in
        let one : total (λ e. cond (is_some_extent e x) 1 0) (scoping files) ≤ 1 = one_count (λ e. is_some_extent e x) 1 (scoping files) (one_scope files x (scoping files) (ordered_units files are)) in
        omega (arith, less, one)

-- ---- what scoping units say

covered_file : (file statement : ℕ) (e : Extent) → covers file statement e ≡ true → e.file ≡ file
covered_file file statement e is = grind (arith, nat_tests)

-- the scoping unit right around what opens there
abbrev around_opened : List FileTree → ℕ → ℕ → Option Extent
around_opened files file statement = option_and_then (host_of files) (opened_at files file statement)

said_less : (files : List FileTree) (e : Extent) (statement : ℕ)
    → length (said_at files e statement) ≤ cond (is_some_extent e (scope_of files e.file statement)) (names_at files e.file statement) 0 + cond (is_some_extent e (around_opened files e.file statement)) 1 0
said_less files e statement = by (is_some_extent e (scope_of files e.file statement)) where
  named : (body : Bool) (token : Option ℕ) → length (option_map_or (λ token. mention token (inner_role body) ∷ []) token []) ≤ 0 + 1
  named body None = omega arith
  named body (Some token) = omega arith

  here : (inner : Extent) (b : Bool) → length (if b then inner_mention files inner else []) ≤ 0 + cond b 1 0
  here inner true = named (is_body files inner) (name_token files inner)
  here inner false = omega arith

  opened : (found : Option Extent) → length (inner_at files e found) ≤ 0 + cond (is_some_extent e (option_and_then (host_of files) found)) 1 0
  opened None = omega arith
  opened (Some inner) = here inner (is_some_extent e (host_of files inner))

  by : (b : Bool) → length (if b then mentions_at files e.file statement else inner_at files e (opened_at files e.file statement))
      ≤ cond b (names_at files e.file statement) 0 + cond (is_some_extent e (around_opened files e.file statement)) 1 0
  by true = omega arith
  by false = opened (opened_at files e.file statement)

abbrev said_count : List FileTree → Extent → ℕ
said_count files e = total (λ statement. length (said_at files e statement)) (all_statements e)

said_few : (files : List FileTree) → AreTrees files → total (said_count files) (scoping files) ≤ whole files (λ file statement. names_at files file statement + 1)
said_few files are = all_parts files (scoping files) (ordered_units files are) (λ e statement. length (said_at files e statement)) (λ file statement. names_at files file statement + 1) few where
  own : ℕ → ℕ → Extent → ℕ
  own file statement e = cond (is_some_extent e (scope_of files file statement)) (names_at files file statement) 0

  inner : ℕ → ℕ → Extent → ℕ
  inner file statement e = cond (is_some_extent e (around_opened files file statement)) 1 0

  each : (file statement : ℕ) (e : Extent) → cond (covers file statement e) (length (said_at files e statement)) 0 ≤ own file statement e + inner file statement e
  each file statement e = by (covers file statement e) refl where
    by : (b : Bool) → covers file statement e ≡ b → cond b (length (said_at files e statement)) 0 ≤ own file statement e + inner file statement e
    by true is = subst (λ k. length (said_at files e statement) ≤ own k statement e + inner k statement e) (covered_file file statement e is) (said_less files e statement)
    by false is = omega arith

  few : (file statement : ℕ) → total (λ e. cond (covers file statement e) (length (said_at files e statement)) 0) (scoping files) ≤ names_at files file statement + 1
  few file statement =
      let units : List Extent = scoping files in
      let less : total (λ e. cond (covers file statement e) (length (said_at files e statement)) 0) units ≤ total (λ e. own file statement e + inner file statement e) units =
      total_less (λ e. cond (covers file statement e) (length (said_at files e statement)) 0) (λ e. own file statement e + inner file statement e) (each file statement) units in
      let both : total (λ e. own file statement e + inner file statement e) units ≡ total (own file statement) units + total (inner file statement) units =
      total_plus (own file statement) (inner file statement) units in
      let one : total (own file statement) units ≤ names_at files file statement =
      one_count (λ e. is_some_extent e (scope_of files file statement)) (names_at files file statement) units (one_scope files (scope_of files file statement) units (ordered_units files are)) in
      let two : total (inner file statement) units ≤ 1 =
      one_count (λ e. is_some_extent e (around_opened files file statement)) 1 units (one_scope files (around_opened files file statement) units (ordered_units files are)) in
      omega (arith, less, both, one, two)

-- what they declare
drafts_few : (files : List FileTree) (e : Extent) → length (drafts_in files e) ≤ said_count files e
drafts_few files e =
    let each : length (drafts_in files e) ≤ length (names_after [] (sayings files e)) = each_few one (λ name. made (draft_name files e name (filter (same_name name) (sayings files e)))) (names_after [] (sayings files e)) in
    let names : length (names_after [] (sayings files e)) ≤ length (sayings files e) = names_short [] (sayings files e) in
    let said : length (sayings files e) ≡ length (flat_map (said_at files e) (all_statements e)) = length-map (flat_map (said_at files e) (all_statements e)) (saying files e.file) in
    let count : length (flat_map (said_at files e) (all_statements e)) ≡ said_count files e = total_flat (said_at files e) (all_statements e) in
    omega (arith, each, names, said, count)
  where
    one : List ℕ → List Drafted
    one name = cons_option (draft_name files e name (filter (same_name name) (sayings files e))) []

    made : (d : Option Drafted) → length (cons_option d []) ≤ 1
    made None = omega arith
    made (Some d) = omega arith

-- what letters type in them
letters_few : (files : List FileTree) (e : Extent) → length (letter_drafts files e) ≤ said_count files e
letters_few files e =
    let typed : List (List ℕ) = filter (is_letter_typed files e) (names_in files e) in
    let spelled : List (List ℕ) = map (λ (m : Mention). name_at files e.file m.token) (own_mentions files e) in
    let own : ℕ → Bool = λ statement. is_some_extent e (scope_of files e.file statement) in
    let drawn : length (letter_drafts files e) ≡ length typed = length-map typed (draft_letter files e) in
    let some : length typed ≤ length (names_in files e) = filter_short (is_letter_typed files e) (names_in files e) in
    let names : length (names_in files e) ≤ length spelled = once_short bytes_eq spelled in
    let mentions : length spelled ≡ length (own_mentions files e) = length-map (own_mentions files e) (λ (m : Mention). name_at files e.file m.token) in
    let flat : length (own_mentions files e) ≡ total (names_at files e.file) (own_statements files e) = total_flat (mentions_at files e.file) (own_statements files e) in
    let passed : total (names_at files e.file) (own_statements files e) ≡ total (λ statement. cond (own statement) (names_at files e.file statement) 0) (all_statements e) =
    total_filter (names_at files e.file) own (all_statements e) in
    let said : total (λ statement. cond (own statement) (names_at files e.file statement) 0) (all_statements e) ≤ said_count files e =
    total_less (λ statement. cond (own statement) (names_at files e.file statement) 0) (λ statement. length (said_at files e statement)) (λ statement. there statement (own statement)) (all_statements e) in
    omega (arith, drawn, some, names, mentions, flat, passed, said)
  where
    there : (statement : ℕ) (b : Bool) → cond b (names_at files e.file statement) 0 ≤ length (if b then mentions_at files e.file statement else inner_at files e (opened_at files e.file statement))
    there statement true = omega arith
    there statement false = omega arith

-- ---- common blocks

last_some : (x : Extent) (xs : List Extent) → is_some (last_or (Some x) xs) ≡ true
last_some x [] = refl
last_some x (y ∷ xs) = last_some y xs

-- where a member passes, some member is the last one that does
abbrev IsSeen : List Extent → Extent → Type 0
IsSeen xs e = (test : Extent → Bool) → test e ≡ true → is_some (innermost test xs) ≡ true

seen_more : (x : Extent) (xs : List Extent) (e : Extent) → IsSeen xs e → IsSeen (x ∷ xs) e
seen_more x xs e seen test passes = by (test x) (seen test passes) where
  by : (b : Bool) → is_some (last_or None (filter test xs)) ≡ true → is_some (last_or None (cond b (x ∷ filter test xs) (filter test xs))) ≡ true
  by true rest = last_some x (filter test xs)
  by false rest = rest

each_more : (x : Extent) (xs es : List Extent) → Each (IsSeen xs) es → Each (IsSeen (x ∷ xs)) es
each_more x xs [] all = tt
each_more x xs (e ∷ es) (seen, all) = (seen_more x xs e seen, each_more x xs es all)

all_seen : (xs : List Extent) → Each (IsSeen xs) xs
all_seen [] = tt
all_seen (x ∷ xs) = (λ test passes. ap (λ b. is_some (last_or None (cond b (x ∷ filter test xs) (filter test xs)))) passes ∙ last_some x (filter test xs), each_more x xs xs (all_seen xs))

each_passing : (P : Extent → Type 0) (test : Extent → Bool) (xs : List Extent) → Each P xs → Each (λ x. P x × (test x ≡ true)) (filter test xs)
each_passing P test [] all = tt
each_passing P test (x ∷ xs) (here, all) = by (test x) refl (each_passing P test xs all) where
  by : (b : Bool) → test x ≡ b → Each (λ y. P y × (test y ≡ true)) (filter test xs) → Each (λ y. P y × (test y ≡ true)) (cond b (x ∷ filter test xs) (filter test xs))
  by true is rest = ((here, is), rest)
  by false is rest = rest

enclosed : (file statement : ℕ) (e f : Extent) → Comes e f → covers file statement e ≡ true → covers file statement f ≡ true → encloses f.file f.opening e ≡ true
enclosed file statement e f (inl less) one other = grind (arith, nat_tests)
enclosed file statement e f (inr (same, less, side)) one other = grind (arith, nat_tests)

-- a statement stands in one program unit
one_unit : (files : List FileTree) → AreTrees files → (file statement : ℕ) → OneOf (covers file statement) (program_units files)
one_unit files are file statement =
    one_of (λ file. statements_in file files) (λ e. IsSeen (scoping files) e × (has_no_host files e ≡ true)) (covers file statement) (program_units files)
    (ordered_filter (λ file. statements_in file files) (has_no_host files) (scoping files) (ordered_units files are))
    (each_passing (IsSeen (scoping files)) (has_no_host files) (scoping files) (all_seen (scoping files)))
    (λ e f comes here there one other. hosted (host_of files f) (here.0 (encloses f.file f.opening) (enclosed file statement e f comes one other)) there.1)
  where
    hosted : (o : Option Extent) → is_some o ≡ true → option_map_or (λ host. false) o true ≡ true → ⊥
    hosted None some none = absurd (cc some)
    hosted (Some x) some none = absurd (cc none)

block_names_few : (files : List FileTree) → AreTrees files → length (block_names files) ≤ whole files (names_at files)
block_names_few files are =
    let units : List Extent = program_units files in
    let flat : length (block_names files) ≡ total (λ e. length (flat_map (block_names_at files e.file) (all_statements e))) units =
    total_flat (λ e. flat_map (block_names_at files e.file) (all_statements e)) units in
    let each : total (λ e. length (flat_map (block_names_at files e.file) (all_statements e))) units ≡ total (λ e. total (weight e) (all_statements e)) units =
    total_same (λ e. length (flat_map (block_names_at files e.file) (all_statements e))) (λ e. total (weight e) (all_statements e)) (λ e. total_flat (block_names_at files e.file) (all_statements e)) units in
    let all : total (λ e. total (weight e) (all_statements e)) units ≤ whole files (names_at files) =
    all_parts files units (ordered_filter (λ file. statements_in file files) (has_no_host files) (scoping files) (ordered_units files are)) weight (names_at files) few in
    omega (arith, flat, each, all)
  where
    weight : Extent → ℕ → ℕ
    weight e statement = length (block_names_at files e.file statement)

    named : (file statement : ℕ) → length (block_names_at files file statement) ≤ names_at files file statement
    named file statement = by (is_common_at (layer_at files file statement)) where
      slashed : List Mention
      slashed = filter (λ m. says role.Slash m) (mentions_at files file statement)

      by : (b : Bool) → length (if b then map (λ (m : Mention). global (Some (name_at files file m.token)) (place file m.token)) slashed else []) ≤ names_at files file statement
      by true =
          let same : length (map (λ (m : Mention). global (Some (name_at files file m.token)) (place file m.token)) slashed) ≡ length slashed =
          length-map slashed (λ (m : Mention). global (Some (name_at files file m.token)) (place file m.token)) in
          let less : length slashed ≤ names_at files file statement = filter_short (λ m. says role.Slash m) (mentions_at files file statement) in
          omega (arith, same, less)
      by false = omega arith

    each_one : (file statement : ℕ) (e : Extent) → cond (covers file statement e) (weight e statement) 0 ≤ cond (covers file statement e) (names_at files file statement) 0
    each_one file statement e = by (covers file statement e) refl where
      by : (b : Bool) → covers file statement e ≡ b → cond b (weight e statement) 0 ≤ cond b (names_at files file statement) 0
      by true is = subst (λ k. weight e statement ≤ names_at files k statement) (covered_file file statement e is) (named e.file statement)
      by false is = omega arith

    few : (file statement : ℕ) → total (λ e. cond (covers file statement e) (weight e statement) 0) (program_units files) ≤ names_at files file statement
    few file statement =
        let less : total (λ e. cond (covers file statement e) (weight e statement) 0) (program_units files) ≤ total (λ e. cond (covers file statement e) (names_at files file statement) 0) (program_units files) =
        total_less (λ e. cond (covers file statement e) (weight e statement) 0) (λ e. cond (covers file statement e) (names_at files file statement) 0) (each_one file statement) (program_units files) in
        let one : total (λ e. cond (covers file statement e) (names_at files file statement) 0) (program_units files) ≤ names_at files file statement =
        one_count (covers file statement) (names_at files file statement) (program_units files) (one_unit files are file statement) in
        omega (arith, less, one)

-- ---- intrinsic functions

intrinsics_few : (files : List FileTree) → length (intrinsic_drafts files) ≤ whole files (names_at files)
intrinsics_few files =
    let all : List Global = flat_map intrinsic_at (denotings files) in
    let drawn : length (intrinsic_drafts files) ≡ length (firsts_after [] all) = length-map (firsts_after [] all) (draft_intrinsic files) in
    let firsts : length (firsts_after [] all) ≤ length all = firsts_short [] all in
    let each : length all ≤ length (denotings files) = each_few intrinsic_at (λ d. made d (is_key (intrinsic_function d.name) d.meaning)) (denotings files) in
    let count : length (denotings files) ≡ whole files (names_at files) = each_mention files (denoting files) in
    omega (arith, drawn, firsts, each, count)
  where
    made : (d : Denoting) (b : Bool) → length (if b then global (Some d.name) d.at ∷ [] else []) ≤ 1
    made d true = omega arith
    made d false = omega arith

-- ---- all

blank_few : (files : List FileTree) (places : List Place) → length (draft_blank files places) ≤ 1
blank_few files [] = omega arith
blank_few files (first ∷ rest) = omega arith

declared_few : (files : List FileTree) → AreTrees files → length (drafts files)
    ≤ whole files (λ file statement. 1) + (whole files (λ file statement. names_at files file statement + 1) + (whole files (names_at files) + 1))
declared_few files are =
    let units : List Extent = filter (λ e. not (is_body files e)) (scoping files) in
    let a : length (map (draft_unit files) units) ≡ length units = length-map units (draft_unit files) in
    let a' : length units ≤ length (scoping files) = filter_short (λ e. not (is_body files e)) (scoping files) in
    let a'' : length (scoping files) ≤ whole files (λ file statement. 1) = units_less files are in
    let b : length (flat_map (drafts_in files) (scoping files)) ≡ total (λ e. length (drafts_in files e)) (scoping files) = total_flat (drafts_in files) (scoping files) in
    let b' : total (λ e. length (drafts_in files e)) (scoping files) ≤ total (said_count files) (scoping files) = total_less (λ e. length (drafts_in files e)) (said_count files) (drafts_few files) (scoping files) in
    let b'' : total (said_count files) (scoping files) ≤ whole files (λ file statement. names_at files file statement + 1) = said_few files are in
    let c : length (map (draft_block files) (blocks files)) ≡ length (blocks files) = length-map (blocks files) (draft_block files) in
    let c' : length (blocks files) ≤ length (block_names files) = firsts_short [] (block_names files) in
    let c'' : length (block_names files) ≤ whole files (names_at files) = block_names_few files are in
    let d : length (draft_blank files (blank_places files)) ≤ 1 = blank_few files (blank_places files) in
    let one : length (map (draft_block files) (blocks files) ++ draft_blank files (blank_places files)) ≡ length (map (draft_block files) (blocks files)) + length (draft_blank files (blank_places files)) =
    length-append (map (draft_block files) (blocks files)) (draft_blank files (blank_places files)) in
    let two : length (flat_map (drafts_in files) (scoping files) ++ (map (draft_block files) (blocks files) ++ draft_blank files (blank_places files)))
    ≡ length (flat_map (drafts_in files) (scoping files)) + length (map (draft_block files) (blocks files) ++ draft_blank files (blank_places files)) =
    length-append (flat_map (drafts_in files) (scoping files)) (map (draft_block files) (blocks files) ++ draft_blank files (blank_places files)) in
    let three : length (drafts files) ≡ length (map (draft_unit files) units) + length (flat_map (drafts_in files) (scoping files) ++ (map (draft_block files) (blocks files) ++ draft_blank files (blank_places files))) =
    length-append (map (draft_unit files) units) (flat_map (drafts_in files) (scoping files) ++ (map (draft_block files) (blocks files) ++ draft_blank files (blank_places files))) in
    omega (arith, a, a', a'', b, b', b'', c, c', c'', d, one, two, three)

added_few : (files : List FileTree) → AreTrees files → length (flat_map (letter_drafts files) (scoping files) ++ intrinsic_drafts files)
    ≤ whole files (λ file statement. names_at files file statement + 1) + whole files (names_at files)
added_few files are =
    let a : length (flat_map (letter_drafts files) (scoping files)) ≡ total (λ e. length (letter_drafts files e)) (scoping files) = total_flat (letter_drafts files) (scoping files) in
    let a' : total (λ e. length (letter_drafts files e)) (scoping files) ≤ total (said_count files) (scoping files) = total_less (λ e. length (letter_drafts files e)) (said_count files) (letters_few files) (scoping files) in
    let a'' : total (said_count files) (scoping files) ≤ whole files (λ file statement. names_at files file statement + 1) = said_few files are in
    let b : length (intrinsic_drafts files) ≤ whole files (names_at files) = intrinsics_few files in
    let both : length (flat_map (letter_drafts files) (scoping files) ++ intrinsic_drafts files) ≡ length (flat_map (letter_drafts files) (scoping files)) + length (intrinsic_drafts files) =
    length-append (flat_map (letter_drafts files) (scoping files)) (intrinsic_drafts files) in
    omega (arith, a, a', a'', b, both)

pub units_small : (files : List FileTree) → AreTrees files → length (scoping files) < 2 ^ 28
units_small files are =
    let less : length (scoping files) ≤ whole files (λ file statement. 1) = units_less files are in
    let count : whole files (λ file statement. 1) ≡ sum_by (λ (tree : FileTree). length tree.statements) files = statements_count files in
    let small : sum_by (λ (tree : FileTree). length tree.statements) files < 2 ^ 28 = are.small in
    omega (arith, less, count, small)

pub entities_small : (files : List FileTree) → AreTrees files → length (bound_entities files) < 2 ^ 32
entities_small files are =
    let added : List Drafted = flat_map (letter_drafts files) (scoping files) ++ intrinsic_drafts files in
    let entities : length (bound_entities files) ≡ length (in_order (drafts files ++ added)) = length-map (in_order (drafts files ++ added)) (λ d. d.entity) in
    let ordered : length (in_order (drafts files ++ added)) ≡ length (drafts files ++ added) = order_long (drafts files ++ added) in
    let both : length (drafts files ++ added) ≡ length (drafts files) + length added = length-append (drafts files) added in
    let one : length (drafts files) ≤ whole files (λ file statement. 1) + (whole files (λ file statement. names_at files file statement + 1) + (whole files (names_at files) + 1)) = declared_few files are in
    let two : length added ≤ whole files (λ file statement. names_at files file statement + 1) + whole files (names_at files) = added_few files are in
    let plus : whole files (λ file statement. names_at files file statement + 1) ≡ whole files (names_at files) + whole files (λ file statement. 1) = whole_plus files (names_at files) (λ file statement. 1) in
    let names : whole files (names_at files) < 2 ^ 28 = names_few files are in
    let count : whole files (λ file statement. 1) ≡ sum_by (λ (tree : FileTree). length tree.statements) files = statements_count files in
    let small : sum_by (λ (tree : FileTree). length tree.statements) files < 2 ^ 28 = are.small in
    omega (arith, entities, ordered, both, one, two, plus, names, count, small)
