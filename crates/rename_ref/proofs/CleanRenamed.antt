-- A clean program is clean after its names are swapped with others, where the new ones are free.
use Rattle.std.proofs.Common.{◌≡◌, ℕ, Bool, true, false, not, ◌&&◌, ◌⊎◌, inl, inr, List, [], ◌∷◌, ◌++◌, map, flat_map, refl, sym, ap, ◌∙◌, bytes_eq, if◌then◌else◌}
use Rattle.std.specs.List.{list_all}
use Rattle.std.proofs.lemmas.Bool.{and_parts, or_cases}
use Rattle.std.proofs.lemmas.Bool.Decides.{same_from_decides}
use Rattle.std.proofs.lemmas.List.{map-append}
use Rattle.std.proofs.lemmas.Slice.Eq.{bytes_eq-Decides}
use Rattle.std.proofs.lemmas.List.Folds.{list_all-map}
use Rattle.free_scan.specs.Spelling.{is_some_row}
use Rattle.free_scan.specs.Clean.{operand_names, sum_names, statement_names, operand_fits, sum_fits, statement_fits, is_among, are_distinct, is_free_name, variables, is_clean}
use Rattle.free_scan.specs.declared.first_form.program.Operand.{Operand}
use Rattle.free_scan.specs.declared.first_form.program.Operand.TheVariants as operands
use Rattle.free_scan.specs.declared.first_form.program.Term.{Term}
use Rattle.free_scan.specs.declared.first_form.program.Sum.{Sum}
use Rattle.free_scan.specs.declared.first_form.program.Statement.{Statement}
use Rattle.free_scan.specs.declared.first_form.program.Statement.TheVariants as statements
use Rattle.free_scan.specs.declared.first_form.program.Program.{Program}
use Rattle.rename_ref.specs.Renaming.{map_operand, map_term, map_sum, map_statement, map_program, renamed}
use Rattle.rename_ref.proofs.Alls.{all_weaken, all_both, append_same, and_same, or_same}

-- ---- two names swapped

-- each of two names for the other
abbrev pub swapped : List ℕ → List ℕ → List ℕ → List ℕ
swapped old new name = if bytes_eq name old then new else if bytes_eq name new then old else name

-- names of the same bytes are the same
-- and back
is_same : (a b : List ℕ) → a ≡ b → bytes_eq a b ≡ true
is_same a b e = (bytes_eq-Decides a b).1 e

-- the new name goes to the old one
swapped_new : (old new : List ℕ) → swapped old new new ≡ old
swapped_new old new = go (bytes_eq new old) (bytes_eq-Decides new old).0
  where
    go : (t : Bool) → (t ≡ true → new ≡ old) → (if t then new else if bytes_eq new new then old else new) ≡ old
    go true h = h refl
    go false h = let e : bytes_eq new new ≡ true = is_same new new refl in rw e refl

-- the old name goes to the new one
swapped_old : (old new : List ℕ) → swapped old new old ≡ new
swapped_old old new = let e : bytes_eq old old ≡ true = is_same old old refl in rw e refl

-- swapping twice changes nothing
swapped_twice : (old new name : List ℕ) → swapped old new (swapped old new name) ≡ name
swapped_twice old new name = go (bytes_eq name old) refl (bytes_eq name new) refl
  where
    go : (s : Bool) → bytes_eq name old ≡ s → (t : Bool) → bytes_eq name new ≡ t → swapped old new (if s then new else if t then old else name) ≡ name
    go true e t d = swapped_new old new ∙ sym ((bytes_eq-Decides name old).0 e)
    go false e true d = swapped_old old new ∙ sym ((bytes_eq-Decides name new).0 d)
    go false e false d = rw (e, d) refl

-- Two names are the same after a swap just where they are before it.
pub swapped_same : (old new a b : List ℕ) → bytes_eq (swapped old new a) (swapped old new b) ≡ bytes_eq a b
swapped_same old new a b =
    same_from_decides {P = a ≡ b} (bytes_eq (swapped old new a) (swapped old new b)) (bytes_eq a b) (
      (λ e. sym (swapped_twice old new a) ∙ ap (swapped old new) ((bytes_eq-Decides (swapped old new a) (swapped old new b)).0 e) ∙ swapped_twice old new b),
      (λ e. is_same (swapped old new a) (swapped old new b) (ap (swapped old new) e)),
    )
    (bytes_eq-Decides a b)

-- the name is not that one
abbrev pub is_other : List ℕ → List ℕ → Bool
is_other new name = not (bytes_eq name new)

-- on other names than the new one, a swap is a renaming
pub swapped_renames : (old new name : List ℕ) → is_other new name ≡ true → swapped old new name ≡ renamed old new name
swapped_renames old new name h = go (bytes_eq name old) (bytes_eq name new) h
  where
    go : (s t : Bool) → not t ≡ true → (if s then new else if t then old else name) ≡ (if s then new else name)
    go true t h = refl
    go false true h = absurd cc
    go false false h = refl

-- ---- the parts of a clean program

-- the parts of the test
pub record IsClean (p : Program) : Type 0 where
  pub some_rows : list_all is_some_row p.declared ≡ true
  pub all_fit : list_all statement_fits p.statements ≡ true
  pub all_free : list_all is_free_name (p.name ∷ variables p) ≡ true
  pub distinct : are_distinct (p.name ∷ variables p) ≡ true
  pub known : list_all (is_among (variables p)) (flat_map statement_names p.statements) ≡ true

-- the parts of five tests together
five : (a b c d e : Bool) → ((((a && b) && c) && d) && e) ≡ true → (a ≡ true) × (b ≡ true) × (c ≡ true) × (d ≡ true) × (e ≡ true)
five a b c d e h =
    let s = and_parts (((a && b) && c) && d) e h in
    let t = and_parts ((a && b) && c) d s.0 in
    let u = and_parts (a && b) c t.0 in
    let v = and_parts a b u.0 in
    (v.0, v.1, u.1, t.1, s.1)

-- and back
five_from : (a b c d e : Bool) → a ≡ true → b ≡ true → c ≡ true → d ≡ true → e ≡ true → ((((a && b) && c) && d) && e) ≡ true
five_from a b c d e ha hb hc hd he = rw (ha, hb, hc, hd, he) refl

-- a clean program passes each
pub clean_parts : (p : Program) → is_clean p ≡ true → IsClean p
clean_parts p h =
    let s = five (list_all is_some_row p.declared) (list_all statement_fits p.statements) (list_all is_free_name (p.name ∷ variables p)) (are_distinct (p.name ∷ variables p)) (list_all (is_among (variables p)) (flat_map statement_names p.statements)) h in
    record { some_rows = s.0; all_fit = s.1; all_free = s.2; distinct = s.3; known = s.4 }

-- and back
pub clean_from : (p : Program) → IsClean p → is_clean p ≡ true
clean_from p c = five_from (list_all is_some_row p.declared) (list_all statement_fits p.statements) (list_all is_free_name (p.name ∷ variables p)) (are_distinct (p.name ∷ variables p)) (list_all (is_among (variables p)) (flat_map statement_names p.statements)) c.some_rows c.all_fit c.all_free c.distinct c.known

-- ---- names of a mapped program

module _ (f : List ℕ → List ℕ) where
  -- a row of names has one after a map too
  some_row_map : (row : List (List ℕ)) → is_some_row row ≡ true → is_some_row (map f row) ≡ true
  some_row_map [] h = absurd cc
  some_row_map (n ∷ row) h = refl

  -- each row has one
  rows_map : (rows : List (List (List ℕ))) → list_all is_some_row rows ≡ true → list_all is_some_row (map (map f) rows) ≡ true
  rows_map rows h = list_all-map is_some_row (map f) rows ∙ all_weaken is_some_row (λ row. is_some_row (map f row)) some_row_map rows h

  -- the names of a row
  abbrev self : List (List ℕ) → List (List ℕ)
  self names = names

  -- the names of the mapped rows
  flat_names : (rows : List (List (List ℕ))) → flat_map self (map (map f) rows) ≡ map f (flat_map self rows)
  flat_names [] = refl
  flat_names (row ∷ rows) = ap (λ (r : List (List ℕ)). map f row ++ r) (flat_names rows) ∙ sym (map-append f row (flat_map self rows))

  -- the names in a mapped operand
  operand_names_map : (o : Operand) → operand_names (map_operand f o) ≡ map f (operand_names o)
  operand_names_map (operands.Variable name) = refl
  operand_names_map (operands.Whole n) = refl

  -- the names in a term
  abbrev term_names : Term → List (List ℕ)
  term_names term = operand_names term.operand

  -- the names in mapped terms
  terms_names_map : (ts : List Term) → flat_map term_names (map (map_term f) ts) ≡ map f (flat_map term_names ts)
  terms_names_map [] = refl
  terms_names_map (t ∷ ts) = append_same (operand_names_map t.operand) (terms_names_map ts) ∙ sym (map-append f (term_names t) (flat_map term_names ts))

  -- the names in a mapped expression
  sum_names_map : (s : Sum) → sum_names (map_sum f s) ≡ map f (sum_names s)
  sum_names_map s = append_same (operand_names_map s.first) (terms_names_map s.rest) ∙ sym (map-append f (operand_names s.first) (flat_map term_names s.rest))

  -- the names in mapped expressions
  sums_names_map : (ss : List Sum) → flat_map sum_names (map (map_sum f) ss) ≡ map f (flat_map sum_names ss)
  sums_names_map [] = refl
  sums_names_map (s ∷ ss) = append_same (sum_names_map s) (sums_names_map ss) ∙ sym (map-append f (sum_names s) (flat_map sum_names ss))

  -- the names in a mapped statement
  statement_names_map : (s : Statement) → statement_names (map_statement f s) ≡ map f (statement_names s)
  statement_names_map (statements.Assign target value) = ap (λ (r : List (List ℕ)). f target ∷ r) (sum_names_map value)
  statement_names_map (statements.Print items) = sums_names_map items

  -- the names in mapped statements
  statements_names_map : (ss : List Statement) → flat_map statement_names (map (map_statement f) ss) ≡ map f (flat_map statement_names ss)
  statements_names_map [] = refl
  statements_names_map (s ∷ ss) = append_same (statement_names_map s) (statements_names_map ss) ∙ sym (map-append f (statement_names s) (flat_map statement_names ss))

  -- the variables of a mapped program are the mapped variables
  pub variables_map : (p : Program) → variables (map_program f p) ≡ map f (variables p)
  variables_map p = flat_names p.declared

  -- ---- numbers that fit

  -- a mapped operand fits where it did
  operand_fits_map : (o : Operand) → operand_fits (map_operand f o) ≡ operand_fits o
  operand_fits_map (operands.Variable name) = refl
  operand_fits_map (operands.Whole n) = refl

  -- mapped terms fit where they did
  terms_fit_map : (ts : List Term) → list_all (λ (t : Term). operand_fits t.operand) (map (map_term f) ts) ≡ list_all (λ (t : Term). operand_fits t.operand) ts
  terms_fit_map [] = refl
  terms_fit_map (t ∷ ts) = and_same (operand_fits_map t.operand) (terms_fit_map ts)

  -- a mapped expression fits where it did
  sum_fits_map : (s : Sum) → sum_fits (map_sum f s) ≡ sum_fits s
  sum_fits_map s = and_same (operand_fits_map s.first) (terms_fit_map s.rest)

  -- mapped expressions fit where they did
  sums_fit_map : (ss : List Sum) → list_all sum_fits (map (map_sum f) ss) ≡ list_all sum_fits ss
  sums_fit_map [] = refl
  sums_fit_map (s ∷ ss) = and_same (sum_fits_map s) (sums_fit_map ss)

  -- a mapped statement fits where it did
  statement_fits_map : (s : Statement) → statement_fits (map_statement f s) ≡ statement_fits s
  statement_fits_map (statements.Assign target value) = sum_fits_map value
  statement_fits_map (statements.Print []) = refl
  statement_fits_map (statements.Print (item ∷ items)) = sums_fit_map (item ∷ items)

  -- mapped statements fit where they did
  statements_fit_map : (ss : List Statement) → list_all statement_fits (map (map_statement f) ss) ≡ list_all statement_fits ss
  statements_fit_map [] = refl
  statements_fit_map (s ∷ ss) = and_same (statement_fits_map s) (statements_fit_map ss)

  -- ---- names that are distinct

  module _ (same : (a b : List ℕ) → bytes_eq (f a) (f b) ≡ bytes_eq a b) where
    -- a mapped name is among the mapped names where it was among them
    among_map : (names : List (List ℕ)) (name : List ℕ) → is_among (map f names) (f name) ≡ is_among names name
    among_map [] name = refl
    among_map (other ∷ names) name = or_same (same other name) (among_map names name)

    -- mapped names are distinct where they were
    pub distinct_map : (names : List (List ℕ)) → are_distinct (map f names) ≡ are_distinct names
    distinct_map [] = refl
    distinct_map (name ∷ names) = and_same (ap not (among_map names name)) (distinct_map names)

    -- A clean program is clean with other names, where these are free and distinct.
    pub clean_map : (p : Program) → IsClean p → list_all is_free_name (map f (p.name ∷ variables p)) ≡ true → IsClean (map_program f p)
    clean_map p c free = record {
      some_rows = rows_map p.declared c.some_rows;
      all_fit = statements_fit_map p.statements ∙ c.all_fit;
      all_free = ap (λ (vs : List (List ℕ)). list_all is_free_name (f p.name ∷ vs)) (variables_map p) ∙ free;
      distinct = ap (λ (vs : List (List ℕ)). are_distinct (f p.name ∷ vs)) (variables_map p) ∙ distinct_map (p.name ∷ variables p) ∙ c.distinct;
      known =
          ap (λ (vs : List (List ℕ)). list_all (is_among vs) (flat_map statement_names (map (map_statement f) p.statements))) (variables_map p)
          ∙ ap (list_all (is_among (map f (variables p)))) (statements_names_map p.statements)
          ∙ list_all-map (is_among (map f (variables p))) f (flat_map statement_names p.statements)
          ∙ all_weaken (is_among (variables p)) (λ n. is_among (map f (variables p)) (f n)) (λ n e. among_map (variables p) n ∙ e) (flat_map statement_names p.statements) c.known;
    }

-- ---- what is not the new name

-- a name among others passes where they do
pub among_passes : (q : List ℕ → Bool) (names : List (List ℕ)) → list_all q names ≡ true → (name : List ℕ) → is_among names name ≡ true → q name ≡ true
among_passes q [] a name e = absurd cc
among_passes q (other ∷ names) a name e =
    let s = and_parts (q other) (list_all q names) a in
    go (or_cases (bytes_eq other name) (is_among names name) e) s.0 (among_passes q names s.1 name)
  where
    go : (bytes_eq other name ≡ true) ⊎ (is_among names name ≡ true) → q other ≡ true → (is_among names name ≡ true → q name ≡ true) → q name ≡ true
    go (inl d) h r = ap q (sym ((bytes_eq-Decides other name).0 d)) ∙ h
    go (inr d) h r = r d

-- a free name for another leaves all names free
pub free_swapped : (old new : List ℕ) → is_free_name new ≡ true → (names : List (List ℕ)) → list_all is_free_name names ≡ true → list_all (is_other new) names ≡ true → list_all is_free_name (map (swapped old new) names) ≡ true
free_swapped old new free names all others =
    list_all-map is_free_name (swapped old new) names ∙ all_both is_free_name (is_other new) (λ n. is_free_name (swapped old new n)) each names all others
  where
    pick : (name : List ℕ) (t : Bool) → is_free_name name ≡ true → is_free_name (if t then new else name) ≡ true
    pick name true h = free
    pick name false h = h

    each : (name : List ℕ) → is_free_name name ≡ true → is_other new name ≡ true → is_free_name (swapped old new name) ≡ true
    each name h o = ap is_free_name (swapped_renames old new name o) ∙ pick name (bytes_eq name old) h
