-- What is told of a project in the order in which it is looked at are the findings of its constants and shapes, so the first is the first of these.
use Rattle.std.proofs.Common.{◌≡◌, ◌⊎◌, inl, inr, ℕ, zero, suc, ◌+◌, ◌-◌, ◌<◌, ◌≤◌, Bool, true, false, cond, List, [], ◌∷◌, ◌++◌, filter, length, Option, Some, None, option_map, refl, sym, subst, ap, ap₂, ◌∙◌, arith}
use Rattle.std.specs.Prelude.{◌&&◌, nat_lt, slice_get}
use Rattle.std.specs.List.{enumerate_from, flat_map, last_or, range_with_len}
use Rattle.std.specs.Option.{is_some, option_and_then, option_map_or}
use Rattle.std.proofs.lemmas.Bool.{and_parts}
use Rattle.std.proofs.lemmas.Bool.Decides.{nat_tests}
use Rattle.ftn_tree.specs.declared.form.Form.{out-Form}
use Rattle.ftn_tree.specs.declared.table.Extent.{Extent}
use Rattle.ftn_tree.specs.declared.unit.FileTree.{FileTree}
use Rattle.ftn_tree.specs.declared.unit.Statement.{Statement}
use Rattle.ftn_tree.specs.Cases.{case_findings, constructs_of}
use Rattle.ftn_tree.specs.ConstantFaults as spec
use Rattle.ftn_tree.specs.ConstantFaults.{constant_fault, constant_findings, constant_rank}
use Rattle.ftn_tree.specs.DeclarationFaults.{Finding, fault_of}
use Rattle.ftn_tree.specs.DeclaredEntities.{names_after}
use Rattle.ftn_tree.specs.Extents.{covers, form_in, is_some_extent, layer_at, same_extent, scope_of, scoping}
use Rattle.ftn_tree.specs.KeyKinds.{Datum, datum}
use Rattle.ftn_tree.specs.Layers.{FormLayer}
use Rattle.ftn_tree.specs.Projects.{AreTrees}
use Rattle.ftn_tree.specs.Sayings.{sayings}
use Rattle.ftn_tree.specs.Scopes.{all_statements, own_statements, scope_number}
use Rattle.ftn_tree.specs.Wants.{expressions_at}
use Rattle.decl_table.specs.steps.Rows.{Row, number_at, rows_of}
use Rattle.decl_table.proofs.Arounds.{scope_there, statement_scope}
use Rattle.decl_table.proofs.OccurrenceLists.{count_few}
use Rattle.decl_table.proofs.Order.{statements_in}
use Rattle.decl_table.proofs.OwnStatements.{number_of}
use Rattle.const_expr.specs.declared.naming.Naming.{Naming}
use Rattle.const_value.specs.declared.circles.Circles.{Circles}
use Rattle.const_value.specs.declared.measured.Measured.{Measured}
use Rattle.const_value.specs.declared.project.Project.{Project}
use Rattle.const_value.specs.steps.Cases.{construct_told}
use Rattle.const_value.specs.steps.Findings.{gathered}
use Rattle.const_value.specs.steps.FirstFault.{all_told, file_told, files_told, if_within, is_within, names_told, sight_at, statements_by, unit_by}
use Rattle.const_value.specs.steps.Gathered.{IsGathered}
use Rattle.const_value.specs.steps.Held.{AreHeld}
use Rattle.const_value.specs.steps.Known.{IsKnown}
use Rattle.const_value.specs.steps.Names.{all_data, data_in}
use Rattle.const_value.specs.steps.Numbered.{AreEntities}
use Rattle.const_value.specs.steps.References.{circular_findings}
use Rattle.const_value.specs.steps.Shaping.{name_told}
use Rattle.const_value.specs.steps.Telling.{Sight, given_by, statement_by}
use Rattle.const_value.proofs.CaseLaws.{units_same}
use Rattle.const_value.proofs.FindingSets.{In, first_of_same, in_either, in_flat, in_left, in_right, out_of_flat}
use Rattle.const_value.proofs.FirstFindings.{first_gathered}
use Rattle.const_value.proofs.GatheredNames.{datum_there, names_count}
use Rattle.const_value.proofs.InLists.{in_at, in_filter, in_map, in_numbers, in_range, out_of_filter, out_of_map, out_of_numbers, place_of}
use Rattle.const_value.proofs.PlainFindings.{constant_plain}
use Rattle.const_value.proofs.StatementLaws.{form_same, given_here}

-- ---- statements by their places

record Stated (s : Sight) (rows : List Row) (at : ℕ) (all : List Statement) (f : Finding) : Type 0 where
  place : ℕ
  statement : Statement
  is : slice_get all place ≡ Some statement
  within : is_within rows s.file (at + place) ≡ true
  here : In f (statement_by s statement)

out_of_statements : (s : Sight) (rows : List Row) (at : ℕ) (all : List Statement) (f : Finding) → In f (statements_by s rows at all) → Stated s rows at all f
out_of_statements s rows at [] f h = absurd h
out_of_statements s rows at (statement ∷ all) f h =
    by (in_either f (if_within (is_within rows s.file at) (statement_by s statement)) (statements_by s rows (at + 1) all) h) (out_of_statements s rows (at + 1) all f)
  where
    first : (b : Bool) → is_within rows s.file at ≡ b → In f (if_within b (statement_by s statement)) → Stated s rows at (statement ∷ all) f
    first true is k =
        let none : at + 0 ≡ at = omega arith in
        record { place = 0; statement = statement; is = refl; within = ap (is_within rows s.file) none ∙ is; here = k }
    first false is k = absurd k

    by : In f (if_within (is_within rows s.file at) (statement_by s statement)) ⊎ In f (statements_by s rows (at + 1) all) → (In f (statements_by s rows (at + 1) all) → Stated s rows (at + 1) all f)
        → Stated s rows at (statement ∷ all) f
    by (inl k) rest = first (is_within rows s.file at) refl k
    by (inr k) rest =
        let r = rest k in
        let next : at + suc r.place ≡ at + 1 + r.place = omega arith in
        record { place = suc r.place; statement = r.statement; is = r.is; within = ap (is_within rows s.file) next ∙ r.within; here = r.here }

in_statements : (s : Sight) (rows : List Row) (at : ℕ) (all : List Statement) (k : ℕ) (statement : Statement) (f : Finding) → slice_get all k ≡ Some statement → is_within rows s.file (at + k) ≡ true
    → In f (statement_by s statement) → In f (statements_by s rows at all)
in_statements s rows at [] k statement f is within h = absurd (cc is)
in_statements s rows at (first ∷ all) zero statement f is within h =
    let none : at ≡ at + 0 = omega arith in
    let same : first ≡ statement = cc is in
    in_left f (if_within (is_within rows s.file at) (statement_by s first)) (statements_by s rows (at + 1) all)
    (subst (λ b. In f (if_within b (statement_by s first))) (sym (ap (is_within rows s.file) none ∙ within)) (subst (λ x. In f (statement_by s x)) (sym same) h))
in_statements s rows at (first ∷ all) (suc k) statement f is within h =
    let next : at + 1 + k ≡ at + suc k = omega arith in
    in_right f (if_within (is_within rows s.file at) (statement_by s first)) (statements_by s rows (at + 1) all)
    (in_statements s rows (at + 1) all k statement f is (ap (is_within rows s.file) next ∙ within) h)

-- ---- files by their places

module _ (p : Project) (known : List Measured) (namings : List Naming) (rows : List Row) where
  record Filed (at : ℕ) (all : List FileTree) (f : Finding) : Type 0 where
    place : ℕ
    tree : FileTree
    is : slice_get all place ≡ Some tree
    here : In f (file_told p known namings rows (at + place) tree)

  out_of_files : (at : ℕ) (all : List FileTree) (f : Finding) → In f (files_told p known namings rows at all) → Filed at all f
  out_of_files at [] f h = absurd h
  out_of_files at (tree ∷ all) f h = by (in_either f (file_told p known namings rows at tree) (files_told p known namings rows (at + 1) all) h) (out_of_files (at + 1) all f) where
    by : In f (file_told p known namings rows at tree) ⊎ In f (files_told p known namings rows (at + 1) all) → (In f (files_told p known namings rows (at + 1) all) → Filed (at + 1) all f) → Filed at (tree ∷ all) f
    by (inl k) rest =
        let none : at ≡ at + 0 = omega arith in
        record { place = 0; tree = tree; is = refl; here = subst (λ n. In f (file_told p known namings rows n tree)) none k }
    by (inr k) rest =
        let r = rest k in
        let next : at + 1 + r.place ≡ at + suc r.place = omega arith in
        record { place = suc r.place; tree = r.tree; is = r.is; here = subst (λ n. In f (file_told p known namings rows n r.tree)) next r.here }

  in_files : (at : ℕ) (all : List FileTree) (k : ℕ) (tree : FileTree) (f : Finding) → slice_get all k ≡ Some tree → In f (file_told p known namings rows (at + k) tree) → In f (files_told p known namings rows at all)
  in_files at [] k tree f is h = absurd (cc is)
  in_files at (first ∷ all) zero tree f is h =
      let none : at + 0 ≡ at = omega arith in
      let same : tree ≡ first = cc is in
      in_left f (file_told p known namings rows at first) (files_told p known namings rows (at + 1) all)
      (subst (λ t. In f (file_told p known namings rows at t)) same (subst (λ n. In f (file_told p known namings rows n tree)) none h))
  in_files at (first ∷ all) (suc k) tree f is h =
      let next : at + suc k ≡ at + 1 + k = omega arith in
      in_right f (file_told p known namings rows at first) (files_told p known namings rows (at + 1) all)
      (in_files (at + 1) all k tree f is (subst (λ n. In f (file_told p known namings rows n tree)) next h))

-- ---- scoping units of statements

last_passes : (test : Extent → Bool) (es : List Extent) (o : Option Extent) (e : Extent) → ((x : Extent) → o ≡ Some x → test x ≡ true) → last_or o (filter test es) ≡ Some e → test e ≡ true
last_passes test [] o e first is = first e is
last_passes test (x ∷ es) o e first is = by (test x) refl is (last_passes test es) where
  by : (b : Bool) → test x ≡ b → last_or o (cond b (x ∷ filter test es) (filter test es)) ≡ Some e
      → ((o : Option Extent) (e : Extent) → ((x : Extent) → o ≡ Some x → test x ≡ true) → last_or o (filter test es) ≡ Some e → test e ≡ true) → test e ≡ true
  by true passes is rest = rest (Some x) e (λ y same. let equal : x ≡ y = cc same in ap test (sym equal) ∙ passes) is
  by false passes is rest = rest o e first is

covered : (file k : ℕ) (e : Extent) → covers file k e ≡ true → (e.file ≡ file) × (e.opening ≤ k) × (k ≤ e.ending)
covered file k e is =
    let file_is : e.file ≡ file = grind (arith, nat_tests) in
    let low : e.opening ≤ k = grind (arith, nat_tests) in
    let high : k ≤ e.ending = grind (arith, nat_tests) in
    (file_is, low, high)

same_itself : (e : Extent) → same_extent e e ≡ true
same_itself e = grind (arith, nat_tests)

same_file : (e x : Extent) → same_extent e x ≡ true → e.file ≡ x.file
same_file e x is = grind (arith, nat_tests)

abbrev own_rows : List FileTree → List Row
own_rows files = rows_of files (scoping files)

counted : (files : List FileTree) (file k : ℕ) (tree : FileTree) (statement : Statement) → slice_get files file ≡ Some tree → slice_get tree.statements k ≡ Some statement → k < statements_in file files
counted files file k tree statement there is =
    subst (λ n. k < n) (sym (ap (λ o. option_map_or (λ (t : FileTree). length t.statements) o 0) there)) (below tree.statements k statement is)
  where
    below : (xs : List Statement) (k : ℕ) (x : Statement) → slice_get xs k ≡ Some x → k < length xs
    below [] k x is = absurd (cc is)
    below (y ∷ xs) zero x is = omega arith
    below (y ∷ xs) (suc k) x is = let rest : k < length xs = below xs k x is in omega (arith, rest)

layer_there : (files : List FileTree) (file k : ℕ) (tree : FileTree) (statement : Statement) → slice_get files file ≡ Some tree → slice_get tree.statements k ≡ Some statement
    → layer_at files file k ≡ Some (out-Form statement.form)
layer_there files file k tree statement there is =
    ap (λ o. option_map out-Form (option_and_then (form_in k) o)) there ∙ ap (λ o. option_map out-Form (option_map (λ (s : Statement). s.form) o)) is

-- a statement that has a layer is there
record Standing (files : List FileTree) (file k : ℕ) : Type 0 where
  tree : FileTree
  statement : Statement
  there : slice_get files file ≡ Some tree
  is : slice_get tree.statements k ≡ Some statement

stands : (files : List FileTree) (file k : ℕ) (layer : FormLayer) → layer_at files file k ≡ Some layer → Standing files file k
stands files file k layer is = by (slice_get files file) refl is where
  inner : (tree : FileTree) → slice_get files file ≡ Some tree → (o : Option Statement) → slice_get tree.statements k ≡ o → option_map out-Form (option_map (λ (s : Statement). s.form) o) ≡ Some layer
      → Standing files file k
  inner tree there None none some = absurd (cc some)
  inner tree there (Some statement) found some = record { tree = tree; statement = statement; there = there; is = found }

  by : (o : Option FileTree) → slice_get files file ≡ o → option_map out-Form (option_and_then (form_in k) o) ≡ Some layer → Standing files file k
  by None none some = absurd (cc some)
  by (Some tree) there some = inner tree there (slice_get tree.statements k) refl some

module _ (files : List FileTree) (are : AreTrees files) (file k : ℕ) (less : k < statements_in file files) where
  record Owned : Type 0 where
    extent : Extent
    among : In extent (scoping files)
    file_is : extent.file ≡ file
    own : In k (own_statements files extent)

  owner : is_within (own_rows files) file k ≡ true → Owned
  owner within = by (scope_of files file k) refl (ap is_some (sym (statement_scope files are file k less)) ∙ (and_parts (nat_lt k 4294967296) (is_some (number_at (own_rows files) file k)) within).1) where
    by : (o : Option Extent) → scope_of files file k ≡ o → is_some (option_and_then (scope_number files) o) ≡ true → Owned
    by None none some = absurd (cc some)
    by (Some e) found some =
        let (j, there) = scope_there files are file k less e found in
        let (file_is, low, high) = covered file k e (last_passes (covers file k) (scoping files) None e (λ x none. absurd (cc none)) found) in
        record {
          extent = e;
          among = in_at (scoping files) j e there;
          file_is = file_is;
          own =
              in_filter (λ statement. is_some_extent e (scope_of files e.file statement)) (all_statements e) k (in_range e.opening (e.ending + 1 - e.opening) k low (omega (arith, low, high)))
              (ap (λ n. is_some_extent e (scope_of files n k)) file_is ∙ ap (is_some_extent e) found ∙ same_itself e);
        }

  is_owned : (e : Extent) → is_some_extent e (scope_of files file k) ≡ true → is_within (own_rows files) file k ≡ true
  is_owned e some = by (scope_of files file k) refl some where
    short : nat_lt k 4294967296 ≡ true
    short = let few : statements_in file files < 4294967296 = count_few files are file in grind (arith, nat_tests)

    by : (o : Option Extent) → scope_of files file k ≡ o → is_some_extent e o ≡ true → is_within (own_rows files) file k ≡ true
    by None none some = absurd (cc some)
    by (Some x) found some =
        let (j, there) = scope_there files are file k less x found in
        ap₂ (λ a o. a && is_some o) short (statement_scope files are file k less ∙ ap (option_and_then (scope_number files)) found ∙ number_of files are j x there)

-- ---- the project

module _ (files : List FileTree) (are : AreTrees files) (p : Project) (g : IsGathered files p) (known : List Measured) (namings : List Naming) (is : IsKnown files p known namings) (entities : AreEntities files)
    (held : AreHeld files) (named : (n : ℕ) (d : Datum) → slice_get (all_data files) n ≡ Some d → name_told p known namings n ≡ spec.name_findings files d.scope d.name)
    (c : Circles) (defined : (f : Finding) → In f (circular_findings c p) → In f (spec.circular_findings files)) (told : (f : Finding) → In f (spec.circular_findings files) → In f (circular_findings c p)) where
  abbrev here : ℕ → Sight
  here file = sight_at p known namings file

  statement_same : (file k : ℕ) (tree : FileTree) (statement : Statement) → slice_get files file ≡ Some tree → slice_get tree.statements k ≡ Some statement
      → statement_by (here file) statement ≡ spec.statement_told files file k
  statement_same file k tree statement there at =
      form_same files p g known namings is entities held file statement.form
      ∙ sym (ap (λ l. flat_map (spec.placed_told files file) (option_map_or expressions_at l []) ++ spec.designators_told files file l) (layer_there files file k tree statement there at))

  cases_same : (file : ℕ) (tree : FileTree) → flat_map (unit_by (here file)) tree.units ≡ case_findings files file tree
  cases_same file tree =
      ap (λ fs. flat_map (λ u. flat_map (construct_told (given_by (here file)) fs file) (constructs_of u)) tree.units) g.trees
      ∙ units_same files file (given_by (here file)) (given_here files p g known namings is file) tree

  abbrev scopes : List Finding
  scopes = flat_map (spec.scope_findings files) (scoping files)

  abbrev cases : List Finding
  cases = flat_map (λ numbered. case_findings files numbered.0 numbered.1) (enumerate_from 0 files)

  from_scope : (f : Finding) → In f scopes → In f (constant_findings files)
  from_scope f h = in_right f (spec.circular_findings files) (scopes ++ cases) (in_left f scopes cases h)

  -- ---- what is looked at is found

  name_defined : (f : Finding) → In f (names_told p known namings) → In f (constant_findings files)
  name_defined f h =
      let w = out_of_flat (name_told p known namings) (range_with_len 0 (length p.names.items)) f h in
      let (d, there) = datum_there files p g w.of (number_below (length p.names.items) w.of w.among) in
      let u = out_of_flat (data_in files) (scoping files) d (in_at (all_data files) w.of d there) in
      let r = out_of_map (datum u.of) (names_after [] (sayings files u.of)) d u.here in
      let found : In f (spec.name_findings files u.of r.of) =
      subst (λ (x : Datum). In f (spec.name_findings files x.scope x.name)) (sym r.is) (subst (λ fs. In f fs) (named w.of d there) w.here) in
      from_scope f
      (in_flat (spec.scope_findings files) (scoping files) u.of f u.among
      (in_right f (flat_map (spec.statement_told files u.of.file) (own_statements files u.of)) (flat_map (spec.name_findings files u.of) (names_after [] (sayings files u.of)))
      (in_flat (spec.name_findings files u.of) (names_after [] (sayings files u.of)) r.of f r.among found)))
    where
      number_below : (count n : ℕ) → In n (range_with_len 0 count) → n < count
      number_below count n h = let low = ranged 0 count n h in omega (arith, low) where
        ranged : (a count n : ℕ) → In n (range_with_len a count) → n < a + count
        ranged a zero n h = absurd h
        ranged a (suc count) n (inl same) = omega arith
        ranged a (suc count) n (inr h) = let rest : n < a + 1 + count = ranged (a + 1) count n h in omega (arith, rest)

  statement_defined : (f : Finding) (file : ℕ) (tree : FileTree) → slice_get files file ≡ Some tree → In f (statements_by (here file) (own_rows files) 0 tree.statements) → In f (constant_findings files)
  statement_defined f file tree there h =
      let s = out_of_statements (here file) (own_rows files) 0 tree.statements f h in
      let none : 0 + s.place ≡ s.place = omega arith in
      let o = owner files are file s.place (counted files file s.place tree s.statement there s.is) (ap (is_within (own_rows files) file) (sym none) ∙ s.within) in
      let found : In f (spec.statement_told files o.extent.file s.place) =
      subst (λ n. In f (spec.statement_told files n s.place)) (sym o.file_is) (subst (λ fs. In f fs) (statement_same file s.place tree s.statement there s.is) s.here) in
      from_scope f
      (in_flat (spec.scope_findings files) (scoping files) o.extent f o.among
      (in_left f (flat_map (spec.statement_told files o.extent.file) (own_statements files o.extent)) (flat_map (spec.name_findings files o.extent) (names_after [] (sayings files o.extent)))
      (in_flat (spec.statement_told files o.extent.file) (own_statements files o.extent) s.place f o.own found)))

  case_defined : (f : Finding) (file : ℕ) (tree : FileTree) → slice_get files file ≡ Some tree → In f (flat_map (unit_by (here file)) tree.units) → In f (constant_findings files)
  case_defined f file tree there h =
      let none : 0 + file ≡ file = omega arith in
      in_right f (spec.circular_findings files) (scopes ++ cases)
      (in_right f scopes cases
      (in_flat (λ numbered. case_findings files numbered.0 numbered.1) (enumerate_from 0 files) (file, tree) f (subst (λ n. In (n, tree) (enumerate_from 0 files)) none (in_numbers 0 files file tree there))
      (subst (λ fs. In f fs) (cases_same file tree) h)))

  file_defined : (f : Finding) → In f (files_told p known namings (own_rows files) 0 files) → In f (constant_findings files)
  file_defined f h =
      let r = out_of_files p known namings (own_rows files) 0 files f h in
      let none : 0 + r.place ≡ r.place = omega arith in
      by r.place r.tree r.is (subst (λ n. In f (file_told p known namings (own_rows files) n r.tree)) none r.here)
    where
      by : (file : ℕ) (tree : FileTree) → slice_get files file ≡ Some tree → In f (file_told p known namings (own_rows files) file tree) → In f (constant_findings files)
      by file tree there k = at (in_either f (statements_by (here file) (own_rows files) 0 tree.statements) (flat_map (unit_by (here file)) tree.units) k) where
        at : In f (statements_by (here file) (own_rows files) 0 tree.statements) ⊎ In f (flat_map (unit_by (here file)) tree.units) → In f (constant_findings files)
        at (inl one) = statement_defined f file tree there one
        at (inr other) = case_defined f file tree there other

  abbrev looked : List Finding
  looked = circular_findings c p ++ (names_told p known namings ++ files_told p known namings (own_rows files) 0 files)

  all_defined : (f : Finding) → In f looked → In f (constant_findings files)
  all_defined f h = by (in_either f (circular_findings c p) (names_told p known namings ++ files_told p known namings (own_rows files) 0 files) h) where
    rest : In f (names_told p known namings) ⊎ In f (files_told p known namings (own_rows files) 0 files) → In f (constant_findings files)
    rest (inl k) = name_defined f k
    rest (inr k) = file_defined f k

    by : In f (circular_findings c p) ⊎ In f (names_told p known namings ++ files_told p known namings (own_rows files) 0 files) → In f (constant_findings files)
    by (inl k) = in_left f (spec.circular_findings files) (scopes ++ cases) (defined f k)
    by (inr k) = rest (in_either f (names_told p known namings) (files_told p known namings (own_rows files) 0 files) k)

  -- ---- what is found is looked at

  from_names : (f : Finding) → In f (names_told p known namings) → In f looked
  from_names f h = in_right f (circular_findings c p) (names_told p known namings ++ files_told p known namings (own_rows files) 0 files) (in_left f (names_told p known namings) (files_told p known namings (own_rows files) 0 files) h)

  from_file : (f : Finding) (file : ℕ) (tree : FileTree) → slice_get files file ≡ Some tree → In f (file_told p known namings (own_rows files) file tree) → In f looked
  from_file f file tree there h =
      let none : file ≡ 0 + file = omega arith in
      in_right f (circular_findings c p) (names_told p known namings ++ files_told p known namings (own_rows files) 0 files)
      (in_right f (names_told p known namings) (files_told p known namings (own_rows files) 0 files)
      (in_files p known namings (own_rows files) 0 files file tree f there (subst (λ n. In f (file_told p known namings (own_rows files) n tree)) none h)))

  name_looked : (f : Finding) (e : Extent) → In e (scoping files) → In f (flat_map (spec.name_findings files e) (names_after [] (sayings files e))) → In f looked
  name_looked f e among h =
      let w = out_of_flat (spec.name_findings files e) (names_after [] (sayings files e)) f h in
      let a = place_of (all_data files) (datum e w.of) (in_flat (data_in files) (scoping files) e (datum e w.of) among (in_map (datum e) (names_after [] (sayings files e)) w.of w.among)) in
      let within : a.place < length (all_data files) = below (all_data files) a.place (datum e w.of) a.is in
      let long : length p.names.items ≡ length (all_data files) = names_count files p g in
      from_names f
      (in_flat (name_told p known namings) (range_with_len 0 (length p.names.items)) a.place f (in_range 0 (length p.names.items) a.place (omega arith) (omega (arith, within, long)))
      (subst (λ fs. In f fs) (sym (named a.place (datum e w.of) a.is)) w.here))
    where
      below : (xs : List Datum) (k : ℕ) (x : Datum) → slice_get xs k ≡ Some x → k < length xs
      below [] k x is = absurd (cc is)
      below (y ∷ xs) zero x is = omega arith
      below (y ∷ xs) (suc k) x is = let rest : k < length xs = below xs k x is in omega (arith, rest)

  statement_looked : (f : Finding) (e : Extent) → In f (flat_map (spec.statement_told files e.file) (own_statements files e)) → In f looked
  statement_looked f e h =
      let w = out_of_flat (spec.statement_told files e.file) (own_statements files e) f h in
      let r = out_of_filter (λ statement. is_some_extent e (scope_of files e.file statement)) (all_statements e) w.of w.among in
      by w.of r.passes (layer_at files e.file w.of) refl w.here
    where
      standing : (k : ℕ) → is_some_extent e (scope_of files e.file k) ≡ true → In f (spec.statement_told files e.file k) → Standing files e.file k → In f looked
      standing k passes told s =
          let less : k < statements_in e.file files = counted files e.file k s.tree s.statement s.there s.is in
          let none : k ≡ 0 + k = omega arith in
          from_file f e.file s.tree s.there
          (in_left f (statements_by (here e.file) (own_rows files) 0 s.tree.statements) (flat_map (unit_by (here e.file)) s.tree.units)
          (in_statements (here e.file) (own_rows files) 0 s.tree.statements k s.statement f s.is (ap (is_within (own_rows files) e.file) (sym none) ∙ is_owned files are e.file k less e passes)
          (subst (λ fs. In f fs) (sym (statement_same e.file k s.tree s.statement s.there s.is)) told)))

      by : (k : ℕ) → is_some_extent e (scope_of files e.file k) ≡ true → (layer : Option FormLayer) → layer_at files e.file k ≡ layer → In f (spec.statement_told files e.file k) → In f looked
      by k passes None none told =
          absurd (subst (λ l. In f (flat_map (spec.placed_told files e.file) (option_map_or expressions_at l []) ++ spec.designators_told files e.file l)) none told)
      by k passes (Some layer) some told = standing k passes told (stands files e.file k layer some)

  case_looked : (f : Finding) → In f cases → In f looked
  case_looked f h =
      let w = out_of_flat (λ numbered. case_findings files numbered.0 numbered.1) (enumerate_from 0 files) f h in
      let n = out_of_numbers 0 files w.of w.among in
      let none : n.place ≡ 0 + n.place = omega arith in
      let same : n.place ≡ w.of.0 = none ∙ n.number_is in
      let there : slice_get files w.of.0 ≡ Some w.of.1 = ap (slice_get files) (sym same) ∙ n.is in
      from_file f w.of.0 w.of.1 there
      (in_right f (statements_by (here w.of.0) (own_rows files) 0 w.of.1.statements) (flat_map (unit_by (here w.of.0)) w.of.1.units)
      (subst (λ fs. In f fs) (sym (cases_same w.of.0 w.of.1)) w.here))

  all_looked : (f : Finding) → In f (constant_findings files) → In f looked
  all_looked f h = by (in_either f (spec.circular_findings files) (scopes ++ cases) h) where
    of_scope : (e : Extent) → In e (scoping files) → In f (flat_map (spec.statement_told files e.file) (own_statements files e)) ⊎ In f (flat_map (spec.name_findings files e) (names_after [] (sayings files e)))
        → In f looked
    of_scope e among (inl k) = statement_looked f e k
    of_scope e among (inr k) = name_looked f e among k

    rest : In f scopes ⊎ In f cases → In f looked
    rest (inl k) =
        let w = out_of_flat (spec.scope_findings files) (scoping files) f k in
        of_scope w.of w.among (in_either f (flat_map (spec.statement_told files w.of.file) (own_statements files w.of)) (flat_map (spec.name_findings files w.of) (names_after [] (sayings files w.of))) w.here)
    rest (inr k) = case_looked f k

    by : In f (spec.circular_findings files) ⊎ In f (scopes ++ cases) → In f looked
    by (inl k) = in_left f (circular_findings c p) (names_told p known namings ++ files_told p known namings (own_rows files) 0 files) (told f k)
    by (inr k) = rest (in_either f scopes cases k)

  -- the first of all
  pub fault_is : option_map (fault_of p.files.now) (gathered None (all_told c p known namings (rows_of p.files.now (scoping p.files.now)))) ≡ constant_fault files
  fault_is =
      ap (λ fs. option_map (fault_of fs) (gathered None (circular_findings c p ++ (names_told p known namings ++ files_told p known namings (rows_of fs (scoping fs)) 0 fs)))) g.trees
      ∙ ap (option_map (fault_of files))
      (first_of_same looked (constant_findings files) (λ f h. constant_plain files f (all_defined f h)) all_defined all_looked ∙ sym (first_gathered (constant_findings files)))
