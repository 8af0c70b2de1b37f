-- The extents of a project come in the order of files and openings, they stand within their files, and two of one file are one in the
-- other or apart.
use Rattle.std.proofs.Common.{◌≡◌, ℕ, suc, ◌+◌, ◌<◌, Bool, true, false, List, [], ◌∷◌, ◌++◌, length, refl, sym, ap, ◌∙◌, subst, inl, inr, arith}
use Rattle.std.specs.Prelude.{◌⊎◌, slice_get}
use Rattle.std.specs.List.{flat_map, filter, All}
use Rattle.std.specs.Option.{option_map_or}
use Rattle.ftn_tree.specs.declared.table.Extent.{Extent}
use Rattle.ftn_tree.specs.declared.unit.FileTree.{FileTree}
use Rattle.ftn_tree.specs.declared.unit.Statement.{Statement}
use Rattle.ftn_tree.specs.Nesting.{Nested, held, spelled}
use Rattle.ftn_tree.specs.NestFaults.{marks_of}
use Rattle.ftn_tree.specs.Projects.{IsSomeTree}
use Rattle.ftn_tree.specs.Extents.{extents_in, extents_from, extents}
pub use Rattle.decl_table.specs.steps.Spelled.{Each}
use Rattle.decl_table.proofs.Rising.{Beside, Rise, row_rises}

pub each_both : {A : Type 0} (P : A → Type 0) (xs ys : List A) → Each P xs → Each P ys → Each P (xs ++ ys)
each_both P [] ys one two = two
each_both P (x ∷ xs) ys (first, one) two = (first, each_both P xs ys one two)

pub each_filter : {A : Type 0} (P : A → Type 0) (test : A → Bool) (xs : List A) → Each P xs → Each P (filter test xs)
each_filter P test [] all = tt
each_filter P test (x ∷ xs) (first, more) = by (each_filter P test xs more) (test x) refl where
  by : Each P (filter test xs) → (passes : Bool) → test x ≡ passes → Each P (filter test (x ∷ xs))
  by rest true is = rw is (first, rest)
  by rest false is = rw is rest

pub each_of : {A : Type 0} (P : A → Type 0) (xs : List A) → All P xs → Each P xs
each_of P [] all = tt
each_of P (x ∷ xs) all = (all 0 x (omega arith), each_of P xs (λ k d less. all (suc k) d (omega arith)))

-- an earlier and a later one
abbrev pub Comes : Extent → Extent → Type 0
Comes e f = (e.file < f.file) ⊎ ((e.file ≡ f.file) × (e.opening < f.opening) × ((f.ending < e.ending) ⊎ (e.ending < f.opening)))

abbrev pub Within : (ℕ → ℕ) → Extent → Type 0
Within count e = (e.opening < e.ending) × (e.ending < count e.file)

-- each with all later ones
abbrev pub Ordered : (ℕ → ℕ) → List Extent → Type 0
Ordered count [] = Unit {0}
Ordered count (e ∷ es) = Within count e × Each (Comes e) es × Ordered count es

pub ordered_filter : (count : ℕ → ℕ) (test : Extent → Bool) (es : List Extent) → Ordered count es → Ordered count (filter test es)
ordered_filter count test [] all = tt
ordered_filter count test (e ∷ es) (within, later, more) = by (ordered_filter count test es more) (test e) refl where
  by : Ordered count (filter test es) → (passes : Bool) → test e ≡ passes → Ordered count (filter test (e ∷ es))
  by rest true is = rw is (within, each_filter (Comes e) test es later, rest)
  by rest false is = rw is rest

joined : (count : ℕ → ℕ) (xs ys : List Extent) → Ordered count xs → Each (λ x. Each (Comes x) ys) xs → Ordered count ys → Ordered count (xs ++ ys)
joined count [] ys one across two = two
joined count (x ∷ xs) ys (within, later, more) (first, rest) two = (within, each_both (Comes x) xs ys later first, joined count xs ys more rest two)

-- ---- of one file

later_ones : (file low high : ℕ) (e : Extent) (es : List Extent) → e.file ≡ file → e.opening < low → Beside e es → Rise file low high es → Each (Comes e) es
later_ones file low high e [] same less beside rise = tt
later_ones file low high e (f ∷ fs) same less (side, sides) (is, first, order, last, beside, more) =
    (inr (same ∙ sym is, omega arith, side), later_ones file (f.opening + 1) high e fs same (omega arith) sides more)

file_ordered : (count : ℕ → ℕ) (file low high : ℕ) (es : List Extent) → high ≡ count file → Rise file low high es → Ordered count es
file_ordered count file low high [] long rise = tt
file_ordered count file low high (e ∷ es) long (is, first, order, last, beside, more) = (
  (order, subst (λ f. e.ending < count f) (sym is) (subst (λ n. e.ending < n) long last)),
  later_ones file (e.opening + 1) high e es is (omega arith) beside more,
  file_ordered count file (e.opening + 1) high es long more,
)

in_file : (file low high : ℕ) (es : List Extent) → Rise file low high es → Each (λ (e : Extent). e.file ≡ file) es
in_file file low high [] rise = tt
in_file file low high (e ∷ es) (is, first, order, last, beside, more) = (is, in_file file (e.opening + 1) high es more)

-- ---- of a project

abbrev pub statements_in : ℕ → List FileTree → ℕ
statements_in file trees = option_map_or (λ (tree : FileTree). length tree.statements) (slice_get trees file) 0

zero_plus : (k : ℕ) → 0 + k ≡ k
zero_plus k = omega arith

marks_long : (statements : List Statement) → length (marks_of statements) ≡ length statements
marks_long [] = refl
marks_long (statement ∷ statements) = ap suc (marks_long statements)

pub tree_rises : (file : ℕ) (tree : FileTree) → IsSomeTree tree → Rise file 0 (length tree.statements) (flat_map (extents_in file) tree.units)
tree_rises file tree (edition, text, short, (clean, is)) = by is.nested where
  by : {same : ℕ → ℕ → Bool} → Nested same (marks_of tree.statements) tree.units → Rise file 0 (length tree.statements) (flat_map (extents_in file) tree.units)
  by (row, nests, spells, units) =
      subst (λ all. Rise file 0 (length tree.statements) (flat_map (extents_in file) all)) units
      (subst (λ n. Rise file 0 n (flat_map (extents_in file) (held 0 row).units)) (zero_plus (length (spelled row)) ∙ ap length spells ∙ marks_long tree.statements) (row_rises file 0 row))

after_files : (file : ℕ) (x : Extent) (es : List Extent) → x.file < file → Each (λ (e : Extent). e.file ≡ file) es → Each (Comes x) es
after_files file x [] less all = tt
after_files file x (e ∷ es) less (is, all) = (inl (omega arith), after_files file x es less all)

later_files : (file : ℕ) (x : Extent) (trees : List FileTree) → x.file < file → Each IsSomeTree trees → Each (Comes x) (extents_from file trees)
later_files file x [] less all = tt
later_files file x (tree ∷ trees) less (here, all) =
    each_both (Comes x) (flat_map (extents_in file) tree.units) (extents_from (file + 1) trees)
    (after_files file x (flat_map (extents_in file) tree.units) less (in_file file 0 (length tree.statements) (flat_map (extents_in file) tree.units) (tree_rises file tree here)))
    (later_files (file + 1) x trees (omega arith) all)

across : (file : ℕ) (es : List Extent) (trees : List FileTree) → Each (λ (e : Extent). e.file ≡ file) es → Each IsSomeTree trees → Each (λ x. Each (Comes x) (extents_from (file + 1) trees)) es
across file [] trees is all = tt
across file (e ∷ es) trees (first, is) all = (later_files (file + 1) e trees (omega arith) all, across file es trees is all)

files_ordered : (count : ℕ → ℕ) (file : ℕ) (trees : List FileTree) → ((k : ℕ) → count (file + k) ≡ statements_in k trees) → Each IsSomeTree trees → Ordered count (extents_from file trees)
files_ordered count file [] long all = tt
files_ordered count file (tree ∷ trees) long (here, all) =
    let rises : Rise file 0 (length tree.statements) (flat_map (extents_in file) tree.units) = tree_rises file tree here in
    joined count (flat_map (extents_in file) tree.units) (extents_from (file + 1) trees)
    (file_ordered count file 0 (length tree.statements) (flat_map (extents_in file) tree.units) (sym (ap count (plus file) ∙ long 0)) rises)
    (across file (flat_map (extents_in file) tree.units) trees (in_file file 0 (length tree.statements) (flat_map (extents_in file) tree.units) rises) all)
    (files_ordered count (file + 1) trees (λ k. ap count (next file k) ∙ long (suc k)) all)
  where
    plus : (file : ℕ) → file ≡ file + 0
    plus file = omega arith

    next : (file k : ℕ) → file + 1 + k ≡ file + suc k
    next file k = omega arith

pub extents_ordered : (files : List FileTree) → All IsSomeTree files → Ordered (λ file. statements_in file files) (extents files)
extents_ordered files all = files_ordered (λ file. statements_in file files) 0 files (λ k. ap (λ n. statements_in n files) (zero_plus k)) (each_of IsSomeTree files all)
