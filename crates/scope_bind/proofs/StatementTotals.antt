-- Sums over all statements of a project.
use Rattle.std.proofs.Common.{◌≡◌, ℕ, ◌+◌, ◌-◌, ◌≤◌, ◌<◌, Bool, true, false, cond, List, [], ◌∷◌, length, Option, Some, None, refl, sym, ap, ap₂, subst, ◌∙◌, arith}
use Rattle.std.specs.Prelude.{slice_get}
use Rattle.std.specs.List.{enumerate_from, range_with_len, sum_by}
use Rattle.std.specs.Option.{option_map_or}
use Rattle.std.proofs.lemmas.Bool.Decides.{nat_tests}
use Rattle.std.proofs.lemmas.List.Sums.{sum_by-cons}
use Rattle.std.proofs.lemmas.List.FromFn.{length-range_with_len}
use Rattle.ftn_tree.specs.declared.table.Extent.{Extent}
use Rattle.ftn_tree.specs.declared.unit.FileTree.{FileTree}
use Rattle.ftn_tree.specs.Extents.{covers}
use Rattle.ftn_tree.specs.Scopes.{all_statements}
use Rattle.decl_table.proofs.Order.{Each, Comes, Within, Ordered, statements_in}
use Rattle.scope_bind.proofs.Totals.{total, total_less, total_same, total_plus, total_swap, range_part, numbered_part, NoneOf, OneOf}

abbrev pub of_file : (ℕ → ℕ → ℕ) → ℕ × FileTree → ℕ
of_file weight numbered = total (weight numbered.0) (range_with_len 0 (length numbered.1.statements))

-- over all statements of these files
abbrev pub whole : List FileTree → (ℕ → ℕ → ℕ) → ℕ
whole files weight = total (of_file weight) (enumerate_from 0 files)

pub whole_less : (files : List FileTree) (f g : ℕ → ℕ → ℕ) → ((file statement : ℕ) → f file statement ≤ g file statement) → whole files f ≤ whole files g
whole_less files f g less =
    total_less (of_file f) (of_file g) (λ numbered. total_less (f numbered.0) (g numbered.0) (less numbered.0) (range_with_len 0 (length numbered.1.statements))) (enumerate_from 0 files)

pub whole_plus : (files : List FileTree) (f g : ℕ → ℕ → ℕ) → whole files (λ file statement. f file statement + g file statement) ≡ whole files f + whole files g
whole_plus files f g =
    total_same (of_file (λ file statement. f file statement + g file statement)) (λ numbered. of_file f numbered + of_file g numbered)
    (λ numbered. total_plus (f numbered.0) (g numbered.0) (range_with_len 0 (length numbered.1.statements))) (enumerate_from 0 files)
    ∙ total_plus (of_file f) (of_file g) (enumerate_from 0 files)

-- the statements of one extent, each with a weight that it has there
pub one_part : (files : List FileTree) (e : Extent) → Within (λ file. statements_in file files) e → (weight : ℕ → ℕ)
    → total weight (all_statements e) ≤ whole files (λ file statement. cond (covers file statement e) (weight statement) 0)
one_part files e (order, last) weight = by (slice_get files e.file) refl where
  there : ℕ → ℕ → ℕ
  there file statement = cond (covers file statement e) (weight statement) 0

  covered : (file opening ending statement : ℕ) → opening ≤ statement → statement ≤ ending → covers file statement (record { file = file; opening = opening; ending = ending }) ≡ true
  covered file opening ending statement from to = grind (arith, nat_tests)

  no_more : (ending : ℕ) → ending < 0 → ⊥
  no_more ending less = omega (arith, less)

  by : (o : Option FileTree) → slice_get files e.file ≡ o → total weight (all_statements e) ≤ whole files there
  by None is = absurd (no_more e.ending (subst (λ (o : Option FileTree). e.ending < option_map_or (λ (tree : FileTree). length tree.statements) o 0) is last))
  by (Some tree) is =
      let less : e.ending < length tree.statements = subst (λ (o : Option FileTree). e.ending < option_map_or (λ (tree : FileTree). length tree.statements) o 0) is last in
      let here : total weight (all_statements e) ≤ of_file there (e.file, tree) =
      range_part weight (there e.file) 0 (length tree.statements) e.opening (e.ending + 1 - e.opening) (omega arith) (omega (arith, order, less))
      (λ s from to. le_of (weight s) (there e.file s) (sym (ap (λ b. cond b (weight s) 0) (covered e.file e.opening e.ending s from (omega (arith, order, to)))))) in
      let within : of_file there (e.file, tree) ≤ whole files there = numbered_part (of_file there) files 0 e.file e.file tree (zero_plus e.file) is in
      omega (arith, here, within)
    where
      le_of : (m n : ℕ) → m ≡ n → m ≤ n
      le_of m n same = omega (arith, same)

      zero_plus : (k : ℕ) → k ≡ 0 + k
      zero_plus k = omega arith

-- those of all these extents, where each statement has at most that weight in all of them
pub all_parts : (files : List FileTree) (es : List Extent) → Ordered (λ file. statements_in file files) es → (weight : Extent → ℕ → ℕ) (most : ℕ → ℕ → ℕ)
    → ((file statement : ℕ) → total (λ e. cond (covers file statement e) (weight e statement) 0) es ≤ most file statement)
    → total (λ e. total (weight e) (all_statements e)) es ≤ whole files most
all_parts files es ordered weight most few =
    let one : total (λ e. total (weight e) (all_statements e)) es ≤ total (λ e. whole files (there e)) es = each es ordered in
    let two : total (λ e. whole files (there e)) es ≡ whole files (λ file statement. total (λ e. there e file statement) es) = turned in
    let three : whole files (λ file statement. total (λ e. there e file statement) es) ≤ whole files most = whole_less files (λ file statement. total (λ e. there e file statement) es) most few in
    omega (arith, one, two, three)
  where
    there : Extent → ℕ → ℕ → ℕ
    there e file statement = cond (covers file statement e) (weight e statement) 0

    each : (es : List Extent) → Ordered (λ file. statements_in file files) es → total (λ e. total (weight e) (all_statements e)) es ≤ total (λ e. whole files (there e)) es
    each [] all = omega arith
    each (e ∷ es) (within, later, more) =
        let first : total (weight e) (all_statements e) ≤ whole files (there e) = one_part files e within (weight e) in
        let rest : total (λ e. total (weight e) (all_statements e)) es ≤ total (λ e. whole files (there e)) es = each es more in
        omega (arith, first, rest)

    turned : total (λ e. whole files (there e)) es ≡ whole files (λ file statement. total (λ e. there e file statement) es)
    turned =
        total_swap (λ e numbered. of_file (there e) numbered) es (enumerate_from 0 files)
        ∙ total_same (λ numbered. total (λ e. of_file (there e) numbered) es) (of_file (λ file statement. total (λ e. there e file statement) es))
        (λ numbered. total_swap (λ e statement. there e numbered.0 statement) es (range_with_len 0 (length numbered.1.statements))) (enumerate_from 0 files)

-- ---- of extents in order, one at most

pub none_later : (P : Extent → Type 0) (test : Extent → Bool) (e : Extent) (es : List Extent) → Each (Comes e) es → Each P es → ((f : Extent) → Comes e f → P f → test f ≡ true → ⊥) → NoneOf test es
none_later P test e [] later all apart = tt
none_later P test e (f ∷ es) (first, later) (here, all) apart = (by (test f) refl, none_later P test e es later all apart) where
  by : (b : Bool) → test f ≡ b → test f ≡ false
  by true is = absurd (apart f first here is)
  by false is = is

pub one_of : (count : ℕ → ℕ) (P : Extent → Type 0) (test : Extent → Bool) (es : List Extent) → Ordered count es → Each P es
    → ((e f : Extent) → Comes e f → P e → P f → test e ≡ true → test f ≡ true → ⊥) → OneOf test es
one_of count P test [] ordered all apart = tt
one_of count P test (e ∷ es) (within, later, more) (here, all) apart =
    (λ is. none_later P test e es later all (λ f comes known passes. apart e f comes here known is passes), one_of count P test es more all apart)

-- ---- how many statements there are

pub statements_count : (files : List FileTree) → whole files (λ file statement. 1) ≡ sum_by (λ (tree : FileTree). length tree.statements) files
statements_count files = from 0 files where
  ones : (xs : List ℕ) → total (λ (n : ℕ). 1) xs ≡ length xs
  ones [] = refl
  ones (x ∷ xs) = let rest : total (λ (n : ℕ). 1) xs ≡ length xs = ones xs in omega (arith, rest)

  from : (k : ℕ) (trees : List FileTree) → total (of_file (λ file statement. 1)) (enumerate_from k trees) ≡ sum_by (λ (tree : FileTree). length tree.statements) trees
  from k [] = refl
  from k (tree ∷ trees) =
      ap₂ (λ m n. m + n) (ones (range_with_len 0 (length tree.statements)) ∙ length-range_with_len 0 (length tree.statements)) (from (k + 1) trees)
      ∙ sym (sum_by-cons (λ (tree : FileTree). length tree.statements) tree trees)
