-- Where names occur, statement after statement and file after file.
use Rattle.std.proofs.Common.{◌≡◌, ℕ, zero, suc, ◌+◌, ◌≤◌, ◌<◌, ◌^◌, List, [], ◌∷◌, ◌++◌, length, drop, Option, Some, None, refl, sym, ap, ◌∙◌, subst, arith, append_assoc}
use Rattle.std.specs.Prelude.{slice_get}
use Rattle.std.specs.List.{All, flat_map, range_with_len, enumerate_from, sum_by}
use Rattle.std.specs.Option.{option_map_or}
use Rattle.std.proofs.lemmas.List.Sums.{sum_by-cons}
use Rattle.ftn_tree.specs.declared.mention.Mention.{Mention}
use Rattle.ftn_tree.specs.declared.table.Occurrence.{Occurrence}
use Rattle.ftn_tree.specs.declared.unit.FileTree.{FileTree}
use Rattle.ftn_tree.specs.DeclaredEntities.{number_at, occurrences_in}
use Rattle.ftn_tree.specs.Extents.{scoping}
use Rattle.ftn_tree.specs.Projects.{AreTrees}
use Rattle.ftn_tree.specs.Sayings.{mentions_at}
use Rattle.decl_table.specs.steps.Occurrences.{AreNamesAt, IsNameAt, count_in, or_first, occurrences_at, occurrences_of_file}
use Rattle.decl_table.specs.steps.Rows.{Row, rows_of}
use Rattle.decl_table.specs.steps.Rows as rows
use Rattle.decl_table.proofs.Arounds.{statement_scope}
use Rattle.decl_table.proofs.MentionNames.{mentions_named}
use Rattle.decl_table.proofs.Order.{Each}

all_of : {A : Type 0} (P : A → Type 0) (xs : List A) → Each P xs → All P xs
all_of P [] all k d less = absurd (omega arith)
all_of P (x ∷ xs) (first, all) zero d less = first
all_of P (x ∷ xs) (first, all) (suc k) d less = all_of P xs all k d (omega arith)

pub are_named : (files : List FileTree) → AreTrees files → (file statement : ℕ) (mentions : List Mention) → mentions ≡ mentions_at files file statement → AreNamesAt files file mentions
are_named files are file statement mentions is =
    subst (AreNamesAt files file) (sym is) (all_of (IsNameAt files file) (mentions_at files file statement) (mentions_named files are file statement))

pub scope_told : (files : List FileTree) → AreTrees files → (file statement : ℕ) → statement < count_in file files → (known : List Row) (found : Option ℕ) (scope : ℕ) → known ≡ rows_of files (scoping files)
    → found ≡ rows.number_at known file statement → scope ≡ or_first found → scope ≡ number_at files file statement
scope_told files are file statement less known found scope is told last =
    last ∙ ap or_first (told ∙ ap (λ known. rows.number_at known file statement) is ∙ statement_scope files are file statement less)

one_within : (files : List FileTree) (file : ℕ) → count_in file files ≤ sum_by (λ (tree : FileTree). length tree.statements) files
one_within [] file = omega arith
one_within (tree ∷ files) zero =
    let sum : sum_by (λ (tree : FileTree). length tree.statements) (tree ∷ files) ≡ length tree.statements + sum_by (λ (tree : FileTree). length tree.statements) files = sum_by-cons (λ (tree : FileTree). length tree.statements) tree files in
    omega (arith, sum)
one_within (tree ∷ files) (suc file) =
    let sum : sum_by (λ (tree : FileTree). length tree.statements) (tree ∷ files) ≡ length tree.statements + sum_by (λ (tree : FileTree). length tree.statements) files = sum_by-cons (λ (tree : FileTree). length tree.statements) tree files in
    let rest : count_in file files ≤ sum_by (λ (tree : FileTree). length tree.statements) files = one_within files file in
    omega (arith, sum, rest)

pub count_few : (files : List FileTree) → AreTrees files → (file : ℕ) → count_in file files < 2 ^ 32
count_few files are file =
    let within : count_in file files ≤ sum_by (λ (tree : FileTree). length tree.statements) files = one_within files file in
    let small : sum_by (λ (tree : FileTree). length tree.statements) files < 2 ^ 28 = are.small in
    omega (arith, within, small)

pub file_told : (files : List FileTree) (file : ℕ) → flat_map (occurrences_at files file) (range_with_len 0 (count_in file files)) ≡ occurrences_of_file files file
file_told files file = by (slice_get files file) where
  by : (found : Option FileTree) → flat_map (occurrences_at files file) (range_with_len 0 (option_map_or (λ (tree : FileTree). length tree.statements) found 0))
      ≡ option_map_or (occurrences_in files file) found []
  by None = refl
  by (Some tree) = refl

next : (n : ℕ) → suc n ≡ n + 1
next n = omega arith

listed_from : (f : ℕ → FileTree → List Occurrence) (files : List FileTree) (at n : ℕ) → at < length files
    → flat_map (λ one. f one.0 one.1) (enumerate_from n (drop at files))
    ≡ option_map_or (f n) (slice_get files at) [] ++ flat_map (λ one. f one.0 one.1) (enumerate_from (n + 1) (drop (suc at) files))
listed_from f [] at n less = absurd (omega arith)
listed_from f (tree ∷ files) zero n less = refl
listed_from f (tree ∷ files) (suc at) n less = listed_from f files at n (omega arith)

pub listed_next : (files : List FileTree) (whole old new : List Occurrence) (at : ℕ) → at < length files
    → whole ≡ old ++ flat_map (λ one. occurrences_in files one.0 one.1) (enumerate_from at (drop at files)) → new ≡ old ++ occurrences_of_file files at
    → whole ≡ new ++ flat_map (λ one. occurrences_in files one.0 one.1) (enumerate_from (at + 1) (drop (at + 1) files))
listed_next files whole old new at less is made =
    is
    ∙ ap (λ (more : List Occurrence). old ++ more) (listed_from (occurrences_in files) files at at less)
    ∙ sym (append_assoc old (occurrences_of_file files at) (flat_map (λ one. occurrences_in files one.0 one.1) (enumerate_from (at + 1) (drop (suc at) files))))
    ∙ ap (λ (front : List Occurrence). front ++ flat_map (λ one. occurrences_in files one.0 one.1) (enumerate_from (at + 1) (drop (suc at) files))) (sym made)
    ∙ ap (λ k. new ++ flat_map (λ one. occurrences_in files one.0 one.1) (enumerate_from (at + 1) (drop k files))) (next at)
