-- What the names of a project denote, file after file.
use Rattle.std.proofs.Common.{◌≡◌, ℕ, zero, suc, ◌+◌, List, [], ◌∷◌, ◌++◌, length, map, Some, refl, sym, ap, ap₂, ◌∙◌, arith, append_assoc}
use Rattle.std.specs.Prelude.{slice_get}
use Rattle.std.specs.List.{flat_map, range_with_len, enumerate_from}
use Rattle.std.specs.Option.{option_map_or}
use Rattle.std.proofs.lemmas.List.{map-append}
use Rattle.ftn_tree.specs.declared.unit.FileTree.{FileTree}
use Rattle.ftn_tree.specs.Bindings.{Denoting, denoting, denotings_in}
use Rattle.ftn_tree.specs.Sayings.{mentions_at}
use Rattle.decl_table.specs.steps.Occurrences.{count_in}
use Rattle.scope_bind.specs.declared.occurrences.Denoted.{Denoted}
use Rattle.scope_bind.specs.steps.Occurrences.{denoted, denoted_at, denoted_in_file, all_denoted}

map_flat : {X Y Z : Type 0} (g : Y → Z) (f : X → List Y) (xs : List X) → map g (flat_map f xs) ≡ flat_map (λ x. map g (f x)) xs
map_flat g f [] = refl
map_flat {X} {Y} {Z} g f (x ∷ xs) = map-append g (f x) (flat_map f xs) ∙ ap (λ (more : List Z). map g (f x) ++ more) (map_flat g f xs)

module _ (files : List FileTree) where
  of_file : (file : ℕ) (tree : FileTree) → slice_get files file ≡ Some tree → map (denoted files) (denotings_in files file tree) ≡ denoted_in_file files file
  of_file file tree there =
      map_flat (denoted files) (λ statement. map (denoting files file statement) (mentions_at files file statement)) (range_with_len 0 (length tree.statements))
      ∙ ap (λ o. flat_map (denoted_at files file) (range_with_len 0 (option_map_or (λ (tree : FileTree). length tree.statements) o 0))) (sym there)

  from : (pre post : List FileTree) (at : ℕ) → files ≡ pre ++ post → at ≡ length pre
      → map (denoted files) (flat_map (λ one. denotings_in files one.0 one.1) (enumerate_from at post)) ≡ flat_map (denoted_in_file files) (range_with_len at (length post))
  from pre [] at split is = refl
  from pre (tree ∷ post) at split is =
      map-append (denoted files) (denotings_in files at tree) (flat_map (λ one. denotings_in files one.0 one.1) (enumerate_from (at + 1) post))
      ∙ ap₂ (λ (a b : List Denoted). a ++ b) (of_file at tree (ap (λ fs. slice_get fs at) split ∙ here pre at is))
      (from (pre ++ tree ∷ []) post (at + 1) (split ∙ sym (append_assoc pre (tree ∷ []) post)) (long pre at is))
    where
      here : (pre : List FileTree) (n : ℕ) → n ≡ length pre → slice_get (pre ++ tree ∷ post) n ≡ Some tree
      here [] n is = ap (slice_get (tree ∷ post)) is
      here (p ∷ pre) n is = ap (slice_get (p ∷ pre ++ tree ∷ post)) is ∙ here pre (length pre) refl

      long : (pre : List FileTree) (n : ℕ) → n ≡ length pre → n + 1 ≡ length (pre ++ tree ∷ [])
      long [] n is = omega (arith, is)
      long (p ∷ pre) n is = let rest : length pre + 1 ≡ length (pre ++ tree ∷ []) = long pre (length pre) refl in omega (arith, is, rest)

  pub all_told : flat_map (denoted_in_file files) (range_with_len 0 (length files)) ≡ all_denoted files
  all_told = sym (from [] files 0 refl refl)
