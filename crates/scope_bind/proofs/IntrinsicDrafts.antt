-- The intrinsic functions that names denote, each where it is first.
use Rattle.std.proofs.Common.{◌≡◌, ℕ, Bool, true, false, cond, List, [], ◌∷◌, ◌++◌, filter, length, map, append_assoc, Option, Some, None, refl, sym, ap, ap₂, ◌∙◌}
use Rattle.std.specs.Prelude.{is_some}
use Rattle.std.specs.List.{enumerate_from, flat_map, list_any, range_with_len, AllByRecursion as Each}
use Rattle.std.proofs.lemmas.List.{map-append}
use Rattle.ftn_tree.specs.declared.mention.Mention.{Mention}
use Rattle.ftn_tree.specs.declared.unit.FileTree.{FileTree}
use Rattle.ftn_tree.specs.Bindings.{Denoting, denoting, denotings, denotings_in, draft_intrinsic, intrinsic_at, is_key}
use Rattle.ftn_tree.specs.DeclaredEntities.{Drafted}
use Rattle.ftn_tree.specs.GlobalNames.{Global, firsts_after, same_name}
use Rattle.ftn_tree.specs.Meanings as spec
use Rattle.ftn_tree.specs.Meanings.{intrinsic_function}
use Rattle.ftn_tree.specs.Sayings.{mentions_at}
use Rattle.ftn_tree.specs.Scopes.{name_at}
use Rattle.decl_table.specs.declared.block_names.TokenAt.{TokenAt}
use Rattle.decl_table.specs.declared.draft.Draft.{Draft}
use Rattle.decl_table.specs.steps.Blocks.{global_of}
use Rattle.decl_table.specs.steps.Drafts.{drafted_of}
use Rattle.decl_table.proofs.FirstBlocks.{is_given}
use Rattle.scope_bind.specs.declared.occurrences.Denoted.{Denoted}
use Rattle.scope_bind.specs.steps.Entities.{intrinsic_as, is_intrinsic_at, is_intrinsic_number, token_of}
use Rattle.scope_bind.specs.steps.Meaning.{numbered}
use Rattle.scope_bind.specs.steps.NameFaults.{IsNumberedMeaning}
use Rattle.scope_bind.specs.steps.Numbering.{name_occurrence}
use Rattle.scope_bind.specs.steps.Occurrences.{all_denoted, denoted}
use Rattle.scope_bind.proofs.DenotedKeys.{mention_numbered, occurs_at}
use Rattle.scope_bind.proofs.KeyNumbers.{keys_apart}
use Rattle.scope_bind.proofs.Members.{each_flat, each_map, each_of, each_weaker}
use Rattle.scope_bind.proofs.OwnOccurrences.{Occurs, occur_at}

module _ (files : List FileTree) where
  -- its name is that of its token and occurs, and what it denotes has a number
  abbrev IsRight : Denoting → Type 0
  IsRight d = (d.name ≡ name_at files d.at.file d.at.token) × (is_some (name_occurrence files d.name) ≡ true) × IsNumberedMeaning files d.meaning

  denotings_right : Each IsRight (denotings files)
  denotings_right =
      each_flat IsRight (λ numbered. denotings_in files numbered.0 numbered.1) (enumerate_from 0 files)
      (each_of (λ numbered. Each IsRight (denotings_in files numbered.0 numbered.1)) (λ numbered. in_file numbered.0 numbered.1) (enumerate_from 0 files))
    where
      in_file : (file : ℕ) (tree : FileTree) → Each IsRight (denotings_in files file tree)
      in_file file tree =
          each_flat IsRight (λ statement. map (denoting files file statement) (mentions_at files file statement)) (range_with_len 0 (length tree.statements))
          (each_of (λ statement. Each IsRight (map (denoting files file statement) (mentions_at files file statement)))
          (λ statement. each_map IsRight (denoting files file statement) (mentions_at files file statement)
          (each_weaker (Occurs files file statement) (λ m. IsRight (denoting files file statement m))
          (λ m occurs. (refl, occurs_at files file statement m occurs, mention_numbered files file statement m occurs)) (mentions_at files file statement) (occur_at files file statement)))
          (range_with_len 0 (length tree.statements)))

  key_is : (d : Denoting) → IsRight d → is_intrinsic_number files (name_at files d.at.file d.at.token) (numbered files d.meaning) ≡ is_key (intrinsic_function d.name) d.meaning
  key_is d right = ap (λ n. is_intrinsic_number files n (numbered files d.meaning)) (sym right.0) ∙ by d.meaning right.2
    where
      by : (m : spec.Meaning) → IsNumberedMeaning files m → is_intrinsic_number files d.name (numbered files m) ≡ is_key (intrinsic_function d.name) m
      by spec.nothing is = refl
      by (spec.one key) is = keys_apart files (intrinsic_function d.name) key right.1 is
      by (spec.several first second rest) is = refl
      by spec.unknown is = refl

  tokens_told : (ds : List Denoting) → Each IsRight ds → map (global_of files) (map token_of (filter (is_intrinsic_at files) (map (denoted files) ds))) ≡ flat_map intrinsic_at ds
  tokens_told [] all = refl
  tokens_told (d ∷ ds) all =
      ap (λ b. map (global_of files) (map token_of (cond b (denoted files d ∷ filter (is_intrinsic_at files) (map (denoted files) ds)) (filter (is_intrinsic_at files) (map (denoted files) ds)))))
      (key_is d all.0)
      ∙ by (is_key (intrinsic_function d.name) d.meaning) (tokens_told ds all.1)
    where
      by : (b : Bool) → map (global_of files) (map token_of (filter (is_intrinsic_at files) (map (denoted files) ds))) ≡ flat_map intrinsic_at ds
          → map (global_of files) (map token_of (cond b (denoted files d ∷ filter (is_intrinsic_at files) (map (denoted files) ds)) (filter (is_intrinsic_at files) (map (denoted files) ds))))
          ≡ (cond b (record { name = Some d.name; at = d.at } ∷ []) [] ++ flat_map intrinsic_at ds)
      by true e = ap₂ (λ (n : List ℕ) (l : List Global). record { name = Some n; at = d.at } ∷ l) (sym all.0.0) e
      by false e = e

  pub intrinsics_told : (found : List TokenAt) (all : List Denoted) → all ≡ all_denoted files → found ≡ map token_of (filter (is_intrinsic_at files) all)
      → map (global_of files) found ≡ flat_map intrinsic_at (denotings files)
  intrinsics_told found all all_are is =
      ap (map (global_of files)) (is ∙ ap (λ ds. map token_of (filter (is_intrinsic_at files) ds)) all_are) ∙ tokens_told (denotings files) denotings_right

-- ---- one turn over the tokens

module _ (files : List FileTree) (gs : List Global) (at : TokenAt) (rest : List TokenAt) where
  abbrev left : List Global → List TokenAt → List Drafted
  left gs names = map (draft_intrinsic files) (firsts_after gs (map (global_of files) names))

  pub later_intrinsic : (whole : List Drafted) (found now : List Draft) → is_given gs (name_at files at.file at.token) ≡ true → whole ≡ map (drafted_of files) found ++ left gs (at ∷ rest)
      → now ≡ found → whole ≡ map (drafted_of files) now ++ left gs rest
  later_intrinsic whole found now there before same =
      before
      ∙ ap (λ b. map (drafted_of files) found ++ map (draft_intrinsic files) (cond b (firsts_after gs (map (global_of files) rest))
      (global_of files at ∷ firsts_after (global_of files at ∷ gs) (map (global_of files) rest)))) there
      ∙ ap (λ xs. map (drafted_of files) xs ++ left gs rest) (sym same)

  pub first_intrinsic : (whole : List Drafted) (found now : List Draft) (d : Draft) → is_given gs (name_at files at.file at.token) ≡ false
      → whole ≡ map (drafted_of files) found ++ left gs (at ∷ rest) → d ≡ intrinsic_as at → now ≡ found ++ d ∷ []
      → whole ≡ map (drafted_of files) now ++ left (global_of files at ∷ gs) rest
  first_intrinsic whole found now d apart before drawn pushed =
      before
      ∙ ap (λ b. map (drafted_of files) found ++ map (draft_intrinsic files) (cond b (firsts_after gs (map (global_of files) rest))
      (global_of files at ∷ firsts_after (global_of files at ∷ gs) (map (global_of files) rest)))) apart
      ∙ ap (λ x. map (drafted_of files) found ++ drafted_of files x ∷ left (global_of files at ∷ gs) rest) (sym drawn)
      ∙ sym (append_assoc (map (drafted_of files) found) (drafted_of files d ∷ []) (left (global_of files at ∷ gs) rest))
      ∙ ap (λ xs. xs ++ left (global_of files at ∷ gs) rest) (sym (ap (map (drafted_of files)) pushed ∙ map-append (drafted_of files) found (d ∷ [])))
