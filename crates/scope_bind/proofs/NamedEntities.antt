-- All entities of a project have names that its statements mention, or none.
use Rattle.std.proofs.Common.{◌≡◌, ℕ, Bool, true, false, cond, List, [], ◌∷◌, ◌++◌, append_assoc, filter, length, map, Some, refl, ap, ◌∙◌}
use Rattle.std.specs.List.{enumerate_from, flat_map, list_any, range_with_len, AllByRecursion as Each}
use Rattle.ftn_tree.specs.declared.mention.Mention.{Mention}
use Rattle.ftn_tree.specs.declared.table.Extent.{Extent}
use Rattle.ftn_tree.specs.declared.unit.FileTree.{FileTree}
use Rattle.ftn_tree.specs.Bindings.{Denoting, denoting, denotings, denotings_in, draft_intrinsic, draft_letter, intrinsic_at, intrinsic_drafts, is_key, is_letter_typed, letter_drafts}
use Rattle.ftn_tree.specs.DeclaredEntities.{Drafted, comes_before, drafts, in_order, put_draft}
use Rattle.ftn_tree.specs.Extents.{scoping}
use Rattle.ftn_tree.specs.GlobalNames.{Global, firsts_after, same_name}
use Rattle.ftn_tree.specs.Meanings.{intrinsic_function, names_in}
use Rattle.ftn_tree.specs.Projects.{AreTrees}
use Rattle.ftn_tree.specs.Sayings.{mentions_at}
use Rattle.ftn_tree.specs.Scopes.{name_at}
use Rattle.decl_table.specs.declared.draft.Draft.{Draft}
use Rattle.decl_table.specs.steps.Drafts.{ahead, drafted_of}
use Rattle.decl_table.specs.steps.Ordering.{in_order as sorted}
use Rattle.decl_table.specs.steps.Spelled.{Each as Every, IsMaybe, IsNamed, IsSpelled}
use Rattle.decl_table.proofs.AllDrafts.{order_stands}
use Rattle.decl_table.proofs.SpelledDrafts.{all_spelled}
use Rattle.scope_bind.proofs.LetterDrafts.{spelled_names}
use Rattle.scope_bind.proofs.Members.{each_append, each_filter, each_flat, each_map, each_of, each_weaker}
use Rattle.scope_bind.proofs.Owning.{to_every}
use Rattle.scope_bind.proofs.Spelling.{from_every, mentions_spelled}

-- ---- the order keeps it

module _ (P : Drafted → Type 0) where
  put_each : (d : Drafted) (ds : List Drafted) → P d → Each P ds → Each P (put_draft d ds)
  put_each d [] one all = (one, tt)
  put_each d (first ∷ rest) one all = by (comes_before d first) (put_each d rest one all.1)
    where
      by : (b : Bool) → Each P (put_draft d rest) → Each P (cond b (d ∷ first ∷ rest) (first ∷ put_draft d rest))
      by true more = (one, all)
      by false more = (all.0, more)

  order_each : (ds : List Drafted) → Each P ds → Each P (in_order ds)
  order_each [] all = tt
  order_each (d ∷ ds) all = put_each d (in_order ds) all.0 (order_each ds all.1)

  put_back : (d : Drafted) (ds : List Drafted) → Each P (put_draft d ds) → P d × Each P ds
  put_back d [] all = (all.0, tt)
  put_back d (first ∷ rest) all = by (comes_before d first) (put_back d rest) all
    where
      by : (b : Bool) → (Each P (put_draft d rest) → P d × Each P rest) → Each P (cond b (d ∷ first ∷ rest) (first ∷ put_draft d rest)) → P d × Each P (first ∷ rest)
      by true more all = (all.0, all.1)
      by false more all = ((more all.1).0, (all.0, (more all.1).1))

  order_back : (ds : List Drafted) → Each P (in_order ds) → Each P ds
  order_back [] all = tt
  order_back (d ∷ ds) all = ((put_back d (in_order ds) all).0, order_back ds (put_back d (in_order ds) all).1)

-- ---- what letters type, and intrinsic functions

abbrev IsGiven : Global → Type 0
IsGiven g = IsMaybe IsSpelled g.name

firsts_given : (seen gs : List Global) → Each IsGiven gs → Each IsGiven (firsts_after seen gs)
firsts_given seen [] all = tt
firsts_given seen (g ∷ gs) all = by (list_any (λ earlier. same_name earlier.name g.name) seen) (firsts_given seen gs all.1) (firsts_given (g ∷ seen) gs all.1)
  where
    by : (b : Bool) → Each IsGiven (firsts_after seen gs) → Each IsGiven (firsts_after (g ∷ seen) gs) → Each IsGiven (cond b (firsts_after seen gs) (g ∷ firsts_after (g ∷ seen) gs))
    by true there apart = there
    by false there apart = (all.0, apart)

module _ (files : List FileTree) (are : AreTrees files) where
  letters_named : (e : Extent) → Each IsNamed (letter_drafts files e)
  letters_named e =
      each_map IsNamed (draft_letter files e) (filter (is_letter_typed files e) (names_in files e))
      (each_filter IsSpelled (is_letter_typed files e) (names_in files e) (spelled_names files e are))

  denotings_spelled : Each (λ (d : Denoting). IsSpelled d.name) (denotings files)
  denotings_spelled =
      each_flat (λ (d : Denoting). IsSpelled d.name) (λ numbered. denotings_in files numbered.0 numbered.1) (enumerate_from 0 files)
      (each_of (λ numbered. Each (λ (d : Denoting). IsSpelled d.name) (denotings_in files numbered.0 numbered.1)) (λ numbered. in_file numbered.0 numbered.1) (enumerate_from 0 files))
    where
      in_file : (file : ℕ) (tree : FileTree) → Each (λ (d : Denoting). IsSpelled d.name) (denotings_in files file tree)
      in_file file tree =
          each_flat (λ (d : Denoting). IsSpelled d.name) (λ statement. map (denoting files file statement) (mentions_at files file statement)) (range_with_len 0 (length tree.statements))
          (each_of (λ statement. Each (λ (d : Denoting). IsSpelled d.name) (map (denoting files file statement) (mentions_at files file statement)))
          (λ statement. each_map (λ (d : Denoting). IsSpelled d.name) (denoting files file statement) (mentions_at files file statement) (mentions_spelled files are file statement))
          (range_with_len 0 (length tree.statements)))

  intrinsics_given : Each IsGiven (flat_map intrinsic_at (denotings files))
  intrinsics_given =
      each_flat IsGiven intrinsic_at (denotings files)
      (each_weaker (λ (d : Denoting). IsSpelled d.name) (λ d. Each IsGiven (intrinsic_at d)) (λ d spelled. by d spelled (is_key (intrinsic_function d.name) d.meaning)) (denotings files) denotings_spelled)
    where
      by : (d : Denoting) → IsSpelled d.name → (b : Bool) → Each IsGiven (cond b (record { name = Some d.name; at = d.at } ∷ []) [])
      by d spelled true = (spelled, tt)
      by d spelled false = tt

  pub entities_named : Every IsNamed (in_order (drafts files ++ (flat_map (letter_drafts files) (scoping files) ++ intrinsic_drafts files)))
  entities_named =
      to_every IsNamed (in_order (drafts files ++ (flat_map (letter_drafts files) (scoping files) ++ intrinsic_drafts files)))
      (order_each IsNamed (drafts files ++ (flat_map (letter_drafts files) (scoping files) ++ intrinsic_drafts files))
      (each_append IsNamed (drafts files) (flat_map (letter_drafts files) (scoping files) ++ intrinsic_drafts files)
      (order_back IsNamed (drafts files) (from_every IsNamed (in_order (drafts files)) (all_spelled files are)))
      (each_append IsNamed (flat_map (letter_drafts files) (scoping files)) (intrinsic_drafts files)
      (each_flat IsNamed (letter_drafts files) (scoping files) (each_of (λ e. Each IsNamed (letter_drafts files e)) letters_named (scoping files)))
      (each_map IsNamed (draft_intrinsic files) (firsts_after [] (flat_map intrinsic_at (denotings files))) (firsts_given [] (flat_map intrinsic_at (denotings files)) intrinsics_given)))))

-- ---- in order

pub all_ordered : (files : List FileTree) (first second third given made : List Draft) → map (drafted_of files) first ≡ drafts files
    → map (drafted_of files) second ≡ map (drafted_of files) first ++ flat_map (letter_drafts files) (scoping files)
    → map (drafted_of files) third ≡ map (drafted_of files) second ++ intrinsic_drafts files → given ≡ third → made ≡ sorted ahead given
    → map (drafted_of files) made ≡ in_order (drafts files ++ (flat_map (letter_drafts files) (scoping files) ++ intrinsic_drafts files))
all_ordered files first second third given made declared letters intrinsics same ordered =
    ap (map (drafted_of files)) ordered ∙ order_stands files given
    ∙ ap in_order
    (ap (map (drafted_of files)) same ∙ intrinsics
    ∙ ap (λ (ds : List Drafted). ds ++ intrinsic_drafts files) (letters ∙ ap (λ (ds : List Drafted). ds ++ flat_map (letter_drafts files) (scoping files)) declared)
    ∙ append_assoc (drafts files) (flat_map (letter_drafts files) (scoping files)) (intrinsic_drafts files))
