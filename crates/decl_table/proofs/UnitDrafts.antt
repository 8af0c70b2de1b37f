-- Drafts of units stand for what the definition drafts, one more unit at a time.
use Rattle.std.proofs.Common.{◌≡◌, ℕ, ◌+◌, Bool, true, false, cond, List, [], ◌∷◌, ◌++◌, map, take, append_assoc, Option, Some, None, option_map, refl, sym, ap, ap₂, ◌∙◌}
use Rattle.std.specs.List.{filter}
use Rattle.std.specs.Prelude.{slice_get}
use Rattle.std.specs.Option.{option_map_or, unwrap_or}
use Rattle.std.proofs.lemmas.List.{append-nil, map-append}
use Rattle.std.proofs.lemmas.List.Elements.{filter-append}
use Rattle.ftn_tree.specs.declared.table.Extent.{Extent}
use Rattle.ftn_tree.specs.declared.unit.FileTree.{FileTree}
use Rattle.ftn_tree.specs.Extents.{layer_at}
use Rattle.ftn_tree.specs.Scopes.{name_at, name_token, first_token_at, scope_number, host_number}
use Rattle.ftn_tree.specs.GlobalNames.{place}
use Rattle.ftn_tree.specs.DeclaredEntities.{drafted, draft_unit, unit_kind_at, is_untyped_at}
use Rattle.decl_table.specs.declared.draft.Draft.{Draft}
use Rattle.decl_table.specs.steps.Drafts.{drafted_of}
use Rattle.decl_table.specs.steps.UnitDrafts.{draft_by}
use Rattle.decl_table.proofs.Turns.{taken}

token_is : (found : Option ℕ) (other : ℕ) → unwrap_or found other ≡ option_map_or (λ token. token) found other
token_is None other = refl
token_is (Some token) other = refl

unit_drafted : (files : List FileTree) (e : Extent) (number : ℕ) (host : Option ℕ) → scope_number files e ≡ Some number → host ≡ host_number files e
    → drafted_of files (draft_by files e number host) ≡ draft_unit files e
unit_drafted files e number host numbered hosted =
    ap₂ (λ token home. drafted files (place e.file token) false (option_map (name_at files e.file) (name_token files e)) home (unit_kind_at (layer_at files e.file e.opening))
    (is_untyped_at files e (layer_at files e.file e.opening)) (Some number)) (token_is (name_token files e) (first_token_at files e.file e.opening)) hosted
    ∙ ap (λ n. drafted files (place e.file (option_map_or (λ token. token) (name_token files e) (first_token_at files e.file e.opening))) false
    (option_map (name_at files e.file) (name_token files e)) (host_number files e) (unit_kind_at (layer_at files e.file e.opening))
    (is_untyped_at files e (layer_at files e.file e.opening)) n) (sym numbered)

-- one more element that passes, or not
more_passes : {X Y : Type 0} (f : X → Y) (test : X → Bool) (all : List X) (i : ℕ) (x : X) → slice_get all i ≡ Some x
    → map f (filter test (take (i + 1) all)) ≡ map f (filter test (take i all)) ++ map f (cond (test x) (x ∷ []) [])
more_passes f test all i x at =
    ap (λ xs. map f (filter test xs)) (taken all i x at) ∙ ap (map f) (filter-append test (take i all) (x ∷ []))
    ∙ map-append f (filter test (take i all)) (filter test (x ∷ []))

module _ (files : List FileTree) (test : Extent → Bool) (all : List Extent) (i : ℕ) (e : Extent) (at : slice_get all i ≡ Some e) where
  pub passed_over : (start made now : List Draft) → test e ≡ false
      → map (drafted_of files) made ≡ map (drafted_of files) start ++ map (draft_unit files) (filter test (take i all)) → now ≡ made
      → map (drafted_of files) now ≡ map (drafted_of files) start ++ map (draft_unit files) (filter test (take (i + 1) all))
  passed_over start made now no_unit before same =
      ap (map (drafted_of files)) same ∙ before
      ∙ ap (λ xs. map (drafted_of files) start ++ xs) (sym (more_passes (draft_unit files) test all i e at
      ∙ ap (λ b. map (draft_unit files) (filter test (take i all)) ++ map (draft_unit files) (cond b (e ∷ []) [])) no_unit
      ∙ append-nil (map (draft_unit files) (filter test (take i all)))))

  pub added : (start made now : List Draft) (host : Option ℕ) (d : Draft) → test e ≡ true
      → map (drafted_of files) made ≡ map (drafted_of files) start ++ map (draft_unit files) (filter test (take i all)) → now ≡ made ++ d ∷ []
      → d ≡ draft_by files e i host → scope_number files e ≡ Some i → host ≡ host_number files e
      → map (drafted_of files) now ≡ map (drafted_of files) start ++ map (draft_unit files) (filter test (take (i + 1) all))
  added start made now host d unit before pushed drawn numbered hosted =
      ap (map (drafted_of files)) pushed ∙ map-append (drafted_of files) made (d ∷ [])
      ∙ ap₂ (λ xs x. xs ++ x ∷ []) before (ap (drafted_of files) drawn ∙ unit_drafted files e i host numbered hosted)
      ∙ append_assoc (map (drafted_of files) start) (map (draft_unit files) (filter test (take i all))) (draft_unit files e ∷ [])
      ∙ ap (λ xs. map (drafted_of files) start ++ xs) (sym (more_passes (draft_unit files) test all i e at
      ∙ ap (λ b. map (draft_unit files) (filter test (take i all)) ++ map (draft_unit files) (cond b (e ∷ []) [])) unit))
