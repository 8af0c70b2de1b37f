-- Names that their first letters type, token after token.
use Rattle.std.proofs.Common.{◌≡◌, ℕ, ◌+◌, ◌<◌, Bool, true, false, cond, List, [], ◌∷◌, ◌++◌, filter, length, get_or, map, take, Option, Some, None, refl, sym, ap, ap₂, ◌∙◌, subst, append-nil, append_assoc}
use Rattle.std.specs.Prelude.{slice_get}
use Rattle.std.specs.List.{flat_map, AllByRecursion as Each}
use Rattle.std.specs.Str.{bytes_eq}
use Rattle.std.proofs.lemmas.List.{map-append}
use Rattle.std.proofs.lemmas.Option.{slice_get-get_or, slice_get-map}
use Rattle.std.specs.Option.{option_map}
use Rattle.ftn_base.specs.Accessible.{once}
use Rattle.ftn_tree.specs.declared.mention.Mention.{Mention}
use Rattle.ftn_tree.specs.declared.table.EntityKind.TheVariants as kinds
use Rattle.ftn_tree.specs.declared.table.Extent.{Extent}
use Rattle.ftn_tree.specs.declared.unit.FileTree.{FileTree}
use Rattle.ftn_tree.specs.Bindings.{draft_letter, is_letter_typed, letter_drafts}
use Rattle.ftn_tree.specs.DeclaredEntities.{Drafted, drafted, first_occurrence, own_mentions}
use Rattle.ftn_tree.specs.Extents.{scoping}
use Rattle.ftn_tree.specs.GlobalNames.{place}
use Rattle.ftn_tree.specs.Meanings.{names_in}
use Rattle.ftn_tree.specs.Projects.{AreTrees}
use Rattle.ftn_tree.specs.Scopes.{name_at}
use Rattle.decl_table.specs.declared.draft.Draft.{Draft}
use Rattle.decl_table.specs.declared.noted.Noted.{Noted}
use Rattle.decl_table.specs.steps.Drafts.{drafted_of}
use Rattle.decl_table.specs.steps.Noted.{noted_of}
use Rattle.decl_table.specs.steps.Spelled.{IsSpelled}
use Rattle.scope_bind.specs.steps.Entities.{letter_at}
use Rattle.scope_bind.specs.steps.Globals.{unit_at}
use Rattle.scope_bind.specs.steps.Owned.{names_at, mentioned}
use Rattle.scope_bind.proofs.FindingTurns.{flat_taken, over_single}
use Rattle.scope_bind.proofs.Members.{each_at, each_map}
use Rattle.scope_bind.proofs.Natural.{each_once}
use Rattle.scope_bind.proofs.Owning.{mentioned_names}
use Rattle.scope_bind.proofs.Spelling.{own_spelled}
use Rattle.scope_bind.proofs.Units.{unit_number, unit_there}

module _ (files : List FileTree) (e : Extent) where
  over_names : (tokens : List ℕ) → flat_map (letter_at files e) tokens ≡ flat_map (λ name. cond (is_letter_typed files e name) (draft_letter files e name ∷ []) []) (names_at files e.file tokens)
  over_names [] = refl
  over_names (token ∷ tokens) = ap (λ more. letter_at files e token ++ more) (over_names tokens)

  pub letters_given : (tokens : List ℕ) → names_at files e.file tokens ≡ once bytes_eq (names_at files e.file (mentioned (own_mentions files e))) → flat_map (letter_at files e) tokens ≡ letter_drafts files e
  letters_given tokens is =
      over_names tokens
      ∙ ap (flat_map (λ name. cond (is_letter_typed files e name) (draft_letter files e name ∷ []) [])) (mentioned_names files e tokens is)
      ∙ over_single (is_letter_typed files e) (draft_letter files e) (names_in files e)

  pub spelled_names : AreTrees files → Each IsSpelled (names_in files e)
  spelled_names are =
      each_once IsSpelled bytes_eq (map (λ (m : Mention). name_at files e.file m.token) (own_mentions files e))
      (each_map IsSpelled (λ (m : Mention). name_at files e.file m.token) (own_mentions files e) (own_spelled files are e))

  pub token_spelled : AreTrees files → (tokens : List ℕ) → names_at files e.file tokens ≡ once bytes_eq (names_at files e.file (mentioned (own_mentions files e))) → (i token : ℕ) → i < length tokens
      → token ≡ get_or tokens i token → IsSpelled (name_at files e.file token)
  token_spelled are tokens is i token less at =
      each_at IsSpelled (names_in files e) i (name_at files e.file token) (spelled_names are)
      (ap (λ names. slice_get names i) (sym (mentioned_names files e tokens is)) ∙ slice_get-map (name_at files e.file) tokens i
      ∙ ap (option_map (name_at files e.file)) (slice_get-get_or tokens i token less ∙ ap Some (sym at)))

  -- one more token
  pub letter_pushed : (start made now : List Draft) (tokens : List ℕ) (i token : ℕ) → i < length tokens → token ≡ get_or tokens i token
      → map (drafted_of files) made ≡ map (drafted_of files) start ++ flat_map (letter_at files e) (take i tokens) → map (drafted_of files) now ≡ map (drafted_of files) made ++ letter_at files e token
      → map (drafted_of files) now ≡ map (drafted_of files) start ++ flat_map (letter_at files e) (take (i + 1) tokens)
  letter_pushed start made now tokens i token less at before pushed =
      pushed ∙ ap (λ (xs : List Drafted). xs ++ letter_at files e token) before
      ∙ append_assoc (map (drafted_of files) start) (flat_map (letter_at files e) (take i tokens)) (letter_at files e token)
      ∙ ap (λ (xs : List Drafted). map (drafted_of files) start ++ xs) (sym (flat_taken (letter_at files e) tokens i token (slice_get-get_or tokens i token less ∙ ap Some (sym at))))

-- the draft of a name that its first letter types
pub letter_drafted : (files : List FileTree) → AreTrees files → (scope : ℕ) → scope < length (scoping files) → (token : ℕ) (u : Extent) (name there : List ℕ) (noted : Noted) (test : Bool) → u ≡ unit_at files scope
    → name ≡ name_at files u.file token → test ≡ is_letter_typed files (unit_at files scope) name → test ≡ true
    → noted ≡ noted_of files (unit_at files scope).file there (own_mentions files (unit_at files scope)) → there ≡ name
    → map (drafted_of files) (record { file = u.file; token = noted.first; last = false; name = Some token; home = Some scope; kind = kinds.Variable; implicit = true; opens = None } ∷ [])
    ≡ letter_at files (unit_at files scope) token
letter_drafted files are scope within token u name there noted test unit_is name_is test_is passes noted_is there_is =
    ap (λ (x : Extent). drafted files (place x.file noted.first) false (Some (name_at files x.file token)) (Some scope) kinds.Variable true None ∷ []) unit_is
    ∙ ap₂ (λ (n : ℕ) (home : Option ℕ). drafted files (place e.file n) false (Some named) home kinds.Variable true None ∷ [])
    (ap (λ (n : Noted). n.first) noted_is ∙ ap (first_occurrence files e) (there_is ∙ same)) (sym (unit_number files are scope within))
    ∙ ap (λ b. cond b (draft_letter files e named ∷ []) []) (sym (ap (is_letter_typed files e) (sym same) ∙ sym test_is ∙ passes))
  where
    e : Extent
    e = unit_at files scope

    named : List ℕ
    named = name_at files (unit_at files scope).file token

    same : name ≡ name_at files (unit_at files scope).file token
    same = name_is ∙ ap (λ (x : Extent). name_at files x.file token) unit_is

-- one more scoping unit
pub unit_pushed : (files : List FileTree) (n : ℕ) → n < length (scoping files) → (start made now : List Drafted) → made ≡ start ++ flat_map (letter_drafts files) (take n (scoping files))
    → now ≡ made ++ letter_drafts files (unit_at files n) → now ≡ start ++ flat_map (letter_drafts files) (take (n + 1) (scoping files))
unit_pushed files n less start made now before pushed =
    pushed ∙ ap (λ (xs : List Drafted). xs ++ letter_drafts files (unit_at files n)) before
    ∙ append_assoc start (flat_map (letter_drafts files) (take n (scoping files))) (letter_drafts files (unit_at files n))
    ∙ ap (λ (xs : List Drafted). start ++ xs) (sym (flat_taken (letter_drafts files) (scoping files) n (unit_at files n) (unit_there files n less)))
