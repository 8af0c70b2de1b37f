-- The drafts of a scoping unit's names stand for what the definition drafts.
use Rattle.std.proofs.Common.{◌≡◌, ℕ, Bool, true, false, not, cond, ◌||◌, ◌&&◌, ◌+◌, List, [], ◌∷◌, ◌++◌, map, take, append_assoc, Option, Some, None, option_map, refl, sym, ap, ap₂, ◌∙◌, if◌then◌else◌}
use Rattle.std.specs.Prelude.{is_some, slice_get}
use Rattle.std.proofs.lemmas.Grind.{flat_map-append}
use Rattle.std.proofs.lemmas.List.{append-nil, map-append}
use Rattle.std.specs.List.{cons_option, filter, find, list_any, flat_map}
use Rattle.std.specs.Option.{option_map_or, unwrap_or}
use Rattle.ftn_tree.specs.declared.mention.Mention.{Mention}
use Rattle.ftn_tree.specs.declared.mention.Role.TheVariants as role
use Rattle.ftn_tree.specs.declared.table.EntityKind.{EntityKind}
use Rattle.ftn_tree.specs.declared.table.EntityKind.TheVariants as kinds
use Rattle.ftn_tree.specs.declared.table.Extent.{Extent}
use Rattle.ftn_tree.specs.declared.unit.FileTree.{FileTree}
use Rattle.ftn_tree.specs.Scopes.{name_at, scope_number}
use Rattle.ftn_tree.specs.GlobalNames.{place}
use Rattle.ftn_tree.specs.Sayings.{Saying, saying, sayings, same_name, typed, dummy, answer, outside, parameter, declares}
use Rattle.ftn_tree.specs.DeclaredEntities.{Drafted, drafted, has_type, kind_said, own_place, own_mentions, draft_name, drafts_in, names_after, first_occurrence, is_referenced}
use Rattle.decl_table.specs.declared.draft.Draft.{Draft}
use Rattle.decl_table.specs.declared.noted.Noted.{Noted}
use Rattle.decl_table.specs.steps.DeclaredNames.{draft_as, draft_heard, drafts_by, drafts_of, owner_of, place_heard}
use Rattle.decl_table.specs.steps.Drafts.{drafted_of}
use Rattle.decl_table.specs.steps.Heard.{heard_of, kind_heard, is, shaped}
use Rattle.decl_table.specs.steps.Noted.{noted_of}
use Rattle.decl_table.specs.steps.Seen.{is_among}
use Rattle.decl_table.proofs.Turns.{taken}

-- ---- what is heard of a name tells what it declares

is_found : {X : Type 0} (test : X → Bool) (f : X → ℕ) (all : List X) → list_any test all ≡ is_some (option_map f (find test all))
is_found test f [] = refl
is_found test f (x ∷ all) = by (is_found test f all) (test x) where
  by : list_any test all ≡ is_some (option_map f (find test all)) → (b : Bool) → (b || list_any test all) ≡ is_some (option_map f (cond b (Some x) (find test all)))
  by rest true = refl
  by rest false = rest

pub kind_is : (has_result referenced : Bool) (said : List Saying) → kind_said has_result referenced said ≡ kind_heard has_result referenced (heard_of said)
kind_is has_result referenced said =
    ap₂ (λ generic label.
    if list_any dummy said then Some kinds.Dummy
    else if list_any answer said then (if has_result then Some kinds.Answer else None)
    else if list_any (is role.Inner) said then None
    else if generic then Some kinds.Generic
    else if label then Some kinds.Construct
    else if list_any outside said || (referenced && (list_any typed said && not (list_any shaped said))) then None
    else if list_any parameter said then Some kinds.Constant
    else if list_any declares said then Some kinds.Variable
    else None)
    (is_found (is role.Generic) (λ (s : Saying). s.said.token) said) (is_found (is role.Label) (λ (s : Saying). s.said.token) said)

token_or : (found : Option Saying) (first : ℕ) → unwrap_or (option_map (λ (s : Saying). s.said.token) found) first ≡ option_map_or (λ (s : Saying). s.said.token) found first
token_or None first = refl
token_or (Some s) first = refl

pub place_is : (kind : EntityKind) (first : ℕ) (said : List Saying) → place_heard kind first (heard_of said) ≡ own_place kind first said
place_is kinds.Program first said = refl
place_is kinds.Module first said = refl
place_is kinds.BlockData first said = refl
place_is kinds.Subroutine first said = refl
place_is kinds.Function first said = refl
place_is kinds.Variable first said = refl
place_is kinds.Constant first said = refl
place_is kinds.Dummy first said = refl
place_is kinds.Answer first said = refl
place_is kinds.Block first said = refl
place_is kinds.Generic first said = token_or (find (is role.Generic) said) first
place_is kinds.Construct first said = token_or (find (is role.Label) said) first
place_is kinds.Intrinsic first said = refl

-- ---- one name

map_twice : {X Y Z : Type 0} (f : Y → Z) (g : X → Y) (x : Option X) → option_map f (option_map g x) ≡ option_map (λ x. f (g x)) x
map_twice f g None = refl
map_twice f g (Some x) = refl

same_map : {X Y : Type 0} (f g : X → Y) → ((x : X) → f x ≡ g x) → (x : Option X) → option_map f x ≡ option_map g x
same_map f g same None = refl
same_map f g same (Some x) = ap Some (same x)

map_cons : {X Y : Type 0} (f : X → Y) (x : Option X) (rest : List X) → map f (cons_option x rest) ≡ cons_option (option_map f x) [] ++ map f rest
map_cons f None rest = refl
map_cons f (Some x) rest = refl

module _ (files : List FileTree) (e : Extent) (number : ℕ) (numbered : scope_number files e ≡ Some number) where
  abbrev noted : List ℕ → Noted
  noted name = noted_of files e.file name (own_mentions files e)

  name_drafted : (token : ℕ) (said : List Saying)
      → option_map (drafted_of files) (draft_heard (owner_of files e number) token (noted (name_at files e.file token)) (heard_of said))
      ≡ draft_name files e (name_at files e.file token) said
  name_drafted token said =
      map_twice (drafted_of files) (draft_as (owner_of files e number) token (noted (name_at files e.file token)) (heard_of said)) _
      ∙ same_map _ (λ kind. drafted files (place e.file (own_place kind (first_occurrence files e (name_at files e.file token)) said)) false (Some (name_at files e.file token))
      (scope_number files e) kind (has_type kind && not (list_any typed said)) None)
      (λ kind. ap₂ (λ at home. drafted files (place e.file at) false (Some (name_at files e.file token)) home kind (has_type kind && not (list_any typed said)) None)
      (place_is kind (first_occurrence files e (name_at files e.file token)) said) (sym numbered)) _
      ∙ ap (option_map (λ kind. drafted files (place e.file (own_place kind (first_occurrence files e (name_at files e.file token)) said)) false (Some (name_at files e.file token))
      (scope_number files e) kind (has_type kind && not (list_any typed said)) None))
      (sym (kind_is (owner_of files e number).has_result (is_referenced files e (name_at files e.file token)) said))

  -- ---- all names

  module _ (whole : List Saying) where
    abbrev drafts_at : List ℕ → List Drafted
    drafts_at name = cons_option (draft_name files e name (filter (same_name name) whole)) []

    abbrev made : List (List ℕ) → List Saying → List Draft
    made names said = drafts_by (owner_of files e number) noted (λ name. heard_of (filter (same_name name) whole)) names said

    names_drafted : (ms : List Mention) (names : List (List ℕ)) → map (drafted_of files) (made names (map (saying files e.file) ms))
        ≡ flat_map drafts_at (names_after names (map (saying files e.file) ms))
    names_drafted [] names = refl
    names_drafted (m ∷ ms) names = by (is_among (name_at files e.file m.token) names) (names_drafted ms names) (names_drafted ms (name_at files e.file m.token ∷ names)) where
      by : (b : Bool) → map (drafted_of files) (made names (map (saying files e.file) ms)) ≡ flat_map drafts_at (names_after names (map (saying files e.file) ms))
          → map (drafted_of files) (made (name_at files e.file m.token ∷ names) (map (saying files e.file) ms))
          ≡ flat_map drafts_at (names_after (name_at files e.file m.token ∷ names) (map (saying files e.file) ms))
          → map (drafted_of files) (cond b (made names (map (saying files e.file) ms))
          (cons_option (draft_heard (owner_of files e number) m.token (noted (name_at files e.file m.token)) (heard_of (filter (same_name (name_at files e.file m.token)) whole)))
          (made (name_at files e.file m.token ∷ names) (map (saying files e.file) ms))))
          ≡ flat_map drafts_at (cond b (names_after names (map (saying files e.file) ms))
          (name_at files e.file m.token ∷ names_after (name_at files e.file m.token ∷ names) (map (saying files e.file) ms)))
      by true there apart = there
      by false there apart =
          map_cons (drafted_of files) (draft_heard (owner_of files e number) m.token (noted (name_at files e.file m.token)) (heard_of (filter (same_name (name_at files e.file m.token)) whole)))
          (made (name_at files e.file m.token ∷ names) (map (saying files e.file) ms))
          ∙ ap₂ ◌++◌ (ap (λ x. cons_option x []) (name_drafted m.token (filter (same_name (name_at files e.file m.token)) whole))) apart

  pub all_drafted : map (drafted_of files) (drafts_of files e number (sayings files e) (own_mentions files e)) ≡ drafts_in files e
  all_drafted = names_drafted (sayings files e) _ []

-- one more scoping unit
pub more_names : (files : List FileTree) (all : List Extent) (i : ℕ) (e : Extent) → slice_get all i ≡ Some e → (start made now : List Draft) (number : ℕ) → number ≡ i
    → scope_number files e ≡ Some i → (said : List Saying) (own : List Mention) → said ≡ sayings files e → own ≡ own_mentions files e
    → map (drafted_of files) made ≡ map (drafted_of files) start ++ flat_map (drafts_in files) (take i all) → now ≡ made ++ drafts_of files e number said own
    → map (drafted_of files) now ≡ map (drafted_of files) start ++ flat_map (drafts_in files) (take (i + 1) all)
more_names files all i e here start made now number same numbered said own said_is own_is before pushed =
    ap (map (drafted_of files)) (pushed ∙ ap (λ xs. made ++ xs) (ap (λ n. drafts_of files e n said own) same ∙ ap₂ (drafts_of files e i) said_is own_is))
    ∙ map-append (drafted_of files) made (drafts_of files e i (sayings files e) (own_mentions files e))
    ∙ ap₂ ◌++◌ before (all_drafted files e i numbered)
    ∙ append_assoc (map (drafted_of files) start) (flat_map (drafts_in files) (take i all)) (drafts_in files e)
    ∙ ap (λ xs. map (drafted_of files) start ++ xs) (ap (λ xs. flat_map (drafts_in files) (take i all) ++ xs) (sym (append-nil (drafts_in files e)))
    ∙ sym (flat_map-append (drafts_in files) (take i all) (e ∷ [])) ∙ ap (flat_map (drafts_in files)) (sym (taken all i e here)))
