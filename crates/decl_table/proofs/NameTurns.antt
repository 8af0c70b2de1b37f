-- One turn over the sayings whose names are declared.
use Rattle.std.proofs.Common.{◌≡◌, ℕ, suc, ◌+◌, ◌<◌, Bool, true, false, not, cond, ◌||◌, List, [], ◌∷◌, ◌++◌, drop, length, get_or, drop-cons, append_assoc, Option, Some, None, bytes_eq, refl, sym, ap, ap₂, ◌∙◌, arith}
use Rattle.std.specs.List.{cons_option, filter}
use Rattle.std.proofs.lemmas.Slice.Eq.{bytes_eq-Decides}
use Rattle.ftn_tree.specs.declared.mention.Mention.{Mention}
use Rattle.ftn_tree.specs.declared.table.Extent.{Extent}
use Rattle.ftn_tree.specs.declared.unit.FileTree.{FileTree}
use Rattle.ftn_tree.specs.DeclaredEntities.{has_result_at}
use Rattle.ftn_tree.specs.Extents.{layer_at}
use Rattle.ftn_tree.specs.Sayings.{Saying, same_name}
use Rattle.decl_table.specs.declared.declared_names.Owner.{Owner}
use Rattle.decl_table.specs.declared.draft.Draft.{Draft}
use Rattle.decl_table.specs.declared.heard.Heard.{Heard}
use Rattle.decl_table.specs.declared.noted.Noted.{Noted}
use Rattle.decl_table.specs.steps.DeclaredNames.{draft_heard, drafts_by, drafts_of, owner_of}
use Rattle.decl_table.specs.steps.Heard.{heard_of}
use Rattle.decl_table.specs.steps.Noted.{noted_of}
use Rattle.decl_table.specs.steps.Seen.{is_among}

next_is : (i : ℕ) → suc i ≡ i + 1
next_is i = omega arith

pub opened_at : {X : Type 0} (all : List X) (i : ℕ) (x : X) → i < length all → x ≡ get_or all i x → drop i all ≡ x ∷ drop (i + 1) all
opened_at all i x lt at = drop-cons all i x lt ∙ ap (λ y. y ∷ drop (suc i) all) (sym at) ∙ ap (λ k. x ∷ drop k all) (next_is i)

pub same_names : (names : List (List ℕ)) (key other : List ℕ) → is_among key names ≡ true → (bytes_eq key other || is_among other names) ≡ is_among other names
same_names names key other there = by (bytes_eq key other) refl where
  by : (b : Bool) → bytes_eq key other ≡ b → (b || is_among other names) ≡ is_among other names
  by true same = sym (ap (λ k. is_among k names) (sym ((bytes_eq-Decides key other).0 (grind arith))) ∙ there)
  by false apart = refl

in_front : {X : Type 0} (d : Option X) (rest : List X) → cons_option d rest ≡ cons_option d [] ++ rest
in_front None rest = refl
in_front (Some x) rest = refl

-- whether it is among them, by the answer that it is the first
pub is_there : (first here : Bool) → first ≡ not here → first ≡ false → here ≡ true
is_there first true is no_first = refl
is_there first false is no_first = sym no_first ∙ is

pub not_there : (first here : Bool) → first ≡ not here → first ≡ true → here ≡ false
not_there first true is firstly = sym firstly ∙ is
not_there first false is firstly = refl

module _ (owner : Owner) (noted : List ℕ → Noted) (heard : List ℕ → Heard) (names : List (List ℕ)) (s : Saying) (rest : List Saying) where
  pub later_turn : (whole found now : List Draft) → is_among s.name names ≡ true → whole ≡ found ++ drafts_by owner noted heard names (s ∷ rest) → now ≡ found
      → whole ≡ now ++ drafts_by owner noted heard names rest
  later_turn whole found now there before same =
      before
      ∙ ap (λ b. found ++ cond b (drafts_by owner noted heard names rest)
      (cons_option (draft_heard owner s.said.token (noted s.name) (heard s.name)) (drafts_by owner noted heard (s.name ∷ names) rest))) there
      ∙ ap (λ xs. xs ++ drafts_by owner noted heard names rest) (sym same)

  pub first_turn : (whole found now : List Draft) (key : List ℕ) (token : ℕ) (n : Noted) (h : Heard) (d : Option Draft) → is_among s.name names ≡ false → key ≡ s.name
      → token ≡ s.said.token → n ≡ noted key → h ≡ heard key → d ≡ draft_heard owner token n h → whole ≡ found ++ drafts_by owner noted heard names (s ∷ rest)
      → now ≡ found ++ cons_option d [] → whole ≡ now ++ drafts_by owner noted heard (s.name ∷ names) rest
  first_turn whole found now key token n h d apart same_key same_token noted_is heard_is draft_is before pushed =
      before
      ∙ ap (λ b. found ++ cond b (drafts_by owner noted heard names rest) (cons_option made more)) apart
      ∙ ap (λ xs. found ++ xs) (in_front made more) ∙ sym (append_assoc found (cons_option made []) more)
      ∙ ap (λ xs. xs ++ more) (sym (pushed ∙ ap (λ x. found ++ cons_option x []) drawn))
    where
      made : Option Draft
      made = draft_heard owner s.said.token (noted s.name) (heard s.name)

      more : List Draft
      more = drafts_by owner noted heard (s.name ∷ names) rest

      drawn : d ≡ made
      drawn =
          draft_is ∙ ap (λ k. draft_heard owner k n h) same_token ∙ ap (λ x. draft_heard owner s.said.token x h) (noted_is ∙ ap noted same_key)
          ∙ ap (λ x. draft_heard owner s.said.token (noted s.name) x) (heard_is ∙ ap heard same_key)

-- the same of each name gives the same drafts
pub same_drafts : (owner : Owner) (noted noted' : List ℕ → Noted) (heard heard' : List ℕ → Heard) → ((name : List ℕ) → noted name ≡ noted' name)
    → ((name : List ℕ) → heard name ≡ heard' name) → (names : List (List ℕ)) (said : List Saying)
    → drafts_by owner noted heard names said ≡ drafts_by owner noted' heard' names said
same_drafts owner noted noted' heard heard' same alike names [] = refl
same_drafts owner noted noted' heard heard' same alike names (s ∷ rest) =
    ap₂ (cond (is_among s.name names)) (same_drafts owner noted noted' heard heard' same alike names rest)
    (ap₂ cons_option (ap₂ (draft_heard owner s.said.token) (same s.name) (alike s.name)) (same_drafts owner noted noted' heard heard' same alike (s.name ∷ names) rest))

pub declared_are : (files : List FileTree) (e : Extent) (number : ℕ) (said : List Saying) (own : List Mention) (owner : Owner) (has_result : Bool)
    → owner ≡ record { file = e.file; number = number; has_result = has_result }
    → has_result ≡ has_result_at (layer_at files e.file e.opening) → (noted : List ℕ → Noted) (heard : List ℕ → Heard)
    → ((name : List ℕ) → noted name ≡ noted_of files e.file name own) → ((name : List ℕ) → heard name ≡ heard_of (filter (same_name name) said))
    → drafts_by owner noted heard [] said ≡ drafts_of files e number said own
declared_are files e number said own owner has_result is result noted heard same alike =
    ap (λ o. drafts_by o noted heard [] said) (is ∙ ap (λ r. record { file = e.file; number = number; has_result = r }) result)
    ∙ same_drafts (owner_of files e number) noted (λ name. noted_of files e.file name own) heard (λ name. heard_of (filter (same_name name) said)) same alike [] said

pub opened_or : {X : Type 0} (all : List X) (i : ℕ) (d : X) → i < length all → drop i all ≡ get_or all i d ∷ drop (i + 1) all
opened_or all i d lt = drop-cons all i d lt ∙ ap (λ k. get_or all i d ∷ drop k all) (next_is i)
