-- The first name of each block.
use Rattle.std.proofs.Common.{◌≡◌, ℕ, Bool, true, false, cond, ◌||◌, List, [], ◌∷◌, ◌++◌, map, append_assoc, Option, Some, None, option_map, bytes_eq, refl, sym, ap, ap₂, ◌∙◌, arith}
use Rattle.std.specs.List.{filter, flat_map, list_any}
use Rattle.std.specs.Option.{option_map_or}
use Rattle.std.proofs.lemmas.List.{map-append}
use Rattle.std.proofs.lemmas.Slice.Eq.{bytes_eq-Decides}
use Rattle.ftn_tree.specs.declared.form.Form.{Form, out-Form}
use Rattle.ftn_tree.specs.declared.mention.Mention.{Mention}
use Rattle.ftn_tree.specs.declared.mention.Role.TheVariants as role
use Rattle.ftn_tree.specs.declared.table.Extent.{Extent}
use Rattle.ftn_tree.specs.declared.unit.FileTree.{FileTree}
use Rattle.ftn_tree.specs.Roles.{says}
use Rattle.ftn_tree.specs.Mentions.{mentions_of}
use Rattle.ftn_tree.specs.Extents.{form_at}
use Rattle.ftn_tree.specs.Scopes.{name_at, all_statements}
use Rattle.ftn_tree.specs.GlobalNames.{Global, place, same_name, firsts_after, is_common_at, block_names_at, block_names, program_units}
use Rattle.ftn_tree.specs.DeclaredEntities.{Drafted, draft_block}
use Rattle.decl_table.specs.declared.block_names.TokenAt.{TokenAt}
use Rattle.decl_table.specs.declared.draft.Draft.{Draft}
use Rattle.decl_table.specs.steps.Blocks.{block_as, global_of, token_at, names_in, names_at, names_of}
use Rattle.decl_table.specs.steps.Drafts.{drafted_of}

abbrev pub is_given : List Global → List ℕ → Bool
is_given gs name = list_any (λ g. same_name g.name (Some name)) gs

pub same_known : (known : List ℕ → Bool) (key other : List ℕ) → known key ≡ true → (bytes_eq key other || known other) ≡ known other
same_known known key other there = by (bytes_eq key other) refl where
  by : (b : Bool) → bytes_eq key other ≡ b → (b || known other) ≡ known other
  by true same = sym (ap known (sym ((bytes_eq-Decides key other).0 (grind arith))) ∙ there)
  by false apart = refl

-- ---- one turn over the names

module _ (files : List FileTree) (gs : List Global) (at : TokenAt) (rest : List TokenAt) where
  abbrev left : List Global → List TokenAt → List Drafted
  left gs names = map (draft_block files) (firsts_after gs (map (global_of files) names))

  pub later_block : (whole : List Drafted) (found now : List Draft) → is_given gs (name_at files at.file at.token) ≡ true → whole ≡ map (drafted_of files) found ++ left gs (at ∷ rest)
      → now ≡ found → whole ≡ map (drafted_of files) now ++ left gs rest
  later_block whole found now there before same =
      before
      ∙ ap (λ b. map (drafted_of files) found ++ map (draft_block files) (cond b (firsts_after gs (map (global_of files) rest))
      (global_of files at ∷ firsts_after (global_of files at ∷ gs) (map (global_of files) rest)))) there
      ∙ ap (λ xs. map (drafted_of files) xs ++ left gs rest) (sym same)

  pub first_block : (whole : List Drafted) (found now : List Draft) (d : Draft) → is_given gs (name_at files at.file at.token) ≡ false
      → whole ≡ map (drafted_of files) found ++ left gs (at ∷ rest) → d ≡ block_as at false (Some at.token) → now ≡ found ++ d ∷ []
      → whole ≡ map (drafted_of files) now ++ left (global_of files at ∷ gs) rest
  first_block whole found now d apart before drawn pushed =
      before
      ∙ ap (λ b. map (drafted_of files) found ++ map (draft_block files) (cond b (firsts_after gs (map (global_of files) rest))
      (global_of files at ∷ firsts_after (global_of files at ∷ gs) (map (global_of files) rest)))) apart
      ∙ ap (λ x. map (drafted_of files) found ++ drafted_of files x ∷ left (global_of files at ∷ gs) rest) (sym drawn)
      ∙ sym (append_assoc (map (drafted_of files) found) (drafted_of files d ∷ []) (left (global_of files at ∷ gs) rest))
      ∙ ap (λ xs. xs ++ left (global_of files at ∷ gs) rest) (sym (ap (map (drafted_of files)) pushed ∙ map-append (drafted_of files) found (d ∷ [])))

-- ---- the names are those of the definition

map_of_flat : {X Y Z : Type 0} (f : Y → Z) (g : X → List Y) (h : X → List Z) → ((x : X) → map f (g x) ≡ h x) → (xs : List X) → map f (flat_map g xs) ≡ flat_map h xs
map_of_flat f g h same [] = refl
map_of_flat f g h same (x ∷ xs) = map-append f (g x) (flat_map g xs) ∙ ap₂ ◌++◌ (same x) (map_of_flat f g h same xs)

globals : (files : List FileTree) (file : ℕ) (ms : List Mention) → map (global_of files) (map (token_at file) ms)
    ≡ map (λ (m : Mention). record { name = Some (name_at files file m.token); at = place file m.token }) ms
globals files file [] = refl
globals files file (m ∷ ms) = ap (λ gs. record { name = Some (name_at files file m.token); at = place file m.token } ∷ gs) (globals files file ms)

names_given : (files : List FileTree) (file statement : ℕ) → map (global_of files) (names_at files file statement) ≡ block_names_at files file statement
names_given files file statement = by (form_at files file statement) where
  pick : (b : Bool) (ms : List Mention) → map (global_of files) (cond b (map (token_at file) ms) [])
      ≡ cond b (map (λ (m : Mention). record { name = Some (name_at files file m.token); at = place file m.token }) ms) []
  pick true ms = globals files file ms
  pick false ms = refl

  by : (found : Option Form) → map (global_of files) (option_map_or (names_in file) found [])
      ≡ cond (is_common_at (option_map out-Form found))
      (map (λ (m : Mention). record { name = Some (name_at files file m.token); at = place file m.token }) (filter (λ m. says role.Slash m) (option_map_or mentions_of found []))) []
  by None = refl
  by (Some form) = pick (is_common_at (Some (out-Form form))) (filter (λ m. says role.Slash m) (mentions_of form))

pub all_given : (files : List FileTree) (units : List Extent) → units ≡ program_units files → map (global_of files) (names_of files units) ≡ block_names files
all_given files units are =
    map_of_flat (global_of files) (λ e. flat_map (names_at files e.file) (all_statements e)) (λ e. flat_map (block_names_at files e.file) (all_statements e))
    (λ e. map_of_flat (global_of files) (names_at files e.file) (block_names_at files e.file) (names_given files e.file) (all_statements e)) units
    ∙ ap (flat_map (λ e. flat_map (block_names_at files e.file) (all_statements e))) are
