-- All that a project drafts has names that its statements mention.
use Rattle.std.proofs.Common.{◌≡◌, ℕ, zero, suc, ◌<◌, arith, Bool, true, false, not, cond, ◌&&◌, List, [], ◌∷◌, ◌++◌, map, length, get_or, Option, Some, None, option_map, refl, sym, ap, subst, ◌∙◌}
use Rattle.std.specs.Prelude.{◌==◌}
use Rattle.std.specs.List.{cons_option, filter, find, flat_map, list_any}
use Rattle.std.specs.Option.{option_map_or, option_and_then}
use Rattle.std.proofs.lemmas.Bool.Decides.{nat_tests}
use Rattle.ftn_tree.specs.declared.form.Form.{Form, out-Form}
use Rattle.ftn_tree.specs.declared.mention.Mention.{Mention}
use Rattle.ftn_tree.specs.declared.mention.Role.TheVariants as role
use Rattle.ftn_tree.specs.declared.table.EntityKind.{EntityKind}
use Rattle.ftn_tree.specs.declared.table.Extent.{Extent}
use Rattle.ftn_tree.specs.declared.unit.FileTree.{FileTree}
use Rattle.ftn_tree.specs.Roles.{says, mention}
use Rattle.ftn_tree.specs.Mentions.{mentions_of}
use Rattle.ftn_tree.specs.Extents.{scoping, form_at, layer_at, scope_of, host_of, is_some_extent, is_body}
use Rattle.ftn_tree.specs.Scopes.{name_at, name_token, opening_name, all_statements}
use Rattle.ftn_tree.specs.GlobalNames.{Global, Place, place, firsts_after, same_name, is_common_at, block_names_at, block_names, blocks, program_units}
use Rattle.ftn_tree.specs.Sayings.{Saying, saying, sayings, said_at, mentions_at, inner_at, inner_role, inner_mention, opened_at}
use Rattle.ftn_tree.specs.Sayings as said
use Rattle.ftn_tree.specs.DeclaredEntities.{Drafted, draft_unit, draft_name, drafts_in, names_after, draft_block, draft_blank, blank_places, put_draft, in_order, comes_before, drafts}
use Rattle.decl_table.specs.declared.draft.Draft.{Draft}
use Rattle.decl_table.specs.steps.Drafts.{drafted_of}
use Rattle.decl_table.specs.steps.Seen.{is_among}
use Rattle.decl_table.specs.steps.Spelled.{Each, IsMaybe, IsSpelled, IsNamed}
use Rattle.ftn_tree.specs.Projects.{AreTrees}
use Rattle.decl_table.proofs.MentionNames.{mentions_named}
use Rattle.decl_table.proofs.OpeningNames.{opening_is}

-- ---- lists of which each has that

module _ {A : Type 0} (P : A → Type 0) where
  both : (xs ys : List A) → Each P xs → Each P ys → Each P (xs ++ ys)
  both [] ys one other = other
  both (x ∷ xs) ys one other = (one.0, both xs ys one.1 other)

  of_cond : (b : Bool) (xs ys : List A) → Each P xs → Each P ys → Each P (cond b xs ys)
  of_cond true xs ys one other = one
  of_cond false xs ys one other = other

  of_filter : (test : A → Bool) (xs : List A) → Each P xs → Each P (filter test xs)
  of_filter test [] each = tt
  of_filter test (x ∷ xs) each = of_cond (test x) (x ∷ filter test xs) (filter test xs) (each.0, of_filter test xs each.1) (of_filter test xs each.1)

  of_flat : {B : Type 0} (f : B → List A) → ((b : B) → Each P (f b)) → (bs : List B) → Each P (flat_map f bs)
  of_flat f each [] = tt
  of_flat f each (b ∷ bs) = both (f b) (flat_map f bs) (each b) (of_flat f each bs)

  of_map : {B : Type 0} (Q : B → Type 0) (f : B → A) → ((b : B) → Q b → P (f b)) → (bs : List B) → Each Q bs → Each P (map f bs)
  of_map Q f gives [] each = tt
  of_map Q f gives (b ∷ bs) each = (gives b each.0, of_map Q f gives bs each.1)

  of_map_all : {B : Type 0} (f : B → A) → ((b : B) → P (f b)) → (bs : List B) → Each P (map f bs)
  of_map_all f gives [] = tt
  of_map_all f gives (b ∷ bs) = (gives b, of_map_all f gives bs)

  of_flat_each : {B : Type 0} (Q : B → Type 0) (f : B → List A) → ((b : B) → Q b → Each P (f b)) → (bs : List B) → Each Q bs → Each P (flat_map f bs)
  of_flat_each Q f gives [] each = tt
  of_flat_each Q f gives (b ∷ bs) each = both (f b) (flat_map f bs) (gives b each.0) (of_flat_each Q f gives bs each.1)

  pub each_in : (xs : List A) (i : ℕ) (d : A) → i < length xs → Each P xs → P (get_or xs i d)
  each_in [] i d lt each = absurd (omega (arith, lt))
  each_in (x ∷ xs) zero d lt each = each.0
  each_in (x ∷ xs) (suc i) d lt each = each_in xs i d (omega (arith, lt)) each.1

pub each_at : (files : List FileTree) (ds : List Draft) (i : ℕ) (d : Draft) → i < length ds → Each IsNamed (map (drafted_of files) ds) → IsNamed (drafted_of files (get_or ds i d))
each_at files [] i d lt each = absurd (omega (arith, lt))
each_at files (x ∷ ds) zero d lt each = each.0
each_at files (x ∷ ds) (suc i) d lt each = each_at files ds i d (omega (arith, lt)) each.1

-- ---- the order keeps it

put_named : (d : Drafted) (ds : List Drafted) → IsNamed d → Each IsNamed ds → Each IsNamed (put_draft d ds)
put_named d [] named each = (named, tt)
put_named d (first ∷ rest) named each =
    of_cond IsNamed (comes_before d first) (d ∷ first ∷ rest) (first ∷ put_draft d rest) (named, each) (each.0, put_named d rest named each.1)

order_named : (ds : List Drafted) → Each IsNamed ds → Each IsNamed (in_order ds)
order_named [] each = tt
order_named (d ∷ ds) each = put_named d (in_order ds) each.0 (order_named ds each.1)

-- ---- what is drafted

named_where : (f : EntityKind → Drafted) → ((kind : EntityKind) → IsNamed (f kind)) → (found : Option EntityKind) → Each IsNamed (cons_option (option_map f found) [])
named_where f named None = tt
named_where f named (Some kind) = (named kind, tt)

module _ (files : List FileTree) (are : AreTrees files) where
  spelled : (file statement : ℕ) → Each (λ (m : Mention). IsSpelled (name_at files file m.token)) (mentions_at files file statement)
  spelled file statement = mentions_named files are file statement

  Named : ℕ → ℕ → Type 0
  Named file token = IsSpelled (name_at files file token)

  opening_spelled : (e : Extent) → IsMaybe (λ token. IsSpelled (name_at files e.file token)) (name_token files e)
  opening_spelled e = by (form_at files e.file e.opening) (spelled e.file e.opening) where
    by : (found : Option Form) → Each (λ (m : Mention). IsSpelled (name_at files e.file m.token)) (option_map_or mentions_of found [])
        → IsMaybe (λ token. IsSpelled (name_at files e.file token)) (option_and_then opening_name (option_map out-Form found))
    by None each = tt
    by (Some form) each = opening_is (λ token. IsSpelled (name_at files e.file token)) (out-Form form) each

  maybe_named : (file : ℕ) (found : Option ℕ) → IsMaybe (λ token. IsSpelled (name_at files file token)) found → IsMaybe IsSpelled (option_map (name_at files file) found)
  maybe_named file None is = tt
  maybe_named file (Some token) is = is

  unit_named : (e : Extent) → IsNamed (draft_unit files e)
  unit_named e = maybe_named e.file (name_token files e) (opening_spelled e)

  -- ---- names of sayings

  inner_spelled : (e : Extent) (statement : ℕ) → Each (λ (m : Mention). IsSpelled (name_at files e.file m.token)) (inner_at files e (opened_at files e.file statement))
  inner_spelled e statement = by (opened_at files e.file statement) refl where
    file_is : (es : List Extent) (inner : Extent) → find (λ x. (x.file == e.file) && (x.opening == statement)) es ≡ Some inner → inner.file ≡ e.file
    file_is [] inner is = absurd (cc is)
    file_is (x ∷ es) inner is = at ((x.file == e.file) && (x.opening == statement)) refl (file_is es inner) where
      at : (b : Bool) → ((x.file == e.file) && (x.opening == statement)) ≡ b
          → (find (λ x. (x.file == e.file) && (x.opening == statement)) es ≡ Some inner → inner.file ≡ e.file) → inner.file ≡ e.file
      at true here again =
          let same : Some x ≡ Some inner = sym (ap (λ b. cond b (Some x) (find (λ x. (x.file == e.file) && (x.opening == statement)) es)) here) ∙ is in
          let one : x ≡ inner = cc same in
          sym (ap (λ (y : Extent). y.file) one) ∙ grind (arith, nat_tests, here)
      at false here again = again (sym (ap (λ b. cond b (Some x) (find (λ x. (x.file == e.file) && (x.opening == statement)) es)) here) ∙ is)

    mention_in : (inner : Extent) → inner.file ≡ e.file → Each (λ (m : Mention). IsSpelled (name_at files e.file m.token)) (inner_mention files inner)
    mention_in inner same = at (name_token files inner) (subst (λ file. IsMaybe (λ token. IsSpelled (name_at files file token)) (name_token files inner)) same (opening_spelled inner)) where
      at : (found : Option ℕ) → IsMaybe (λ token. IsSpelled (name_at files e.file token)) found
          → Each (λ (m : Mention). IsSpelled (name_at files e.file m.token)) (option_map_or (λ token. mention token (inner_role (is_body files inner)) ∷ []) found [])
      at None is = tt
      at (Some token) is = (is, tt)

    by : (found : Option Extent) → opened_at files e.file statement ≡ found → Each (λ (m : Mention). IsSpelled (name_at files e.file m.token)) (inner_at files e found)
    by None is = tt
    by (Some inner) is =
        of_cond (λ (m : Mention). IsSpelled (name_at files e.file m.token)) (is_some_extent e (host_of files inner)) (inner_mention files inner) []
        (mention_in inner (file_is (scoping files) inner is)) tt

  said_spelled : (e : Extent) (statement : ℕ) → Each (λ (m : Mention). IsSpelled (name_at files e.file m.token)) (said_at files e statement)
  said_spelled e statement =
      of_cond (λ (m : Mention). IsSpelled (name_at files e.file m.token)) (is_some_extent e (scope_of files e.file statement)) (mentions_at files e.file statement)
      (inner_at files e (opened_at files e.file statement)) (spelled e.file statement) (inner_spelled e statement)

  sayings_spelled : (e : Extent) → Each (λ (s : Saying). IsSpelled s.name) (sayings files e)
  sayings_spelled e =
      of_map (λ (s : Saying). IsSpelled s.name) (λ (m : Mention). IsSpelled (name_at files e.file m.token)) (saying files e.file) (λ m is. is)
      (flat_map (said_at files e) (all_statements e))
      (of_flat (λ (m : Mention). IsSpelled (name_at files e.file m.token)) (said_at files e) (said_spelled e) (all_statements e))

  after_spelled : (names : List (List ℕ)) (said : List Saying) → Each (λ (s : Saying). IsSpelled s.name) said → Each IsSpelled (names_after names said)
  after_spelled names [] each = tt
  after_spelled names (s ∷ rest) each =
      of_cond IsSpelled (is_among s.name names) (names_after names rest) (s.name ∷ names_after (s.name ∷ names) rest) (after_spelled names rest each.1)
      (each.0, after_spelled (s.name ∷ names) rest each.1)

  name_named : (e : Extent) (name : List ℕ) (said : List Saying) → IsSpelled name → Each IsNamed (cons_option (draft_name files e name said) [])
  name_named e name said is = named_where _ (λ kind. is) _

  names_named : (e : Extent) → Each IsNamed (drafts_in files e)
  names_named e =
      of_flat_each IsNamed IsSpelled (λ name. cons_option (draft_name files e name (filter (said.same_name name) (sayings files e))) [])
      (λ name is. name_named e name (filter (said.same_name name) (sayings files e)) is) (names_after [] (sayings files e))
      (after_spelled [] (sayings files e) (sayings_spelled e))

  -- ---- blocks

  abbrev IsGiven : Global → Type 0
  IsGiven g = IsMaybe IsSpelled g.name

  statement_given : (file statement : ℕ) → Each IsGiven (block_names_at files file statement)
  statement_given file statement =
      of_cond IsGiven (is_common_at (layer_at files file statement))
      (map (λ (m : Mention). record { name = Some (name_at files file m.token); at = place file m.token }) (filter (λ m. says role.Slash m) (mentions_at files file statement))) []
      (of_map IsGiven (λ (m : Mention). IsSpelled (name_at files file m.token)) (λ (m : Mention). record { name = Some (name_at files file m.token); at = place file m.token }) (λ m is. is)
      (filter (λ m. says role.Slash m) (mentions_at files file statement))
      (of_filter (λ (m : Mention). IsSpelled (name_at files file m.token)) (λ m. says role.Slash m) (mentions_at files file statement) (spelled file statement))) tt

  names_given : Each IsGiven (block_names files)
  names_given =
      of_flat IsGiven (λ e. flat_map (block_names_at files e.file) (all_statements e))
      (λ e. of_flat IsGiven (block_names_at files e.file) (statement_given e.file) (all_statements e)) (program_units files)

  firsts_given : (seen gs : List Global) → Each IsGiven gs → Each IsGiven (firsts_after seen gs)
  firsts_given seen [] each = tt
  firsts_given seen (g ∷ rest) each =
      of_cond IsGiven (list_any (λ earlier. same_name earlier.name g.name) seen) (firsts_after seen rest) (g ∷ firsts_after (g ∷ seen) rest)
      (firsts_given seen rest each.1) (each.0, firsts_given (g ∷ seen) rest each.1)

  blank_named : (places : List Place) → Each IsNamed (draft_blank files places)
  blank_named [] = tt
  blank_named (first ∷ rest) = (tt, tt)

  pub all_spelled : Each IsNamed (in_order (drafts files))
  all_spelled =
      order_named (drafts files)
      (both IsNamed (map (draft_unit files) (filter (λ e. not (is_body files e)) (scoping files)))
      (flat_map (drafts_in files) (scoping files) ++ (map (draft_block files) (blocks files) ++ draft_blank files (blank_places files)))
      (of_map_all IsNamed (draft_unit files) unit_named (filter (λ e. not (is_body files e)) (scoping files)))
      (both IsNamed (flat_map (drafts_in files) (scoping files)) (map (draft_block files) (blocks files) ++ draft_blank files (blank_places files))
      (of_flat IsNamed (drafts_in files) names_named (scoping files))
      (both IsNamed (map (draft_block files) (blocks files)) (draft_blank files (blank_places files))
      (of_map IsNamed IsGiven (draft_block files) (λ g is. is) (blocks files) (firsts_given [] (block_names files) names_given)) (blank_named (blank_places files)))))
