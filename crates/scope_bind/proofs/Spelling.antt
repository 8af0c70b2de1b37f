-- Names that are said anything of are names in lower case.
use Rattle.std.proofs.Common.{◌≡◌, ℕ, ◌+◌, ◌==◌, ◌<◌, Bool, true, false, cond, List, [], ◌∷◌, ◌++◌, filter, map, take, get_or, length, Option, Some, None, refl, sym, ap, subst, ◌∙◌}
use Rattle.std.specs.Prelude.{◌&&◌}
use Rattle.std.specs.List.{find, flat_map, AllByRecursion as Each}
use Rattle.std.specs.Option.{option_and_then, option_map, option_map_or}
use Rattle.std.proofs.lemmas.Bool.{and_parts, eqb-true}
use Rattle.std.proofs.lemmas.List.{map-append}
use Rattle.std.proofs.lemmas.List.Elements.{All-from_recursion, filter_more}
use Rattle.ftn_tree.specs.declared.form.Form.{Form, out-Form}
use Rattle.ftn_tree.specs.declared.mention.Mention.{Mention}
use Rattle.ftn_tree.specs.declared.table.Extent.{Extent}
use Rattle.ftn_tree.specs.declared.unit.FileTree.{FileTree}
use Rattle.ftn_tree.specs.DeclaredEntities.{own_mentions}
use Rattle.ftn_tree.specs.Extents.{form_at, host_of, is_body, is_some_extent, scope_of, scoping}
use Rattle.ftn_tree.specs.Mentions.{mentions_of}
use Rattle.ftn_tree.specs.Projects.{AreTrees}
use Rattle.ftn_tree.specs.Roles.{mention}
use Rattle.ftn_tree.specs.Sayings.{Saying, inner_at, inner_mention, inner_role, mentions_at, opened_at, said_at, saying, sayings}
use Rattle.ftn_tree.specs.Scopes.{all_statements, name_at, name_token, opening_name, own_statements}
use Rattle.decl_table.specs.steps.Spelled.{Each as Every, IsMaybe, IsSpelled}
use Rattle.decl_table.proofs.MentionNames.{mentions_named}
use Rattle.decl_table.proofs.OpeningNames.{opening_is}
use Rattle.scope_bind.proofs.Members.{each_flat, each_map, each_of}

pub from_every : {A : Type 0} (P : A → Type 0) (xs : List A) → Every P xs → Each P xs
from_every P [] all = tt
from_every P (x ∷ xs) all = (all.0, from_every P xs all.1)

find_true : {A : Type 0} (p : A → Bool) (xs : List A) (x : A) → find p xs ≡ Some x → p x ≡ true
find_true p [] x is = absurd cc
find_true {A} p (y ∷ ys) x is = by (p y) refl (find_true p ys x)
  where
    by : (b : Bool) → p y ≡ b → (find p ys ≡ Some x → p x ≡ true) → p x ≡ true
    by true here rest = let same : y ≡ x = cc in ap p (sym same) ∙ here
    by false past rest = rest (sym (ap (λ b. cond b (Some y) (find p ys)) past) ∙ is)

module _ (files : List FileTree) (are : AreTrees files) where
  abbrev IsTokenSpelled : ℕ → Mention → Type 0
  IsTokenSpelled file m = IsSpelled (name_at files file m.token)

  pub mentions_spelled : (file statement : ℕ) → Each (IsTokenSpelled file) (mentions_at files file statement)
  mentions_spelled file statement = from_every (IsTokenSpelled file) (mentions_at files file statement) (mentions_named files are file statement)

  opening_spelled : (inner : Extent) → IsMaybe (λ token. IsSpelled (name_at files inner.file token)) (name_token files inner)
  opening_spelled inner = by (form_at files inner.file inner.opening) (mentions_named files are inner.file inner.opening)
    where
      by : (found : Option Form) → Every (IsTokenSpelled inner.file) (option_map_or mentions_of found []) → IsMaybe (λ token. IsSpelled (name_at files inner.file token)) (option_and_then opening_name (option_map out-Form found))
      by None each = tt
      by (Some form) each = opening_is (λ token. IsSpelled (name_at files inner.file token)) (out-Form form) each

  inner_spelled : (e : Extent) (statement : ℕ) (found : Option Extent) → opened_at files e.file statement ≡ found → Each (IsTokenSpelled e.file) (inner_at files e found)
  inner_spelled e statement None is = tt
  inner_spelled e statement (Some inner) is = by (is_some_extent e (host_of files inner))
    where
      same_file : inner.file ≡ e.file
      same_file = eqb-true inner.file e.file (and_parts (inner.file == e.file) (inner.opening == statement) (find_true (λ (x : Extent). (x.file == e.file) && (x.opening == statement)) (scoping files) inner is)).0

      of_token : (token : Option ℕ) → IsMaybe (λ t. IsSpelled (name_at files e.file t)) token → Each (IsTokenSpelled e.file) (option_map_or (λ t. mention t (inner_role (is_body files inner)) ∷ []) token [])
      of_token None spelled = tt
      of_token (Some t) spelled = (spelled, tt)

      by : (b : Bool) → Each (IsTokenSpelled e.file) (cond b (inner_mention files inner) [])
      by true = of_token (name_token files inner) (subst (λ (file : ℕ). IsMaybe (λ t. IsSpelled (name_at files file t)) (name_token files inner)) same_file (opening_spelled inner))
      by false = tt

  said_spelled : (e : Extent) (statement : ℕ) → Each (IsTokenSpelled e.file) (said_at files e statement)
  said_spelled e statement = by (is_some_extent e (scope_of files e.file statement))
    where
      by : (b : Bool) → Each (IsTokenSpelled e.file) (cond b (mentions_at files e.file statement) (inner_at files e (opened_at files e.file statement)))
      by true = mentions_spelled e.file statement
      by false = inner_spelled e statement (opened_at files e.file statement) refl

  -- both the names and the tokens
  pub sayings_spelled : (e : Extent) → Each (λ (s : Saying). IsSpelled s.name × IsSpelled (name_at files e.file s.said.token)) (sayings files e)
  sayings_spelled e =
      each_map (λ (s : Saying). IsSpelled s.name × IsSpelled (name_at files e.file s.said.token)) (saying files e.file) (flat_map (said_at files e) (all_statements e))
      (each_flat (λ m. IsTokenSpelled e.file m × IsTokenSpelled e.file m) (said_at files e) (all_statements e)
      (each_of (λ statement. Each (λ m. IsTokenSpelled e.file m × IsTokenSpelled e.file m) (said_at files e statement)) (λ statement. twice e (said_at files e statement) (said_spelled e statement)) (all_statements e)))
    where
      twice : (x : Extent) (ms : List Mention) → Each (IsTokenSpelled x.file) ms → Each (λ m. IsTokenSpelled x.file m × IsTokenSpelled x.file m) ms
      twice x [] all = tt
      twice x (m ∷ ms) all = ((all.0, all.0), twice x ms all.1)

  pub own_spelled : (e : Extent) → Each (λ (m : Mention). IsSpelled (name_at files e.file m.token)) (own_mentions files e)
  own_spelled e =
      each_flat (IsTokenSpelled e.file) (mentions_at files e.file) (own_statements files e)
      (each_of (λ statement. Each (IsTokenSpelled e.file) (mentions_at files e.file statement)) (λ statement. mentions_spelled e.file statement) (own_statements files e))

-- ---- one saying more

module _ (what : Saying → Bool) (said : List Saying) (i : ℕ) (s : Saying) (lt : i < length said) (at : s ≡ get_or said i s) (names : List (List ℕ)) where
  abbrev so_far : ℕ → List (List ℕ)
  so_far k = map (λ (x : Saying). x.name) (filter what (take k said))

  told : (b : Bool) → what s ≡ b → so_far (i + 1) ≡ so_far i ++ map (λ (x : Saying). x.name) (cond b (s ∷ []) [])
  told b is =
      ap (map (λ (x : Saying). x.name)) (filter_more what said i s lt ∙ ap (λ x. filter what (take i said) ++ cond (what x) (x ∷ []) []) (sym at) ∙ ap (λ c. filter what (take i said) ++ cond c (s ∷ []) []) is)
      ∙ map-append (λ (x : Saying). x.name) (filter what (take i said)) (cond b (s ∷ []) [])

  pub name_more : what s ≡ true → names ≡ so_far i → names ++ s.name ∷ [] ≡ so_far (i + 1)
  name_more is same = ap (λ l. l ++ s.name ∷ []) same ∙ sym (told true is)

  pub name_same : what s ≡ false → names ≡ so_far i → names ≡ so_far (i + 1)
  name_same is same = same ∙ append_none (so_far i) ∙ sym (told false is)
    where
      append_none : (l : List (List ℕ)) → l ≡ l ++ []
      append_none [] = refl
      append_none (x ∷ l) = ap (λ m. x ∷ m) (append_none l)

-- one of the sayings of a scoping unit
pub spelled_at : (files : List FileTree) → AreTrees files → (e : Extent) (said : List Saying) → said ≡ sayings files e → (i : ℕ) (s : Saying) → i < length said → s ≡ get_or said i s → IsSpelled s.name
spelled_at files are e said is i s lt at =
    let all = All-from_recursion (λ (x : Saying). IsSpelled x.name × IsSpelled (name_at files e.file x.said.token)) (sayings files e) (sayings_spelled files are e) in
    let within : i < length (sayings files e) = subst (λ (l : List Saying). i < length l) is lt in
    let here : s ≡ get_or (sayings files e) i s = at ∙ ap (λ (l : List Saying). get_or l i s) is in
    subst (λ (x : Saying). IsSpelled x.name) (sym here) (all i s within).0
