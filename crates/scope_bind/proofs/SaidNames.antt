-- The names of which something is said in a scoping unit, each once, and what is found at them.
use Rattle.std.proofs.Common.{◌≡◌, ℕ, ◌+◌, ◌<◌, ◌≤◌, Bool, true, false, cond, List, [], ◌∷◌, ◌++◌, filter, length, get_or, map, take, Option, Some, refl, sym, ap, ap₂, ◌∙◌, bytes_eq}
use Rattle.std.specs.Prelude.{◌&&◌, ◌||◌, not, slice_get}
use Rattle.std.specs.List.{flat_map, list_any}
use Rattle.std.specs.Option.{option_map}
use Rattle.std.specs.Cmp.Lexicographic.{nat_list_eq_equiv}
use Rattle.std.proofs.lemmas.List.{take_all}
use Rattle.std.proofs.lemmas.Option.{slice_get-get_or, slice_get-map}
use Rattle.std.specs.List.{AllByRecursion as Each}
use Rattle.ftn_base.specs.Accessible.{once}
use Rattle.ftn_tree.specs.declared.mention.Mention.{Mention}
use Rattle.ftn_tree.specs.declared.table.Extent.{Extent}
use Rattle.ftn_tree.specs.declared.unit.FileTree.{FileTree}
use Rattle.ftn_tree.specs.DeclarationFaults.{Finding, first_finding}
use Rattle.ftn_tree.specs.DeclaredEntities.{names_after}
use Rattle.ftn_tree.specs.NameFaults.{name_findings, name_rank}
use Rattle.ftn_tree.specs.Projects.{AreTrees}
use Rattle.ftn_tree.specs.Sayings.{Saying, said_at, saying, sayings}
use Rattle.ftn_tree.specs.Scopes.{all_statements, name_at}
use Rattle.decl_table.specs.steps.Spelled.{IsSpelled}
use Rattle.scope_bind.specs.declared.finding.Kinds.TheVariants as kinds
use Rattle.scope_bind.specs.steps.Findings.{earlier}
use Rattle.scope_bind.specs.steps.NameFaults.{findings_of}
use Rattle.scope_bind.specs.steps.Owned.{names_at, tokens_of}
use Rattle.scope_bind.proofs.FindingTurns.{more_found}
use Rattle.scope_bind.proofs.KeyNumbers.{same_bytes}
use Rattle.scope_bind.proofs.Members.{each_at, each_map, each_weaker}
use Rattle.scope_bind.proofs.Natural.{each_once}
use Rattle.scope_bind.proofs.Spelling.{sayings_spelled}

-- ---- names that come one after the other

not_either : (a b : Bool) → not (a || b) ≡ (not a && not b)
not_either true b = refl
not_either false b = refl

abbrev new_to : List (List ℕ) → List ℕ → Bool
new_to seen name = not (list_any (λ (other : List ℕ). bytes_eq other name) seen)

-- a filter of a filter tests both
both_tests : {A : Type 0} (p q r : A → Bool) → ((x : A) → p x ≡ (q x && r x)) → (xs : List A) → filter p xs ≡ filter r (filter q xs)
both_tests p q r same [] = refl
both_tests {A} p q r same (x ∷ xs) = by (q x) refl (r x) refl (both_tests p q r same xs)
  where
    by : (a : Bool) → q x ≡ a → (b : Bool) → r x ≡ b → filter p xs ≡ filter r (filter q xs) → filter p (x ∷ xs) ≡ filter r (filter q (x ∷ xs))
    by true d true e more =
        ap (λ c. cond c (x ∷ filter p xs) (filter p xs)) (same x ∙ ap₂ ◌&&◌ d e) ∙ ap (λ (ys : List A). x ∷ ys) more
        ∙ sym (ap (λ c. filter r (cond c (x ∷ filter q xs) (filter q xs))) d ∙ ap (λ c. cond c (x ∷ filter r (filter q xs)) (filter r (filter q xs))) e)
    by true d false e more =
        ap (λ c. cond c (x ∷ filter p xs) (filter p xs)) (same x ∙ ap₂ ◌&&◌ d e) ∙ more
        ∙ sym (ap (λ c. filter r (cond c (x ∷ filter q xs) (filter q xs))) d ∙ ap (λ c. cond c (x ∷ filter r (filter q xs)) (filter r (filter q xs))) e)
    by false d b e more =
        ap (λ c. cond c (x ∷ filter p xs) (filter p xs)) (same x ∙ ap₂ ◌&&◌ d e) ∙ more
        ∙ sym (ap (λ c. filter r (cond c (x ∷ filter q xs) (filter q xs))) d)

kept_known : (seen : List (List ℕ)) (x : List ℕ) → list_any (λ (other : List ℕ). bytes_eq other x) seen ≡ true → (y : List ℕ) → new_to seen y ≡ (not (bytes_eq y x) && new_to seen y)
kept_known seen x there y = by (bytes_eq y x) refl where
  by : (b : Bool) → bytes_eq y x ≡ b → new_to seen y ≡ (not b && new_to seen y)
  by true same = ap not (ap (λ (z : List ℕ). list_any (λ (other : List ℕ). bytes_eq other z) seen) (same_bytes y x same) ∙ there)
  by false apart = refl

kept_new : (seen : List (List ℕ)) (x y : List ℕ) → new_to (x ∷ seen) y ≡ (not (bytes_eq y x) && new_to seen y)
kept_new seen x y =
    ap (λ b. not (b || list_any (λ (other : List ℕ). bytes_eq other y) seen)) (nat_list_eq_equiv.symm x y)
    ∙ not_either (bytes_eq y x) (list_any (λ (other : List ℕ). bytes_eq other y) seen)

names_new : (seen : List (List ℕ)) (said : List Saying) → names_after seen said ≡ filter (new_to seen) (once bytes_eq (map (λ (s : Saying). s.name) said))
names_new seen [] = refl
names_new seen (s ∷ rest) = by (list_any (λ (other : List ℕ). bytes_eq other s.name) seen) refl (names_new seen rest) (names_new (s.name ∷ seen) rest)
  where
    by : (b : Bool) → list_any (λ (other : List ℕ). bytes_eq other s.name) seen ≡ b
        → names_after seen rest ≡ filter (new_to seen) (once bytes_eq (map (λ (s : Saying). s.name) rest))
        → names_after (s.name ∷ seen) rest ≡ filter (new_to (s.name ∷ seen)) (once bytes_eq (map (λ (s : Saying). s.name) rest))
        → cond b (names_after seen rest) (s.name ∷ names_after (s.name ∷ seen) rest)
        ≡ cond (not (list_any (λ (other : List ℕ). bytes_eq other s.name) seen))
        (s.name ∷ filter (new_to seen) (filter (λ y. not (bytes_eq y s.name)) (once bytes_eq (map (λ (s : Saying). s.name) rest))))
        (filter (new_to seen) (filter (λ y. not (bytes_eq y s.name)) (once bytes_eq (map (λ (s : Saying). s.name) rest))))
    by true there more other =
        more ∙ both_tests (new_to seen) (λ y. not (bytes_eq y s.name)) (new_to seen) (kept_known seen s.name there) (once bytes_eq (map (λ (s : Saying). s.name) rest))
        ∙ sym (ap (λ b. cond (not b)
        (s.name ∷ filter (new_to seen) (filter (λ y. not (bytes_eq y s.name)) (once bytes_eq (map (λ (s : Saying). s.name) rest))))
        (filter (new_to seen) (filter (λ y. not (bytes_eq y s.name)) (once bytes_eq (map (λ (s : Saying). s.name) rest))))) there)
    by false apart more other =
        ap (λ (ns : List (List ℕ)). s.name ∷ ns)
        (other ∙ both_tests (new_to (s.name ∷ seen)) (λ y. not (bytes_eq y s.name)) (new_to seen) (kept_new seen s.name) (once bytes_eq (map (λ (s : Saying). s.name) rest)))
        ∙ sym (ap (λ b. cond (not b)
        (s.name ∷ filter (new_to seen) (filter (λ y. not (bytes_eq y s.name)) (once bytes_eq (map (λ (s : Saying). s.name) rest))))
        (filter (new_to seen) (filter (λ y. not (bytes_eq y s.name)) (once bytes_eq (map (λ (s : Saying). s.name) rest))))) apart)

filter_all : {A : Type 0} (xs : List A) → filter (λ x. true) xs ≡ xs
filter_all [] = refl
filter_all {A} (x ∷ xs) = ap (λ (ys : List A). x ∷ ys) (filter_all xs)

names_once : (said : List Saying) → names_after [] said ≡ once bytes_eq (map (λ (s : Saying). s.name) said)
names_once said = names_new [] said ∙ filter_all (once bytes_eq (map (λ (s : Saying). s.name) said))

-- ---- by their tokens

flat_again : {A B C : Type 0} (f : B → List C) (g : A → B) (xs : List A) → flat_map (λ x. f (g x)) xs ≡ flat_map f (map g xs)
flat_again f g [] = refl
flat_again {A} {B} {C} f g (x ∷ xs) = ap (λ (l : List C). f (g x) ++ l) (flat_again f g xs)

module _ (files : List FileTree) (e : Extent) where
  token_names : (ms : List Mention) → names_at files e.file (tokens_of (λ s. true) (map (saying files e.file) ms)) ≡ map (λ (s : Saying). s.name) (map (saying files e.file) ms)
  token_names [] = refl
  token_names (m ∷ ms) = ap (λ (l : List (List ℕ)). name_at files e.file m.token ∷ l) (token_names ms)

  -- the same by the lists that hold the tokens
  pub names_same : (file : ℕ) → file ≡ e.file → (items tokens given all : List ℕ) → names_at files file items ≡ once bytes_eq (names_at files file given) → tokens ≡ items → given ≡ all
      → names_at files e.file tokens ≡ once bytes_eq (names_at files e.file all)
  names_same file same items tokens given all is one other =
      ap (names_at files e.file) one ∙ ap (λ (f : ℕ). names_at files f items) (sym same) ∙ is ∙ ap (λ (f : ℕ). once bytes_eq (names_at files f given)) same
      ∙ ap (λ (ts : List ℕ). once bytes_eq (names_at files e.file ts)) other

  abbrev pub findings_at : ℕ → List Finding
  findings_at token = findings_of files e (name_at files e.file token)

  pub said_names : (tokens all : List ℕ) → names_at files e.file tokens ≡ once bytes_eq (names_at files e.file all) → all ≡ tokens_of (λ s. true) (sayings files e)
      → names_at files e.file tokens ≡ names_after [] (sayings files e)
  said_names tokens all is same =
      is ∙ ap (λ (ts : List ℕ). once bytes_eq (names_at files e.file ts)) same ∙ ap (once bytes_eq) (token_names (flat_map (said_at files e) (all_statements e))) ∙ sym (names_once (sayings files e))

  pub said_spelled : AreTrees files → (tokens all : List ℕ) → names_at files e.file tokens ≡ once bytes_eq (names_at files e.file all) → all ≡ tokens_of (λ s. true) (sayings files e)
      → (i token : ℕ) → i < length tokens → token ≡ get_or tokens i token → IsSpelled (name_at files e.file token)
  said_spelled are tokens all is same i token less at =
      each_at IsSpelled (names_after [] (sayings files e)) i (name_at files e.file token) spelled
      (ap (λ names. slice_get names i) (sym (said_names tokens all is same)) ∙ slice_get-map (name_at files e.file) tokens i
      ∙ ap (option_map (name_at files e.file)) (slice_get-get_or tokens i token less ∙ ap Some (sym at)))
    where
      rewritten : {A : Type 0} (P : A → Type 0) (xs ys : List A) → xs ≡ ys → Each P xs → Each P ys
      rewritten P xs ys same each = rw (← same) each

      spelled : Each IsSpelled (names_after [] (sayings files e))
      spelled =
          rewritten IsSpelled (once bytes_eq (map (λ (s : Saying). s.name) (sayings files e))) (names_after [] (sayings files e)) (sym (names_once (sayings files e)))
          (each_once IsSpelled bytes_eq (map (λ (s : Saying). s.name) (sayings files e))
          (each_map IsSpelled (λ (s : Saying). s.name) (sayings files e)
          (each_weaker (λ (s : Saying). IsSpelled s.name × IsSpelled (name_at files e.file s.said.token)) (λ (s : Saying). IsSpelled s.name) (λ s both. both.0) (sayings files e) (sayings_spelled files are e))))

  -- one more token
  pub name_found : (tokens : List ℕ) (i token : ℕ) → i < length tokens → token ≡ get_or tokens i token → (spelled : List ℕ) → spelled ≡ name_at files e.file token → (first next result : Option Finding)
      → first ≡ first_finding name_rank (flat_map findings_at (take i tokens)) → next ≡ first_finding name_rank (findings_of files e spelled) → result ≡ earlier kinds.Names first next
      → result ≡ first_finding name_rank (flat_map findings_at (take (i + 1) tokens))
  name_found tokens i token less at spelled same first next result before found made =
      more_found kinds.Names findings_at tokens i token (slice_get-get_or tokens i token less ∙ ap Some (sym at)) first next result before
      (found ∙ ap (λ (n : List ℕ). first_finding name_rank (findings_of files e n)) same) made

  -- the last one
  pub names_found : (tokens all : List ℕ) → names_at files e.file tokens ≡ once bytes_eq (names_at files e.file all) → all ≡ tokens_of (λ s. true) (sayings files e) → (i : ℕ) → length tokens ≤ i
      → (first : Option Finding) → first ≡ first_finding name_rank (flat_map findings_at (take i tokens)) → first ≡ first_finding name_rank (name_findings files e)
  names_found tokens all is same i past first found =
      found ∙ ap (λ (ts : List ℕ). first_finding name_rank (flat_map findings_at ts)) (take_all i tokens past)
      ∙ ap (first_finding name_rank) (flat_again (findings_of files e) (name_at files e.file) tokens ∙ ap (flat_map (findings_of files e)) (said_names tokens all is same))
