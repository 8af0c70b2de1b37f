-- The dummy arguments and the result that the opening of a procedure names have numbers.
use Rattle.std.proofs.Common.{◌≡◌, ℕ, Bool, true, List, [], ◌∷◌, ◌++◌, Option, Some, None, option_map, sym, ap, ◌∙◌}
use Rattle.std.specs.Prelude.{slice_get}
use Rattle.std.specs.List.{list_any}
use Rattle.std.specs.Option.{option_and_then, option_map_or}
use Rattle.std.specs.Cmp.Lexicographic.{nat_list_eq_equiv}
use Rattle.std.specs.Str.{bytes_eq}
use Rattle.std.proofs.lemmas.List.Folds.{list_any-append}
use Rattle.ftn_tree.specs.declared.form.Form.{Form, out-Form}
use Rattle.ftn_tree.specs.declared.form.Form.TheOpen.{Form-F}
use Rattle.ftn_tree.specs.declared.mention.Mention.{Mention}
use Rattle.ftn_tree.specs.declared.mention.Role.TheVariants as role
use Rattle.ftn_tree.specs.declared.table.Extent.{Extent}
use Rattle.ftn_tree.specs.declared.unit.FileTree.{FileTree}
use Rattle.ftn_tree.specs.Extents.{form_at, layer_at, scoping}
use Rattle.ftn_tree.specs.KeyKinds.{datum}
use Rattle.ftn_tree.specs.Layers.{FormLayer}
use Rattle.ftn_tree.specs.Mentions as mentioned
use Rattle.ftn_tree.specs.Mentions.{answer_mentions, function_mention, in_prefix, mentions_of}
use Rattle.ftn_tree.specs.NameFaults.{name_fault}
use Rattle.ftn_tree.specs.PartMentions.{all_named}
use Rattle.ftn_tree.specs.Procedures.{dummy_tokens, result_token}
use Rattle.ftn_tree.specs.Projects.{AreTrees}
use Rattle.ftn_tree.specs.Roles.{mention}
use Rattle.ftn_tree.specs.Sayings.{mentions_at, same_name}
use Rattle.ftn_tree.specs.Scopes.{name_at}
use Rattle.decl_table.proofs.OwnStatements.{number_of as number_there}
use Rattle.const_value.specs.steps.Names.{all_said, number_of}
use Rattle.const_value.proofs.KeysThere.{named_there}
use Rattle.const_value.proofs.Members.{any_map, or_left, or_right}
use Rattle.const_value.proofs.NoBodies.{no_bodies}
use Rattle.const_value.proofs.OwnSayings.{name_among, opening_said}
use Rattle.type_check.specs.steps.Natures.{IsDatum}

-- ---- what an opening says

module _ (p : ℕ → Bool) where
  abbrev of_mention : Mention → Bool
  of_mention m = p m.token

  any_at : (xs : List ℕ) (i : ℕ) (x : ℕ) → slice_get xs i ≡ Some x → p x ≡ true → list_any p xs ≡ true
  any_at [] i x at is = absurd (cc at)
  any_at (y ∷ xs) ℕ.zero x at is = let same : y ≡ x = cc at in or_left (p y) (list_any p xs) (ap p same ∙ is)
  any_at (y ∷ xs) (ℕ.suc i) x at is = or_right (p y) (list_any p xs) (any_at xs i x at is)

  named : (names : List ℕ) → list_any p names ≡ true → list_any of_mention (all_named role.Dummy names) ≡ true
  named names is = sym (any_map of_mention (λ token. mention token role.Dummy) names) ∙ is

  right : (xs ys : List Mention) → list_any of_mention ys ≡ true → list_any of_mention (xs ++ ys) ≡ true
  right xs ys is = list_any-append of_mention xs ys ∙ or_right (list_any of_mention xs) (list_any of_mention ys) is

  left : (xs ys : List Mention) → list_any of_mention xs ≡ true → list_any of_mention (xs ++ ys) ≡ true
  left xs ys is = list_any-append of_mention xs ys ∙ or_left (list_any of_mention xs) (list_any of_mention ys) is

  dummies_in : (layer : FormLayer) → list_any p (dummy_tokens (Some layer)) ≡ true → list_any of_mention (mentioned.mentions_at layer) ≡ true
  dummies_in (Form-F.Subroutine name (Some dummies)) is = or_right (p name) _ (named dummies is)
  dummies_in (Form-F.Function ty name dummies answer) is =
      right (in_prefix ty) _ (or_right (of_mention (function_mention ty name answer)) _ (left (all_named role.Dummy dummies) (answer_mentions ty answer) (named dummies is)))
  dummies_in other is = absurd (cc is)

  result_in : (layer : FormLayer) (token : ℕ) → result_token (Some layer) ≡ Some token → p token ≡ true → list_any of_mention (mentioned.mentions_at layer) ≡ true
  result_in (Form-F.Function ty name dummies None) token at is =
      let same : name ≡ token = cc at in right (in_prefix ty) _ (or_left (p name) _ (ap p same ∙ is))
  result_in (Form-F.Function ty name dummies (Some answer)) token at is =
      let same : answer ≡ token = cc at in
      right (in_prefix ty) _ (or_right (p name) _ (right (all_named role.Dummy dummies) _ (or_left (p answer) _ (ap p same ∙ is))))
  result_in other token at is = absurd (cc at)

  dummies_at : (o : Option Form) → list_any p (dummy_tokens (option_map out-Form o)) ≡ true → list_any of_mention (option_map_or mentions_of o []) ≡ true
  dummies_at None is = absurd (cc is)
  dummies_at (Some form) is = dummies_in (out-Form form) is

  result_at : (o : Option Form) (token : ℕ) → result_token (option_map out-Form o) ≡ Some token → p token ≡ true → list_any of_mention (option_map_or mentions_of o []) ≡ true
  result_at None token at is = absurd (cc at)
  result_at (Some form) token at is = result_in (out-Form form) token at is

-- ---- their numbers

module _ (files : List FileTree) (are : AreTrees files) (bound : name_fault files ≡ None) (scope : ℕ) (e : Extent) (there : slice_get (scoping files) scope ≡ Some e) where
  pub record Numbered (token : ℕ) : Type 0 where
    pub number : ℕ
    pub number_is : number_of (all_said files) scope (name_at files e.file token) ≡ Some number
    pub datum_is : IsDatum files number (datum e (name_at files e.file token))

  said_number : (token : ℕ) → list_any (λ (m : Mention). bytes_eq (name_at files e.file m.token) (name_at files e.file token)) (mentions_at files e.file e.opening) ≡ true → Numbered token
  said_number token is =
      let (n, datum_is, number) = named_there files are bound (no_bodies files are) e (scope, there) (name_at files e.file token)
      (name_among files e (name_at files e.file token) (opening_said files e are (scope, there) (same_name (name_at files e.file token)) is)) in
      record {
        number = n;
        number_is = sym (ap (option_and_then (λ s. number_of (all_said files) s (name_at files e.file token))) (number_there files are scope e there)) ∙ number;
        datum_is = datum_is;
      }

  itself : (token : ℕ) → bytes_eq (name_at files e.file token) (name_at files e.file token) ≡ true
  itself token = nat_list_eq_equiv.refl (name_at files e.file token)

  pub dummy_number : (i token : ℕ) → slice_get (dummy_tokens (layer_at files e.file e.opening)) i ≡ Some token → Numbered token
  dummy_number i token at =
      said_number token
      (dummies_at (λ t. bytes_eq (name_at files e.file t) (name_at files e.file token)) (form_at files e.file e.opening)
      (any_at (λ t. bytes_eq (name_at files e.file t) (name_at files e.file token)) (dummy_tokens (layer_at files e.file e.opening)) i token at (itself token)))

  pub result_number : (token : ℕ) → result_token (layer_at files e.file e.opening) ≡ Some token → Numbered token
  result_number token at =
      said_number token
      (result_at (λ t. bytes_eq (name_at files e.file t) (name_at files e.file token)) (form_at files e.file e.opening) token at (itself token))
