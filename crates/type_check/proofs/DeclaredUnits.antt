-- What a name denotes where its type is written is what its scoping unit says of it.
use Rattle.std.proofs.Common.{◌≡◌, ℕ, ◌<◌, Bool, true, false, cond, List, length, Option, Some, None, refl, ap, subst, ◌∙◌}
use Rattle.std.specs.Prelude.{◌&&◌, slice_get}
use Rattle.std.specs.Option.{option_map}
use Rattle.std.proofs.lemmas.Option.{slice_get_within}
use Rattle.ftn_tree.specs.declared.mention.Mention.{Mention}
use Rattle.ftn_tree.specs.declared.mention.Role.{Role}
use Rattle.ftn_tree.specs.declared.mention.Role.TheVariants as role
use Rattle.ftn_tree.specs.declared.table.Extent.{Extent}
use Rattle.ftn_tree.specs.declared.unit.FileTree.{FileTree}
use Rattle.ftn_tree.specs.Bindings.{meaning_by}
use Rattle.ftn_tree.specs.DeclaredEntities.{has_result_at, is_referenced, is_said, is_typed_alone}
use Rattle.ftn_tree.specs.Extents.{is_body, layer_at, scoping}
use Rattle.ftn_tree.specs.Meanings as spec
use Rattle.ftn_tree.specs.Meanings.{Key, Meaning, unit, own, nothing, one, several, unknown}
use Rattle.ftn_tree.specs.NameFaults.{said_of}
use Rattle.ftn_tree.specs.Projects.{AreTrees}
use Rattle.ftn_tree.specs.Roles.{says}
use Rattle.ftn_tree.specs.Sayings.{Saying, answer, declares, dummy, inside, outside}
use Rattle.const_value.proofs.UnitNumbers.{denotes_host, in_host, unit_is}
use Rattle.ftn_tree.specs.Scopes.{host_number, name_at}

-- ---- what is declared is something

known_is : (o : Option Key) → spec.is_nothing (spec.known o) ≡ false
known_is None = refl
known_is (Some key) = refl

first_is : (m rest : Meaning) → spec.is_nothing m ≡ false → spec.or_meaning m rest ≡ m
first_is nothing rest is = absurd (cc is)
first_is (one key) rest is = refl
first_is (several a b more) rest is = refl
first_is unknown rest is = refl

either_is : (b : Bool) (x y : Meaning) → spec.is_nothing x ≡ false → spec.is_nothing y ≡ false → spec.is_nothing (cond b x y) ≡ false
either_is true x y first other = first
either_is false x y first other = other

last_is : (b : Bool) (x : Meaning) → b ≡ true → spec.is_nothing x ≡ false → spec.is_nothing (cond b x nothing) ≡ false
last_is true x is some = some
last_is false x is some = absurd (cc is)

module _ (files : List FileTree) (e : Extent) (name : List ℕ) where
  result_is : spec.is_nothing (spec.result_meaning files e name) ≡ false
  result_is = either_is (has_result_at (layer_at files e.file e.opening)) _ _ refl (either_is (is_body files e) _ _ (known_is (spec.external_of files name)) refl)

  outside_is : (said : List Saying) → spec.is_nothing (spec.outside_meaning files name said) ≡ false
  outside_is said = either_is _ _ _ (known_is (spec.external_of files name)) (known_is (spec.intrinsic_of name))

  pub declared_is : (said : List Saying) → is_said declares said ≡ true → spec.is_nothing (spec.declared_meaning files e name said) ≡ false
  declared_is said is =
      either_is (is_said dummy said) _ _ refl
      (either_is (is_said answer said) _ _ result_is
      (either_is (is_said (λ s. says role.Inner s.said) said) _ _ (known_is (option_map unit (spec.inner_of files e name)))
      (either_is (is_said inside said) _ _ refl
      (either_is (is_said outside said) _ _ (outside_is said)
      (either_is (is_referenced files e name && is_typed_alone said) _ _ (known_is (spec.or_else (spec.intrinsic_of name) (option_map unit (spec.unit_of files spec.is_function name))))
      (last_is (is_said declares said) (one (own e name)) is refl))))))

  -- ---- what a scoping unit declares comes before what USE and the host give

  pub declared_denotes : AreTrees files → (n : ℕ) → slice_get (scoping files) n ≡ Some e → is_said declares (said_of files e name) ≡ true → spec.denotes files e name ≡ spec.declared_in files e name
  declared_denotes are n there is =
      let less : n < length (scoping files) = slice_get_within (scoping files) n e there in
      subst (λ x. spec.denotes files x name ≡ spec.meaning_in files (spec.accessible_in files x) x name (in_host files name (host_number files x))) (unit_is files n e there) (denotes_host files are n less name)
      ∙ first_is (spec.declared_in files e name) _ (declared_is (said_of files e name) is)

  -- a mention that a type declaration says
  pub typed_meaning : AreTrees files → (n : ℕ) → slice_get (scoping files) n ≡ Some e → is_said declares (said_of files e name) ≡ true
      → (statement : ℕ) (said : Role) (m : Mention) → said ≡ role.Typed → name_at files e.file m.token ≡ name → meaning_by said files e statement m ≡ spec.declared_in files e name
  typed_meaning are n there is statement said m typed same =
      ap (λ r. meaning_by r files e statement m) typed
      ∙ ap (λ x. spec.or_meaning (spec.denotes files e x) (spec.reference_meaning files m x)) same
      ∙ ap (λ d. spec.or_meaning d (spec.reference_meaning files m name)) (declared_denotes are n there is)
      ∙ first_is (spec.declared_in files e name) (spec.reference_meaning files m name) (declared_is (said_of files e name) is)
