-- What is kept of the names that a project declares is what is defined.
use Rattle.std.proofs.Common.{◌≡◌, ℕ, ◌<◌, Bool, false, List, length, get_or, Option, Some, None, cond, option_map, refl, sym, ap, ap₂, ◌∙◌}
use Rattle.std.specs.Prelude.{slice_get}
use Rattle.std.specs.List.{find}
use Rattle.std.specs.Option.{option_map_or, option_or, unwrap_or}
use Rattle.std.proofs.lemmas.Option.{slice_get_read}
use Rattle.ftn_tree.specs.declared.parts.TypeSpec.{TypeSpec}
use Rattle.ftn_tree.specs.declared.table.Extent.{Extent}
use Rattle.ftn_tree.specs.declared.unit.FileTree.{FileTree}
use Rattle.ftn_tree.specs.Declarations as spec_of
use Rattle.ftn_tree.specs.Declarations.{typing_of}
use Rattle.ftn_tree.specs.DeclaredEntities.{is_said, may_be_own}
use Rattle.ftn_tree.specs.Extents.{scoping}
use Rattle.ftn_tree.specs.KeyKinds.{Datum, datum}
use Rattle.ftn_tree.specs.NameFaults as names
use Rattle.ftn_tree.specs.NameFaults.{opens_name, said_of}
use Rattle.ftn_tree.specs.Sayings.{Saying, answer}
use Rattle.ftn_tree.specs.Scopes.{name_at}
use Rattle.ftn_tree.specs.TypeFaults as spec
use Rattle.const_value.specs.declared.name_numbers.Owned.{Owned}
use Rattle.const_value.specs.declared.project.Project.{Project}
use Rattle.const_value.specs.declared.written.Typing.{Typing}
use Rattle.const_value.specs.declared.written.Written.{Written}
use Rattle.const_value.specs.steps.Gathered.{owned_of}
use Rattle.const_value.specs.steps.Names.{number_at}
use Rattle.const_value.specs.steps.Said.{begins, token_of}
use Rattle.const_value.specs.steps.Written.{TypedAs, nothing, typing_seen, written_seen}
use Rattle.const_value.proofs.DataNumbers.{number_datum}
use Rattle.const_value.proofs.GatheredNames.{as_typed, name_there, typing_there}
use Rattle.type_check.specs.declared.procedures.Declared.{Declared}
use Rattle.type_check.specs.steps.Declared.{AreDeclared, typing_token}
use Rattle.type_check.specs.steps.Natures.{IsDatum, nature_by}
use Rattle.type_check.proofs.NatureLaws.{nature_is}

begins_by : (a b : Option Saying) → unwrap_or (option_or (option_map token_of a) (option_map token_of b)) 0 ≡ option_map_or (λ (s : Saying). s.said.token) (option_or a b) 0
begins_by None None = refl
begins_by None (Some b) = refl
begins_by (Some a) b = refl

begins_is : (files : List FileTree) (d : Datum) → begins (owned_of files d).said ≡ names.begins (said_of files d.scope d.name)
begins_is files d = begins_by (find opens_name (said_of files d.scope d.name)) (find (λ s. may_be_own s.said.role) (said_of files d.scope d.name))

pub read_there : {X : Type 0} (xs ys : List X) (n : ℕ) (x : X) → ys ≡ xs → n < length ys → x ≡ get_or ys n x → slice_get xs n ≡ Some x
read_there xs ys n x same less is = ap (λ (l : List _). slice_get l n) (sym same) ∙ slice_get_read ys (length ys) n x refl less is

-- where the type of a name is written, by what is kept
typed_names : (o : Option Typing) (t : Option (TypeSpec × spec_of.Declared)) → option_map typing_seen o ≡ option_map as_typed t
    → option_map (λ (typing : Typing). typing.name) o ≡ option_map (λ (typing : TypeSpec × spec_of.Declared). typing.1.name) t
typed_names None None is = refl
typed_names None (Some typing) is = absurd (cc is)
typed_names (Some typing) None is = absurd (cc is)
typed_names (Some kept) (Some typing) is = let same : typing_seen kept ≡ as_typed typing = cc is in ap (λ (t : TypedAs). Some t.name) same

pub token_of_typing : (files : List FileTree) (d : Datum) (b : Bool) (o : Option Typing) → b ≡ is_said answer (said_of files d.scope d.name) → b ≡ false
    → option_map typing_seen o ≡ option_map as_typed (typing_of files d.scope d.name) → option_map (λ (typing : Typing). typing.name) o ≡ typing_token files d
token_of_typing files d b o said is typed =
    typed_names o (typing_of files d.scope d.name) typed
    ∙ ap (λ b. cond b None (option_map (λ (typing : TypeSpec × spec_of.Declared). typing.1.name) (typing_of files d.scope d.name))) (sym is ∙ said)

pub where_typed : (files : List FileTree) (d : Datum) (o : Option Typing) (first : ℕ) → option_map typing_seen o ≡ option_map as_typed (typing_of files d.scope d.name)
    → first ≡ names.begins (said_of files d.scope d.name) → unwrap_or (option_map (λ (typing : Typing). typing.name) o) first ≡ spec.typed_where files d
where_typed files d o first typed begun =
    ap₂ unwrap_or (typed_names o (typing_of files d.scope d.name) typed) begun ∙ either (typing_of files d.scope d.name) where
      either : (t : Option (TypeSpec × spec_of.Declared)) → unwrap_or (option_map (λ (typing : TypeSpec × spec_of.Declared). typing.1.name) t) (names.begins (said_of files d.scope d.name))
          ≡ option_map_or (λ (typing : TypeSpec × spec_of.Declared). typing.1.name) t (names.begins (said_of files d.scope d.name))
      either None = refl
      either (Some typing) = refl

module _ (files : List FileTree) (known : Declared) (a : AreDeclared files known) where
  abbrev p : Project
  p = known.names.now.project.now

  pub nature_here : (n : ℕ) (d : Datum) → IsDatum files n d → nature_by p known.namings.items n ≡ spec.nature_of files d
  nature_here n d there = nature_is files p a.names.gathered a.trees known.namings.items a.tokens n d there

  owned_is : (n : ℕ) (d : Datum) (o : Owned) → IsDatum files n d → slice_get p.names.items n ≡ Some o → o ≡ owned_of files d
  owned_is n d o there at = let same : Some o ≡ Some (owned_of files d) = sym at ∙ name_there files p a.names.gathered n d there in cc same

  pub begins_here : (n : ℕ) (d : Datum) (o : Owned) → IsDatum files n d → slice_get p.names.items n ≡ Some o → begins o.said ≡ names.begins (said_of files d.scope d.name)
  begins_here n d o there at = ap (λ (o : Owned). begins o.said) (owned_is n d o there at) ∙ begins_is files d

  pub answer_here : (n : ℕ) (d : Datum) (o : Owned) → IsDatum files n d → slice_get p.names.items n ≡ Some o → o.said.answer ≡ is_said answer (said_of files d.scope d.name)
  answer_here n d o there at = ap (λ (o : Owned). o.said.answer) (owned_is n d o there at)

  pub typing_here : (n : ℕ) (d : Datum) (w : Written) → IsDatum files n d → slice_get p.written.items n ≡ Some w → option_map typing_seen w.typing ≡ option_map as_typed (typing_of files d.scope d.name)
  typing_here n d w there at = ap (λ o. (option_map_or written_seen o nothing).typing) (sym at) ∙ typing_there files p a.names.gathered n d there

  pub number_here : (scope : ℕ) (e : Extent) (token n : ℕ) → slice_get (scoping files) scope ≡ Some e → number_at known.numbers.items scope (name_at files e.file token) ≡ Some n
      → IsDatum files n (datum e (name_at files e.file token))
  number_here scope e token n there at =
      let found = number_datum files scope (name_at files e.file token) n (sym (a.numbers scope (name_at files e.file token)) ∙ at) in
      let same : found.unit ≡ e = some_same (sym found.there ∙ there) in
      found.here ∙ ap (λ x. Some (datum x (name_at files e.file token))) same
    where
      some_same : {x : Extent} → Some x ≡ Some e → x ≡ e
      some_same is = cc is
