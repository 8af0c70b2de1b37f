-- What is told of the type that a scoping unit gives a name, by what is kept.
use Rattle.std.proofs.Common.{◌≡◌, ℕ, Bool, true, false, List, [], Option, Some, None, option_map, refl, sym, ap, ◌∙◌, if◌then◌else◌, inl, inr}
use Rattle.std.specs.Prelude.{◌&&◌, not, slice_get}
use Rattle.std.specs.Option.{is_some, option_and_then, option_map_or}
use Rattle.ftn_base.specs.declared.fault.FaultKind.TheVariants.{WrongType}
use Rattle.ftn_tree.specs.declared.parts.TypeSpec.{TypeSpec}
use Rattle.ftn_tree.specs.declared.table.Extent.{Extent}
use Rattle.ftn_tree.specs.declared.unit.FileTree.{FileTree}
use Rattle.ftn_tree.specs.Declarations.{Declared, typing_of}
use Rattle.ftn_tree.specs.DeclaredEntities.{is_said}
use Rattle.ftn_tree.specs.Extents.{scoping}
use Rattle.ftn_tree.specs.ExpressionTypes.{Told, if_told}
use Rattle.ftn_tree.specs.KeyKinds.{Datum, datum, key_of}
use Rattle.ftn_tree.specs.Meanings.{Meaning, unit, own, block, intrinsic_function, nothing, one, several, unknown, declared_in}
use Rattle.ftn_tree.specs.NameFaults.{begins, said_of}
use Rattle.ftn_tree.specs.Procedures.{result_of}
use Rattle.ftn_tree.specs.Sayings.{answer, declares, same_name, sayings}
use Rattle.ftn_tree.specs.TypeFaults as spec
use Rattle.decl_table.proofs.OwnStatements.{number_of as number_there}
use Rattle.const_value.specs.declared.project.Project.{Project}
use Rattle.const_value.specs.steps.Names.{all_said, number_at, number_of}
use Rattle.const_value.proofs.DataNumbers.{datum_owner, number_datum}
use Rattle.const_value.proofs.KeysThere.{named_there}
use Rattle.const_value.proofs.NoBodies.{no_bodies}
use Rattle.const_value.proofs.OwnSayings.{name_among, passed_any}
use Rattle.name_types.specs.steps.Generics.{unit_by}
use Rattle.type_check.specs.declared.procedures.Declared.{Declared as Known}
use Rattle.type_check.specs.steps.Declared.{AreDeclared, typing_token}
use Rattle.type_check.specs.steps.Natures.{IsDatum}
use Rattle.type_check.proofs.TypedUnits.{UnitCase, typing_unit}
use Rattle.type_check.proofs.TypingTokens.{typing_mention}

-- ---- where a type is written, and the name is no result

abbrev token_by : Bool → Option (TypeSpec × Declared) → Option ℕ
token_by answered typing = if answered then None else option_map (λ typing. typing.1.name) typing

abbrev told_by : Bool → Option (TypeSpec × Declared) → List Told → List Told
told_by answered typing told = if is_some typing && not answered then told else []

record Written (answered : Bool) (typing : Option (TypeSpec × Declared)) (token : ℕ) : Type 0 where
  ty : TypeSpec
  d : Declared
  typing_is : typing ≡ Some (ty, d)
  no_answer : answered ≡ false
  token_is : d.name ≡ token

written : (answered : Bool) (typing : Option (TypeSpec × Declared)) (token : ℕ) → token_by answered typing ≡ Some token → Written answered typing token
written true typing token is = absurd (cc is)
written false None token is = absurd (cc is)
written false (Some (ty, d)) token is = record { ty = ty; d = d; typing_is = refl; no_answer = refl; token_is = cc is }

told_written : (answered : Bool) (typing : Option (TypeSpec × Declared)) (token : ℕ) (told : List Told) → token_by answered typing ≡ Some token → told_by answered typing told ≡ told
told_written true typing token told is = absurd (cc is)
told_written false None token told is = absurd (cc is)
told_written false (Some typing) token told is = refl

told_unwritten : (answered : Bool) (typing : Option (TypeSpec × Declared)) (told : List Told) → token_by answered typing ≡ None → told_by answered typing told ≡ []
told_unwritten true None told is = refl
told_unwritten true (Some typing) told is = refl
told_unwritten false None told is = refl
told_unwritten false (Some typing) told is = absurd (cc is)

-- ---- what the name denotes

told_of : (files : List FileTree) (d : Datum) (m : Meaning) (f : Extent) → key_of m ≡ Some (unit f)
    → spec.outside_told files d m ≡ if_told (not (spec.is_same_type files d (result_of files f))) WrongType (spec.typed_where files d)
told_of files d (one (unit e)) f is =
    let same : e ≡ f = cc is in ap (λ x. if_told (not (spec.is_same_type files d (result_of files x))) WrongType (spec.typed_where files d)) same
told_of files d nothing f is = absurd (cc is)
told_of files d (one (own e name)) f is = absurd (cc is)
told_of files d (one (block name)) f is = absurd (cc is)
told_of files d (one (intrinsic_function name)) f is = absurd (cc is)
told_of files d (several a b more) f is = absurd (cc is)
told_of files d unknown f is = absurd (cc is)

told_of_none : (files : List FileTree) (d : Datum) (m : Meaning) → ((u : Extent) → key_of m ≡ Some (unit u) → ⊥) → spec.outside_told files d m ≡ []
told_of_none files d (one (unit e)) never = absurd (never e refl)
told_of_none files d nothing never = refl
told_of_none files d (one (own e name)) never = refl
told_of_none files d (one (block name)) never = refl
told_of_none files d (one (intrinsic_function name)) never = refl
told_of_none files d (several a b more) never = refl
told_of_none files d unknown never = refl

-- the function that is meant, and what is told
pub record ToldOf (files : List FileTree) (d : Datum) (function token : ℕ) : Type 0 where
  pub procedure : Extent
  pub there : slice_get (scoping files) function ≡ Some procedure
  pub told : spec.type_told files d.scope d.name ≡ if_told (not (spec.is_same_type files d (result_of files procedure))) WrongType token

module _ (files : List FileTree) (known : Known) (a : AreDeclared files known) where
  abbrev p : Project
  p = known.names.now.project.now

  module _ (n : ℕ) (d : Datum) (there : IsDatum files n d) where
    abbrev means : Meaning
    means = declared_in files d.scope d.name

    abbrev answered : Bool
    answered = is_said answer (said_of files d.scope d.name)

    pub told_untyped : None ≡ typing_token files d → spec.type_told files d.scope d.name ≡ []
    told_untyped is = told_unwritten answered (typing_of files d.scope d.name) (spec.outside_told files (datum d.scope d.name) means) (sym is)

    unit_there : (token : ℕ) → Some token ≡ typing_token files d → UnitCase files (unit_by p d.scope.file token) (key_of means)
    unit_there token is =
        let o = datum_owner files n d there in
        let w = written answered (typing_of files d.scope d.name) token (sym is) in
        at token w.token_is (typing_unit files a.trees a.bound p a.names.gathered o.scope d.scope o.there d.name w.ty w.d w.typing_is w.no_answer)
      where
        at : {other : ℕ} (token : ℕ) → other ≡ token → UnitCase files (unit_by p d.scope.file other) (key_of means) → UnitCase files (unit_by p d.scope.file token) (key_of means)
        at token same (inl (none, never)) = inl (ap (unit_by p d.scope.file) (sym same) ∙ none, never)
        at token same (inr (j, u, found, here, key)) = inr (j, u, ap (unit_by p d.scope.file) (sym same) ∙ found, here, key)

    pub told_unmeant : (token : ℕ) → Some token ≡ typing_token files d → None ≡ unit_by p d.scope.file token → spec.type_told files d.scope d.name ≡ []
    told_unmeant token is unmeant =
        told_written answered (typing_of files d.scope d.name) token (spec.outside_told files (datum d.scope d.name) means) (sym is) ∙ told_of_none files d means (of (unit_there token is))
      where
        of : UnitCase files (unit_by p d.scope.file token) (key_of means) → (u : Extent) → key_of means ≡ Some (unit u) → ⊥
        of (inl (none, never)) = never
        of (inr (j, u, found, here, key)) = absurd (cc (found, unmeant))

    pub told_meant : (token function : ℕ) → Some token ≡ typing_token files d → Some function ≡ unit_by p d.scope.file token → ToldOf files d function token
    told_meant token function is meant = of (unit_there token is) where
      placed : spec.typed_where files d ≡ token
      placed =
          let w = written answered (typing_of files d.scope d.name) token (sym is) in
          ap (λ (o : Option (TypeSpec × Declared)). option_map_or (λ typing. typing.1.name) o (begins (said_of files d.scope d.name))) w.typing_is ∙ w.token_is

      of : UnitCase files (unit_by p d.scope.file token) (key_of means) → ToldOf files d function token
      of (inl (none, never)) = absurd (cc (none, meant))
      of (inr (j, u, found, here, key)) =
          let same : j ≡ function = cc (found, meant) in
          record {
            procedure = u;
            there = ap (slice_get (scoping files)) (sym same) ∙ here;
            told =
                told_written answered (typing_of files d.scope d.name) token (spec.outside_told files (datum d.scope d.name) means) (sym is)
                ∙ told_of files d means u key ∙ ap (if_told (not (spec.is_same_type files d (result_of files u))) WrongType) placed;
          }

  -- ---- names by their numbers

  module _ (scope : ℕ) (e : Extent) (there : slice_get (scoping files) scope ≡ Some e) (name : List ℕ) where
    pub numbered_datum : (n : ℕ) → number_at known.numbers.items scope name ≡ Some n → IsDatum files n (datum e name)
    numbered_datum n at =
        let found = number_datum files scope name n (sym (a.numbers scope name) ∙ at) in
        let same : found.unit ≡ e = some_same (sym found.there ∙ there) in
        found.here ∙ ap (λ x. Some (datum x name)) same
      where
        some_same : {x : Extent} → Some x ≡ Some e → x ≡ e
        some_same is = cc is

    -- nothing is written of a name without a number
    pub told_unnumbered : number_at known.numbers.items scope name ≡ None → spec.type_told files e name ≡ []
    told_unnumbered none = by (typing_token files (datum e name)) refl where
      number_some : is_said declares (said_of files e name) ≡ true → (n : ℕ) × (number_at known.numbers.items scope name ≡ Some n)
      number_some is =
          let (n, here, number) = named_there files a.trees a.bound (no_bodies files a.trees) e (scope, there) name
          (name_among files e name (passed_any (same_name name) declares (same_name name) (λ s same said. same) (sayings files e) is)) in
          (n, a.numbers scope name ∙ sym (ap (option_and_then (λ s. number_of (all_said files) s name)) (number_there files a.trees scope e there)) ∙ number)

      never : is_said declares (said_of files e name) ≡ true → ⊥
      never is = let (n, some) = number_some is in cc (none, some)

      by : (o : Option ℕ) → typing_token files (datum e name) ≡ o → spec.type_told files e name ≡ []
      by None is = told_unwritten (is_said answer (said_of files e name)) (typing_of files e name) (spec.outside_told files (datum e name) (declared_in files e name)) is
      by (Some token) is =
          let w = written (is_said answer (said_of files e name)) (typing_of files e name) token is in
          let t = typing_mention files a.trees scope e there name w.ty w.d w.typing_is w.no_answer in
          absurd (never t.declared)
