-- Which kind is said of a name that is a constant, and of one that nothing declares.
use Rattle.std.proofs.Common.{◌≡◌, Bool, true, false, cond, List, [], ◌∷◌, Option, Some, None, refl, inl, inr}
use Rattle.std.specs.Prelude.{◌&&◌, ◌||◌, ℕ}
use Rattle.std.specs.Option.{unwrap_or}
use Rattle.ftn_tree.specs.declared.mention.Role.TheVariants as role
use Rattle.ftn_tree.specs.declared.table.EntityKind.{EntityKind}
use Rattle.ftn_tree.specs.declared.table.EntityKind.TheVariants as kinds
use Rattle.ftn_tree.specs.declared.table.Extent.{Extent}
use Rattle.ftn_tree.specs.declared.unit.FileTree.{FileTree}
use Rattle.ftn_tree.specs.DeclaredEntities.{is_referenced, is_said, is_typed_alone, kind_said}
use Rattle.ftn_tree.specs.KeyKinds.{is_constant}
use Rattle.ftn_tree.specs.Meanings as spec
use Rattle.ftn_tree.specs.Roles.{says}
use Rattle.ftn_tree.specs.Sayings.{Saying, answer, argument, bounded, declares, dummy, inside, intent, member, outside, parameter, saved, tied, typed}
use Rattle.const_value.proofs.Members.{or_cases, or_left, or_right}
use Rattle.const_value.proofs.RealKeys.{either_said}

-- ---- the tests in their turn

abbrev pub chain : Bool → Bool → Bool → Bool → Bool → Bool → Bool → Bool → Bool → Option EntityKind
chain d a h i g l o p c =
    cond d (Some kinds.Dummy) (cond a (cond h (Some kinds.Answer) None) (cond i None (cond g (Some kinds.Generic) (cond l (Some kinds.Construct) (cond o None (cond p (Some kinds.Constant) (cond c (Some kinds.Variable) None)))))))

pub record AreFalse (d a i g l o p : Bool) : Type 0 where
  pub dummies : d ≡ false
  pub answers : a ≡ false
  pub inners : i ≡ false
  pub generics : g ≡ false
  pub labels : l ≡ false
  pub outsides : o ≡ false
  pub parameters : p ≡ true

only_constant : (d a h i g l o p c : Bool) → is_constant (unwrap_or (chain d a h i g l o p c) kinds.Variable) ≡ true → AreFalse d a i g l o p
only_constant true a h i g l o p c is = absurd (cc is)
only_constant false true true i g l o p c is = absurd (cc is)
only_constant false true false i g l o p c is = absurd (cc is)
only_constant false false h true g l o p c is = absurd (cc is)
only_constant false false h false true l o p c is = absurd (cc is)
only_constant false false h false false true o p c is = absurd (cc is)
only_constant false false h false false false true p c is = absurd (cc is)
only_constant false false h false false false false true c is = record { dummies = refl; answers = refl; inners = refl; generics = refl; labels = refl; outsides = refl; parameters = refl }
only_constant false false h false false false false false true is = absurd (cc is)
only_constant false false h false false false false false false is = absurd (cc is)

no_intrinsic : (d a h i g l o p c : Bool) → chain d a h i g l o p c ≡ Some kinds.Intrinsic → ⊥
no_intrinsic true a h i g l o p c is = cc is
no_intrinsic false true true i g l o p c is = cc is
no_intrinsic false true false i g l o p c is = cc is
no_intrinsic false false h true g l o p c is = cc is
no_intrinsic false false h false true l o p c is = cc is
no_intrinsic false false h false false true o p c is = cc is
no_intrinsic false false h false false false true p c is = cc is
no_intrinsic false false h false false false false true c is = cc is
no_intrinsic false false h false false false false false true is = cc is
no_intrinsic false false h false false false false false false is = cc is

pub not_intrinsic : (has referenced : Bool) (said : List Saying) → kind_said has referenced said ≡ Some kinds.Intrinsic → ⊥
not_intrinsic has referenced said is =
    no_intrinsic (is_said dummy said) (is_said answer said) has (is_said (λ s. says role.Inner s.said) said) (is_said (λ s. says role.Generic s.said) said) (is_said (λ s. says role.Label s.said) said)
    (is_said outside said || (referenced && is_typed_alone said)) (is_said parameter said) (is_said declares said) is

pub constant_said : (has referenced : Bool) (said : List Saying) → is_constant (unwrap_or (kind_said has referenced said) kinds.Variable) ≡ true
    → AreFalse (is_said dummy said) (is_said answer said) (is_said (λ s. says role.Inner s.said) said) (is_said (λ s. says role.Generic s.said) said) (is_said (λ s. says role.Label s.said) said)
    (is_said outside said || (referenced && is_typed_alone said)) (is_said parameter said)
constant_said has referenced said is =
    only_constant (is_said dummy said) (is_said answer said) has (is_said (λ s. says role.Inner s.said) said) (is_said (λ s. says role.Generic s.said) said) (is_said (λ s. says role.Label s.said) said)
    (is_said outside said || (referenced && is_typed_alone said)) (is_said parameter said) (is_said declares said) is

-- ---- a name that nothing declares is no constant

parameter_declares : (s : Saying) → parameter s ≡ true → declares s ≡ true
parameter_declares s is =
    or_left (argument s || inside s || outside s || typed s || bounded s || parameter s || saved s || intent s || member s) (tied s)
    (or_left (argument s || inside s || outside s || typed s || bounded s || parameter s || saved s || intent s) (member s)
    (or_left (argument s || inside s || outside s || typed s || bounded s || parameter s || saved s) (intent s)
    (or_left (argument s || inside s || outside s || typed s || bounded s || parameter s) (saved s)
    (or_right (argument s || inside s || outside s || typed s || bounded s) (parameter s) is))))

pub said_declares : (said : List Saying) → is_said parameter said ≡ true → is_said declares said ≡ true
said_declares [] is = is
said_declares (s ∷ said) is = elim (or_cases (parameter s) (is_said parameter said) is) [
  | inl here ↦ or_left (declares s) (is_said declares said) (parameter_declares s here)
  | inr rest ↦ or_right (declares s) (is_said declares said) (said_declares said rest)
]

left_false : (a b : Bool) → (a || b) ≡ false → a ≡ false
left_false true b is = absurd (cc is)
left_false false b is = refl

right_false : (a b : Bool) → (a || b) ≡ false → b ≡ false
right_false true b is = absurd (cc is)
right_false false b is = is

pub undeclared : (files : List FileTree) (e : Extent) (name : List ℕ) (has : Bool) (said : List Saying) → spec.is_nothing (spec.declared_meaning files e name said) ≡ true
    → is_constant (unwrap_or (kind_said has (is_referenced files e name) said) kinds.Variable) ≡ false
undeclared files e name has said none = by (is_constant (unwrap_or (kind_said has (is_referenced files e name) said) kinds.Variable)) refl where
  by : (b : Bool) → is_constant (unwrap_or (kind_said has (is_referenced files e name) said) kinds.Variable) ≡ b → is_constant (unwrap_or (kind_said has (is_referenced files e name) said) kinds.Variable) ≡ false
  by false is = is
  by true is =
      let are = constant_said has (is_referenced files e name) said is in
      let within : is_said inside said ≡ false =
      either_said (λ s. says role.Inner s.said || says role.Generic s.said) (λ s. says role.Label s.said) said (either_said (λ s. says role.Inner s.said) (λ s. says role.Generic s.said) said are.inners are.generics) are.labels in
      let without : is_said outside said ≡ false = left_false (is_said outside said) (is_referenced files e name && is_typed_alone said) are.outsides in
      let function : (is_referenced files e name && is_typed_alone said) ≡ false = right_false (is_said outside said) (is_referenced files e name && is_typed_alone said) are.outsides in
      let told : spec.is_nothing (spec.declared_meaning files e name said) ≡ false = rw (are.dummies, are.answers, are.inners, within, without, function, said_declares said are.parameters) refl in
      absurd (cc (none, told))
