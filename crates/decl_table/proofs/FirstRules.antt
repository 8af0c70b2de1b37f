-- What the rules by first sayings tell of one saying after others: what `Exclusions` says.
use Rattle.std.proofs.Common.{◌≡◌, ℕ, true≢false, Bool, true, false, cond, List, [], ◌∷◌, Option, Some, None, is_some, refl, sym, ap, ap₂, ◌∙◌}
use Rattle.std.specs.Prelude.{◌&&◌, ◌||◌, not}
use Rattle.std.proofs.Math.Bool.{and-true}
use Rattle.ftn_tree.specs.declared.mention.Role.TheVariants as role
use Rattle.ftn_tree.specs.Roles.{says}
use Rattle.ftn_tree.specs.Sayings as said
use Rattle.ftn_tree.specs.Sayings.{Saying}
use Rattle.ftn_tree.specs.Exclusions.{not_of_argument, not_of_constant, not_of_member, not_of_procedure, excludes, is_excluded, two_kinds, two_procedures, is_twice}
use Rattle.decl_table.specs.steps.Firsts.{place, blank, firsts_of, alone, least, with}
use Rattle.decl_table.specs.steps.Rules.{argument, outside, declares, not_argument, not_constant, not_procedure, bare_member, alike, twice_before, twice_after, twice, excluding, excluded, conflicting}
use Rattle.decl_table.proofs.Places.{place_alike, place_or, none_placed}

-- a member of a common block that gets no initial value
abbrev pub bare : Bool → Saying → Bool
bare block_data s = said.member s && not (block_data && says role.NamedMember s.said)

-- the index is that of the first of ours that passes
pub record Tells (ours : Saying → Bool) (all : List Saying) (index : Option ℕ) (test : Saying → Bool) : Type 0 where
  pub told : index ≡ place (λ s. ours s && test s) all

pub its : {ours : Saying → Bool} {all : List Saying} (p : Saying → Bool) → Tells ours all (place (λ s. ours s && p s) all) p
its p = record { told = refl }

same_test : {ours : Saying → Bool} {all : List Saying} {p : Saying → Bool} {a : Option ℕ} (q : Saying → Bool) → Tells ours all a p → ((e : Saying) → p e ≡ q e) → Tells ours all a q
same_test {ours} {all} {p} q one same = record { told = one.told ∙ place_alike (λ s. ours s && p s) (λ s. ours s && q s) all (λ s. ap (λ b. ours s && b) (same s)) }

module _ (ours : Saying → Bool) (all : List Saying) where
  either : {p q : Saying → Bool} {a b : Option ℕ} → Tells ours all a p → Tells ours all b q → Tells ours all (least a b) (λ s. p s || q s)
  either {p} {q} one other = record {
    told = ap₂ least one.told other.told ∙ sym (place_or (λ s. ours s && p s) (λ s. ours s && q s) all)
        ∙ place_alike (λ s. (ours s && p s) || (ours s && q s)) (λ s. ours s && (p s || q s)) all (λ s. spread (ours s) (p s) (q s));
  }
    where
      spread : (a b c : Bool) → ((a && b) || (a && c)) ≡ (a && (b || c))
      spread true b c = refl
      spread false b c = refl

  argument_is : Tells ours all (argument (firsts_of ours all)) said.argument
  argument_is = either (its said.dummy) (its said.answer)

  outside_is : Tells ours all (outside (firsts_of ours all)) said.outside
  outside_is = either (either (its said.external) (its said.intrinsic)) (its said.body)

  declares_is : Tells ours all (declares (firsts_of ours all)) said.declares
  declares_is = either (either (either (either (either (either (either (either (either argument_is (its said.inside)) outside_is) (its said.typed)) (its said.bounded)) (its said.parameter)) (its said.saved)) (its said.intent)) (its said.member)) (its said.tied)

  not_argument_is : Tells ours all (not_argument (firsts_of ours all)) not_of_argument
  not_argument_is = either (either (either (either (either (either (its said.parameter) (its said.saved)) (its said.initial)) (its said.external)) (its said.intrinsic)) (its said.member)) (its said.tied)

  not_constant_is : Tells ours all (not_constant (firsts_of ours all)) not_of_constant
  not_constant_is = either (either (either (its said.saved) (its said.intent)) (its said.member)) (its said.tied)

  not_procedure_is : Tells ours all (not_procedure (firsts_of ours all)) not_of_procedure
  not_procedure_is = either (either (either (either (either (its said.bounded) (its said.saved)) (its said.parameter)) (its said.initial)) (its said.member)) (its said.tied)

  bare_is : (block_data : Bool) → Tells ours all (bare_member block_data (firsts_of ours all)) (bare block_data)
  bare_is true = its blank
  bare_is false = same_test (bare false) (its said.member) (λ s. sym (and-true (said.member s)))

-- ---- Bool

shared : (x y d e f g h i : Bool) → x ≡ y → ((((x || d) || e) || f) || (((y || g) || h) || i)) ≡ (x || (((d || e) || f) || ((g || h) || i)))
shared true y d e f g h i same = refl
shared false true d e f g h i same = absurd (true≢false (sym same))
shared false false d e f g h i same = refl

and_turned : (a b : Bool) → (a && b) ≡ (b && a)
and_turned true true = refl
and_turned true false = refl
and_turned false true = refl
and_turned false false = refl

never : (a : Bool) → (a && false) ≡ false
never true = refl
never false = refl

-- a member and what excludes it, one earlier and the other later
members_before : (member saved initial kept : Bool) → (member && (saved || (initial && kept))) ≡ ((member && saved) || ((member && kept) && initial))
members_before true saved initial kept = ap (λ b. saved || b) (and_turned initial kept)
members_before false saved initial kept = refl

members_after : (member saved initial kept : Bool) → (member && (saved || (initial && kept))) ≡ ((saved && member) || (initial && (member && kept)))
members_after true saved initial kept = ap (λ b. b || (initial && kept)) (sym (and-true saved))
members_after false saved initial kept = sym (ap₂ (λ a b. a || b) (never saved) (never initial))

-- the saying itself passes
pub is_there : {s : Saying} {q : Saying → Bool} {b : Option ℕ} → Tells (λ x. true) (s ∷ []) b q → is_some b ≡ q s
is_there {s} {q} one = ap is_some one.told ∙ by (q s)
  where
    by : (b : Bool) → is_some {T = ℕ} (cond b (Some 0) None) ≡ b
    by true = refl
    by false = refl

module _ (ours : Saying → Bool) (all : List Saying) (s : Saying) where
  joint : {p q : Saying → Bool} {a b : Option ℕ} → Tells ours all a p → Tells ours all b q → Tells ours all (least a b) (λ e. p e || q e)
  joint one other = either ours all one other

  given : {p q : Saying → Bool} {a b : Option ℕ} → Tells ours all a p → Tells (λ x. true) (s ∷ []) b q → Tells ours all (with a b) (λ e. p e && q s)
  given {p} {q} {a} one other = record { told = ap (λ b. cond b a None) (is_there other) ∙ ap (λ o. cond (q s) o None) one.told ∙ by (q s) }
    where
      by : (b : Bool) → cond b (place (λ e. ours e && p e) all) None ≡ place (λ e. ours e && (p e && b)) all
      by true = place_alike (λ e. ours e && p e) (λ e. ours e && (p e && true)) all (λ e. ap (λ b. ours e && b) (sym (and-true (p e))))
      by false = sym (place_alike (λ e. ours e && (p e && false)) (λ e. false) all (λ e. ap (λ b. ours e && b) (never (p e)) ∙ never (ours e)) ∙ none_placed all)

  giving : {p q : Saying → Bool} {a b : Option ℕ} → Tells ours all a p → Tells (λ x. true) (s ∷ []) b q → Tells ours all (with a b) (λ e. q s && p e)
  giving {p} {q} one other = same_test (λ e. q s && p e) (given one other) (λ e. and_turned (p e) (q s))

  alike_is : Tells ours all (alike (firsts_of ours all) (alone s)) (λ e. (said.typed e && said.typed s) || (said.bounded e && said.bounded s) || (said.valued e && said.valued s))
  alike_is = joint (joint (given (its said.typed) (its said.typed)) (given (its said.bounded) (its said.bounded))) (given (its said.valued) (its said.valued))

  twice_before_is : Tells ours all (twice_before (firsts_of ours all) (alone s)) (λ e. (said.dummy e && said.argument s) || two_kinds e s || two_procedures e s)
  twice_before_is =
      joint (joint (given (its said.dummy) (argument_is (λ x. true) (s ∷ []))) (joint (given (its said.inside) (declares_is (λ x. true) (s ∷ []))) (given (its said.body) (argument_is (λ x. true) (s ∷ [])))))
      (given (its said.intrinsic) (either (λ x. true) (s ∷ []) (its said.external) (its said.body)))

  twice_after_is : Tells ours all (twice_after (firsts_of ours all) (alone s)) (λ e. (said.dummy s && said.argument e) || two_kinds s e || two_procedures s e)
  twice_after_is =
      joint (joint (giving (argument_is ours all) (its said.dummy)) (joint (giving (declares_is ours all) (its said.inside)) (giving (argument_is ours all) (its said.body))))
      (giving (joint (its said.external) (its said.body)) (its said.intrinsic))

  pub twice_is : Tells ours all (twice (firsts_of ours all) (alone s)) (λ e. is_twice e s)
  twice_is = same_test (λ e. is_twice e s) (joint alike_is (joint twice_before_is twice_after_is)) (λ e. sym (shared _ _ _ _ _ _ _ _ (turned e)))
    where
      turned : (e : Saying) → ((said.typed e && said.typed s) || (said.bounded e && said.bounded s) || (said.valued e && said.valued s))
          ≡ ((said.typed s && said.typed e) || (said.bounded s && said.bounded e) || (said.valued s && said.valued e))
      turned e = ap₂ (λ a b. a || b) (ap₂ (λ a b. a || b) (and_turned (said.typed e) (said.typed s)) (and_turned (said.bounded e) (said.bounded s))) (and_turned (said.valued e) (said.valued s))

  members_before_is : (block_data : Bool) → Tells ours all (least (with (firsts_of ours all).member (alone s).saved) (with (bare_member block_data (firsts_of ours all)) (alone s).initial))
      (λ e. said.member e && not_of_member block_data e s)
  members_before_is block_data = same_test (λ e. said.member e && not_of_member block_data e s) (joint (given (its said.member) (its said.saved)) (given (bare_is ours all block_data) (its said.initial)))
      (λ e. sym (members_before (said.member e) (said.saved s) (said.initial s) (not (block_data && says role.NamedMember e.said))))

  members_after_is : (block_data : Bool) → Tells ours all (least (with (firsts_of ours all).saved (alone s).member) (with (firsts_of ours all).initial (bare_member block_data (alone s))))
      (λ e. said.member s && not_of_member block_data s e)
  members_after_is block_data = same_test (λ e. said.member s && not_of_member block_data s e) (joint (given (its said.saved) (its said.member)) (given (its said.initial) (bare_is (λ x. true) (s ∷ []) block_data)))
      (λ e. sym (members_after (said.member s) (said.saved e) (said.initial e) (not (block_data && says role.NamedMember s.said))))

  pub excluding_is : (block_data : Bool) → Tells ours all (excluding block_data (firsts_of ours all) (alone s)) (λ e. excludes block_data e s)
  excluding_is block_data =
      joint (joint (joint (joint (given (argument_is ours all) (not_argument_is (λ x. true) (s ∷ []))) (given (its said.parameter) (not_constant_is (λ x. true) (s ∷ []))))
      (members_before_is block_data)) (given (outside_is ours all) (not_procedure_is (λ x. true) (s ∷ [])))) (given (its said.public) (its said.private))

  excluded_is : (block_data : Bool) → Tells ours all (excluded block_data (firsts_of ours all) (alone s)) (λ e. excludes block_data s e)
  excluded_is block_data =
      joint (joint (joint (joint (giving (not_argument_is ours all) (argument_is (λ x. true) (s ∷ []))) (giving (not_constant_is ours all) (its said.parameter)))
      (members_after_is block_data)) (giving (not_procedure_is ours all) (outside_is (λ x. true) (s ∷ [])))) (giving (its said.private) (its said.public))

  pub conflicting_is : (block_data : Bool) → Tells ours all (conflicting block_data (firsts_of ours all) (alone s)) (λ e. is_excluded block_data e s)
  conflicting_is block_data = joint (joint (excluding_is block_data) (excluded_is block_data)) (given (its said.member) (its said.member))
