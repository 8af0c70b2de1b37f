use Rattle.std.proofs.Common.{◌≡◌, ◌≤◌, ◌∙◌, ℕ, List, Option, Some, None, take, length, refl, sym, subst, arith}
use Rattle.std.proofs.lemmas.List.{length-drop}
use Rattle.ftn_base.specs.declared.entity.Tie.{Tie}
use Rattle.ftn_base.specs.Storage.{IsContradicted, tie_links}
use Rattle.equiv_class.specs.Sound as classes
use Rattle.storage_layout.specs.declared.kind.Kind.TheVariants as kind
use Rattle.storage_layout.specs.steps.Held.{IsFirstWith}
use Rattle.storage_layout.specs.steps.Kept.{AreLinkable, given_of}
use Rattle.storage_layout.specs.steps.Ends.{FindsOdd}
use Rattle.storage_layout.proofs.Parts.{drop_among, agree_among, linkable_among}
use Rattle.storage_layout.proofs.Telling.{all_taken, agreed, first_extended, none_extended, first_joined, none_joined, is_ready, list_told}
use Rattle.storage_layout.proofs.laying.tested.Goals as goal

is_none : (found : Option ℕ) → ((number : ℕ) → found ≡ Some number → ⊥) → found ≡ None
is_none None not_some = refl
is_none (Some number) not_some = absurd (not_some number refl)

pub returns-in-Some-clause-fault : goal.returns-in-Some-clause-fault
returns-in-Some-clause-fault c =
    let o = c.args.objects.now in let b = c.args.blocks.now in let t = c.args.things.now in (
      (c.requires.small, agreed o b t c.requires.sizes c.requires.members c.requires.kept c.requires.agree),
      first_extended o b t c.requires.sizes c.requires.members c.in-Some.tie (subst (λ (found : Option ℕ). IsFirstWith o t kind.Before found) c.in-Some.is c.in_ok-tie.ensures),
    )

pub returns-in-Some-2-clause-fault : goal.returns-in-Some-2-clause-fault
returns-in-Some-2-clause-fault c =
    let o = c.args.objects.now in let b = c.args.blocks.now in let t = c.args.things.now in (
      (
        (c.requires.small, agreed o b t c.requires.sizes c.requires.members c.requires.kept c.requires.agree),
        none_extended o b t c.requires.sizes c.requires.members (subst (λ (found : Option ℕ). IsFirstWith o t kind.Before found) (is_none c.in_ok-tie.field-0 c.in_default.not-Some) c.in_ok-tie.ensures),
      ),
      first_joined o b t c.requires.sizes c.requires.members c.in-Some-2.tie (subst (λ (found : Option ℕ). IsFirstWith o t kind.Twins found) c.in-Some-2.is c.in_ok-tie-2.ensures),
    )

pub sorts_apart-requires-clause-apart : goal.sorts_apart-requires-clause-apart
sorts_apart-requires-clause-apart c =
    let o = c.args.objects.now in let b = c.args.blocks.now in let t = c.args.things.now in (
      (
        (c.requires.small, agreed o b t c.requires.sizes c.requires.members c.requires.kept c.requires.agree),
        none_extended o b t c.requires.sizes c.requires.members (subst (λ (found : Option ℕ). IsFirstWith o t kind.Before found) (is_none c.in_ok-tie.field-0 c.in_default.not-Some) c.in_ok-tie.ensures),
      ),
      none_joined o b t c.requires.sizes c.requires.members (subst (λ (found : Option ℕ). IsFirstWith o t kind.Twins found) (is_none c.in_ok-tie-2.field-0 c.in_default-2.not-Some) c.in_ok-tie-2.ensures),
    )

all_given : (given ties : List Tie) (count : ℕ) → ties ≡ take count given → count ≡ length given → ties ≡ given
all_given given ties count is whole = is ∙ subst (λ (n : ℕ). take n given ≡ given) (sym whole) (all_taken given)

pub joined-requires-clause-linkable : goal.joined-requires-clause-linkable
joined-requires-clause-linkable c =
    let t = c.args.things.now in
    let fewer : length (given_of t) ≤ length t.ties.items = (let rest = length-drop (length t.members.items) t.ties.items in omega (arith, rest)) in
    subst (λ (sizes : List ℕ). AreLinkable sizes c.ties_alone.result.now) (sym c.deref.ensures.value)
    (subst (λ (ties : List Tie). AreLinkable t.sizes.items ties) (sym (all_given (given_of t) c.ties_alone.result.now c.count.result c.ties_alone.ensures c.count.ensures))
    (linkable_among t.sizes.items (given_of t) t.ties.items (drop_among (length t.members.items) t.ties.items) fewer c.requires.kept.linkable))

pub joined-requires-clause-agree : goal.joined-requires-clause-agree
joined-requires-clause-agree c =
    let t = c.args.things.now in
    subst (λ (ties : List Tie). IsContradicted (tie_links ties) → ⊥) (sym (all_given (given_of t) c.ties_alone.result.now c.count.result c.ties_alone.ensures c.count.ensures))
    (agree_among (given_of t) t.ties.items (drop_among (length t.members.items) t.ties.items) c.requires.agree)

pub odd_list-requires-clause-ready : goal.odd_list-requires-clause-ready
odd_list-requires-clause-ready c =
    let o = c.args.objects.now in let b = c.args.blocks.now in let t = c.args.things.now in
    let tied = c.in_ok-tied.tied in
    let found : classes.IsSound t.sizes.items (tie_links (given_of t)) tied.class.items tied.offset.items tied.size.items =
    subst (λ (sizes : List ℕ). classes.IsSound sizes (tie_links (given_of t)) tied.class.items tied.offset.items tied.size.items) c.deref.ensures.value
    (subst (λ (ties : List Tie). classes.IsSound c.deref.result.now (tie_links ties) tied.class.items tied.offset.items tied.size.items) (all_given (given_of t) c.ties_alone.result.now c.count.result c.ties_alone.ensures c.count.ensures) c.in_ok-tied.ensures) in
    is_ready o b t c.requires.sizes c.requires.members c.requires.kept tied.class.items tied.offset.items tied.size.items found c.requires.given.members

pub returns-in-Some-3-clause-fault : goal.returns-in-Some-3-clause-fault
returns-in-Some-3-clause-fault c =
    let o = c.args.objects.now in let b = c.args.blocks.now in let t = c.args.things.now in
    let tied = c.in_ok-tied.tied in
    let found : classes.IsSound t.sizes.items (tie_links (given_of t)) tied.class.items tied.offset.items tied.size.items =
    subst (λ (sizes : List ℕ). classes.IsSound sizes (tie_links (given_of t)) tied.class.items tied.offset.items tied.size.items) c.deref.ensures.value
    (subst (λ (ties : List Tie). classes.IsSound c.deref.result.now (tie_links ties) tied.class.items tied.offset.items tied.size.items) (all_given (given_of t) c.ties_alone.result.now c.count.result c.ties_alone.ensures c.count.ensures) c.in_ok-tied.ensures) in
    let sorted = c.in_ok-sorts_apart.ensures.sorted refl in (
      sorted,
      list_told o b t c.requires.sizes c.requires.members c.requires.kept tied.class.items tied.offset.items tied.size.items found c.requires.given.members c.requires.given.tied sorted.0.0.0.1 sorted.0.1 (Some c.in-Some-3.list)
          (subst (λ (list : Option ℕ). FindsOdd b t.members.items t.ties.items tied.class.items tied.offset.items tied.size.items list) c.in-Some-3.is c.in_ok-list.ensures),
    )

pub returns-clause-even : goal.returns-clause-even
returns-clause-even c =
    let o = c.args.objects.now in let b = c.args.blocks.now in let t = c.args.things.now in
    let tied = c.in_ok-tied.tied in
    let found : classes.IsSound t.sizes.items (tie_links (given_of t)) tied.class.items tied.offset.items tied.size.items =
    subst (λ (sizes : List ℕ). classes.IsSound sizes (tie_links (given_of t)) tied.class.items tied.offset.items tied.size.items) c.deref.ensures.value
    (subst (λ (ties : List Tie). classes.IsSound c.deref.result.now (tie_links ties) tied.class.items tied.offset.items tied.size.items) (all_given (given_of t) c.ties_alone.result.now c.count.result c.ties_alone.ensures c.count.ensures) c.in_ok-tied.ensures) in
    let sorted = c.in_ok-sorts_apart.ensures.sorted refl in
    λ _. (
      sorted,
      list_told o b t c.requires.sizes c.requires.members c.requires.kept tied.class.items tied.offset.items tied.size.items found c.requires.given.members c.requires.given.tied sorted.0.0.0.1 sorted.0.1 None
          (subst (λ (list : Option ℕ). FindsOdd b t.members.items t.ties.items tied.class.items tied.offset.items tied.size.items list) c.in-None.is c.in_ok-list.ensures),
    )
