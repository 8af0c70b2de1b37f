use Rattle.std.proofs.Common.{◌++◌, ◌∙◌, ℕ, List, [], length, sym, ap, subst}
use Rattle.ftn_base.specs.declared.storage.Member.{Member}
use Rattle.ftn_base.specs.StorageMembers.{all_members, sizes_of}
use Rattle.storage_layout.specs.steps.Kept.{AreMembers, AreTied}
use Rattle.storage_layout.proofs.Keeping.{sizes_counted, members_of_given, ties_within, ties_counted, given_are, are_kept}
use Rattle.storage_layout.proofs.things.Things.new.Goals as goal

pub tie_members-requires : goal.tie_members-requires
tie_members-requires c =
    subst (λ (sizes : List ℕ). AreMembers sizes c.deref-2.result.now) (sym (c.deref.ensures.value ∙ c.in_ok-sizes.ensures))
    (subst (λ (members : List Member). AreMembers (sizes_of c.args.objects.now) members) (sym (c.deref-2.ensures.value ∙ c.in_ok-members.ensures))
    (members_of_given c.args.objects.now c.args.blocks.now c.args.given.now c.requires.given c.requires.small))

pub returns-clause-kept : goal.returns-clause-kept
returns-clause-kept c =
    let sizes : List ℕ = sizes_of c.args.objects.now in
    let members : List Member = all_members c.args.blocks.now in
    let tied : AreTied sizes members c.in_ok-from_slice.field-0.items c.in_ok-names.names.sizes.items c.in_ok-names.ties.items =
    subst (λ (names : List ℕ). AreTied sizes members names c.in_ok-names.names.sizes.items c.in_ok-names.ties.items) (sym (c.in_ok-from_slice.ensures.items ∙ c.as_slice.ensures.keys))
    (subst (λ (s : List ℕ). AreTied s members c.in_ok-names.names.names.keys c.in_ok-names.names.sizes.items c.in_ok-names.ties.items) (c.deref.ensures.value ∙ c.in_ok-sizes.ensures)
    (subst (λ (ms : List Member). AreTied c.deref.result.now ms c.in_ok-names.names.names.keys c.in_ok-names.names.sizes.items c.in_ok-names.ties.items) (c.deref-2.ensures.value ∙ c.in_ok-members.ensures) c.in_ok-names.ensures)) in
    are_kept
    (record { objects = length c.args.objects.now; sizes = c.extend_from_slice-2.new.self; names = c.in_ok-from_slice.field-0; members = c.in_ok-members.members; ties = c.extend_from_slice.new.self })
    sizes c.in_ok-names.names.sizes.items members c.args.given.now c.in_ok-names.ties.items
    (sym (sizes_counted c.args.objects.now))
    (c.in_ok-extend_from_slice-2.ensures.items ∙ ap (λ (s : List ℕ). s ++ c.deref-3.result.now) c.in_ok-sizes.ensures ∙ ap (λ (s : List ℕ). sizes ++ s) c.deref-3.ensures.value)
    c.in_ok-members.ensures c.in_ok-extend_from_slice.ensures.items
    (members_of_given c.args.objects.now c.args.blocks.now c.args.given.now c.requires.given c.requires.small) tied (ties_within c.args.objects.now c.args.given.now c.requires.given.tied) c.requires.given.few_ties

pub returns-clause-ties : goal.returns-clause-ties
returns-clause-ties c =
    given_are
    (record { objects = length c.args.objects.now; sizes = c.extend_from_slice-2.new.self; names = c.in_ok-from_slice.field-0; members = c.in_ok-members.members; ties = c.extend_from_slice.new.self })
    c.args.given.now c.in_ok-names.ties.items
    (sym (ties_counted (length c.deref.result.now) c.in_ok-names.names.names.keys c.deref.result.now [] c.deref-2.result.now c.in_ok-names.ties.items c.in_ok-names.ensures.ties_are ∙ ap length c.deref-2.ensures.value))
    c.in_ok-extend_from_slice.ensures.items
