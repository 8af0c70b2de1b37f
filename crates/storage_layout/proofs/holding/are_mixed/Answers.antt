use Rattle.std.proofs.Common.{◌+◌, ℕ, List, take, length, subst, sym, arith}
use Rattle.std.proofs.lemmas.List.{length-take}
use Rattle.ftn_base.specs.declared.entity.Tie.{Tie}
use Rattle.ftn_base.specs.Storage.{IsContradicted, tie_links}
use Rattle.ftn_base.specs.StorageMembers.{links, list_links}
use Rattle.ftn_base.specs.StorageFaults.{AreMixed}
use Rattle.equiv_class.specs.Sound as classes
use Rattle.storage_layout.specs.steps.Kept.{AreLinkable, given_of, sizes_in}
use Rattle.storage_layout.specs.steps.Mixing.{AreMet}
use Rattle.storage_layout.proofs.Parts.{take_among, agree_among, linkable_among}
use Rattle.storage_layout.proofs.MixedKept.{decided_too, units_filled, Mixes, mixes_too}
use Rattle.storage_layout.proofs.holding.are_mixed.Goals as goal

pub joined-requires-clause-agree : goal.joined-requires-clause-agree
joined-requires-clause-agree c =
    let t = c.args.things.now in
    let n : ℕ = length t.members.items + c.args.count in
    subst (λ (ties : List Tie). IsContradicted (tie_links ties) → ⊥) (sym c.ties_up_to.ensures) (agree_among (take n t.ties.items) t.ties.items (take_among n t.ties.items) c.requires.agree)

pub joined-requires-2-clause-linkable : goal.joined-requires-2-clause-linkable
joined-requires-2-clause-linkable c =
    let t = c.args.things.now in
    let n : ℕ = length t.members.items in
    subst (λ (sizes : List ℕ). AreLinkable sizes c.member_ties.result.now) (sym c.deref-2.ensures.value)
    (subst (AreLinkable t.sizes.items) (sym c.member_ties.ensures) (linkable_among t.sizes.items (take n t.ties.items) t.ties.items (take_among n t.ties.items) (let short = length-take n t.ties.items in omega (arith, short)) c.requires.kept.linkable))

pub joined-requires-2-clause-agree : goal.joined-requires-2-clause-agree
joined-requires-2-clause-agree c =
    let t = c.args.things.now in
    let n : ℕ = length t.members.items in
    subst (λ (ties : List Tie). IsContradicted (tie_links ties) → ⊥) (sym c.member_ties.ensures) (agree_among (take n t.ties.items) t.ties.items (take_among n t.ties.items) c.requires.agree)

pub mixes-requires-clause-filled : goal.mixes-requires-clause-filled
mixes-requires-clause-filled c = units_filled c.args.objects.now (sizes_in c.args.things.now) c.args.things.now.members.items c.requires.sizes c.requires.kept.members

pub returns : goal.returns
returns c =
    let t = c.args.things.now in
    let kept = c.requires.kept in
    let n : ℕ = length t.members.items in
    let found = c.in_ok-found.found in
    let alone = c.in_ok-alone.alone in
    let sound : classes.IsSound t.sizes.items (tie_links (take (n + c.args.count) t.ties.items)) found.class.items found.offset.items found.size.items =
    subst (λ (sizes : List ℕ). classes.IsSound sizes (tie_links (take (n + c.args.count) t.ties.items)) found.class.items found.offset.items found.size.items) c.deref.ensures.value
    (subst (λ (ties : List Tie). classes.IsSound c.deref.result.now (tie_links ties) found.class.items found.offset.items found.size.items) c.ties_up_to.ensures c.in_ok-found.ensures) in
    let sound_alone : classes.IsSound t.sizes.items (tie_links (take n t.ties.items)) alone.class.items alone.offset.items alone.size.items =
    subst (λ (sizes : List ℕ). classes.IsSound sizes (tie_links (take n t.ties.items)) alone.class.items alone.offset.items alone.size.items) c.deref-2.ensures.value
    (subst (λ (ties : List Tie). classes.IsSound c.deref-2.result.now (tie_links ties) alone.class.items alone.offset.items alone.size.items) c.member_ties.ensures c.in_ok-alone.ensures) in
    decided_too _ c.mixes.result (AreMet c.args.objects.now found.class.items found.offset.items c.deref-3.result.now)
    (AreMixed c.args.objects.now (list_links (sizes_in t) t.members.items) (links (sizes_in t) t.members.items (take c.args.count (given_of t)))) c.mixes.ensures
    (subst (Mixes c.args.objects.now (sizes_in t) t.members.items (take c.args.count (given_of t)) found.class.items found.offset.items) (sym c.deref-3.ensures.value)
    (mixes_too c.args.objects.now t.members.items (given_of t) t.sizes.items t.names.items n t.ties.items c.requires.agree c.args.count found.class.items found.offset.items found.size.items
    alone.class.items alone.offset.items alone.size.items sound sound_alone (sizes_in t) c.requires.sizes kept.are kept.members kept.given))
