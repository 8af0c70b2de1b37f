use Rattle.std.proofs.Common.{ℕ, ◌<◌, ◌≡◌, ◌∙◌, ap, List, [], take, length, get_or, subst, sym}
use Rattle.ftn_base.specs.declared.entity.Tie.{Tie}
use Rattle.ftn_base.specs.Storage.{IsContradicted, tie_links}
use Rattle.ftn_base.specs.StorageMembers.{list_links}
use Rattle.ftn_base.specs.StorageFaults.{AreMixed}
use Rattle.equiv_class.specs.Sound as classes
use Rattle.storage_layout.specs.steps.Kept.{given_of, sizes_in}
use Rattle.storage_layout.specs.steps.Mixing.{AreMet}
use Rattle.storage_layout.proofs.Parts.{take_among, agree_among}
use Rattle.storage_layout.proofs.MixedKept.{decided_too, units_filled, mixes_alone_too}
use Rattle.storage_layout.proofs.holding.are_mixed_alone.Goals as goal

pub joined-requires-clause-agree : goal.joined-requires-clause-agree
joined-requires-clause-agree c =
    let t = c.args.things.now in
    subst (λ (ties : List Tie). IsContradicted (tie_links (take c.args.count ties)) → ⊥) (sym c.deref-2.ensures.value) (agree_among (take c.args.count t.ties.items) t.ties.items (take_among c.args.count t.ties.items) c.requires.agree)

pub mixes-requires-clause-filled : goal.mixes-requires-clause-filled
mixes-requires-clause-filled c = units_filled c.args.objects.now (sizes_in c.args.things.now) c.args.things.now.members.items c.requires.sizes c.requires.kept.members

pub returns : goal.returns
returns c =
    let t = c.args.things.now in
    let kept = c.requires.kept in
    let found = c.in_ok-found.found in
    let sound : classes.IsSound t.sizes.items (tie_links (take c.args.count t.ties.items)) found.class.items found.offset.items found.size.items =
    subst (λ (sizes : List ℕ). classes.IsSound sizes (tie_links (take c.args.count t.ties.items)) found.class.items found.offset.items found.size.items) c.deref.ensures.value
    (subst (λ (ties : List Tie). classes.IsSound c.deref.result.now (tie_links (take c.args.count ties)) found.class.items found.offset.items found.size.items) c.deref-2.ensures.value c.in_ok-found.ensures) in
    let own : (v : ℕ) → v < length c.args.objects.now → get_or c.deref-3.result.now v 0 ≡ v = (λ v lt. ap (λ (list : List ℕ). get_or list v 0) c.deref-3.ensures.value ∙ c.in_ok-numbers.ensures.each v lt) in
    decided_too _ c.mixes.result (AreMet c.args.objects.now found.class.items found.offset.items c.deref-3.result.now)
    (AreMixed c.args.objects.now [] (list_links (sizes_in t) (take c.args.count t.members.items))) c.mixes.ensures
    (mixes_alone_too c.args.objects.now t.members.items (given_of t) t.sizes.items t.names.items (length t.members.items) t.ties.items c.requires.agree c.args.count found.class.items found.offset.items found.size.items
    c.deref-3.result.now own c.requires.count sound (sizes_in t) c.requires.sizes kept.are kept.members)
