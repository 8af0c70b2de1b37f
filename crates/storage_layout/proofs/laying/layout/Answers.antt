use Rattle.std.proofs.Common.{◌≡◌, ◌<◌, ℕ, List, length, take, get_or, refl, sym, subst, arith}
use Rattle.std.proofs.lemmas.List.{get_or_default}
use Rattle.ftn_base.specs.declared.entity.Tie.{Tie}
use Rattle.ftn_base.specs.StorageMembers.{all_members, links, sizes_of}
use Rattle.ftn_base.specs.StorageLayout.{IsSound}
use Rattle.ftn_base.specs.StorageFaults.{IsEven}
use Rattle.storage_layout.specs.steps.Kept.{given_of}
use Rattle.storage_layout.proofs.Answering.{answer_sound}
use Rattle.storage_layout.proofs.laying.layout.Goals as goal

pub blocks_of-requires-clause-known : goal.blocks_of-requires-clause-known
blocks_of-requires-clause-known c =
    let found = c.in_ok-found.found in
    let sound = c.in_ok-found.ensures.sound in
    λ k d lt.
    (let all : length found.class.items ≡ length c.in_ok-things.things.sizes.items = sound.classes.all in
    let at : get_or found.class.items k d ≡ get_or found.class.items k 0 = get_or_default found.class.items k d 0 lt in
    let is : get_or found.class.items k 0 < length found.size.items = sound.ends.known k (omega (arith, lt, all)) in omega (arith, at, is))

pub returns-clause-sound : goal.returns-clause-sound
returns-clause-sound c =
    let o = c.args.objects.now in let b = c.args.blocks.now in
    let things = c.in_ok-things in
    let found = c.in_ok-found.found in
    let even = c.in_ok-tested.ensures.even refl in
    subst (λ (ties : List Tie). IsSound (sizes_of o) (links (sizes_of o) (all_members b) ties) c.truncate.new.self.items c.truncate-2.new.self.items found.size.items c.in_ok-block.block.items) things.ensures.ties
    (subst (λ (area : List ℕ). IsSound (sizes_of o) (links (sizes_of o) (all_members b) (given_of things.things)) area c.truncate-2.new.self.items found.size.items c.in_ok-block.block.items) (sym c.truncate.ensures.items)
    (subst (λ (offset : List ℕ). IsSound (sizes_of o) (links (sizes_of o) (all_members b) (given_of things.things)) (take (length o) found.class.items) offset found.size.items c.in_ok-block.block.items) (sym c.truncate-2.ensures.items)
    (answer_sound o b things.things things.ensures.sizes things.ensures.members things.ensures.kept found.class.items found.offset.items found.size.items c.in_ok-found.ensures.sound
    even.0.0.0.1 even.0.0.1 c.in_ok-block.block.items c.in_ok-block.ensures)))

pub returns-clause-even : goal.returns-clause-even
returns-clause-even c = λ _. subst (IsEven c.args.objects.now c.args.blocks.now) c.in_ok-things.ensures.ties (c.in_ok-tested.ensures.even refl)
