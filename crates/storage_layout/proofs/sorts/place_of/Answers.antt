use Rattle.std.proofs.Common.{◌<◌, length, arith, ap}
use Rattle.ftn_base.specs.declared.storage.BlockList.{BlockList}
use Rattle.storage_layout.proofs.Placed.{is_place}
use Rattle.storage_layout.proofs.sorts.place_of.Goals as goal

pub returns-then-left-count : goal.returns-then-left-count
returns-then-left-count c =
    let list : BlockList = c.index-blocks-list.result in
    let count = c.len-count.ensures in
    let same = ap (λ (l : BlockList). l.members.len) c.index-blocks-list.is in
    let inside : c.loop-list.left < length list.members.items = omega (arith, c.if-left-count.true, count, same, list.members.ok.0) in
    is_place c.args.blocks.now c.args.number c.loop-list.list c.loop-list.left list c.loop-list-test.true c.index-blocks-list.is c.loop-list.invariant inside
