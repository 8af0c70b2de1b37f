use Rattle.std.proofs.Common.{◌<◌, length, get_or, refl, arith}
use Rattle.module_graph.specs.Uses.{used_lists}
use Rattle.module_graph.proofs.Listing.{lists_length}
use Rattle.scope_bind.proofs.Marks.{added_more, all_added, none_added}
use Rattle.scope_bind.proofs.cycles.add_user.Goals as goal

pub loop-used-init : goal.loop-used-init
loop-used-init c = none_added c.args.list.now c.args.user (used_lists c.args.users.now)

pub loop-used-preserved : goal.loop-used-preserved
loop-used-preserved c =
    let list = c.args.list.now in
    let i = c.loop-used.used-index in
    let size = lists_length c.loop-used.users in
    let below : get_or list i 0 < length c.args.users.now = c.requires i 0 c.loop-used-test.true in
    let known : get_or list i 0 < length (used_lists c.loop-used.users) = omega arith in
    added_more list i c.args.user (get_or list i 0) (used_lists c.args.users.now) (used_lists c.loop-used.users) (used_lists c.push_user.new.users)
    c.loop-used.invariant c.loop-used-test.true refl known c.in_ok-push_user.ensures

pub returns : goal.returns
returns c = all_added c.args.list.now c.loop-used.used-index c.args.user (used_lists c.args.users.now) (used_lists c.loop-used.users) c.loop-used-test.false c.loop-used.invariant
