use Rattle.std.proofs.Common.{◌<◌, length, get_or, refl, arith}
use Rattle.const_value.specs.steps.Lists.{lists_of}
use Rattle.const_value.proofs.Users.{lists_length, added_more, all_added, none_added}
use Rattle.const_value.proofs.components.add_user.Goals as goal

pub loop-used-init : goal.loop-used-init
loop-used-init c = none_added c.args.list.now c.args.user (lists_of c.args.users.now)

pub loop-used-preserved : goal.loop-used-preserved
loop-used-preserved c =
    let list = c.args.list.now in
    let i = c.loop-used.used-index in
    let size = lists_length c.loop-used.users in
    let below : get_or list i 0 < length c.args.users.now = c.requires i 0 c.loop-used-test.true in
    let known : get_or list i 0 < length (lists_of c.loop-used.users) = omega arith in
    added_more list i c.args.user (get_or list i 0) (lists_of c.args.users.now) (lists_of c.loop-used.users) (lists_of c.push_user.new.users)
    c.loop-used.invariant c.loop-used-test.true refl known c.in_ok-push_user.ensures

pub returns : goal.returns
returns c = all_added c.args.list.now c.loop-used.used-index c.args.user (lists_of c.args.users.now) (lists_of c.loop-used.users) c.loop-used-test.false c.loop-used.invariant
