use Rattle.std.proofs.Common.{◌≡◌, ◌∙◌, ◌≤◌, length, drop, sym, arith}
use Rattle.std.proofs.lemmas.List.{take_at}
use Rattle.const_value.specs.steps.Lists.{lists_of}
use Rattle.const_value.proofs.Users.{lists_length, no_users, users_all, users_more}
use Rattle.const_value.proofs.components.users_of.Goals as goal

pub loop-user-init : goal.loop-user-init
loop-user-init c =
    no_users c.in_ok-users.users.items (lists_of c.args.uses.now) (c.in_ok-users.ensures.size ∙ sym (lists_length c.args.uses.now)) c.in_ok-users.ensures.none

pub loop-user-preserved : goal.loop-user-preserved
loop-user-preserved c =
    let uses = lists_of c.args.uses.now in
    let before = c.loop-user.users.items in
    let after = c.add_user.new.users in
    let added = rw c.deref_mut.ensures.value at c.in_ok-add_user.ensures in
    let kept : length (lists_of after) ≡ length (lists_of before) = added.sized in
    let old_size = lists_length before in
    let new_size = lists_length after in
    let same = c.deref_mut.ensures.len in
    let count : length after ≡ c.loop-user.users.len = omega arith in
    rw (take_at after (drop (length after) before) c.loop-user.users.len count)
    (users_more c.loop-user.user c.list_of.result.now uses (lists_of before) (lists_of after) c.loop-user.invariant c.list_of.ensures added)

pub returns : goal.returns
returns c =
    let size : length (lists_of c.args.uses.now) ≡ length c.args.uses.now = lists_length c.args.uses.now in
    let past : length c.args.uses.now ≤ c.loop-user.user = c.loop-user-test.false in
    let over : length (lists_of c.args.uses.now) ≤ c.loop-user.user = omega (arith, size, past) in
    users_all c.loop-user.user (lists_of c.args.uses.now) (lists_of c.loop-user.users.items) c.loop-user.invariant over
