use Rattle.std.proofs.Common.{◌≡◌, ◌∙◌, length, drop, sym, arith}
use Rattle.std.proofs.lemmas.List.{take_at}
use Rattle.module_graph.specs.Uses.{used_lists}
use Rattle.module_graph.proofs.Listing.{lists_length}
use Rattle.scope_bind.proofs.Marks.{no_users, users_more}
use Rattle.scope_bind.proofs.cycles.users_of.Goals as goal

pub loop-user-init : goal.loop-user-init
loop-user-init c =
    no_users c.in_ok-users.users.items (used_lists c.args.uses.now) (c.in_ok-users.ensures.size ∙ sym (lists_length c.args.uses.now)) c.in_ok-users.ensures.none

pub loop-user-preserved : goal.loop-user-preserved
loop-user-preserved c =
    let uses = used_lists c.args.uses.now in
    let before = c.loop-user.users.items in
    let after = c.add_user.new.users in
    let old : length (used_lists before) ≡ length uses = c.loop-user.invariant.sized in
    let old_size = lists_length before in
    let new_size = lists_length after in
    let same = c.deref_mut.ensures.len in
    let sized : length (used_lists after) ≡ length uses = omega arith in
    let count : length after ≡ c.loop-user.users.len = omega arith in
    let added = rw c.deref_mut.ensures.value at c.in_ok-add_user.ensures in
    rw (take_at after (drop (length after) before) c.loop-user.users.len count)
    (users_more c.loop-user.user c.list_of.result.now uses (used_lists before) (used_lists after) c.loop-user.invariant sized c.list_of.ensures added)
