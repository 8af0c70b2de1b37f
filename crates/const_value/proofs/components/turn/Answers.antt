use Rattle.std.proofs.Common.{◌≡◌, ◌<◌, ◌≤◌, ℕ, List, length, get_or, subst, ap}
use Rattle.ftn_base.specs.ModuleUses.{used_by}
use Rattle.const_value.specs.steps.Lists.{lists_of}
use Rattle.const_value.proofs.SearchTurns.{search_ended, search_on}
use Rattle.const_value.proofs.components.turn.Goals as goal

pub returns-in_ok-open_if_new-clause-search : goal.returns-in_ok-open_if_new-clause-search
returns-in_ok-open_if_new-clause-search c =
    let uses = lists_of c.args.uses.now in
    let used = c.list_of-used.result.now in
    let top = c.args.top in
    let is : used ≡ used_by uses top.node = c.list_of-used.ensures in
    let less : top.next < length (used_by uses top.node) = subst (λ (l : List ℕ). top.next < length l) is c.if-top-used.true in
    let at : get_or used top.next 0 ≡ get_or (used_by uses top.node) top.next 0 = ap (λ (l : List ℕ). get_or l top.next 0) is in
    (search_on uses c.args.seen.now c.args.order.now.items c.args.stack.now.items top c.requires.search (get_or used top.next 0) c.open_if_new.new.seen c.push.new.self.items
    c.open_if_new.new.stack.items c.requires.known less at c.in_ok-push.ensures.items c.in_ok-open_if_new.ensures.seen c.in_ok-open_if_new.ensures.stack).0

pub returns-in_ok-open_if_new-clause-less : goal.returns-in_ok-open_if_new-clause-less
returns-in_ok-open_if_new-clause-less c =
    let uses = lists_of c.args.uses.now in
    let used = c.list_of-used.result.now in
    let top = c.args.top in
    let is : used ≡ used_by uses top.node = c.list_of-used.ensures in
    let less : top.next < length (used_by uses top.node) = subst (λ (l : List ℕ). top.next < length l) is c.if-top-used.true in
    let at : get_or used top.next 0 ≡ get_or (used_by uses top.node) top.next 0 = ap (λ (l : List ℕ). get_or l top.next 0) is in
    (search_on uses c.args.seen.now c.args.order.now.items c.args.stack.now.items top c.requires.search (get_or used top.next 0) c.open_if_new.new.seen c.push.new.self.items
    c.open_if_new.new.stack.items c.requires.known less at c.in_ok-push.ensures.items c.in_ok-open_if_new.ensures.seen c.in_ok-open_if_new.ensures.stack).2

pub returns-in_ok-push-2-clause-search : goal.returns-in_ok-push-2-clause-search
returns-in_ok-push-2-clause-search c =
    let uses = lists_of c.args.uses.now in
    let top = c.args.top in
    let over : length (used_by uses top.node) ≤ top.next = subst (λ (l : List ℕ). length l ≤ top.next) c.list_of-used.ensures c.if-top-used.false in
    (search_ended uses c.args.seen.now c.args.order.now.items c.args.stack.now.items top c.requires.search c.push-else-top-used.new.self.items over c.in_ok-push-2.ensures.items).0

pub returns-in_ok-push-2-clause-less : goal.returns-in_ok-push-2-clause-less
returns-in_ok-push-2-clause-less c =
    let uses = lists_of c.args.uses.now in
    let top = c.args.top in
    let over : length (used_by uses top.node) ≤ top.next = subst (λ (l : List ℕ). length l ≤ top.next) c.list_of-used.ensures c.if-top-used.false in
    (search_ended uses c.args.seen.now c.args.order.now.items c.args.stack.now.items top c.requires.search c.push-else-top-used.new.self.items over c.in_ok-push-2.ensures.items).2
