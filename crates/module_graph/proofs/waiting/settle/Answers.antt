use Rattle.std.proofs.Common.{◌<◌, ◌∙◌, [], ◌∷◌, ◌++◌, Vec, Global, ap, sym, length, get_or, arith}
use Rattle.std.proofs.lemmas.Grind.{common_steps}
use Rattle.module_graph.specs.Uses.{used_lists}
use Rattle.module_graph.specs.steps.Marks.{IsUnmarked}
use Rattle.module_graph.specs.steps.Waiting.{waiter_lists}
use Rattle.module_graph.specs.declared.entries.Entry.{Entry}
use Rattle.module_graph.proofs.Listing.{known_below}
use Rattle.module_graph.proofs.Waits.{is_ready, waits_on}
use Rattle.module_graph.proofs.waiting.settle.Goals as goal

pub returns-in_ok-push-in-Some : goal.returns-in_ok-push-in-Some
returns-in_ok-push-in-Some c =
    let uses = used_lists c.args.uses.now in
    let list = c.list_of-list.result.now in
    let at = c.in-Some.at in
    let next : Entry = record { user = c.args.waiter.user; at = at } in
    let pushed = c.in_ok-push-in-Some.ensures.items ∙ ap (λ (v : Vec Entry Global). v.items ++ next ∷ []) (sym c.index-waiting-used.is) in
    let below = known_below c.args.uses.now list c.args.waiter.user (length c.args.waiting.now) c.requires.known c.requires.user c.requires.places c.list_of-list.ensures in
    let lt : get_or list at 0 < length c.args.waiting.now = below at 0 c.in-Some.ensures.entry in
    waits_on uses c.args.marks.now c.args.waiting.now c.args.ready.now.keys c.args.waiter list at c.index-waiting-used.result c.push.new.self
    c.requires.sound c.requires.woken c.list_of-list.ensures c.in-Some.ensures.entry c.in-Some.ensures.no_mark c.in-Some.ensures.front lt c.index-waiting-used.is pushed

pub returns-in_ok-add-in-None : goal.returns-in_ok-add-in-None
returns-in_ok-add-in-None c =
    let bare : IsUnmarked c.args.marks.now c.args.waiter.user = grind (arith, common_steps) in
    is_ready (used_lists c.args.uses.now) c.args.marks.now (waiter_lists c.args.waiting.now) c.args.ready.now.keys c.add.new.ready.keys c.args.waiter c.list_of-list.result.now
    c.requires.sound c.requires.woken bare c.list_of-list.ensures c.in-None.ensures.shut c.in_ok-add-in-None.ensures.here c.in_ok-add-in-None.ensures.kept c.in_ok-add-in-None.ensures.only
