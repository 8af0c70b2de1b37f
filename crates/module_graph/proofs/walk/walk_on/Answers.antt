use Rattle.std.proofs.Common.{◌≡◌, ◌<◌, ℕ, ◌-◌, ◌∙◌, length, vec_len, refl, take, ap, get_or, arith}
use Rattle.std.proofs.lemmas.Grind.{common_steps}
use Rattle.module_graph.specs.Uses.{used_lists}
use Rattle.module_graph.proofs.Listing.{lists_length}
use Rattle.module_graph.proofs.Walking as walking
use Rattle.module_graph.proofs.walk.walk_on.Goals as goal

pub returns-in_ok-push-in-Some-clause-step : goal.returns-in_ok-push-in-Some-clause-step
returns-in_ok-push-in-Some-clause-step c =
    let uses = used_lists c.args.uses.now in
    let path = c.args.path.now.items in
    let list = c.list_of-list.result.now in
    let entry = c.index-entry.result.now in
    let is : entry ≡ get_or path (length path - 1) entry = grind (arith, common_steps, c.index-entry.ensures, c.len-last.ensures) in
    let known : get_or list c.in-Some.at 0 < length uses = grind (arith, common_steps) in
    let last : c.len-last.result ≡ length path = omega arith in
    let pushed = rw last at c.in_ok-push-in-Some.ensures.items in
    walking.steps_on uses c.args.marks.now path c.requires.begun entry is list c.list_of-list.ensures c.in-Some.at (get_or list c.in-Some.at 0) c.in-Some.ensures.entry refl c.in-Some.ensures.no_mark known c.push.new.self.items pushed

pub returns-in_ok-push-in-Some-clause-entries : goal.returns-in_ok-push-in-Some-clause-entries
returns-in_ok-push-in-Some-clause-entries c =
    let uses = used_lists c.args.uses.now in
    let path = c.args.path.now.items in
    let list = c.list_of-list.result.now in
    let entry = c.index-entry.result.now in
    let is : entry ≡ get_or path (length path - 1) entry = grind (arith, common_steps, c.index-entry.ensures, c.len-last.ensures) in
    let known : get_or list c.in-Some.at 0 < length uses = grind (arith, common_steps) in
    let size = lists_length c.args.uses.now in
    let sized : length c.args.marks.now ≡ length uses = omega arith in
    let last : c.len-last.result ≡ length path = omega arith in
    let pushed = rw last at c.in_ok-push-in-Some.ensures.items in
    walking.entries_on uses c.args.marks.now path c.requires.begun entry is list c.list_of-list.ensures c.in-Some.at (get_or list c.in-Some.at 0) c.in-Some.ensures.entry refl c.in-Some.ensures.no_mark known c.push.new.self.items pushed
    sized c.requires.entries c.in-Some.ensures.front

pub returns-in-None-clause-step : goal.returns-in-None-clause-step
returns-in-None-clause-step c =
    let uses = used_lists c.args.uses.now in
    let path = c.args.path.now.items in
    let list = c.list_of-list.result.now in
    let entry = c.index-entry.result.now in
    let is : entry ≡ get_or path (length path - 1) entry = grind (arith, common_steps, c.index-entry.ensures, c.len-last.ensures) in
    let size : vec_len c.args.path.now ≡ length path = omega arith in
    walking.steps_back uses c.args.marks.now path c.requires.begun entry is list c.list_of-list.ensures c.in-None.ensures.shut c.pop-left.new.self.items (c.pop-left.ensures.rest ∙ ap (λ (n : ℕ). take (n - 1) path) size)
