use Rattle.std.proofs.Common.{◌≡◌, ◌∙◌, ap, List, [], set}
use Rattle.module_graph.specs.steps.Waiting.{waiter_lists}
use Rattle.module_graph.specs.declared.entries.Entry.{Entry}
use Rattle.module_graph.proofs.Waits.{waits_set}
use Rattle.module_graph.proofs.waiting.take_waiters.Goals as goal

pub returns-clause-left : goal.returns-clause-left
returns-clause-left c =
    let none : c.replace.new.dest.items ≡ [] = ap (λ v. v.items) c.replace.ensures.after ∙ c.new.ensures.items in
    waits_set c.args.waiting.now c.args.number c.replace.new.dest ∙ ap (λ (l : List Entry). set (waiter_lists c.args.waiting.now) c.args.number l) none
