use Rattle.std.proofs.Common.{◌≡◌, nat_eq, [], map, take, ap, ◌∙◌}
use Rattle.std.proofs.lemmas.List.{take_all}
use Rattle.indexmap.specs.IndexSet.{insert_all}
use Rattle.ftn_base.specs.Accessible.{lists_of}
use Rattle.use_assoc.proofs.Once.{modules_once}
use Rattle.use_assoc.proofs.groups.grouped.Goals as goal

pub returns : goal.returns
returns c =
    let all : take c.loop-list.list-index c.args.lists.now ≡ c.args.lists.now = take_all c.loop-list.list-index c.args.lists.now c.loop-list-test.false in (
      c.loop-list.invariant.0 ∙ ap (λ lists. insert_all nat_eq [] (map (λ list. list.«module») lists)) all ∙ modules_once c.args.lists.now,
      λ number. c.loop-list.invariant.1 number ∙ ap (lists_of number) all,
    )
