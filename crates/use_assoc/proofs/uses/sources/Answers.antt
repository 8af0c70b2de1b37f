use Rattle.std.proofs.Common.{ap, ◌∙◌}
use Rattle.std.specs.Str.{bytes_eq}
use Rattle.std.proofs.lemmas.List.{drop_all}
use Rattle.indexmap.specs.IndexSet.{insert_all}
use Rattle.ftn_base.specs.Accessible.{items_in, sources_of}
use Rattle.use_assoc.specs.steps.Groups.{lists_in}
use Rattle.use_assoc.proofs.Once.{names_among}
use Rattle.use_assoc.proofs.uses.sources.Goals as goal

pub returns : goal.returns
returns c =
    names_among c.loop-list.set (sources_of (items_in (lists_in c.args.lists.now)))
    (c.loop-list.invariant ∙ ap (λ lists. insert_all bytes_eq c.loop-list.set (sources_of (items_in (lists_in lists)))) (drop_all c.loop-list.list-index c.args.lists.now c.loop-list-test.false))
