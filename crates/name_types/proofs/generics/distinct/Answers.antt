use Rattle.std.proofs.Common.{◌∙◌, nat_eq, [], ap}
use Rattle.std.proofs.lemmas.List.{take_all}
use Rattle.indexmap.specs.IndexSet.{insert_all}
use Rattle.name_types.proofs.EachOnce.{numbers_once}
use Rattle.name_types.proofs.generics.distinct.Goals as goal

pub returns : goal.returns
returns c =
    c.in_ok-from_slice.ensures.items ∙ c.as_slice.ensures.keys ∙ c.loop-number.invariant
    ∙ ap (insert_all nat_eq []) (take_all c.loop-number.number-index c.args.numbers.now c.loop-number-test.false)
    ∙ numbers_once c.args.numbers.now
