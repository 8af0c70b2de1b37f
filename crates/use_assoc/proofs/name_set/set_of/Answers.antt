use Rattle.std.proofs.Common.{ap, ◌∙◌}
use Rattle.std.specs.Str.{bytes_eq}
use Rattle.std.proofs.lemmas.List.{drop_all}
use Rattle.indexmap.specs.IndexSet.{insert_all}
use Rattle.use_assoc.proofs.Once.{names_among}
use Rattle.use_assoc.proofs.name_set.set_of.Goals as goal

pub returns : goal.returns
returns c =
    names_among c.loop-name.set c.args.names.now (c.loop-name.invariant ∙ ap (insert_all bytes_eq c.loop-name.set) (drop_all c.loop-name.name-index c.args.names.now c.loop-name-test.false))
