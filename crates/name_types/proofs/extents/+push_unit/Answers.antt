use Rattle.std.proofs.Common.{◌++◌, ap, ◌∙◌}
use Rattle.std.specs.List.{flat_map}
use Rattle.std.proofs.lemmas.List.{take_all}
use Rattle.ftn_tree.specs.Extents.{extents_in}
use Rattle.decl_table.proofs.UnitExtents.{pushed}
use Rattle.name_types.proofs.extents.+push_unit.Goals as goal

pub returns : goal.returns
returns t c =
    pushed c.args.file c.args.unit.now c.args.found.now.items c.push.new.self.items c.loop-inner.found.items c.as_slice-inner-items.result.now
    c.in_ok-push.ensures.items c.as_slice-inner-items.ensures
    (c.loop-inner.invariant ∙ ap (λ units. c.push.new.self.items ++ flat_map (extents_in c.args.file) units)
    (take_all c.loop-inner.inner-index c.as_slice-inner-items.result.now c.loop-inner-test.false))
