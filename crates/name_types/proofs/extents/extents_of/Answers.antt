use Rattle.std.proofs.Common.{◌<◌, ◌^◌, length, sym, ap, ◌∙◌, subst}
use Rattle.decl_table.specs.steps.Rows.{around_of}
use Rattle.decl_table.proofs.Arounds.{extents_few}
use Rattle.name_types.proofs.PlacedExtents.{arounds_are}
use Rattle.name_types.proofs.extents.extents_of.Goals as goal

pub paint_all-requires : goal.paint_all-requires
paint_all-requires c =
    subst (λ es. length es < 2 ^ 32) (sym (c.deref.ensures.value ∙ c.in_ok-all.ensures)) (extents_few c.args.files.now c.requires)

pub returns-clause-around : goal.returns-clause-around
returns-clause-around c =
    c.in_ok-around.ensures.around ∙ ap (around_of c.args.files.now) (c.deref.ensures.value ∙ c.in_ok-all.ensures) ∙ arounds_are c.args.files.now c.requires
