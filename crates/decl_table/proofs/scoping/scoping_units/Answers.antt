use Rattle.std.proofs.Common.{◌<◌, ◌^◌, length, map, sym, ap, ◌∙◌, subst}
use Rattle.ftn_tree.specs.Extents.{is_body}
use Rattle.decl_table.specs.steps.Rows.{rows_of, around_of, units_of}
use Rattle.decl_table.proofs.Arounds.{extents_few, units_few, bodies_said, hosts_are}
use Rattle.decl_table.proofs.scoping.scoping_units.Goals as goal

pub paint_all-requires : goal.paint_all-requires
paint_all-requires c =
    subst (λ es. length es < 2 ^ 32) (sym (c.deref.ensures.value ∙ c.in_ok-all.ensures)) (extents_few c.args.files.now c.requires)

pub units_among-requires : goal.units_among-requires
units_among-requires c =
    bodies_said c.args.files.now c.requires c.deref.result.now c.deref-2.result.now c.deref-4.result.now c.deref-3.result.now c.deref-5.result.now
    (c.deref.ensures.value ∙ c.in_ok-all.ensures) (c.deref-2.ensures.value ∙ c.in_ok-all.ensures) (c.deref-4.ensures.value ∙ c.in_ok-all.ensures)
    (c.deref-3.ensures.value ∙ c.in_ok-outer.ensures.around) (c.deref-5.ensures.value ∙ c.in_ok-bodies.ensures)

pub paint_all-requires-2 : goal.paint_all-requires-2
paint_all-requires-2 c =
    subst (λ es. length es < 2 ^ 32)
    (sym (c.deref-6.ensures.value ∙ c.in_ok-units.ensures.units ∙ ap (units_of c.args.files.now) (c.deref-4.ensures.value ∙ c.in_ok-all.ensures)))
    (units_few c.args.files.now c.requires)

pub returns : goal.returns
returns c =
    let all = c.deref-4.ensures.value ∙ c.in_ok-all.ensures in
    let units = c.in_ok-units.ensures.units ∙ ap (units_of c.args.files.now) all in
    let painted = c.deref-6.ensures.value ∙ units in
    record {
      units = units;
      bodies = c.in_ok-units.ensures.bodies ∙ ap (λ es. map (is_body c.args.files.now) (units_of c.args.files.now es)) all;
      hosts = c.in_ok-rows.ensures.around ∙ ap (around_of c.args.files.now) painted ∙ hosts_are c.args.files.now c.requires;
      rows = c.in_ok-rows.ensures.rows ∙ ap (rows_of c.args.files.now) painted;
    }
