use Rattle.std.proofs.Common.{◌∙◌, length, ap}
use Rattle.const_value.specs.steps.EntityLists.{constants_from, kinds_from, shapes_from}
use Rattle.const_value.proofs.AllValues as listed
use Rattle.const_value.proofs.entity_values.all_values.Goals as goal

pub kinds_of-requires-clause-names : goal.kinds_of-requires-clause-names
kinds_of-requires-clause-names c =
    ap length c.deref-known.ensures.value
    ∙ listed.names_long c.args.files.now c.requires.trees c.requires.declared c.requires.names c.requires.found c.args.project.now c.requires.gathered c.args.all.now.known.items c.args.all.now.namings.items c.requires.known

pub kinds_of-requires-clause-written : goal.kinds_of-requires-clause-written
kinds_of-requires-clause-written c =
    ap length c.deref-known.ensures.value
    ∙ listed.written_long c.args.files.now c.requires.trees c.requires.declared c.requires.names c.requires.found c.args.project.now c.requires.gathered c.args.all.now.known.items c.args.all.now.namings.items c.requires.known

pub returns : goal.returns
returns c =
    let p = c.args.project.now in
    let entities = p.bound.now.tables.entities in
    record {
      values =
          listed.values_are c.args.files.now c.requires.trees c.requires.declared c.requires.names c.requires.found p c.requires.gathered c.args.all.now.known.items c.args.all.now.namings.items c.requires.known
          c.from_vec.result c.from_vec-2.result c.from_vec-3.result c.from_vec-4.result
          (c.from_vec.ensures ∙ c.in_ok-shapes.ensures ∙ ap (λ known. shapes_from p known 0 entities) c.deref-known.ensures.value)
          (c.from_vec-2.ensures ∙ c.in_ok-constants.ensures ∙ ap (λ known. constants_from p known 0 entities) c.deref-known.ensures.value)
          (c.from_vec-3.ensures ∙ c.in_ok-kinds.ensures ∙ ap (λ known. kinds_from p known 0 entities) c.deref-known.ensures.value)
          (c.from_vec-4.ensures ∙ c.in_ok-given.ensures.given) c.in_ok-given.ensures.fits;
    }
