use Rattle.std.proofs.Common.{rules, Some, None, option_map, refl, sym, ap, ◌∙◌}
use Rattle.const_value.specs.steps.Written.{typing_seen}
use Rattle.const_value.proofs.GatheredNames.{written_within}
use Rattle.ftn_tree.specs.NameFaults.{begins, said_of}
use Rattle.type_check.proofs.DeclaredNames.{read_there, typing_here, where_typed}
use Rattle.type_check.proofs.procedures.Declared.typed_where.Goals as goal

pub returns-in-Some-typing : goal.returns-in-Some-typing
returns-in-Some-typing c files d a there =
    let p = c.args.self.now.names.now.project.now in
    let written = read_there p.written.items c.deref.result.now c.args.name c.in-Some.written.now c.deref.ensures.value c.in-Some.ensures.lookup.3.0 c.in-Some.ensures.lookup.1 in
    where_typed files d (Some c.in-Some-typing.typing) (begins (said_of files d.scope d.name))
    (sym (ap (option_map typing_seen) c.in-Some-typing.is) ∙ typing_here files c.args.self.now a c.args.name d c.in-Some.written.now there written) refl

pub returns-in-None-typing : goal.returns-in-None-typing
returns-in-None-typing c files d a there =
    let p = c.args.self.now.names.now.project.now in
    let written = read_there p.written.items c.deref.result.now c.args.name c.in-Some.written.now c.deref.ensures.value c.in-Some.ensures.lookup.3.0 c.in-Some.ensures.lookup.1 in
    where_typed files d None c.begins.result
    (sym (ap (option_map typing_seen) c.in-None-typing.is) ∙ typing_here files c.args.self.now a c.args.name d c.in-Some.written.now there written)
    (c.begins.ensures files d a there)

pub returns-in-None : goal.returns-in-None
returns-in-None c files d a there =
    let p = c.args.self.now.names.now.project.now in
    let within = written_within files p a.names.gathered c.args.name d there in
    absurd (search rules)
