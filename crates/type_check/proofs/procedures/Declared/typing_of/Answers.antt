use Rattle.std.proofs.Common.{Some, None, option_map, sym, ap, ◌∙◌}
use Rattle.const_value.specs.steps.Written.{typing_seen}
use Rattle.type_check.proofs.DeclaredNames.{answer_here, read_there, token_of_typing, typing_here}
use Rattle.type_check.proofs.procedures.Declared.typing_of.Goals as goal

pub returns-in-Some-typing : goal.returns-in-Some-typing
returns-in-Some-typing c files d a there =
    let p = c.args.self.now.names.now.project.now in
    let kept = read_there p.names.items c.deref.result.now c.args.name c.in-Some.owned.now c.deref.ensures.value c.in-Some.ensures.lookup.3.0 c.in-Some.ensures.lookup.1 in
    let written = read_there p.written.items c.deref-2.result.now c.args.name c.in-Some-get.written.now c.deref-2.ensures.value c.in-Some-get.ensures.lookup.3.0 c.in-Some-get.ensures.lookup.1 in
    token_of_typing files d c.in-Some.owned.now.said.answer (Some c.in-Some-typing.typing)
    (answer_here files c.args.self.now a c.args.name d c.in-Some.owned.now there kept)
    c.if-owned.false
    (sym (ap (option_map typing_seen) c.in-Some-typing.is) ∙ typing_here files c.args.self.now a c.args.name d c.in-Some-get.written.now there written)

pub returns-in-None-typing : goal.returns-in-None-typing
returns-in-None-typing c files d a there =
    let p = c.args.self.now.names.now.project.now in
    let kept = read_there p.names.items c.deref.result.now c.args.name c.in-Some.owned.now c.deref.ensures.value c.in-Some.ensures.lookup.3.0 c.in-Some.ensures.lookup.1 in
    let written = read_there p.written.items c.deref-2.result.now c.args.name c.in-Some-get.written.now c.deref-2.ensures.value c.in-Some-get.ensures.lookup.3.0 c.in-Some-get.ensures.lookup.1 in
    token_of_typing files d c.in-Some.owned.now.said.answer None
    (answer_here files c.args.self.now a c.args.name d c.in-Some.owned.now there kept)
    c.if-owned.false
    (sym (ap (option_map typing_seen) c.in-None-typing.is) ∙ typing_here files c.args.self.now a c.args.name d c.in-Some-get.written.now there written)
