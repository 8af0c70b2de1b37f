use Rattle.std.proofs.Common.{sym, ◌∙◌}
use Rattle.scope_bind.proofs.OccurrenceMeanings.{no_module, some_module, module_scope_less}
use Rattle.scope_bind.proofs.occurrences.module_meaning.Goals as goal

pub unit_entity-requires-clause-within : goal.unit_entity-requires-clause-within
unit_entity-requires-clause-within c =
    module_scope_less c.args.known.now.files.now c.requires.known.trees c.args.known.now.globals.now.modules.items c.args.name.now c.in-Some.number c.index.result.now
    c.requires.known.globals.modules (sym c.in-Some.is ∙ c.module_number.ensures) c.index.ensures

pub returns-in-Some : goal.returns-in-Some
returns-in-Some c =
    some_module c.args.known.now.files.now c.requires.known.trees c.args.known.now.globals.now.modules.items c.args.name.now c.in-Some.number c.index.result.now c.unit_entity.result
    c.requires.known.globals.modules (sym c.in-Some.is ∙ c.module_number.ensures) c.index.ensures c.unit_entity.ensures

pub returns-in-None : goal.returns-in-None
returns-in-None c =
    no_module c.args.known.now.files.now c.requires.known.trees c.args.name.now (sym c.in-None.is ∙ c.module_number.ensures)
