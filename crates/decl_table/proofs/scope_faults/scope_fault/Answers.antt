use Rattle.std.proofs.Common.{◌∙◌}
use Rattle.decl_table.proofs.Entries.{own_said}
use Rattle.decl_table.proofs.scope_faults.scope_fault.Goals as goal

pub statements_fault-requires-clause-own : goal.statements_fault-requires-clause-own
statements_fault-requires-clause-own c =
    c.deref-2.ensures.value
    ∙ own_said c.args.files.now c.requires.trees c.args.number c.args.unit c.deref.result.now c.args.scoping.now.rows.items c.in_ok-own.own.items
    c.requires.unit c.deref.ensures.value c.requires.known.rows c.in_ok-own.ensures
