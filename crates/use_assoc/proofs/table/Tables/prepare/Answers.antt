use Rattle.std.proofs.Common.{map, ap, ◌∙◌}
use Rattle.ftn_base.specs.Accessible.{entities_of}
use Rattle.use_assoc.proofs.Modules.{table_added}
use Rattle.use_assoc.proofs.table.Tables.prepare.Goals as goal

pub returns-clause-tables : goal.returns-clause-tables
returns-clause-tables c =
    table_added (map (λ pairs. pairs.items) c.args.exports.now) c.args.self.now.by_module c.insert.new.self c.args.number c.in_ok-table.table c.requires.tables c.in_ok-insert.ensures.updates.0
    (c.in_ok-table.ensures ∙ ap entities_of c.exports_of.ensures)
