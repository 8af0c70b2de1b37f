use Rattle.std.proofs.Common.{ap, ◌∙◌, take_all}
use Rattle.std.specs.List.{flat_map}
use Rattle.ftn_tree.specs.Declarations.{declared_at}
use Rattle.ftn_tree.specs.Extents.{layer_at}
use Rattle.decl_table.proofs.Entries.{own_said}
use Rattle.const_value.proofs.data.own_declared.Goals as goal

pub returns : goal.returns
returns c =
    c.loop-statement.invariant
    ∙ ap (flat_map (λ statement. declared_at (layer_at c.args.files.now c.args.unit.file statement)))
    (take_all c.loop-statement.statement-index c.deref-statement-items.result.now c.loop-statement-test.false ∙ c.deref-statement-items.ensures.value
    ∙ own_said c.args.files.now c.requires.trees c.args.number c.args.unit c.deref.result.now c.args.scoping.now.rows.items c.in_ok-statements.statements.items
    c.requires.unit c.deref.ensures.value c.requires.known.rows c.in_ok-statements.ensures)
