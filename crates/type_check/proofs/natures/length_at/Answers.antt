use Rattle.std.proofs.Common.{◌≡◌, IfOk, ap, ◌∙◌, subst}
use Rattle.ftn_tree.specs.TypeFaults.{fixed_length}
use Rattle.const_expr.specs.Namings.{evaluated_by}
use Rattle.const_value.specs.steps.Measuring.{declared_type}
use Rattle.const_value.specs.steps.Projects.{row_in}
use Rattle.type_check.proofs.natures.length_at.Goals as goal

pub returns : goal.returns
returns c =
    let p = c.args.project.now in
    subst (λ row. IfOk c.length_in.result (λ made. made ≡ fixed_length (declared_type (evaluated_by row c.args.namings.now) p.bound.now p.names.items p.written.items c.args.name)))
    (c.row.ensures ∙ ap (row_in p.rows.items) c.file_of.ensures) c.length_in.ensures
