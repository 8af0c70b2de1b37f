use Rattle.std.proofs.Common.{sym, ◌∙◌, ap, subst, List}
use Rattle.ftn_tree.specs.declared.unit.Statement.{Statement}
use Rattle.unit_parse.specs.Parsing.{HasNoTree, IsParseFault}
use Rattle.unit_parse.specs.declared.fault.ParseFault.{ParseFault}
use Rattle.unit_parse.specs.steps.Progress as spec
use Rattle.unit_parse.proofs.Endings.{tree_of, end_fault, end_tree}
use Rattle.unit_parse.proofs.files.parse.Goals as goal

pub returns-in-Ok-clause-tree : goal.returns-in-Ok-clause-tree
returns-in-Ok-clause-tree c = tree_of c.args.tokens c.in_ok-statements.field-0 c.in_ok-statements.ensures c.in-Ok.units c.in-Ok.ensures

pub returns-in-Err-clause-fault : goal.returns-in-Err-clause-fault
returns-in-Err-clause-fault c =
    let told = ap (λ (l : List Statement). spec.unfinished c.in-Err.fault c.args.tokens l) c.as_slice.ensures in
    subst (λ (found : ParseFault). IsParseFault c.args.tokens found) (sym (c.unfinished.ensures ∙ told))
    (end_fault c.args.tokens c.in_ok-statements.field-0 c.in_ok-statements.ensures c.in-Err.fault c.in-Err.ensures)

pub returns-in-Err-clause-no_tree : goal.returns-in-Err-clause-no_tree
returns-in-Err-clause-no_tree c =
    let told = ap (λ (l : List Statement). spec.unfinished c.in-Err.fault c.args.tokens l) c.as_slice.ensures in
    subst (λ (found : ParseFault). HasNoTree c.args.tokens found) (sym (c.unfinished.ensures ∙ told))
    (end_tree c.args.tokens c.in_ok-statements.field-0 c.in_ok-statements.ensures c.in-Err.fault c.in-Err.ensures)
