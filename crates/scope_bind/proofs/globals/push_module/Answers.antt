use Rattle.std.proofs.Common.{ap, ◌++◌, ◌∙◌}
use Rattle.scope_bind.proofs.ModuleUnits.{module_is}
use Rattle.scope_bind.proofs.globals.push_module.Goals as goal

pub returns : goal.returns
returns c =
    c.in_ok-push_if.ensures
    ∙ ap (λ ns. c.args.modules.now.items ++ ns) (module_is c.args.files.now c.requires.trees c.args.number _ _ _ _ c.unit_at-body.ensures.unit c.unit_at-body.ensures.host c.kind_of-kind.ensures c.is_module.ensures)
