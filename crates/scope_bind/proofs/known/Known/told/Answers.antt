use Rattle.std.proofs.Common.{ap, sym, ◌∙◌}
use Rattle.scope_bind.specs.steps.Told.{told_in}
use Rattle.scope_bind.specs.declared.names.Names.{Names}
use Rattle.scope_bind.proofs.UnitReads.{names_read}
use Rattle.scope_bind.proofs.known.Known.told.Goals as goal

pub returns : goal.returns
returns c =
    c.told_of.ensures ∙ ap (λ (n : Names). told_in n.told c.args.name.now) (sym c.index-self-scope.is)
    ∙ (names_read c.args.self.now.files.now c.args.self.now.names.now c.requires.known.names c.args.scope c.requires.within c.index-self-scope.result c.index-self-scope.is).told c.args.name.now
