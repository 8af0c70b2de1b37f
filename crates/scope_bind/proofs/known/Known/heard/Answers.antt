use Rattle.std.proofs.Common.{ap, sym, ◌∙◌}
use Rattle.decl_table.specs.steps.Heard.{heard_in}
use Rattle.scope_bind.specs.declared.names.Names.{Names}
use Rattle.scope_bind.proofs.UnitReads.{names_read}
use Rattle.scope_bind.proofs.known.Known.heard.Goals as goal

pub returns : goal.returns
returns c =
    c.heard_of.ensures ∙ ap (λ (n : Names). heard_in n.heard c.args.name.now) (sym c.index-self-scope.is)
    ∙ (names_read c.args.self.now.files.now c.args.self.now.names.now c.requires.known.names c.args.scope c.requires.within c.index-self-scope.result c.index-self-scope.is).heard c.args.name.now
