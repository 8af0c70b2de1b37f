use Rattle.std.proofs.Common.{ap, sym, ◌∙◌}
use Rattle.decl_table.specs.steps.Seen.{has_come}
use Rattle.decl_table.proofs.SeenNames.{turned}
use Rattle.scope_bind.specs.declared.names.Names.{Names}
use Rattle.scope_bind.proofs.UnitReads.{names_read}
use Rattle.scope_bind.proofs.known.Known.is_plain.Goals as goal

pub returns : goal.returns
returns c =
    c.contains.ensures ∙ turned _ c.args.name
    ∙ ap (λ (n : Names). has_come n.plain c.args.name.now) (sym c.index-self-scope.is)
    ∙ (names_read c.args.self.now.files.now c.args.self.now.names.now c.requires.known.names c.args.scope c.requires.within c.index-self-scope.result c.index-self-scope.is).plain c.args.name.now
