use Rattle.std.proofs.Common.{ap, sym, subst, ◌∙◌}
use Rattle.scope_bind.specs.steps.Declared.{meant}
use Rattle.scope_bind.specs.steps.Exporting.{HasUnit}
use Rattle.scope_bind.proofs.DeclaredNames.{declared_known, declared_within}
use Rattle.scope_bind.proofs.known.Known.declared.Goals as goal

pub returns-clause-within : goal.returns-clause-within
returns-clause-within c =
    let files = c.args.self.now.files.now in
    subst (HasUnit files) (sym c.declared_by.ensures) (declared_within files c.requires.known.trees c.args.scope c.requires.within c.args.name.now)

pub returns-clause-meant : goal.returns-clause-meant
returns-clause-meant c =
    let files = c.args.self.now.files.now in
    ap (meant files c.args.scope c.args.name.now) c.declared_by.ensures ∙ declared_known files c.requires.known.trees c.args.scope c.requires.within c.args.name.now
