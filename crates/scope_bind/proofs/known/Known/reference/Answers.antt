use Rattle.std.proofs.Common.{ap, sym, subst, not, ◌∙◌}
use Rattle.ftn_base.specs.Keywords.{is_intrinsic}
use Rattle.ftn_tree.specs.Meanings.{external_of}
use Rattle.scope_bind.specs.declared.declared.Declared.TheVariants as made
use Rattle.scope_bind.specs.steps.Declared.{meant, intrinsic_or, procedure_by}
use Rattle.scope_bind.specs.steps.Exporting.{HasUnit}
use Rattle.scope_bind.proofs.DeclaredNames.{procedure_known, intrinsic_known, if_within}
use Rattle.scope_bind.proofs.ReferenceMeanings.{called_known, referenced_known}
use Rattle.scope_bind.proofs.known.Known.reference.Goals as goal

pub returns-then-says-clause-meant : goal.returns-then-says-clause-meant
returns-then-says-clause-meant c = λ scope.
    let files = c.args.self.now.files.now in
    ap (meant files scope c.args.name.now) c.procedure_named.ensures.value ∙ procedure_known files c.requires.known.trees scope c.args.name.now c.args.name.now
    ∙ called_known files c.args.mention.now c.args.name.now (sym c.says.ensures ∙ c.if-says.true)

pub returns-then-not-says-clause-within : goal.returns-then-not-says-clause-within
returns-then-not-says-clause-within c =
    subst (HasUnit c.args.self.now.files.now) (sym c.intrinsic_or.ensures)
    (if_within c.args.self.now.files.now (is_intrinsic c.args.name.now) made.Intrinsic c.procedure_named-then-not-says.result tt c.procedure_named-then-not-says.ensures.within)

pub returns-then-not-says-clause-meant : goal.returns-then-not-says-clause-meant
returns-then-not-says-clause-meant c = λ scope.
    let files = c.args.self.now.files.now in
    let name = c.args.name.now in
    ap (meant files scope name) (c.intrinsic_or.ensures ∙ ap (intrinsic_or name) c.procedure_named-then-not-says.ensures.value)
    ∙ intrinsic_known files scope name (procedure_by files name) (external_of files name) (procedure_known files c.requires.known.trees scope name name)
    ∙ referenced_known files c.args.mention.now name (sym c.says.ensures ∙ c.if-says.false) (sym c.says-else-says.ensures ∙ c.if-says-2.true)
    (ap not (sym c.says-then-says-2.ensures ∙ c.if-not-says.true))
