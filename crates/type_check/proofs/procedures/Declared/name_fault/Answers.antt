use Rattle.std.proofs.Common.{sym, ap, ◌∙◌}
use Rattle.std.specs.Prelude.{not}
use Rattle.ftn_base.specs.declared.fault.FaultKind.TheVariants.{WrongType}
use Rattle.ftn_tree.specs.ExpressionTypes.{if_told}
use Rattle.name_types.specs.steps.Generics.{unit_by}
use Rattle.type_check.specs.steps.Noted.{first_seen, noted}
use Rattle.type_check.proofs.NotedLaws.{noted_if}
use Rattle.type_check.proofs.ToldTypes.{told_meant, told_unmeant}
use Rattle.type_check.proofs.procedures.Declared.name_fault.Goals as goal

pub returns-in_default-unit_at : goal.returns-in_default-unit_at
returns-in_default-unit_at c =
    λ d there file.
    ap (noted c.args.file (first_seen c.args.faults.now))
    (sym (told_unmeant c.args.files.now c.args.self.now c.requires c.args.name d there c.in-Some.token (c.in-Some.ensures c.args.files.now d c.requires there)
    (c.in_default-unit_at.ensures ∙ ap (λ f. unit_by c.args.self.now.names.now.project.now f c.in-Some.token) file)))

pub returns : goal.returns
returns c =
    λ d there file.
    let meant = told_meant c.args.files.now c.args.self.now c.requires c.args.name d there c.in-Some.token c.in-Some-unit_at.function (c.in-Some.ensures c.args.files.now d c.requires there)
    (c.in-Some-unit_at.ensures ∙ ap (λ f. unit_by c.args.self.now.names.now.project.now f c.in-Some.token) file) in
    c.note_if.ensures
    ∙ noted_if c.args.file (first_seen c.args.faults.now) (not c.in_ok-same.same) WrongType c.in-Some.token
    ∙ ap (λ same. noted c.args.file (first_seen c.args.faults.now) (if_told (not same) WrongType c.in-Some.token)) (c.in_ok-same.ensures d meant.procedure there meant.there)
    ∙ ap (noted c.args.file (first_seen c.args.faults.now)) (sym meant.told)
