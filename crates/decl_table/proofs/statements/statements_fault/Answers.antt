use Rattle.std.proofs.Common.{◌++◌, ap, ◌∙◌}
use Rattle.ftn_tree.specs.DeclarationFaults.{first_finding, declaration_rank, letter_faults, none_faults, access_faults}
use Rattle.decl_table.specs.steps.Statements.{conflicts}
use Rattle.decl_table.proofs.StatementFaults.{letters_told, none_told, access_told}
use Rattle.decl_table.proofs.statements.statements_fault.Goals as goal

pub returns : goal.returns
returns c =
    c.earlier-2.ensures.joined (letter_faults c.args.files.now c.args.unit) (none_faults c.args.files.now c.args.unit ++ access_faults c.args.files.now c.args.unit)
    (c.first_at-letters.ensures
    ∙ ap (first_finding declaration_rank)
    (letters_told c.args.files.now c.args.unit c.args.own.now c.in_ok-givens.givens.items c.deref.result.now c.in_ok-again.again.items c.deref-2.result.now
    c.requires.own c.in_ok-givens.ensures c.deref.ensures.value c.in_ok-again.ensures c.deref-2.ensures.value))
    (c.earlier.ensures.joined (none_faults c.args.files.now c.args.unit) (access_faults c.args.files.now c.args.unit)
    (c.first_at-none.ensures
    ∙ ap (λ tokens. first_finding declaration_rank (conflicts c.args.unit.file tokens)) (c.deref-3.ensures.value ∙ c.in_ok-beside.ensures)
    ∙ ap (first_finding declaration_rank) (none_told c.args.files.now c.args.unit c.args.own.now c.requires.own))
    (c.first_at-last.ensures
    ∙ ap (λ tokens. first_finding declaration_rank (conflicts c.args.unit.file tokens)) (c.deref-4.ensures.value ∙ c.in_ok-access.ensures)
    ∙ ap (first_finding declaration_rank) (access_told c.args.files.now c.args.unit c.args.kind c.args.own.now c.requires.kind c.requires.own)))
