use Rattle.std.proofs.Common.{ap, ap₂, sym, ◌∙◌}
use Rattle.ftn_tree.specs.DeclaredEntities.{kind_said}
use Rattle.ftn_tree.specs.NameFaults.{said_of}
use Rattle.decl_table.specs.declared.heard.Heard.{Heard}
use Rattle.decl_table.specs.declared.noted.Noted.{Noted}
use Rattle.decl_table.specs.steps.Heard.{kind_heard}
use Rattle.decl_table.proofs.DraftedNames.{kind_is}
use Rattle.scope_bind.specs.steps.Globals.{unit_at}
use Rattle.scope_bind.proofs.name_faults.kind_of.Goals as goal

pub returns : goal.returns
returns c =
    let files = c.args.known.now.files.now in
    let said = said_of files (unit_at files c.args.scope) c.args.name.now in
    let referenced = c.noted-referenced.result.referenced in
    c.kind.ensures
    ∙ ap (λ (h : Heard). kind_heard c.has_result.result referenced h) c.heard.ensures
    ∙ sym (kind_is c.has_result.result referenced said)
    ∙ ap₂ (λ a b. kind_said a b said) c.has_result.ensures (ap (λ (n : Noted). n.referenced) c.noted-referenced.ensures)
