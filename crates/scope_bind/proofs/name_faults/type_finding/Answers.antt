use Rattle.std.proofs.Common.{Some, ap, sym, ◌∙◌}
use Rattle.ftn_tree.specs.NameFaults.{letter_of}
use Rattle.scope_bind.specs.steps.Globals.{unit_at}
use Rattle.scope_bind.specs.steps.NameFaults.{found_at, letter_kind}
use Rattle.scope_bind.proofs.TypeFindings.{type_found}
use Rattle.scope_bind.proofs.name_faults.type_finding.Goals as goal

pub returns-in-Some : goal.returns-in-Some
returns-in-Some c =
    let files = c.args.known.now.files.now in
    let e = unit_at files c.args.scope in
    ap Some (c.found_at.ensures ∙ ap (found_at files c.in-Some.kind e) c.bytes-in-Some.ensures.bytes)
    ∙ type_found files e c.args.name.now c.in-Some.kind (sym c.needs_type.ensures ∙ c.if-not-needs_type.false)
    (ap (λ b. letter_kind (letter_of files e b)) (sym c.bytes.ensures.bytes) ∙ sym c.letter_fault.ensures ∙ c.in-Some.is)
