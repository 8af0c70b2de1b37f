use Rattle.std.proofs.Common.{get_or}
use Rattle.std.proofs.lemmas.List.{get_or_default}
use Rattle.scope_bind.specs.declared.meaning.Meaning.TheVariants as made
use Rattle.scope_bind.specs.declared.occurrences.Denoted.{Denoted}
use Rattle.scope_bind.proofs.References.{reference_more}
use Rattle.scope_bind.proofs.name_faults.first_of_references.Goals as goal

pub loop-one-preserved : goal.loop-one-preserved
loop-one-preserved c =
    let all = c.args.denoted.now in
    let i = c.loop-one.one-index in
    let d : Denoted = record { file = 0; token = 0; meaning = made.Nothing } in
    let one = get_or all i d in
    reference_more c.args.known.now.files.now all c.requires.denoted i one c.loop-one-test.true (get_or_default all i d one c.loop-one-test.true)
    c.loop-one.first c.reference_finding.result c.earlier-first.result c.loop-one.invariant c.reference_finding.ensures c.earlier-first.ensures.value
