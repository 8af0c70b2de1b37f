use Rattle.storage_layout.specs.steps.Kept.{given_of}
use Rattle.storage_layout.proofs.Telling.{tie_told, mismatch_told}
use Rattle.storage_layout.proofs.sorts.sorts_apart.Goals as goal

pub returns-clause-fault : goal.returns-clause-fault
returns-clause-fault c =
    mismatch_told c.args.objects.now c.args.blocks.now (given_of c.args.things.now) _ c.unmixed.result c.in_ok-tie.tie c.in_ok-member.member c.unmixed.ensures.mixed c.requires.apart
    (tie_told c.args.objects.now c.args.blocks.now c.args.things.now c.requires.sizes c.requires.members c.in_ok-tie.tie c.in_ok-tie.ensures) c.in_ok-member.ensures
