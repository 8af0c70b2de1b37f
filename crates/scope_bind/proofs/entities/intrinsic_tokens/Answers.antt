use Rattle.std.proofs.Common.{◌∙◌, ap, filter, map, take_all}
use Rattle.scope_bind.specs.steps.Entities.{is_intrinsic_at, token_of}
use Rattle.scope_bind.proofs.IntrinsicDrafts.{intrinsics_told}
use Rattle.scope_bind.proofs.entities.intrinsic_tokens.Goals as goal

pub returns : goal.returns
returns c =
    let files = c.args.known.now.files.now in
    intrinsics_told files c.loop-one.found.items c.args.denoted.now c.requires.denoted
    (c.loop-one.invariant ∙ ap (λ ds. map token_of (filter (is_intrinsic_at files) ds)) (take_all c.loop-one.one-index c.args.denoted.now c.loop-one-test.false))
