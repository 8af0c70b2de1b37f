use Rattle.name_types.proofs.BodyLists.{pushed}
use Rattle.name_types.proofs.bodies.push_at.Goals as goal

pub returns : goal.returns
returns c =
    pushed c.args.lists.now c.args.at c.args.number c.index-lists-at.result c.push.new.self c.requires c.index-lists-at.is c.in_ok-push.ensures.items
