use Rattle.std.proofs.Common.{◌≡◌, take}
use Rattle.ftn_tree.specs.PartMentions.{given_of}
use Rattle.ftn_tree.proofs.mentions.given.given_of.Given as goal

abbrev pub invariant-loop-role : goal.invariant-loop-role
invariant-loop-role l = l.given ≡ given_of (take l.role-index l.roles) l.attributes
