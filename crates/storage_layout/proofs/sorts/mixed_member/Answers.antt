use Rattle.std.proofs.Common.{ℕ, Option, subst}
use Rattle.storage_layout.specs.declared.kind.Kind.TheVariants as kind
use Rattle.storage_layout.specs.steps.Held.{IsFirstWith}
use Rattle.storage_layout.proofs.Telling.{member_told}
use Rattle.storage_layout.proofs.sorts.mixed_member.Goals as goal

pub returns-in-Some : goal.returns-in-Some
returns-in-Some c =
    member_told c.args.objects.now c.args.blocks.now c.args.things.now c.requires.sizes c.requires.members c.in-Some.number c.place_of.result.0 c.place_of.result.1
    (subst (λ (found : Option ℕ). IsFirstWith c.args.objects.now c.args.things.now kind.MixedLists found) c.in-Some.is c.in_ok-number.ensures) c.place_of.ensures
