use Rattle.std.proofs.Common.{◌≡◌, ◌∙◌, sym, List, All, Some, get_or, subst, take_all, rules}
use Rattle.std.proofs.lemmas.List.Elements.{All-more}
use Rattle.ftn_base.specs.declared.storage.Member.{Member}
use Rattle.ftn_base.specs.StorageGiven.{IsObjectOf}
use Rattle.crate_tests.proofs.tests.layout_given.are_at_home.Goals as goal

-- what a read past the end would give
abbrev none : Member
none = record { block = 0; scope = 0; object = 0 }

pub loop-member-preserved : goal.loop-member-preserved
loop-member-preserved c =
    let same : c.scope_of.result ≡ Some (get_or c.args.members.now c.loop-member.member-index none).scope = search rules in
    All-more (λ (member : Member). IsObjectOf c.args.objects.now member.scope member.object) c.args.members.now c.loop-member.member-index none c.loop-member-test.true c.loop-member.invariant
    (sym c.scope_of.ensures ∙ same)

pub returns : goal.returns
returns c = λ _. subst (λ (list : List Member). All (λ (member : Member). IsObjectOf c.args.objects.now member.scope member.object) list) (take_all c.loop-member.member-index c.args.members.now c.loop-member-test.false) c.loop-member.invariant
