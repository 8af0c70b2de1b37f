use Rattle.std.proofs.Common.{◌≢◌, List, All, get_or, subst, take_all, arith}
use Rattle.std.proofs.lemmas.List.Elements.{All-more}
use Rattle.ftn_base.specs.declared.storage.Member.{Member}
use Rattle.crate_tests.proofs.tests.layout_given.is_new.Goals as goal

-- what a read past the end would give
abbrev none : Member
none = record { block = 0; scope = 0; object = 0 }

pub loop-one-preserved : goal.loop-one-preserved
loop-one-preserved c =
    let apart : (get_or c.args.earlier.now c.loop-one.one-index none).object ≢ c.args.member.object = omega arith in
    All-more (λ (one : Member). one.object ≢ c.args.member.object) c.args.earlier.now c.loop-one.one-index none c.loop-one-test.true c.loop-one.invariant apart

pub returns : goal.returns
returns c = λ _. subst (λ (list : List Member). All (λ (one : Member). one.object ≢ c.args.member.object) list) (take_all c.loop-one.one-index c.args.earlier.now c.loop-one-test.false) c.loop-one.invariant
