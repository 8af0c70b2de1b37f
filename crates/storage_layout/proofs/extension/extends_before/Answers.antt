use Rattle.std.proofs.Common.{◌≤◌, List, All, get_or, subst, take_all, arith}
use Rattle.std.proofs.lemmas.List.Elements.{All-more}
use Rattle.ftn_base.specs.declared.entity.Tie.{Tie}
use Rattle.storage_layout.proofs.extension.extends_before.Goals as goal

-- what a read past the end would give
abbrev none : Tie
none = record { a = 0; at_a = 0; b = 0; at_b = 0 }

pub loop-tie-preserved : goal.loop-tie-preserved
loop-tie-preserved c =
    let near : get_or c.args.offset.now (get_or c.args.members.now c.loop-tie.tie-index none).b 0 ≤ (get_or c.args.members.now c.loop-tie.tie-index none).at_a = omega arith in
    All-more (λ (tie : Tie). get_or c.args.offset.now tie.b 0 ≤ tie.at_a) c.args.members.now c.loop-tie.tie-index none c.loop-tie-test.true c.loop-tie.invariant near

pub returns-clause-no : goal.returns-clause-no
returns-clause-no c = λ _. subst (λ (list : List Tie). All (λ (tie : Tie). get_or c.args.offset.now tie.b 0 ≤ tie.at_a) list) (take_all c.loop-tie.tie-index c.args.members.now c.loop-tie-test.false) c.loop-tie.invariant
