use Rattle.std.proofs.Common.{◌≡◌, List, All, true, subst, take_all, rules}
use Rattle.std.proofs.lemmas.List.Elements.{All-more}
use Rattle.ftn_base.specs.declared.entity.Tie.{Tie}
use Rattle.ftn_base.specs.StorageGiven.{IsTieOf}
use Rattle.crate_tests.proofs.tests.layout_given.are_tied.Goals as goal

-- what a read past the end would give
abbrev none : Tie
none = record { a = 0; at_a = 0; b = 0; at_b = 0 }

pub loop-tie-preserved : goal.loop-tie-preserved
loop-tie-preserved c =
    let holds : c.is_tie_of.result ≡ true = search rules in
    All-more (IsTieOf c.args.objects.now) c.args.ties.now c.loop-tie.tie-index none c.loop-tie-test.true c.loop-tie.invariant (c.is_tie_of.ensures holds)

pub returns : goal.returns
returns c = λ _. subst (λ (list : List Tie). All (IsTieOf c.args.objects.now) list) (take_all c.loop-tie.tie-index c.args.ties.now c.loop-tie-test.false) c.loop-tie.invariant
