use Rattle.std.proofs.Common.{◌≡◌, List, All, rules, subst, take_all, true}
use Rattle.std.proofs.lemmas.List.Elements.{All-more}
use Rattle.ftn_base.specs.declared.entity.Tie.{Tie}
use Rattle.ftn_base.specs.Storage.{IsWithin}
use Rattle.crate_tests.proofs.tests.tie_rows.are_within.Goals as goal

-- what a read past the end would give
abbrev none : Tie
none = record { a = 0; at_a = 0; b = 0; at_b = 0 }

pub loop-tie-preserved : goal.loop-tie-preserved
loop-tie-preserved c =
    let holds : c.is_within.result ≡ true = search rules in
    All-more (IsWithin c.args.sizes.now) c.args.ties.now c.loop-tie.tie-index none c.loop-tie-test.true c.loop-tie.invariant (c.is_within.ensures holds)

pub returns : goal.returns
returns c = λ _. subst (λ (list : List Tie). All (IsWithin c.args.sizes.now) list) (take_all c.loop-tie.tie-index c.args.ties.now c.loop-tie-test.false) c.loop-tie.invariant
