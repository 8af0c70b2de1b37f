use Rattle.std.proofs.Common.{sym, subst, Option, ℕ, List, get_or, take}
use Rattle.std.proofs.lemmas.List.{take_more}
use Rattle.std.proofs.lemmas.List.Elements.{All-take}
use Rattle.ftn_base.specs.declared.entity.Tie.{Tie}
use Rattle.ftn_base.specs.Storage.{IsWithin}
use Rattle.equiv_class.specs.steps.Lists.{lists_of}
use Rattle.equiv_class.specs.steps.Joins.{Joins}
use Rattle.equiv_class.specs.steps.Joining.{IsJoined}
use Rattle.equiv_class.proofs.Clashes.{conflict}
use Rattle.equiv_class.proofs.Steps.{is_ready, joined_first, joined_next}
use Rattle.equiv_class.proofs.solving.join_all.Goals as goal

pub loop-tie-init : goal.loop-tie-init
loop-tie-init c = joined_first c.args.sizes.now (lists_of c.in_ok-sequences.sequences) c.in_ok-sequences.ensures

-- what a read past the end would give
abbrev none : Tie
none = record { a = 0; at_a = 0; b = 0; at_b = 0 }

pub join-requires : goal.join-requires
join-requires c =
    is_ready c.args.sizes.now _ (lists_of c.loop-tie.sequences) _ c.loop-tie.invariant (c.requires.within c.loop-tie.tie none c.loop-tie-test.true) c.requires.small

pub returns-in-Some-clause-conflict : goal.returns-in-Some-clause-conflict
returns-in-Some-clause-conflict c =
    let tie : Tie = get_or c.args.ties.now c.loop-tie.tie none in
    let clash = subst (λ (found : Option (ℕ × ℕ)). Joins (lists_of c.loop-tie.sequences) tie found (lists_of c.join.new.sequences)) c.in-Some.is c.in_ok-one.ensures in
    conflict c.args.sizes.now c.args.ties.now (lists_of c.loop-tie.sequences) c.loop-tie.tie none c.loop-tie-test.true c.requires.within c.loop-tie.invariant c.in-Some.one c.in-Some.other clash

pub loop-tie-preserved : goal.loop-tie-preserved
loop-tie-preserved c =
    let tie : Tie = get_or c.args.ties.now c.loop-tie.tie none in
    let step = subst (λ (found : Option (ℕ × ℕ)). Joins (lists_of c.loop-tie.sequences) tie found (lists_of c.join.new.sequences)) c.in_default.is c.in_ok-one.ensures in
    subst (λ (ties : List Tie). IsJoined c.args.sizes.now ties (lists_of c.join.new.sequences)) (sym (take_more c.args.ties.now c.loop-tie.tie none c.loop-tie-test.true))
    (joined_next c.args.sizes.now (take c.loop-tie.tie c.args.ties.now) tie (All-take (IsWithin c.args.sizes.now) c.loop-tie.tie c.args.ties.now c.requires.within) (c.requires.within c.loop-tie.tie none c.loop-tie-test.true)
    (lists_of c.loop-tie.sequences) (lists_of c.join.new.sequences) c.loop-tie.invariant step)
