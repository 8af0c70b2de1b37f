use Rattle.std.proofs.Common.{◌≤◌, List, All, get_or, subst, take_all, arith}
use Rattle.std.proofs.lemmas.List.Elements.{All-more}
use Rattle.ftn_base.specs.declared.entity.Sort.TheVariants.{Numeric}
use Rattle.ftn_base.specs.declared.storage.Object.{Object}
use Rattle.crate_tests.proofs.tests.layout_given.are_filled.Goals as goal

-- what a read past the end would give
abbrev none : Object
none = record { units = 0; sort = Numeric; scope = 0 }

pub loop-object-preserved : goal.loop-object-preserved
loop-object-preserved c =
    let some : 1 ≤ (get_or c.args.objects.now c.loop-object.object-index none).units = omega arith in
    All-more (λ (object : Object). 1 ≤ object.units) c.args.objects.now c.loop-object.object-index none c.loop-object-test.true c.loop-object.invariant some

pub returns : goal.returns
returns c = λ _. subst (λ (list : List Object). All (λ (object : Object). 1 ≤ object.units) list) (take_all c.loop-object.object-index c.args.objects.now c.loop-object-test.false) c.loop-object.invariant
