use Rattle.std.proofs.Common.{sym, subst}
use Rattle.std.specs.Prelude.{IfOk, Decides}
use Rattle.storage_layout.specs.declared.kind.Kind.{Kind}
use Rattle.storage_layout.specs.steps.Held.{Holds}
use Rattle.storage_layout.proofs.holding.holds.Goals as goal

pub returns-in-Before : goal.returns-in-Before
returns-in-Before c = subst (λ (k : Kind). IfOk c.is_extended.result (λ found. Decides found (Holds c.args.objects.now c.args.things.now k c.args.count))) (sym c.in-Before.is) c.is_extended.ensures

pub returns-in-Twins : goal.returns-in-Twins
returns-in-Twins c = subst (λ (k : Kind). IfOk c.are_joined.result (λ found. Decides found (Holds c.args.objects.now c.args.things.now k c.args.count))) (sym c.in-Twins.is) c.are_joined.ensures

pub returns-in-Mixed : goal.returns-in-Mixed
returns-in-Mixed c = subst (λ (k : Kind). IfOk c.are_mixed.result (λ found. Decides found (Holds c.args.objects.now c.args.things.now k c.args.count))) (sym c.in-Mixed.is) c.are_mixed.ensures

pub returns-in-MixedLists : goal.returns-in-MixedLists
returns-in-MixedLists c = subst (λ (k : Kind). IfOk c.are_mixed_alone.result (λ found. Decides found (Holds c.args.objects.now c.args.things.now k c.args.count))) (sym c.in-MixedLists.is) c.are_mixed_alone.ensures
