use Rattle.std.proofs.Common.{◌∙◌, ◌<◌, ◌≤◌, ◌++◌, ℕ, List, map, append-nil, sym, ap, subst}
use Rattle.ftn_tree.specs.declared.value.Given.{Given}
use Rattle.const_value.specs.steps.Giving.{end_of, object_given}
use Rattle.const_value.specs.steps.GivingSeen.{object_seen, supply_seen}
use Rattle.const_value.specs.steps.Telling.{sight_of}
use Rattle.const_value.proofs.GivenTurns.{beyond_none, object_more, past_end, past_more, past_none, rest_none, seen_at, seen_here, seen_within}
use Rattle.const_value.proofs.givens.push_object.Goals as goal

pub values-init : goal.values-init
values-init c =
    let items = map supply_seen c.args.supplies.now in
    let o = object_seen c.args.object.now in
    record {
      given = ap (λ (xs : List Given). c.args.found.now.items ++ xs) (past_none (sight_of c.args.view.now) o c.args.start items c.requires.past);
      past = past_end o.run c.args.start items c.requires.past;
    }

pub returns-then-supply-end-clause-given : goal.returns-then-supply-end-clause-given
returns-then-supply-end-clause-given c =
    let items = map supply_seen c.args.supplies.now in
    let s = sight_of c.args.view.now in
    let o = object_seen c.args.object.now in
    let at = c.values.at in
    let x = c.index-supplies-at.result in
    let there = seen_at c.args.supplies.now at x c.values-test.true c.index-supplies-at.is in
    let over : end_of o.run ≤ x.run.from = subst (λ (k : ℕ). k ≤ x.run.from) c.end-end.ensures c.if-supply-end.true in
    sym (c.values.invariant.given ∙ ap (λ (xs : List Given). c.values.found.items ++ xs) (rest_none s o at items (supply_seen x) c.requires.rowed there over) ∙ append-nil c.values.found.items)

pub returns-then-end-clause-given : goal.returns-then-end-clause-given
returns-then-end-clause-given c =
    let items = map supply_seen c.args.supplies.now in
    let s = sight_of c.args.view.now in
    let o = object_seen c.args.object.now in
    let at = c.values.at in
    let x = c.index-supplies-at.result in
    let there = seen_at c.args.supplies.now at x c.values-test.true c.index-supplies-at.is in
    let over : end_of o.run < end_of (supply_seen x).run = subst (λ (k : ℕ). k < end_of (supply_seen x).run) c.end-end.ensures (subst (λ (k : ℕ). c.end-end.result < k) c.end.ensures c.if-end.true) in
    sym (
    object_more s o at items (supply_seen x) (c.args.found.now.items ++ object_given s o items) c.values.found.items c.push_if.new.found.items c.in_ok-given.given
    (seen_within c.args.supplies.now at c.values-test.true) (seen_here c.args.supplies.now at x c.values-test.true c.index-supplies-at.is) c.in_ok-given.ensures c.in_ok-push_if.ensures c.values.invariant.given
    ∙ ap (λ (xs : List Given). c.push_if.new.found.items ++ xs) (beyond_none s o at items (supply_seen x) c.requires.rowed there over) ∙ append-nil c.push_if.new.found.items
    )

pub values-preserved : goal.values-preserved
values-preserved c =
    let items = map supply_seen c.args.supplies.now in
    let s = sight_of c.args.view.now in
    let o = object_seen c.args.object.now in
    let at = c.values.at in
    let x = c.index-supplies-at.result in
    let there = seen_at c.args.supplies.now at x c.values-test.true c.index-supplies-at.is in
    let within : end_of (supply_seen x).run ≤ end_of o.run = subst (λ (k : ℕ). end_of (supply_seen x).run ≤ k) c.end-end.ensures (subst (λ (k : ℕ). k ≤ c.end-end.result) c.end.ensures c.if-end.false) in
    record {
      given = object_more s o at items (supply_seen x) (c.args.found.now.items ++ object_given s o items) c.values.found.items c.push_if.new.found.items c.in_ok-given.given
          (seen_within c.args.supplies.now at c.values-test.true) (seen_here c.args.supplies.now at x c.values-test.true c.index-supplies-at.is) c.in_ok-given.ensures c.in_ok-push_if.ensures c.values.invariant.given;
      past = past_more (end_of o.run) at items (supply_seen x) c.values.invariant.past there within;
    }
