use Rattle.std.proofs.Common.{◌≡◌, ◌≤◌, ℕ, ap, length, subst}
use Rattle.const_value.specs.steps.Components.{IsFinishOrder}
use Rattle.const_value.specs.steps.Labelling.{AreLabels}
use Rattle.const_value.specs.steps.Lists.{lists_of}
use Rattle.const_value.specs.steps.References.{all_uses, all_tokens, refers, refers_at}
use Rattle.const_value.proofs.CircleTurns.{list_more, lists_all}
use Rattle.const_value.proofs.circles.Circles.of.Goals as goal

pub loop-name-preserved : goal.loop-name-preserved
loop-name-preserved c = record {
  uses = list_more (refers c.args.project.now) c.loop-name.name c.loop-name.uses.items c.push.new.self.items c.in_ok-used.used c.loop-name.invariant.uses c.in_ok-push.ensures.items c.in_ok-used.ensures.used;
  tokens = list_more (refers_at c.args.project.now) c.loop-name.name c.loop-name.tokens.items c.push-in-loop-name.new.self.items c.in_ok-used.at c.loop-name.invariant.tokens c.in_ok-push-2.ensures.items
      c.in_ok-used.ensures.tokens;
}

pub returns : goal.returns
returns c =
    let p = c.args.project.now in
    let count = length p.names.items in
    let same : length c.as_slice-names.result.now ≡ count = ap length c.as_slice-names.ensures.value in
    let below : c.loop-name.name ≤ count = subst (λ (k : ℕ). c.loop-name.name ≤ k) same c.loop-name.auto.name-end in
    let above : count ≤ c.loop-name.name = subst (λ (k : ℕ). k ≤ c.loop-name.name) same c.loop-name-test.false in
    let uses : lists_of c.loop-name.uses.items ≡ all_uses p = lists_all (refers p) c.loop-name.name count c.loop-name.uses.items c.loop-name.invariant.uses below above in
    let tokens : lists_of c.loop-name.tokens.items ≡ all_tokens p = lists_all (refers_at p) c.loop-name.name count c.loop-name.tokens.items c.loop-name.invariant.tokens below above in
    let order = rw c.deref.ensures.value at c.in_ok-order.ensures in
    let labels = rw c.deref-2.ensures.value at c.in_ok-labels.ensures in
    record {
      uses = uses;
      tokens = tokens;
      order = subst (λ u. IsFinishOrder u c.in_ok-order.order.items) uses order;
      labels = subst (λ u. AreLabels u c.in_ok-labels.labels.items) uses labels;
    }
