use Rattle.std.proofs.Common.{◌≡◌, ◌+◌, ◌<◌, ◌∙◌, ◌++◌, ◌∷◌, ℕ, List, [], length, get_or, set, take, ap, sym, subst, arith, true, Some, None}
use Rattle.std.specs.Prelude.{not}
use Rattle.std.specs.Option.{is_some}
use Rattle.std.proofs.lemmas.List.{length_push}
use Rattle.const_value.specs.steps.Labelling.{AreSpread, label_at, unlabelled}
use Rattle.const_value.proofs.SpreadTurns.{one_less, spread_one, spread_passed, unlabelled_here}
use Rattle.const_value.proofs.components.label_all.Goals.{then-is_none+in_ok-push, else-is_none}
use Rattle.const_value.proofs.components.label_all.Goals as goal

pub loop-number-preserved : goal.loop-number-preserved
loop-number-preserved c =
    let list = c.args.list.now in
    let label = c.args.label in
    let i = c.loop-number.number-index in
    let number = get_or list i 0 in
    let labels = c.loop-number.labels in
    let stack = c.loop-number.stack.items in
    let after = c.if-is_none.labels in
    let more = c.if-is_none.stack.items in
    let spread = c.loop-number.invariant.spread in
    let lt = c.loop-number-test.true in
    let below : number < length c.args.labels.now = c.requires i 0 lt in
    let sized : length labels ≡ length c.args.labels.now = spread.sized in
    let known : number < length labels = omega (arith, below, sized) in
    let shift : unlabelled labels + length stack ≡ unlabelled c.args.labels.now + length c.args.stack.now.items = c.loop-number.invariant.shift in
    elim c.if-is_none.branch [
      | then-is_none+in_ok-push w ↦
          let none : label_at labels number ≡ None = unlabelled_here (label_at labels number) (c.is_none.ensures ∙ ap not w.if-is_none.true) in
          let put : after ≡ set labels number (Some label) = w.labels-is in
          let pushed : more ≡ stack ++ number ∷ [] = ap (λ v. v.items) w.stack-is ∙ w.in_ok-push.ensures.items in
          let less : unlabelled (set labels number (Some label)) + 1 ≡ unlabelled labels = one_less labels number label known none in
          let same : unlabelled after ≡ unlabelled (set labels number (Some label)) = ap unlabelled put in
          let longer : length more ≡ length stack + 1 = ap length pushed ∙ length_push stack number in
          record {
            spread = spread_one list i label c.args.labels.now c.args.stack.now.items labels stack spread lt after more known none put pushed;
            shift = omega (arith, shift, less, same, longer);
          }
      | else-is_none w ↦
          let here : is_some (label_at labels number) ≡ true = c.is_none.ensures ∙ ap not w.if-is_none.false in
          let put : labels ≡ after = sym w.labels-is in
          let kept : stack ≡ more = ap (λ v. v.items) (sym w.stack-is) in
          subst (λ ls. record {
            spread : AreSpread (take (i + 1) list) label c.args.labels.now c.args.stack.now.items ls more;
            shift : unlabelled ls + length more ≡ unlabelled c.args.labels.now + length c.args.stack.now.items;
          }) put (subst (λ (ns : List ℕ). record {
            spread : AreSpread (take (i + 1) list) label c.args.labels.now c.args.stack.now.items labels ns;
            shift : unlabelled labels + length ns ≡ unlabelled c.args.labels.now + length c.args.stack.now.items;
          }) kept (record { spread = spread_passed list i label c.args.labels.now c.args.stack.now.items labels stack spread lt here; shift = shift }))
    ]
