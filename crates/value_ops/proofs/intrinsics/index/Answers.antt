use Rattle.std.proofs.Common.{rules, arith, ◌≡◌, ◌+◌, ◌-◌, length, take, drop, bytes_eq, false, ap, sym, ◌∙◌}
use Rattle.std.proofs.lemmas.List.{take_rest}
use Rattle.value_ops.proofs.Searching.{passed_over}
use Rattle.value_ops.proofs.intrinsics.index.Goals as goal

pub starts-preserved : goal.starts-preserved
starts-preserved c =
    let seen : bytes_eq (take (length c.args.part.now) (take (length c.args.text.now - c.starts.at) (drop c.starts.at c.args.text.now))) c.args.part.now ≡ false = search rules in
    let e : bytes_eq (take (length c.args.part.now) (drop c.starts.at c.args.text.now)) c.args.part.now ≡ false =
    ap (λ xs. bytes_eq (take (length c.args.part.now) xs) c.args.part.now) (sym (take_rest c.args.text.now c.starts.at)) ∙ seen in
    (omega arith, c.starts.invariant.1 ∙ passed_over (c.starts.at + 1) c.args.part.now c.args.text.now c.starts.at (omega arith) e)
