use Rattle.std.proofs.Common.{◌∙◌, ap}
use Rattle.lossless_tree.proofs.Held.{gap_held, gap_said}
use Rattle.lossless_tree.proofs.text.Text.gap.Goals as goal

pub part-requires-clause-order : goal.part-requires-clause-order
part-requires-clause-order c =
    rw (c.end_before-start.ensures, c.start_of-end.ensures)
    (gap_held c.self.inside.text.now c.args.self.now c.as_slice-tokens.result.now c.args.i c.self.view_is (c.as_slice-tokens.ensures ∙ ap (λ made. made.items) c.self.invariant.0) c.requires).0

pub part-requires-clause-within : goal.part-requires-clause-within
part-requires-clause-within c =
    rw c.start_of-end.ensures
    (gap_held c.self.inside.text.now c.args.self.now c.as_slice-tokens.result.now c.args.i c.self.view_is (c.as_slice-tokens.ensures ∙ ap (λ made. made.items) c.self.invariant.0) c.requires).1

pub returns : goal.returns
returns c =
    gap_said c.self.inside.text.now c.args.self.now c.part.result.now c.as_slice-tokens.result.now c.args.i c.self.view_is
    (c.as_slice-tokens.ensures ∙ ap (λ made. made.items) c.self.invariant.0) c.requires
    (rw (c.end_before-start.ensures, c.start_of-end.ensures) at c.part.ensures)
