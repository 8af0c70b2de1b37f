use Rattle.std.proofs.Common.{◌∙◌, ap}
use Rattle.lossless_tree.proofs.Held.{line_fits, line_said, starts_held}
use Rattle.lossless_tree.proofs.text.Text.line_of.Goals as goal

pub count_up_to-requires : goal.count_up_to-requires
count_up_to-requires c = starts_held c.self.inside.text.now c.as_slice.result.now c.args.at (c.as_slice.ensures ∙ ap (λ made. made.line_starts) c.self.invariant.0)

pub overflow_cast-result : goal.overflow_cast-result
overflow_cast-result c = record {
  fits = line_fits c.self.inside.text.now c.args.self.now c.as_slice.result.now c.args.at c.count_up_to.result c.self.view_is (c.as_slice.ensures ∙ ap (λ made. made.line_starts) c.self.invariant.0) c.count_up_to.ensures c.self.invariant.1;
}

pub returns : goal.returns
returns c =
    line_said c.self.inside.text.now c.args.self.now c.as_slice.result.now c.args.at c.count_up_to.result c.self.view_is (c.as_slice.ensures ∙ ap (λ made. made.line_starts) c.self.invariant.0) c.count_up_to.ensures
