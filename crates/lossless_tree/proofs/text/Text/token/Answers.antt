use Rattle.std.proofs.Common.{◌∙◌, ap}
use Rattle.lossless_tree.proofs.Held.{token_held, token_said}
use Rattle.lossless_tree.proofs.text.Text.token.Goals as goal

pub part-requires-clause-order : goal.part-requires-clause-order
part-requires-clause-order c =
    (token_held c.self.inside.text.now c.args.self.now c.as_slice.result.now c.args.i c.index-as_slice-i.result c.self.view_is (c.as_slice.ensures ∙ ap (λ made. made.items) c.self.invariant.0) c.requires).0

pub part-requires-clause-within : goal.part-requires-clause-within
part-requires-clause-within c =
    (token_held c.self.inside.text.now c.args.self.now c.as_slice.result.now c.args.i c.index-as_slice-i.result c.self.view_is (c.as_slice.ensures ∙ ap (λ made. made.items) c.self.invariant.0) c.requires).1

pub returns : goal.returns
returns c =
    token_said c.self.inside.text.now c.args.self.now c.part.result.now c.as_slice.result.now c.args.i c.index-as_slice-i.result c.self.view_is
    (c.as_slice.ensures ∙ ap (λ made. made.items) c.self.invariant.0) c.requires c.part.ensures
