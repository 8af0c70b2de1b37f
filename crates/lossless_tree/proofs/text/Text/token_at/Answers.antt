use Rattle.std.proofs.Common.{◌∙◌, ap}
use Rattle.lossless_tree.proofs.Holding.{count_held, ended_parted, token_found}
use Rattle.lossless_tree.proofs.text.Text.token_at.Goals as goal

pub ended-count-requires : goal.ended-count-requires
ended-count-requires c = ended_parted c.self.inside.text.now c.as_slice-tokens.result.now c.args.at (c.as_slice-tokens.ensures ∙ ap (λ made. made.items) c.self.invariant.0)

pub begun_at-requires : goal.begun_at-requires
begun_at-requires c = count_held c.self.inside.text.now c.as_slice-tokens.result.now (c.as_slice-tokens.ensures ∙ ap (λ made. made.items) c.self.invariant.0) c.self.invariant.1

pub returns : goal.returns
returns c =
    token_found c.self.inside.text.now c.args.self.now c.as_slice-tokens.result.now c.args.at c.ended-count.result c.begun_at.result c.self.view_is
    (c.as_slice-tokens.ensures ∙ ap (λ made. made.items) c.self.invariant.0) c.ended-count.ensures c.begun_at.ensures
