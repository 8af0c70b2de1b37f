use Rattle.std.proofs.Common.{ℕ, max, refl, ap, ◌∙◌}
use Rattle.indexmap.specs.IndexMap.{get}
use Rattle.storage_layout.specs.steps.EndTable.{end_in, same_key}
use Rattle.storage_layout.proofs.EndTables.{ended}
use Rattle.storage_layout.proofs.ends.Ends.extend.Goals as goal

pub returns : goal.returns
returns c = λ number place.
    ended (end_in c.args.self.now.ends) c.args.block c.args.scope number place c.max-end.result c.args.end (get same_key c.insert.new.self (number, place)) (get same_key c.args.self.now.ends (number, place)) refl
    (c.max-end.ensures ∙ ap (λ (k : ℕ). max k c.args.end) c.of.ensures) (c.in_ok-insert.ensures.updates.0 (number, place))
