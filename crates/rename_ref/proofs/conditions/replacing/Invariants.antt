use Rattle.std.proofs.Common.{◌≡◌, ◌++◌, drop}
use Rattle.rename_ref.specs.Edits.{replacing}
use Rattle.rename_ref.specs.Names.{denoting}
use Rattle.rename_ref.proofs.conditions.replacing.Given as goal

abbrev pub invariant-loop-token : goal.invariant-loop-token
invariant-loop-token l = replacing l.new (denoting l.old l.tokens) ≡ l.edits.items ++ replacing l.new (denoting l.old (drop l.token-index l.tokens))
