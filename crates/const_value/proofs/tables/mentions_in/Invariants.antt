use Rattle.std.proofs.Common.{◌≡◌, take}
use Rattle.std.specs.List.{flat_map}
use Rattle.ftn_tree.specs.declared.unit.Statement.{Statement}
use Rattle.ftn_tree.specs.Mentions.{mentions_of}
use Rattle.const_value.proofs.tables.mentions_in.Given as goal

abbrev pub invariant-loop-statement : goal.invariant-loop-statement
invariant-loop-statement l = l.mentions.items ≡ flat_map (λ (s : Statement). mentions_of s.form) (take l.statement-index l.statement-items)
