use Rattle.std.proofs.Common.{◌≡◌, ◌++◌, map, take}
use Rattle.ftn_tree.specs.ScopeLetters.{given_range}
use Rattle.decl_table.proofs.statements.push_ranges.Given as goal

abbrev pub invariant-loop-range : goal.invariant-loop-range
invariant-loop-range l = l.found.items ≡ l.initial.found.items ++ map (given_range l.files l.file l.written) (take l.range-index l.ranges)
