use Rattle.std.proofs.Common.{◌≡◌, ◌++◌, drop}
use Rattle.ftn_base.specs.ImplicitLetters.{none}
use Rattle.ftn_tree.specs.ScopeLetters.{given_again}
use Rattle.decl_table.proofs.statements.given_again.Given as goal

abbrev pub invariant-loop-given : goal.invariant-loop-given
invariant-loop-given l = given_again none l.givens ≡ l.tokens.items ++ given_again l.map (drop l.given-index l.givens)
