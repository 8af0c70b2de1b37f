use Rattle.std.proofs.Common.{sym, ◌∙◌}
use Rattle.const_expr.proofs.PartLists.{told_of_ends}
use Rattle.const_expr.proofs.references.told_of_range.Goals as goal

pub returns-in-Some : goal.returns-in-Some
returns-in-Some c = λ r same.
    told_of_ends r c.in-Some.range c.told_of_end.result c.told_of_end-in-Some.result c.joined.result (sym c.in-Some.is ∙ same) c.told_of_end.ensures c.told_of_end-in-Some.ensures c.joined.ensures
