-- What is kept of an expression that was evaluated: its first token, its value, and the first of what is told of it.
use Rattle.ftn_tree.specs.Evaluations as spec
use Rattle.const_expr.specs.declared.evaluated.Evaluated.{Evaluated}
use Rattle.const_expr.specs.declared.told.Told.{Told}
use Rattle.const_expr.specs.FirstTold.{told_by}

abbrev pub told_in : spec.Evaluated → Told
told_in e = told_by e.strays e.breaches

abbrev pub seen : spec.Evaluated → Evaluated
seen e = record { first = e.first; value = e.value; told = told_in e }
