use Rattle.std.proofs.Common.{◌≡◌, sym, subst, IfOk, Some}
use Rattle.ftn_tree.specs.Evaluations as spec
use Rattle.const_expr.specs.Namings as names
use Rattle.const_expr.specs.Seen.{seen}
use Rattle.const_expr.proofs.evaluating.refer_to.Goals as goal

pub returns-in-Constant : goal.returns-in-Constant
returns-in-Constant c = λ es r known same.
    subst (λ n. IfOk c.constant.result (λ e. e ≡ seen (spec.reference c.args.name (names.naming_of (Some n)) es r))) (sym c.in-Constant.is) (c.constant.ensures es r known same)
