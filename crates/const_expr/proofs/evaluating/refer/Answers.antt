use Rattle.std.proofs.Common.{◌≡◌, sym, ◌∙◌, ap, subst, IfOk}
use Rattle.std.specs.Option.{option_copied}
use Rattle.ftn_tree.specs.Evaluations as spec
use Rattle.const_expr.specs.Namings as names
use Rattle.const_expr.specs.Seen.{seen}
use Rattle.const_expr.proofs.evaluating.refer.Goals as goal

pub returns-in-Some : goal.returns-in-Some
returns-in-Some c = λ es r known same.
    subst (λ k. IfOk c.refer_to.result (λ e. e ≡ seen (spec.reference c.args.name (names.naming_of k) es r))) (sym (ap option_copied c.in-Some.is) ∙ c.naming.ensures)
    (c.refer_to.ensures es r known same)
