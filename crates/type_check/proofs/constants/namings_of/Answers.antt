use Rattle.std.proofs.Common.{◌≡◌, ◌+◌, ◌∙◌, ◌++◌, ◌∷◌, List, [], ap₂, sym, arith}
use Rattle.std.proofs.lemmas.List.FromFn.{map-range_with_len_more}
use Rattle.const_expr.specs.declared.naming.Naming.{Naming}
use Rattle.type_check.specs.steps.Constants.{naming_at}
use Rattle.type_check.proofs.constants.namings_of.Goals as goal

pub loop-number-preserved : goal.loop-number-preserved
loop-number-preserved c =
    let same : 0 + c.loop-number.number ≡ c.loop-number.number = omega arith in
    c.in_ok-push.ensures.items ∙ ap₂ (λ (xs : List Naming) (x : Naming). xs ++ x ∷ []) c.loop-number.invariant c.in_ok-naming_at.ensures
    ∙ sym (map-range_with_len_more (naming_at c.args.project.now c.args.values.now) 0 c.loop-number.number c.loop-number.number same)
