use Rattle.std.proofs.Common.{◌≡◌, ◌+◌, ◌∙◌, ◌++◌, ◌∷◌, ℕ, List, [], ap₂, sym, arith}
use Rattle.std.proofs.lemmas.List.FromFn.{map-range_with_len_more}
use Rattle.const_expr.specs.declared.naming.Naming.{Naming}
use Rattle.const_value.specs.declared.measured.Measured.{Measured}
use Rattle.const_value.specs.steps.Knowing.{naming_at, unknown}
use Rattle.const_value.proofs.knowledge.Knowledge.nothing.Goals as goal

pub loop-name-preserved : goal.loop-name-preserved
loop-name-preserved c =
    let same : 0 + c.loop-name._name ≡ c.loop-name._name = omega arith in
    c.in_ok-push.ensures.items ∙ ap₂ (λ (xs : List Measured) (x : Measured). xs ++ x ∷ []) c.loop-name.invariant c.unknown.ensures
    ∙ sym (map-range_with_len_more (λ (name : ℕ). unknown) 0 c.loop-name._name c.loop-name._name same)

pub loop-number-preserved : goal.loop-number-preserved
loop-number-preserved c =
    let same : 0 + c.loop-number.number ≡ c.loop-number.number = omega arith in
    c.in_ok-push-2.ensures.items ∙ ap₂ (λ (xs : List Naming) (x : Naming). xs ++ x ∷ []) c.loop-number.invariant c.naming_at.ensures
    ∙ sym (map-range_with_len_more (naming_at c.args.project.now) 0 c.loop-number.number c.loop-number.number same)
