use Rattle.std.proofs.Common.{◌≡◌, sym, ◌∙◌, ap, ap₂, subst, [], ◌∷◌, IfOk, Some, None}
use Rattle.ftn_tree.specs.Evaluations as spec
use Rattle.ftn_tree.specs.Operations.{binary_of}
use Rattle.const_expr.specs.declared.evaluated.Evaluated.{Evaluated}
use Rattle.const_expr.specs.Seen.{seen}
use Rattle.const_expr.specs.FirstTold.{joined}
use Rattle.const_expr.proofs.PartLists.{told_of_two}
use Rattle.const_expr.proofs.operating.binary_operation.Goals as goal

pub returns-in-Some-value : goal.returns-in-Some-value
returns-in-Some-value c = λ a b one other.
    let told = c.joined-told.ensures ∙ ap₂ joined (ap (λ (e : Evaluated). e.told) one) (ap (λ (e : Evaluated). e.told) other) ∙ told_of_two a b in
    let left = sym c.in-Some.is ∙ ap (λ (e : Evaluated). e.value) one in
    let right = sym c.in-Some-value.is ∙ ap (λ (e : Evaluated). e.value) other in
    subst (λ n. IfOk c.operation.result (λ done. done ≡ seen (spec.operation n (a ∷ b ∷ []) (spec.binary_value c.args.operator a.value b.value)))) (ap (λ (e : Evaluated). e.first) one)
    (subst (λ v. IfOk c.operation.result (λ done. done ≡ seen (spec.operation c.args.left.first (a ∷ b ∷ []) (spec.binary_value c.args.operator v b.value)))) left
    (subst (λ w. IfOk c.operation.result (λ done. done ≡ seen (spec.operation c.args.left.first (a ∷ b ∷ []) (spec.binary_value c.args.operator (Some c.in-Some.a) w)))) right
    (c.operation.ensures (a ∷ b ∷ []) (binary_of c.args.operator c.in-Some.a c.in-Some-value.b) told (rw c.in-Some-value.b-is at c.binary_of.ensures))))

pub returns-in-None-value : goal.returns-in-None-value
returns-in-None-value c = λ a b one other.
    let told = c.joined-told.ensures ∙ ap₂ joined (ap (λ (e : Evaluated). e.told) one) (ap (λ (e : Evaluated). e.told) other) ∙ told_of_two a b in
    let left = sym c.in-Some.is ∙ ap (λ (e : Evaluated). e.value) one in
    let right = sym c.in-None-value.is ∙ ap (λ (e : Evaluated). e.value) other in
    c.without_value.ensures (a ∷ b ∷ []) told
    ∙ ap (λ n. seen (spec.operation n (a ∷ b ∷ []) None)) (ap (λ (e : Evaluated). e.first) one)
    ∙ ap (λ w. seen (spec.operation a.first (a ∷ b ∷ []) (spec.binary_value c.args.operator (Some c.in-Some.a) w))) right
    ∙ ap (λ v. seen (spec.operation a.first (a ∷ b ∷ []) (spec.binary_value c.args.operator v b.value))) left

pub returns-in-None : goal.returns-in-None
returns-in-None c = λ a b one other.
    let told = c.joined-told.ensures ∙ ap₂ joined (ap (λ (e : Evaluated). e.told) one) (ap (λ (e : Evaluated). e.told) other) ∙ told_of_two a b in
    let left = sym c.in-None.is ∙ ap (λ (e : Evaluated). e.value) one in
    c.without_value-in-None.ensures (a ∷ b ∷ []) told
    ∙ ap (λ n. seen (spec.operation n (a ∷ b ∷ []) None)) (ap (λ (e : Evaluated). e.first) one)
    ∙ ap (λ v. seen (spec.operation a.first (a ∷ b ∷ []) (spec.binary_value c.args.operator v b.value))) left
