use Rattle.std.proofs.Common.{◌≡◌, sym, ◌∙◌, ap, subst, [], ◌∷◌, IfOk}
use Rattle.std.specs.Option.{option_map}
use Rattle.ftn_tree.specs.Evaluations as spec
use Rattle.ftn_tree.specs.Operations.{unary_of}
use Rattle.const_expr.specs.declared.evaluated.Evaluated.{Evaluated}
use Rattle.const_expr.specs.Seen.{seen}
use Rattle.const_expr.proofs.Firsts.{told_of_one}
use Rattle.const_expr.proofs.operating.unary_operation.Goals as goal

pub returns-in-Some : goal.returns-in-Some
returns-in-Some c = λ e same.
    let told = ap (λ (a : Evaluated). a.told) same ∙ sym (told_of_one e) in
    let there = sym c.in-Some.is ∙ ap (λ (a : Evaluated). a.value) same in
    subst (λ x. IfOk c.operation.result (λ done. done ≡ seen (spec.operation c.args.op (e ∷ []) (option_map (unary_of c.args.operator) x)))) there
    (c.operation.ensures (e ∷ []) (unary_of c.args.operator c.in-Some.value) told c.unary.ensures)

pub returns-in-None : goal.returns-in-None
returns-in-None c = λ e same.
    let told = ap (λ (a : Evaluated). a.told) same ∙ sym (told_of_one e) in
    let there = sym c.in-None.is ∙ ap (λ (a : Evaluated). a.value) same in
    c.without_value.ensures (e ∷ []) told ∙ ap (λ x. seen (spec.operation c.args.op (e ∷ []) (option_map (unary_of c.args.operator) x))) there
