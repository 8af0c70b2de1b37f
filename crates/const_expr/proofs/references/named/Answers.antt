use Rattle.std.proofs.Common.{◌≡◌, refl, sym, ◌∙◌, subst, IfOk, Ok, Err}
use Rattle.ftn_tree.specs.Evaluations as spec
use Rattle.const_expr.specs.Seen.{seen}
use Rattle.const_expr.specs.steps.Parts.{looked_up}
use Rattle.const_expr.proofs.PartLists.{unranged, by_range}
use Rattle.const_expr.proofs.references.named.Goals as goal

pub returns-in-Fault : goal.returns-in-Fault
returns-in-Fault c = λ parts r told same.
    subst (λ f. IfOk c.operation.result (λ done. done ≡ seen (spec.operation c.args.name parts (spec.then_part r (looked_up f c.args.value.now))))) (sym c.in-Fault.is)
    (c.operation.ensures parts (Err c.in-Fault.fault) told refl)

pub returns-in_ok-copy-in-None : goal.returns-in_ok-copy-in-None
returns-in_ok-copy-in-None c = λ parts r told same.
    subst (λ f. IfOk c.operation-in-None.result (λ done. done ≡ seen (spec.operation c.args.name parts (spec.then_part r (looked_up f c.args.value.now))))) (sym c.in-There.is)
    (subst (λ d. IfOk c.operation-in-None.result (λ done. done ≡ seen (spec.operation c.args.name parts d)))
    (unranged r c.in_ok-copy-in-None.field-0 c.args.value.now c.in_ok-copy-in-None.ensures (sym c.in-None.is ∙ same))
    (c.operation-in-None.ensures parts (Ok c.in_ok-copy-in-None.field-0) told refl))

pub returns-in-Some : goal.returns-in-Some
returns-in-Some c = λ parts r told same.
    subst (λ f. IfOk c.substring_of.result (λ done. done ≡ seen (spec.operation c.args.name parts (spec.then_part r (looked_up f c.args.value.now))))) (sym c.in-There.is)
    (by_range (λ d. IfOk c.substring_of.result (λ done. done ≡ seen (spec.operation c.args.name parts d))) c.args.value.now r c.in-Some.range (sym c.in-Some.is ∙ same)
    (λ low high is. c.substring_of.ensures parts low high told is))
