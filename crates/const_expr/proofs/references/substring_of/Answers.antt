use Rattle.std.proofs.Common.{◌≡◌, sym, ◌∙◌, ap, subst, IfOk, Some}
use Rattle.ftn_tree.specs.Evaluations as spec
use Rattle.const_expr.specs.declared.references.Range.{Range}
use Rattle.const_expr.specs.Seen.{seen}
use Rattle.std.specs.Option.{option_map}
use Rattle.const_expr.proofs.PartLists.{end_value, by_ends}
use Rattle.const_expr.proofs.references.substring_of.Goals as goal

pub returns-in-Some-value : goal.returns-in-Some-value
returns-in-Some-value c = λ parts low high told same.
    let here : c.args.range ≡ record { low = option_map seen low; high = option_map seen high } = cc (same) in
    let first = sym c.in-Some.is ∙ c.low_of.ensures low (ap (λ (x : Range). x.low) here) in
    let last = sym c.in-Some-value.is ∙ end_value (spec.last_of c.args.value.now) high c.in-Some-high.high (sym c.in-Some-high.is ∙ ap (λ (x : Range). x.high) here) in
    subst (λ d. IfOk c.operation-in-Some-value.result (λ done. done ≡ seen (spec.operation c.args.name parts d)))
    (by_ends c.args.value.now low high (Some c.in-Some.low) (Some c.in-Some-value.high) first last)
    (c.operation-in-Some-value.ensures parts (spec.part_of c.args.value.now c.in-Some.low c.in-Some-value.high) told (rw c.in-Some-value.high-is at c.part_of.ensures))
