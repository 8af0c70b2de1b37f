use Rattle.std.proofs.Common.{◌≡◌, ◌++◌, List, ℕ, Some, None, sym, ap, ◌∙◌}
use Rattle.plan_file.specs.Plans.{count_field}
use Rattle.plan_file.proofs.fields.count_at.Goals as goal

pub returns-in_default-clause-only : goal.returns-in_default-clause-only
returns-in_default-clause-only c = λ n small begins. let both : None ≡ Some n = c.in_default.ensures n small begins in cc

pub returns-in-None-clause-only : goal.returns-in-None-clause-only
returns-in-None-clause-only c = λ n small begins.
    let likely : Some c.in-Some.count ≡ Some n = c.in-Some.ensures n small begins in
    let same : c.in-Some.count ≡ n = cc in
    let field : c.deref.result.now ≡ count_field n
    = c.deref.ensures.value ∙ c.in_ok-put_count.ensures ∙ ap (λ (old : List ℕ). old ++ count_field c.in-Some.count) c.new-field.ensures.items ∙ ap count_field same in
    c.in-None.ensures (begins.0, begins.1 ∙ ap (λ (front : List ℕ). front ++ begins.0) (sym field))

pub returns-clause-only : goal.returns-clause-only
returns-clause-only c = λ n small begins.
    let likely : Some c.in-Some.count ≡ Some n = c.in-Some.ensures n small begins in
    cc
