use Rattle.std.proofs.Common.{◌≡◌, ◌++◌, List, ℕ, sym, ap, ◌∙◌}
use Rattle.plan_file.specs.Plans.{file_field}
use Rattle.plan_file.proofs.fields.file_at.Goals as goal

pub returns-in-None-clause-only : goal.returns-in-None-clause-only
returns-in-None-clause-only c = λ size name small valid begins.
    let likely = c.in-Some.ensures size name small valid begins in
    let field : c.deref.result.now ≡ file_field size name
    = c.deref.ensures.value ∙ c.in_ok-put_file_field.ensures ∙ ap (λ (old : List ℕ). old ++ file_field c.in-Some.size c.in-Some.name.now) c.new-field.ensures.items
    ∙ ap (λ n. file_field n c.in-Some.name.now) likely.0 ∙ ap (file_field size) likely.1 in
    c.in-None.ensures (begins.0, begins.1 ∙ ap (λ (front : List ℕ). front ++ begins.0) (sym field))
