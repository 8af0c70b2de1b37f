use Rattle.std.proofs.Common.{◌≡◌, ◌∙◌, ap, map}
use Rattle.std.proofs.lemmas.Result.{IfOk-weaker}
use Rattle.ftn_tree.specs.DeclaredEntities as spec
use Rattle.decl_table.specs.steps.Drafts.{ahead, drafted_of}
use Rattle.decl_table.specs.steps.Ordering.{in_order}
use Rattle.decl_table.proofs.AllDrafts.{order_stands}
use Rattle.decl_table.proofs.drafts.drafts.Goals as goal

pub returns : goal.returns
returns c =
    let files = c.args.files.now in
    let found = c.deref.result.now in
    IfOk-weaker c.in_order.result (λ made. made.items ≡ in_order ahead found)
    (λ made. map (drafted_of files) made.items ≡ spec.in_order (spec.drafts files))
    (λ made is. ap (map (drafted_of files)) is ∙ order_stands files found
    ∙ ap spec.in_order (ap (map (drafted_of files)) c.deref.ensures.value ∙ c.in_ok-found.ensures))
    c.in_order.ensures
