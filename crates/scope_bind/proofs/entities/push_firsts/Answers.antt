use Rattle.std.proofs.Common.{ap, ap₂, not, ◌+◌, ◌∙◌, ◌||◌, ◌++◌, ◌∷◌, map, bytes_eq, drop, get_or}
use Rattle.ftn_tree.specs.Bindings.{draft_intrinsic}
use Rattle.ftn_tree.specs.Scopes.{name_at}
use Rattle.ftn_tree.specs.GlobalNames.{firsts_after}
use Rattle.decl_table.specs.declared.block_names.TokenAt.{TokenAt}
use Rattle.decl_table.specs.steps.Blocks.{global_of}
use Rattle.decl_table.specs.steps.Drafts.{drafted_of}
use Rattle.decl_table.proofs.FirstBlocks.{is_given, same_known}
use Rattle.decl_table.proofs.NameTurns.{opened_or, is_there, not_there}
use Rattle.scope_bind.proofs.IntrinsicDrafts.{later_intrinsic, first_intrinsic}
use Rattle.scope_bind.proofs.entities.push_firsts.Goals as goal
use Rattle.scope_bind.proofs.entities.push_firsts.Goals.{then-branch+in_ok-push, else-branch}

pub loop-at-preserved : goal.loop-at-preserved
loop-at-preserved c =
    let files = c.args.files.now in
    let i = c.loop-at.at-index in
    let d : TokenAt = record { file = 0; token = 0 } in
    let at = get_or c.args.names.now i d in
    let key = c.name_at.result.now in
    let named = c.name_at.ensures in
    let gs = c.loop-at.invariant.0 in
    let known = c.loop-at.invariant.1 in
    let rest = drop (i + 1) c.args.names.now in
    let before = c.loop-at.invariant.2
    ∙ ap (λ xs. map (drafted_of files) c.loop-at.found.items ++ map (draft_intrinsic files) (firsts_after gs (map (global_of files) xs))) (opened_or c.args.names.now i d c.loop-at-test.true) in
    let answer = c.in_ok-is_first.ensures.first ∙ ap not (known key ∙ ap (is_given gs) named) in
    let put = c.in_ok-is_first.ensures.put in
    elim c.if-branch.branch [
      | then-branch+in_ok-push w ↦ (
        global_of files at ∷ gs,
        λ other. put other ∙ ap₂ ◌||◌ (ap (λ k. bytes_eq k other) named) (known other),
        first_intrinsic files gs at rest _ c.loop-at.found.items c.if-branch.found.items w.draft_intrinsic.result
            (not_there c.in_ok-is_first.field-0 (is_given gs (name_at files at.file at.token)) answer w.if-branch.true) before w.draft_intrinsic.ensures
            (ap (λ f. f.items) w.found-is ∙ w.in_ok-push.ensures.items),
      )
      | else-branch w ↦
          let there = is_there c.in_ok-is_first.field-0 (is_given gs (name_at files at.file at.token)) answer w.if-branch.false in (
            gs,
            λ other.
                put other ∙ ap₂ ◌||◌ (ap (λ k. bytes_eq k other) named) (known other)
                ∙ same_known (is_given gs) (name_at files at.file at.token) other there,
            later_intrinsic files gs at rest _ c.loop-at.found.items c.if-branch.found.items there before (ap (λ f. f.items) w.found-is),
          )
    ]
