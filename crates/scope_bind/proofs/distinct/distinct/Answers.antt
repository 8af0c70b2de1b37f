use Rattle.std.proofs.Common.{[], not, ◌||◌, get_or, refl, ap, ◌∙◌}
use Rattle.std.specs.Str.{bytes_eq}
use Rattle.std.proofs.lemmas.List.{take_all}
use Rattle.indexmap.specs.IndexSet.{insert_all, insert_key}
use Rattle.ftn_tree.specs.Scopes.{name_at}
use Rattle.decl_table.specs.steps.Seen.{has_come}
use Rattle.scope_bind.specs.steps.Owned.{names_at}
use Rattle.scope_bind.proofs.DistinctNames.{put_first, one_name_more, all_once}
use Rattle.scope_bind.proofs.distinct.distinct.Goals as goal

pub loop-token-preserved : goal.loop-token-preserved
loop-token-preserved c =
    let files = c.args.files.now in
    let file = c.args.file in
    let tokens = c.args.tokens.now in
    let i = c.loop-token.token-index in
    let token = get_or tokens i 0 in
    let both = put_first files file c.loop-token.made.items c.push_if.new.made.items token c.in_ok-first.first (has_come c.loop-token.seen) (has_come c.is_first.new.seen)
    c.loop-token.invariant.1
    (c.in_ok-first.ensures.first ∙ ap (λ n. not (has_come c.loop-token.seen n)) c.name_at.ensures)
    (λ other. c.in_ok-first.ensures.put other ∙ ap (λ n. bytes_eq n other || has_come c.loop-token.seen other) c.name_at.ensures)
    c.in_ok-push_if.ensures in (
      both.0 ∙ ap (λ ns. insert_key bytes_eq ns (name_at files file token)) c.loop-token.invariant.0 ∙ one_name_more files file tokens i token 0 c.loop-token-test.true refl,
      both.1,
    )

pub returns : goal.returns
returns c =
    c.loop-token.invariant.0
    ∙ ap (λ ts. insert_all bytes_eq [] (names_at c.args.files.now c.args.file ts)) (take_all c.loop-token.token-index c.args.tokens.now c.loop-token-test.false)
    ∙ all_once (names_at c.args.files.now c.args.file c.args.tokens.now)
