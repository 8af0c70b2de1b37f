use Rattle.std.proofs.Common.{ap, ap₂, not, ◌+◌, ◌∙◌, ◌||◌, ◌++◌, ◌∷◌, bytes_eq, drop}
use Rattle.ftn_tree.specs.Sayings.{Saying}
use Rattle.decl_table.specs.steps.DeclaredNames.{drafts_by}
use Rattle.decl_table.specs.steps.Heard.{heard_in}
use Rattle.decl_table.specs.steps.Noted.{noted_in}
use Rattle.decl_table.specs.steps.Seen.{is_among}
use Rattle.decl_table.proofs.NameTurns.{opened_at, same_names, is_there, not_there, later_turn, first_turn}
use Rattle.decl_table.proofs.declared_names.push_names.Goals as goal
use Rattle.decl_table.proofs.declared_names.push_names.Goals.{then-branch+in_ok-push_if, else-branch}

pub loop-s-preserved : goal.loop-s-preserved
loop-s-preserved c =
    let owner = c.args.owner in
    let noted = noted_in c.args.noted.now in
    let heard = heard_in c.args.heard.now in
    let s = c.s-item.result in
    let key = c.s.inside.name.now in
    let named = ap (λ (s : Saying). s.name) c.s.view_is in
    let names = c.loop-s.invariant.0 in
    let known = c.loop-s.invariant.1 in
    let rest = drop (c.loop-s.s-index + 1) c.args.said.now in
    let opened = opened_at c.args.said.now c.loop-s.s-index s c.loop-s-test.true c.s-item.is in
    let before = c.loop-s.invariant.2 ∙ ap (λ xs. c.loop-s.found.items ++ drafts_by owner noted heard names xs) opened in
    let answer = c.in_ok-is_first.ensures.first ∙ ap not (known key ∙ ap (λ k. is_among k names) named) in
    let put = c.in_ok-is_first.ensures.put in
    elim c.if-branch.branch [
      | then-branch+in_ok-push_if w ↦ (
        s.name ∷ names,
        λ other. put other ∙ ap₂ ◌||◌ (ap (λ k. bytes_eq k other) named) (known other),
        first_turn owner noted heard names s rest _ c.loop-s.found.items c.if-branch.found.items key c.s.inside.said.now.token w.noted_of-noted.result w.heard_of-heard.result
            w.draft_name.result (not_there c.in_ok-is_first.field-0 (is_among s.name names) answer w.if-branch.true) named (ap (λ (s : Saying). s.said.token) c.s.view_is)
            w.noted_of-noted.ensures w.heard_of-heard.ensures w.draft_name.ensures before (ap (λ f. f.items) w.found-is ∙ w.in_ok-push_if.ensures),
      )
      | else-branch w ↦
          let there = is_there c.in_ok-is_first.field-0 (is_among s.name names) answer w.if-branch.false in (
            names,
            λ other.
                put other ∙ ap₂ ◌||◌ (ap (λ k. bytes_eq k other) named) (known other)
                ∙ same_names names s.name other there,
            later_turn owner noted heard names s rest _ c.loop-s.found.items c.if-branch.found.items there before (ap (λ f. f.items) w.found-is),
          )
    ]
