use Rattle.std.proofs.Common.{ap, sym, ◌∙◌, ◌||◌, ◌-◌, arith, drop, get_or}
use Rattle.std.specs.List.{list_any}
use Rattle.std.specs.Str.{bytes_eq}
use Rattle.ftn_tree.specs.Scopes.{name_at}
use Rattle.decl_table.specs.declared.block_names.TokenAt.{TokenAt}
use Rattle.decl_table.proofs.HeardNames.{at_start}
use Rattle.scope_bind.proofs.Positions.{opened_or}
use Rattle.scope_bind.proofs.globals.names_at.Goals as goal

pub loop-at-preserved : goal.loop-at-preserved
loop-at-preserved c =
    let all = c.args.tokens.now in
    let files = c.args.files.now in
    let d : TokenAt = record { file = 0; token = 0 } in
    let one = get_or all (c.loop-at.at - 1) d in (
      omega (arith, c.loop-at.invariant.0),
      λ name.
          c.in_ok-put_name.ensures name ∙ ap (λ b. bytes_eq (name_at files one.file one.token) name || b) (c.loop-at.invariant.1 name)
          ∙ ap (list_any (λ (at : TokenAt). bytes_eq (name_at files at.file at.token) name)) (sym (opened_or all c.loop-at.at d c.loop-at-test.true c.loop-at.invariant.0)),
    )

pub returns : goal.returns
returns c = λ name.
    c.loop-at.invariant.1 name
    ∙ ap (λ k. list_any (λ (at : TokenAt). bytes_eq (name_at c.args.files.now at.file at.token) name) (drop k c.args.tokens.now)) (at_start c.loop-at.at c.loop-at-test.false)
