use Rattle.std.proofs.Common.{◌≡◌, ◌∙◌, ℕ, List, get_or, map, ap, subst, sym}
use Rattle.std.proofs.lemmas.List.{get_or_default}
use Rattle.std.proofs.lemmas.Result.{IfOk-weaker}
use Rattle.ftn_tree.specs.Meanings as spec
use Rattle.ftn_tree.specs.Sayings.{declares, sayings}
use Rattle.decl_table.specs.steps.Ordering.{in_order}
use Rattle.scope_bind.specs.declared.placed.Placed.{Placed}
use Rattle.scope_bind.specs.steps.Exporting.{AreSpelled}
use Rattle.scope_bind.specs.steps.Globals.{unit_at}
use Rattle.scope_bind.specs.steps.Meaning.{all_numbered}
use Rattle.scope_bind.specs.steps.Owned.{ahead, pair_of, place_of, tokens_of}
use Rattle.scope_bind.proofs.Owning.{Spelled, declared_end, declared_token, declaring_spelled, in_order_spelled, own_declared, placed_more, spelled_more, token_spelled, tokens_named, tokens_spelled}
use Rattle.scope_bind.proofs.UnitReads.{lists_read}
use Rattle.scope_bind.proofs.owned.declared_placed.Goals as goal

pub loop-token-preserved : goal.loop-token-preserved
loop-token-preserved c =
    let files = c.args.known.now.files.now in
    let scope = c.args.scope in
    let e = unit_at files scope in
    let tokens = c.deref-token-items.result.now in
    let i = c.loop-token.token-index in
    let token = get_or tokens i 0 in
    let said = c.deref.ensures.value ∙ ap (λ v. v.items) (sym c.index-known-scope.is)
    ∙ lists_read (λ one. one.items) (sayings files) files scope c.args.known.now.said.now c.index-known-scope.result c.requires.known.said c.requires.within c.index-known-scope.is in
    let all = c.deref-2.ensures.value ∙ c.in_ok-all.ensures ∙ ap (tokens_of declares) said in
    let names = tokens_named files e c.unit-file.result tokens c.in_ok-tokens.tokens.items c.deref-2.result.now (tokens_of declares (sayings files e)) c.unit-file.ensures c.deref-token-items.ensures.value
    c.in_ok-tokens.ensures all in
    let here : token ≡ get_or tokens i token = get_or_default tokens i 0 token c.loop-token-test.true in
    let own = c.own_placed-one.ensures.pairs ∙ ap (map (place_of files e))
    (own_declared files scope token c.declared-declared.result c.unit-file.result c.name_at.result.now c.unit-file.ensures c.name_at.ensures c.declared-declared.ensures.meant) in (
      placed_more files scope (declared_token files scope) tokens i token c.loop-token-test.true here c.loop-token.placed.items c.push_if.new.placed.items c.own_placed-one.result c.loop-token.invariant.0 own
          c.in_ok-push_if.ensures,
      spelled_more files e.file token c.own_placed-one.result c.loop-token.placed.items c.push_if.new.placed.items c.own_placed-one.ensures.name
          (token_spelled files e.file tokens i token c.loop-token-test.true here
          (tokens_spelled files e.file (tokens_of declares (sayings files e)) tokens names (declaring_spelled files c.requires.known.trees e)))
          c.in_ok-push_if.ensures c.loop-token.invariant.1,
    )

pub returns-clause-pairs : goal.returns-clause-pairs
returns-clause-pairs c =
    let files = c.args.known.now.files.now in
    let scope = c.args.scope in
    let e = unit_at files scope in
    let tokens = c.deref-token-items.result.now in
    let said = c.deref.ensures.value ∙ ap (λ v. v.items) (sym c.index-known-scope.is)
    ∙ lists_read (λ one. one.items) (sayings files) files scope c.args.known.now.said.now c.index-known-scope.result c.requires.known.said c.requires.within c.index-known-scope.is in
    let all = c.deref-2.ensures.value ∙ c.in_ok-all.ensures ∙ ap (tokens_of declares) said in
    let names = tokens_named files e c.unit-file.result tokens c.in_ok-tokens.tokens.items c.deref-2.result.now (tokens_of declares (sayings files e)) c.unit-file.ensures c.deref-token-items.ensures.value
    c.in_ok-tokens.ensures all in
    IfOk-weaker c.in_order.result (λ made. made.items ≡ in_order ahead c.deref-3.result.now) (λ made. map (pair_of files e.file) made.items ≡ all_numbered files (spec.declared_pairs files e))
    (λ made is. declared_end files scope tokens c.loop-token.token-index c.loop-token-test.false c.loop-token.placed.items made.items (is ∙ ap (in_order ahead) c.deref-3.ensures.value) c.loop-token.invariant.0 names)
    c.in_order.ensures

pub returns-clause-names : goal.returns-clause-names
returns-clause-names c =
    let files = c.args.known.now.files.now in
    let e = unit_at files c.args.scope in
    IfOk-weaker c.in_order.result (λ made. made.items ≡ in_order ahead c.deref-3.result.now) (λ made. AreSpelled files e.file made.items)
    (λ made is. in_order_spelled files e.file c.loop-token.placed.items made.items (is ∙ ap (in_order ahead) c.deref-3.ensures.value) c.loop-token.invariant.1) c.in_order.ensures
