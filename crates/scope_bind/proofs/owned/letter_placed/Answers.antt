use Rattle.std.proofs.Common.{◌≡◌, ◌∙◌, ℕ, List, get_or, map, ap, subst, sym}
use Rattle.std.proofs.lemmas.List.{get_or_default}
use Rattle.std.proofs.lemmas.Result.{IfOk-weaker}
use Rattle.ftn_tree.specs.DeclaredEntities.{own_mentions}
use Rattle.decl_table.specs.steps.Ordering.{in_order}
use Rattle.scope_bind.specs.steps.Exporting.{AreSpelled, letter_at, letters_placed}
use Rattle.scope_bind.specs.steps.Globals.{unit_at}
use Rattle.scope_bind.specs.steps.Meaning.{all_numbered}
use Rattle.scope_bind.specs.steps.Owned.{ahead, mentioned, pair_of}
use Rattle.scope_bind.proofs.Owning.{in_order_spelled, letters_end, mentioned_spelled, placed_more, spelled_more, token_spelled, tokens_named, tokens_spelled}
use Rattle.scope_bind.proofs.UnitReads.{lists_read}
use Rattle.scope_bind.proofs.owned.letter_placed.Goals as goal

pub letter_at-requires-clause-name : goal.letter_at-requires-clause-name
letter_at-requires-clause-name c =
    let files = c.args.known.now.files.now in
    let scope = c.args.scope in
    let e = unit_at files scope in
    let tokens = c.deref-token-items.result.now in
    let i = c.loop-token.token-index in
    let token = get_or tokens i 0 in
    let own = c.deref.ensures.value ∙ ap (λ v. v.items) (sym c.index-known-scope.is)
    ∙ lists_read (λ one. one.items) (own_mentions files) files scope c.args.known.now.own.now c.index-known-scope.result c.requires.known.own c.requires.within c.index-known-scope.is in
    let all = c.deref-2.ensures.value ∙ c.in_ok-all.ensures ∙ ap mentioned own in
    let names = tokens_named files e c.unit-file.result tokens c.in_ok-tokens.tokens.items c.deref-2.result.now (mentioned (own_mentions files e)) c.unit-file.ensures c.deref-token-items.ensures.value
    c.in_ok-tokens.ensures all in
    token_spelled files e.file tokens i token c.loop-token-test.true (get_or_default tokens i 0 token c.loop-token-test.true)
    (tokens_spelled files e.file (mentioned (own_mentions files e)) tokens names (mentioned_spelled files c.requires.known.trees e))

pub loop-token-preserved : goal.loop-token-preserved
loop-token-preserved c =
    let files = c.args.known.now.files.now in
    let scope = c.args.scope in
    let e = unit_at files scope in
    let tokens = c.deref-token-items.result.now in
    let i = c.loop-token.token-index in
    let token = get_or tokens i 0 in
    let own = c.deref.ensures.value ∙ ap (λ v. v.items) (sym c.index-known-scope.is)
    ∙ lists_read (λ one. one.items) (own_mentions files) files scope c.args.known.now.own.now c.index-known-scope.result c.requires.known.own c.requires.within c.index-known-scope.is in
    let all = c.deref-2.ensures.value ∙ c.in_ok-all.ensures ∙ ap mentioned own in
    let names = tokens_named files e c.unit-file.result tokens c.in_ok-tokens.tokens.items c.deref-2.result.now (mentioned (own_mentions files e)) c.unit-file.ensures c.deref-token-items.ensures.value
    c.in_ok-tokens.ensures all in
    let here : token ≡ get_or tokens i token = get_or_default tokens i 0 token c.loop-token-test.true in (
      λ accessible is.
          placed_more files scope (letter_at files accessible scope) tokens i token c.loop-token-test.true here c.loop-token.placed.items c.push_if.new.placed.items c.in_ok-one.one
          (c.loop-token.invariant.0 accessible is) (c.in_ok-one.ensures.pairs accessible is) c.in_ok-push_if.ensures,
      spelled_more files e.file token c.in_ok-one.one c.loop-token.placed.items c.push_if.new.placed.items c.in_ok-one.ensures.name
          (token_spelled files e.file tokens i token c.loop-token-test.true here
          (tokens_spelled files e.file (mentioned (own_mentions files e)) tokens names (mentioned_spelled files c.requires.known.trees e)))
          c.in_ok-push_if.ensures c.loop-token.invariant.1,
    )

pub returns-clause-pairs : goal.returns-clause-pairs
returns-clause-pairs c =
    let files = c.args.known.now.files.now in
    let scope = c.args.scope in
    let e = unit_at files scope in
    let tokens = c.deref-token-items.result.now in
    let own = c.deref.ensures.value ∙ ap (λ v. v.items) (sym c.index-known-scope.is)
    ∙ lists_read (λ one. one.items) (own_mentions files) files scope c.args.known.now.own.now c.index-known-scope.result c.requires.known.own c.requires.within c.index-known-scope.is in
    let all = c.deref-2.ensures.value ∙ c.in_ok-all.ensures ∙ ap mentioned own in
    let names = tokens_named files e c.unit-file.result tokens c.in_ok-tokens.tokens.items c.deref-2.result.now (mentioned (own_mentions files e)) c.unit-file.ensures c.deref-token-items.ensures.value
    c.in_ok-tokens.ensures all in
    IfOk-weaker c.in_order.result (λ made. made.items ≡ in_order ahead c.deref-3.result.now)
    (λ made. (accessible : _) → c.args.used.now ≡ all_numbered files accessible → map (pair_of files e.file) made.items ≡ all_numbered files (letters_placed files accessible e))
    (λ made ordered accessible is. letters_end files scope tokens c.loop-token.token-index c.loop-token-test.false c.loop-token.placed.items made.items (ordered ∙ ap (in_order ahead) c.deref-3.ensures.value)
    accessible (c.loop-token.invariant.0 accessible is) names)
    c.in_order.ensures

pub returns-clause-names : goal.returns-clause-names
returns-clause-names c =
    let files = c.args.known.now.files.now in
    let e = unit_at files c.args.scope in
    IfOk-weaker c.in_order.result (λ made. made.items ≡ in_order ahead c.deref-3.result.now) (λ made. AreSpelled files e.file made.items)
    (λ made is. in_order_spelled files e.file c.loop-token.placed.items made.items (is ∙ ap (in_order ahead) c.deref-3.ensures.value) c.loop-token.invariant.1) c.in_order.ensures
