use Rattle.std.proofs.Common.{◌≡◌, ◌++◌, ◌∙◌, [], ℕ, List, get_or, map, take_all, ap, sym}
use Rattle.std.specs.List.{cons_option, flat_map}
use Rattle.std.proofs.lemmas.List.{get_or_default, map-append}
use Rattle.ftn_tree.specs.DeclaredEntities.{Drafted, own_mentions}
use Rattle.decl_table.specs.steps.Drafts.{drafted_of}
use Rattle.scope_bind.specs.steps.Entities.{letter_at}
use Rattle.scope_bind.specs.steps.Globals.{unit_at}
use Rattle.scope_bind.specs.steps.Owned.{mentioned}
use Rattle.scope_bind.proofs.LetterDrafts.{letter_pushed, letters_given, token_spelled}
use Rattle.scope_bind.proofs.Owning.{tokens_named}
use Rattle.scope_bind.proofs.UnitReads.{lists_read}
use Rattle.scope_bind.proofs.entities.push_letters.Goals as goal

pub letter_draft-requires-clause-name : goal.letter_draft-requires-clause-name
letter_draft-requires-clause-name c =
    let files = c.args.known.now.files.now in
    let scope = c.args.scope in
    let e = unit_at files scope in
    let tokens = c.deref-token-items.result.now in
    let i = c.loop-token.token-index in
    let token = get_or tokens i 0 in
    let own = c.deref.ensures.value ∙ ap (λ v. v.items) (sym c.index-known-scope.is)
    ∙ lists_read (λ one. one.items) (own_mentions files) files scope c.args.known.now.own.now c.index-known-scope.result c.requires.known.own c.requires.within c.index-known-scope.is in
    let all = c.deref-2.ensures.value ∙ c.in_ok-all.ensures ∙ ap mentioned own in
    let names = tokens_named files e c.unit.result tokens c.in_ok-distinct.field-0.items c.deref-2.result.now (mentioned (own_mentions files e)) c.unit.ensures c.deref-token-items.ensures.value
    c.in_ok-distinct.ensures all in
    token_spelled files e c.requires.known.trees tokens names i token c.loop-token-test.true (get_or_default tokens i 0 token c.loop-token-test.true)

pub loop-token-preserved : goal.loop-token-preserved
loop-token-preserved c =
    let files = c.args.known.now.files.now in
    let e = unit_at files c.args.scope in
    let tokens = c.deref-token-items.result.now in
    let i = c.loop-token.token-index in
    let token = get_or tokens i 0 in
    let made = c.loop-token.found.items in
    letter_pushed files e c.args.found.now.items made c.push_if.new.found.items tokens i token c.loop-token-test.true (get_or_default tokens i 0 token c.loop-token-test.true) c.loop-token.invariant
    (ap (map (drafted_of files)) c.in_ok-push_if.ensures ∙ map-append (drafted_of files) made (cons_option c.in_ok-draft.draft [])
    ∙ ap (λ (ds : List Drafted). map (drafted_of files) made ++ ds) c.in_ok-draft.ensures)

pub returns : goal.returns
returns c =
    let files = c.args.known.now.files.now in
    let scope = c.args.scope in
    let e = unit_at files scope in
    let tokens = c.deref-token-items.result.now in
    let start = map (drafted_of files) c.args.found.now.items in
    let own = c.deref.ensures.value ∙ ap (λ v. v.items) (sym c.index-known-scope.is)
    ∙ lists_read (λ one. one.items) (own_mentions files) files scope c.args.known.now.own.now c.index-known-scope.result c.requires.known.own c.requires.within c.index-known-scope.is in
    let all = c.deref-2.ensures.value ∙ c.in_ok-all.ensures ∙ ap mentioned own in
    let names = tokens_named files e c.unit.result tokens c.in_ok-distinct.field-0.items c.deref-2.result.now (mentioned (own_mentions files e)) c.unit.ensures c.deref-token-items.ensures.value
    c.in_ok-distinct.ensures all in
    c.loop-token.invariant ∙ ap (λ (ts : List ℕ). start ++ flat_map (letter_at files e) ts) (take_all c.loop-token.token-index tokens c.loop-token-test.false)
    ∙ ap (λ (ds : List Drafted). start ++ ds) (letters_given files e tokens names)
