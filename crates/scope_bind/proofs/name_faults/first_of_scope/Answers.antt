use Rattle.std.proofs.Common.{◌≡◌, ℕ, List, true, ap, sym, subst, ◌∙◌, get_or, bytes_eq}
use Rattle.std.proofs.lemmas.List.{get_or_default}
use Rattle.ftn_base.specs.Accessible.{once}
use Rattle.ftn_tree.specs.declared.table.Extent.{Extent}
use Rattle.ftn_tree.specs.Sayings.{sayings}
use Rattle.ftn_tree.specs.Scopes.{name_at}
use Rattle.decl_table.specs.steps.Spelled.{IsSpelled}
use Rattle.scope_bind.specs.steps.Globals.{unit_at}
use Rattle.scope_bind.specs.steps.Owned.{names_at, tokens_of}
use Rattle.scope_bind.proofs.SaidNames.{said_spelled, name_found, names_found, names_same}
use Rattle.scope_bind.proofs.UnitReads.{lists_read}
use Rattle.scope_bind.proofs.name_faults.first_of_scope.Goals as goal

pub name_of-requires : goal.name_of-requires
name_of-requires c =
    let files = c.args.known.now.files.now in
    let e = unit_at files c.args.scope in
    let tokens = c.deref-token-items.result.now in
    let all = c.in_ok-all.all.items in
    let i = c.loop-token.token-index in
    let token = get_or tokens i 0 in
    let file : c.unit-file.result.file ≡ e.file = ap (λ (x : Extent). x.file) c.unit-file.ensures in
    let named : c.name_at.result.now ≡ name_at files c.unit-file.result.file token = c.name_at.ensures in
    let is : names_at files e.file tokens ≡ once bytes_eq (names_at files e.file all) =
    names_same files e c.unit-file.result.file file c.in_ok-distinct.field-0.items tokens c.deref-2.result.now all c.in_ok-distinct.ensures c.deref-token-items.ensures.value c.deref-2.ensures.value in
    let same : all ≡ tokens_of (λ s. true) (sayings files e) =
    c.in_ok-all.ensures ∙ ap (tokens_of (λ s. true)) (c.deref.ensures.value
    ∙ lists_read (λ one. one.items) (sayings files) files c.args.scope c.args.known.now.said.now (get_or c.args.known.now.said.now c.args.scope c.index-known-scope.result) c.requires.known.said c.requires.within
    (ap (get_or c.args.known.now.said.now c.args.scope) c.index-known-scope.is)) in
    subst IsSpelled (sym (named ∙ ap (λ (f : ℕ). name_at files f token) file))
    (said_spelled files e c.requires.known.trees tokens all is same i token c.loop-token-test.true (get_or_default tokens i 0 token c.loop-token-test.true))

pub loop-token-preserved : goal.loop-token-preserved
loop-token-preserved c =
    let files = c.args.known.now.files.now in
    let e = unit_at files c.args.scope in
    let tokens = c.deref-token-items.result.now in
    let i = c.loop-token.token-index in
    let token = get_or tokens i 0 in
    let file : c.unit-file.result.file ≡ e.file = ap (λ (x : Extent). x.file) c.unit-file.ensures in
    let named : c.name_at.result.now ≡ name_at files c.unit-file.result.file token = c.name_at.ensures in
    name_found files e tokens i token c.loop-token-test.true (get_or_default tokens i 0 token c.loop-token-test.true) c.in_ok-name.name
    (c.in_ok-name.ensures ∙ named ∙ ap (λ (f : ℕ). name_at files f token) file)
    c.loop-token.first c.name_finding-next.result c.earlier-first.result c.loop-token.invariant c.name_finding-next.ensures c.earlier-first.ensures.value

pub returns : goal.returns
returns c =
    let files = c.args.known.now.files.now in
    let e = unit_at files c.args.scope in
    let tokens = c.deref-token-items.result.now in
    let all = c.in_ok-all.all.items in
    let file : c.unit-file.result.file ≡ e.file = ap (λ (x : Extent). x.file) c.unit-file.ensures in
    let is : names_at files e.file tokens ≡ once bytes_eq (names_at files e.file all) =
    names_same files e c.unit-file.result.file file c.in_ok-distinct.field-0.items tokens c.deref-2.result.now all c.in_ok-distinct.ensures c.deref-token-items.ensures.value c.deref-2.ensures.value in
    let same : all ≡ tokens_of (λ s. true) (sayings files e) =
    c.in_ok-all.ensures ∙ ap (tokens_of (λ s. true)) (c.deref.ensures.value
    ∙ lists_read (λ one. one.items) (sayings files) files c.args.scope c.args.known.now.said.now (get_or c.args.known.now.said.now c.args.scope c.index-known-scope.result) c.requires.known.said c.requires.within
    (ap (get_or c.args.known.now.said.now c.args.scope) c.index-known-scope.is)) in
    names_found files e tokens all is same c.loop-token.token-index c.loop-token-test.false c.loop-token.first c.loop-token.invariant
