use Rattle.std.proofs.Common.{◌≡◌, ◌∙◌, List, ap, ap₂}
use Rattle.std.proofs.lemmas.Result.{IfOk-weaker}
use Rattle.ftn_base.specs.Accessible.{accessible_of}
use Rattle.ftn_base.specs.Exports.{Pair, exported}
use Rattle.ftn_tree.specs.Meanings as spec
use Rattle.scope_bind.specs.steps.Globals.{unit_at}
use Rattle.scope_bind.specs.steps.Meaning.{all_numbered}
use Rattle.scope_bind.proofs.ModuleTurns.{module_told}
use Rattle.scope_bind.proofs.exporting.module_exports.Goals as goal

pub returns : goal.returns
returns c =
    let files = c.args.known.now.files.now in
    let e = unit_at files c.args.scope in
    IfOk-weaker c.new.result (λ made. made ≡ c.in_ok-pairs.pairs.items)
    (λ made. (pairs : _) → accessible_of c.args.exported.now c.args.lists.now ≡ all_numbered files (spec.accessible_from files pairs e) → made ≡ all_numbered files (spec.exports_from files pairs e))
    (λ made is pairs here. module_told files e pairs c.in_ok-used.used c.in_ok-own.own.items made c.in_ok-access.access (c.in_ok-used.ensures ∙ here)
    (c.in_ok-own.ensures (spec.accessible_from files pairs e) (c.in_ok-used.ensures ∙ here)) c.in_ok-access.ensures
    (is ∙ c.in_ok-pairs.ensures ∙ ap₂ (λ (o u : List Pair). exported o u c.in_ok-access.access) c.deref.ensures.value c.pairs.ensures))
    c.new.ensures
