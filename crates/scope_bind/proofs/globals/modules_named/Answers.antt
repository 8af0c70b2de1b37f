use Rattle.std.proofs.Common.{◌≡◌, ◌<◌, ℕ, List, ap, ◌∙◌}
use Rattle.std.proofs.lemmas.Result.{IfOk-weaker}
use Rattle.ftn_tree.specs.Meanings.{module_number}
use Rattle.scope_bind.specs.steps.Globals.{module_candidate}
use Rattle.scope_bind.specs.steps.Index.{found_in, first_at}
use Rattle.scope_bind.proofs.ModuleUnits.{modules_few}
use Rattle.scope_bind.proofs.NamedUnits.{modules_found}
use Rattle.scope_bind.proofs.globals.modules_named.Goals as goal

pub index-requires : goal.index-requires
index-requires c = record { few = modules_few (module_candidate c.args.files.now) c.args.files.now c.requires.trees c.deref.result.now (c.deref.ensures.value ∙ c.in_ok-all.ensures) }

pub returns : goal.returns
returns c =
    let files = c.args.files.now in
    IfOk-weaker c.index.result (λ found. (under : ℕ) (name : List ℕ) → found_in found under name ≡ first_at under name c.deref.result.now)
    (λ found. (name : List ℕ) → found_in found 0 name ≡ module_number files name)
    (λ found is name. is 0 name ∙ ap (first_at 0 name) (c.deref.ensures.value ∙ c.in_ok-all.ensures) ∙ modules_found files name)
    c.index.ensures
