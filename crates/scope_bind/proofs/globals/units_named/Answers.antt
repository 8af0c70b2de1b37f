use Rattle.std.proofs.Common.{◌≡◌, ◌<◌, ◌^◌, ℕ, List, length, map, ap, ◌∙◌, subst, sym}
use Rattle.std.proofs.lemmas.List.{length-map}
use Rattle.std.proofs.lemmas.Result.{IfOk-weaker}
use Rattle.ftn_tree.specs.Extents.{scoping}
use Rattle.decl_table.proofs.Arounds.{units_few}
use Rattle.scope_bind.specs.steps.Globals.{outer_candidate, unit_number}
use Rattle.scope_bind.specs.steps.Index.{found_in, first_at}
use Rattle.scope_bind.proofs.NamedUnits.{units_found}
use Rattle.scope_bind.proofs.globals.units_named.Goals as goal

pub index-requires : goal.index-requires
index-requires c =
    let all = c.deref.ensures.value ∙ c.in_ok-all.ensures in record {
      few = subst (λ n. n < 2 ^ 32) (sym (ap length all ∙ length-map (scoping c.args.files.now) (outer_candidate c.args.files.now c.args.sort))) (units_few c.args.files.now c.requires.trees);
    }

pub returns : goal.returns
returns c =
    let files = c.args.files.now in
    IfOk-weaker c.index.result (λ found. (under : ℕ) (name : List ℕ) → found_in found under name ≡ first_at under name c.deref.result.now)
    (λ found. (name : List ℕ) → found_in found 0 name ≡ unit_number files c.args.sort name)
    (λ found is name. is 0 name ∙ ap (first_at 0 name) (c.deref.ensures.value ∙ c.in_ok-all.ensures) ∙ units_found files c.requires.trees c.args.sort name)
    c.index.ensures
