use Rattle.std.proofs.Common.{◌≡◌, ◌<◌, ◌^◌, ℕ, List, length, ap, ◌∙◌, subst, sym}
use Rattle.std.proofs.lemmas.List.{length-map}
use Rattle.std.proofs.lemmas.Result.{IfOk-weaker}
use Rattle.ftn_tree.specs.Extents.{scoping}
use Rattle.decl_table.proofs.Arounds.{units_few}
use Rattle.name_types.specs.steps.Generics.{outside_candidate, outside_number}
use Rattle.name_types.specs.steps.Index.{found_in, first_at}
use Rattle.name_types.proofs.OutsideUnits.{outside_found}
use Rattle.name_types.proofs.bodies.outside_index.Goals as goal

pub index-requires : goal.index-requires
index-requires c =
    let all = c.deref.ensures.value ∙ c.in_ok-all.ensures in record {
      few = subst (λ n. n < 2 ^ 32) (sym (ap length all ∙ length-map (scoping c.args.files.now) (outside_candidate c.args.files.now))) (units_few c.args.files.now c.requires.trees);
    }

pub returns : goal.returns
returns c =
    let files = c.args.files.now in
    IfOk-weaker c.index.result (λ found. (under : ℕ) (name : List ℕ) → found_in found under name ≡ first_at under name c.deref.result.now)
    (λ found. (name : List ℕ) → found_in found 0 name ≡ outside_number files name)
    (λ found is name. is 0 name ∙ ap (first_at 0 name) (c.deref.ensures.value ∙ c.in_ok-all.ensures) ∙ outside_found files c.requires.trees name)
    c.index.ensures
