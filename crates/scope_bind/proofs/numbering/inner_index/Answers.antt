use Rattle.std.proofs.Common.{◌≡◌, ◌<◌, ◌^◌, ℕ, List, length, map, ap, ◌∙◌, subst, sym}
use Rattle.std.proofs.lemmas.List.{length-map}
use Rattle.std.proofs.lemmas.Result.{IfOk-weaker}
use Rattle.ftn_tree.specs.Extents.{scoping}
use Rattle.decl_table.proofs.Arounds.{units_few}
use Rattle.scope_bind.specs.steps.Globals.{inner_candidate}
use Rattle.scope_bind.specs.steps.Index.{found_in, first_at}
use Rattle.scope_bind.proofs.numbering.inner_index.Goals as goal

pub index-requires : goal.index-requires
index-requires c =
    let all = c.deref.ensures.value ∙ c.in_ok-all.ensures in record {
      few = subst (λ n. n < 2 ^ 32) (sym (ap length all ∙ length-map (scoping c.args.files.now) (inner_candidate c.args.files.now))) (units_few c.args.files.now c.requires.trees);
    }

pub returns : goal.returns
returns c =
    let files = c.args.files.now in
    IfOk-weaker c.index.result (λ found. (under : ℕ) (name : List ℕ) → found_in found under name ≡ first_at under name c.deref.result.now)
    (λ found. (scope : ℕ) (name : List ℕ) → found_in found scope name ≡ first_at scope name (map (inner_candidate files) (scoping files)))
    (λ found is scope name. is scope name ∙ ap (first_at scope name) (c.deref.ensures.value ∙ c.in_ok-all.ensures))
    c.index.ensures
