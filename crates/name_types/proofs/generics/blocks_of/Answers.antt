use Rattle.std.proofs.Common.{◌≡◌, ◌<◌, ◌^◌, ℕ, List, length, map, ap, ◌∙◌, subst, sym}
use Rattle.std.proofs.lemmas.List.{length-map}
use Rattle.std.proofs.lemmas.Result.{IfOk-weaker}
use Rattle.ftn_tree.specs.Extents.{extents}
use Rattle.decl_table.proofs.Arounds.{extents_few}
use Rattle.name_types.specs.steps.Generics.{block_candidate, block_number}
use Rattle.name_types.specs.steps.Index.{found_in, first_at}
use Rattle.name_types.proofs.generics.blocks_of.Goals as goal

pub index-requires : goal.index-requires
index-requires c =
    let all = c.deref.ensures.value ∙ c.in_ok-candidates.ensures ∙ ap (map (block_candidate c.args.files.now)) c.requires.all in record {
      few = subst (λ n. n < 2 ^ 32) (sym (ap length all ∙ length-map (extents c.args.files.now) (block_candidate c.args.files.now))) (extents_few c.args.files.now c.requires.trees);
    }

pub returns : goal.returns
returns c =
    let files = c.args.files.now in
    IfOk-weaker c.index.result (λ found. (under : ℕ) (name : List ℕ) → found_in found under name ≡ first_at under name c.deref.result.now)
    (λ found. (scope : ℕ) (name : List ℕ) → found_in found scope name ≡ block_number files scope name)
    (λ found is scope name. is scope name ∙ ap (first_at scope name) (c.deref.ensures.value ∙ c.in_ok-candidates.ensures ∙ ap (map (block_candidate files)) c.requires.all))
    c.index.ensures
