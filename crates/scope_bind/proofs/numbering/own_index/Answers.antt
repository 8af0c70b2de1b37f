use Rattle.std.proofs.Common.{◌≡◌, ◌<◌, ◌^◌, ◌+◌, ◌*◌, ℕ, List, length, map, ap, ◌∙◌, arith}
use Rattle.std.proofs.lemmas.List.{length-map}
use Rattle.std.proofs.lemmas.Result.{IfOk-weaker}
use Rattle.ftn_tree.specs.DeclaredEntities.{occurrences_of}
use Rattle.ftn_tree.specs.Extents.{scoping}
use Rattle.scope_bind.specs.steps.Globals.{own_candidate}
use Rattle.scope_bind.specs.steps.Index.{found_in, first_at}
use Rattle.scope_bind.specs.steps.Numbering.{own_occurrence}
use Rattle.scope_bind.proofs.Small.{trees_small}
use Rattle.scope_bind.proofs.NamedUnits.{own_found}
use Rattle.scope_bind.proofs.numbering.own_index.Goals as goal

pub index-requires : goal.index-requires
index-requires c =
    let files = c.args.files.now in
    let long : length c.deref.result.now ≡ length (occurrences_of files) =
    ap length (c.deref.ensures.value ∙ c.in_ok-all.ensures ∙ ap (map own_candidate) c.requires.occurrences) ∙ length-map (occurrences_of files) own_candidate in
    let small : length (scoping files) + 3 * length (occurrences_of files) < 2 ^ 32 = (trees_small files c.requires.trees).names in record { few = omega (arith, long, small) }

pub returns : goal.returns
returns c =
    let files = c.args.files.now in
    let all = c.deref.ensures.value ∙ c.in_ok-all.ensures ∙ ap (map own_candidate) c.requires.occurrences in
    IfOk-weaker c.index.result (λ found. (under : ℕ) (name : List ℕ) → found_in found under name ≡ first_at under name c.deref.result.now)
    (λ found. (scope : ℕ) (name : List ℕ) → found_in found scope name ≡ own_occurrence files scope name)
    (λ found is scope name. is scope name ∙ ap (first_at scope name) all ∙ own_found files scope name)
    c.index.ensures
