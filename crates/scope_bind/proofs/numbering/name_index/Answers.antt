use Rattle.std.proofs.Common.{◌≡◌, ◌<◌, ◌^◌, ◌+◌, ◌*◌, ℕ, List, length, map, ap, ◌∙◌, arith}
use Rattle.std.proofs.lemmas.List.{length-map}
use Rattle.std.proofs.lemmas.Result.{IfOk-weaker}
use Rattle.ftn_tree.specs.DeclaredEntities.{occurrences_of}
use Rattle.ftn_tree.specs.Extents.{scoping}
use Rattle.scope_bind.specs.steps.Globals.{name_candidate}
use Rattle.scope_bind.specs.steps.Index.{found_in, first_at}
use Rattle.scope_bind.specs.steps.Numbering.{name_occurrence}
use Rattle.scope_bind.proofs.Small.{trees_small}
use Rattle.scope_bind.proofs.NamedUnits.{name_found}
use Rattle.scope_bind.proofs.numbering.name_index.Goals as goal

pub index-requires : goal.index-requires
index-requires c =
    let files = c.args.files.now in
    let long : length c.deref.result.now ≡ length (occurrences_of files) =
    ap length (c.deref.ensures.value ∙ c.in_ok-all.ensures ∙ ap (map name_candidate) c.requires.occurrences) ∙ length-map (occurrences_of files) name_candidate in
    let small : length (scoping files) + 3 * length (occurrences_of files) < 2 ^ 32 = (trees_small files c.requires.trees).names in record { few = omega (arith, long, small) }

pub returns : goal.returns
returns c =
    let files = c.args.files.now in
    let all = c.deref.ensures.value ∙ c.in_ok-all.ensures ∙ ap (map name_candidate) c.requires.occurrences in
    IfOk-weaker c.index.result (λ found. (under : ℕ) (name : List ℕ) → found_in found under name ≡ first_at under name c.deref.result.now)
    (λ found. (name : List ℕ) → found_in found 0 name ≡ name_occurrence files name)
    (λ found is name. is 0 name ∙ ap (first_at 0 name) all ∙ name_found files name)
    c.index.ensures
