use Rattle.std.proofs.Common.{◌≡◌, ◌∙◌, Some, nat_eq, sym, ap}
use Rattle.std.specs.Prelude.{slice_get}
use Rattle.std.specs.List.{filter_map}
use Rattle.std.proofs.lemmas.Result.{IfOk-weaker}
use Rattle.ftn_base.specs.Accessible.{once}
use Rattle.ftn_tree.specs.declared.table.Extent.{Extent}
use Rattle.ftn_tree.specs.Extents.{scoping}
use Rattle.ftn_tree.specs.Procedures.{specific_keys}
use Rattle.name_types.specs.steps.Gathered.{extent_numbered, unit_in}
use Rattle.name_types.specs.steps.Generics.{all_by}
use Rattle.name_types.proofs.SpecificLists.{block_keys, no_keys}
use Rattle.name_types.proofs.generics.Generics.specifics.Goals as goal

pub returns-in-Some : goal.returns-in-Some
returns-in-Some c =
    let files = c.args.files.now in
    let g = c.args.self.now in
    let name = c.args.name.now in
    IfOk-weaker c.in_block.result (λ found. found.items ≡ once nat_eq (all_by files g c.args.scope c.in-Some.block))
    (λ found. (e : Extent) → slice_get (scoping files) c.args.scope ≡ Some e → filter_map (extent_numbered files) found.items ≡ filter_map unit_in (specific_keys files e name))
    (λ found is e here.
    ap (filter_map (extent_numbered files)) is
    ∙ block_keys files g c.requires c.args.scope e here name c.in-Some.block (sym (c.requires.blocks c.args.scope name) ∙ sym c.found_in.ensures ∙ c.in-Some.is))
    c.in_block.ensures

pub returns-in-None : goal.returns-in-None
returns-in-None c = λ e here.
    ap (filter_map (extent_numbered c.args.files.now)) c.new.ensures.items
    ∙ sym (no_keys c.args.files.now c.args.self.now c.requires c.args.scope e here c.args.name.now (sym (c.requires.blocks c.args.scope c.args.name.now) ∙ sym c.found_in.ensures ∙ c.in-None.is))
