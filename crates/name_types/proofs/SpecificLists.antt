-- The specific procedures of a generic name by what is kept of interface blocks.
use Rattle.std.proofs.Common.{◌≡◌, ℕ, ◌+◌, ◌-◌, ◌<◌, true, nat_eq, List, [], ◌++◌, length, map, Some, None, sym, ap, ap₂, ◌∙◌, arith}
use Rattle.std.specs.Prelude.{slice_get}
use Rattle.std.specs.List.{filter, filter_map, flat_map, range_with_len}
use Rattle.std.specs.Option.{option_and_then, option_map_or, unwrap_or}
use Rattle.std.proofs.lemmas.Bool.{and_parts}
use Rattle.std.proofs.lemmas.List.Elements.{filter_map-append}
use Rattle.ftn_base.specs.Accessible.{once}
use Rattle.ftn_tree.specs.declared.table.Extent.{Extent}
use Rattle.ftn_tree.specs.declared.unit.FileTree.{FileTree}
use Rattle.ftn_tree.specs.Extents.{extents, scoping, layer_at, covers, host_of, is_some_extent, same_extent}
use Rattle.ftn_tree.specs.Meanings.{same_key}
use Rattle.ftn_tree.specs.Procedures.{bodies_in, generic_block, is_block_named, listed_in, specific_keys}
use Rattle.ftn_tree.specs.Scopes.{own_statements}
use Rattle.decl_table.specs.steps.Following.{is_number, own_by}
use Rattle.decl_table.specs.steps.Rows.{number_at, rows_of}
use Rattle.decl_table.proofs.OwnStatements.{own_are}
use Rattle.name_types.specs.declared.generics.Generics.{Generics}
use Rattle.name_types.specs.steps.Gathered.{extent_numbered, unit_in}
use Rattle.name_types.specs.steps.Generics.{AreGenerics, all_by, block_number, listed_at, listed_by, no_extent, in_place, placed_of}
use Rattle.name_types.proofs.BlockStatements.{block_statements}
use Rattle.name_types.proofs.GenericBlocks.{wanted, block_place, block_found, bodies_are}
use Rattle.name_types.proofs.OutsideUnits.{found}
use Rattle.name_types.proofs.PlacedExtents.{extent_within, unit_ends, inside_host}
use Rattle.name_types.proofs.SpecificNumbers.{Are, are_units, are_both, are_once, units_once, statements_units}

module _ (files : List FileTree) (g : Generics) (are : AreGenerics files g) (n : ℕ) (e : Extent) (here : slice_get (scoping files) n ≡ Some e) (name : List ℕ) where
  -- the statements of the block
  own_of : (at : ℕ) (around : Extent) → slice_get (extents files) at ≡ Some around → is_some_extent e (host_of files around) ≡ true
      → (around.file ≡ e.file) × (own_by n around (rows_of files (scoping files)) ≡ filter (λ s. covers e.file s around) (own_statements files e))
  own_of at around there hosted =
      let (same, first, last) = inside_host files are.trees n e around here hosted in
      let (order, within) = extent_within files are.trees at around there in
      let end : around.ending < e.ending = unit_ends files are.trees n at e around here there same first last in (
        sym same,
        ap (λ f. filter (λ s. is_number n (number_at (rows_of files (scoping files)) f s)) (range_with_len around.opening (around.ending + 1 - around.opening))) (sym same)
            ∙ sym (block_statements (λ s. is_number n (number_at (rows_of files (scoping files)) e.file s)) e around same (omega (arith, first)) (omega (arith, order)) (omega (arith, end)))
            ∙ ap (filter (λ s. covers e.file s around)) (own_are files are.trees n e here),
      )

  listed_are : (at : ℕ) (around : Extent) → slice_get (extents files) at ≡ Some around → is_some_extent e (host_of files around) ≡ true
      → Are files (listed_by files g n around) (filter_map unit_in (listed_in files e around))
  listed_are at around there hosted =
      let (same, own) = own_of at around there hosted in
      ap (map (extent_numbered files))
      (ap (λ rows. flat_map (listed_at files g.project.now around.file) (own_by n around rows)) are.scoping.rows
      ∙ ap (flat_map (listed_at files g.project.now around.file)) own
      ∙ ap (λ f. flat_map (listed_at files g.project.now f) (filter (λ s. covers e.file s around) (own_statements files e))) same)
      ∙ statements_units files are.trees are.names g.project.now are.gathered e.file (filter (λ s. covers e.file s around) (own_statements files e))

  pub block_keys : (at : ℕ) → block_number files n name ≡ Some at → filter_map (extent_numbered files) (once nat_eq (all_by files g n at)) ≡ filter_map unit_in (specific_keys files e name)
  block_keys at is =
      let (less, around, there, passes) = found (wanted files e name) (extents files) at (sym (block_place files are.trees n e here name) ∙ is) in
      let hosted = (and_parts (is_some_extent e (host_of files around)) (is_block_named files around.file name (layer_at files around.file around.opening)) passes).0 in
      let block : generic_block files e name ≡ Some around = block_found files are.trees n e here name ∙ ap (option_and_then (slice_get (extents files))) is ∙ there in
      let its : unwrap_or (slice_get g.all.items at) no_extent ≡ around = ap (λ es. unwrap_or (slice_get es at) no_extent) are.all ∙ ap (λ o. unwrap_or o no_extent) there in
      let numbers : all_by files g n at ≡ listed_by files g n around ++ filter_map (in_place at) (map (placed_of files) (extents files)) =
      ap₂ (λ x ys. listed_by files g n x ++ ys) its (are.bodies.each at less) in
      let units : Are files (listed_by files g n around ++ filter_map (in_place at) (map (placed_of files) (extents files))) (filter_map unit_in (listed_in files e around ++ bodies_in files around)) =
      are_both files (listed_by files g n around) (filter_map (in_place at) (map (placed_of files) (extents files))) (filter_map unit_in (listed_in files e around)) (filter_map unit_in (bodies_in files around))
      (listed_are at around there hosted) (bodies_are files are.trees at around there)
      ∙ ap (map (λ (x : Extent). Some x)) (sym (filter_map-append unit_in (listed_in files e around) (bodies_in files around))) in
      ap (λ xs. filter_map (extent_numbered files) (once nat_eq xs)) numbers
      ∙ are_units files (once nat_eq (listed_by files g n around ++ filter_map (in_place at) (map (placed_of files) (extents files)))) (once same_extent (filter_map unit_in (listed_in files e around ++ bodies_in files around)))
      (are_once files are.trees (listed_by files g n around ++ filter_map (in_place at) (map (placed_of files) (extents files))) (filter_map unit_in (listed_in files e around ++ bodies_in files around)) units)
      ∙ sym (units_once (listed_in files e around ++ bodies_in files around))
      ∙ ap (λ o. filter_map unit_in (once same_key (option_map_or (λ around. listed_in files e around ++ bodies_in files around) o []))) (sym block)

  pub no_keys : block_number files n name ≡ None → filter_map unit_in (specific_keys files e name) ≡ []
  no_keys is =
      let block : generic_block files e name ≡ None = block_found files are.trees n e here name ∙ ap (option_and_then (slice_get (extents files))) is in
      ap (λ o. filter_map unit_in (once same_key (option_map_or (λ around. listed_in files e around ++ bodies_in files around) o []))) block

  pub block_less : (at : ℕ) → block_number files n name ≡ Some at → at < length (extents files)
  block_less at is = (found (wanted files e name) (extents files) at (sym (block_place files are.trees n e here name) ∙ is)).0
