use Rattle.std.proofs.Common.{◌≡◌, ◌++◌, map, drop}
use Rattle.ftn_tree.specs.Extents.{is_body}
use Rattle.decl_table.specs.steps.Rows.{units_of}
use Rattle.decl_table.proofs.scoping.units_among.Given as goal

abbrev pub invariant-loop-extent : goal.invariant-loop-extent
invariant-loop-extent l =
    (l.at ≡ l.extent-index)
    × (units_of l.files l.all ≡ l.units.items ++ units_of l.files (drop l.extent-index l.all))
    × (l.kept.items ≡ map (is_body l.files) l.units.items)
