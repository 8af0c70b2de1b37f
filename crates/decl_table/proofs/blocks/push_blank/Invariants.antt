use Rattle.std.proofs.Common.{◌≡◌, drop}
use Rattle.ftn_tree.specs.DeclaredEntities.{draft_blank}
use Rattle.decl_table.specs.steps.Blanks.{blanks_of}
use Rattle.decl_table.proofs.blocks.push_blank.Given as goal

abbrev pub invariant-loop-unit : goal.invariant-loop-unit
invariant-loop-unit l =
    (l.found ≡ l.initial.found) × (draft_blank l.files (blanks_of l.files l.units) ≡ draft_blank l.files (blanks_of l.files (drop l.unit-index l.units)))
