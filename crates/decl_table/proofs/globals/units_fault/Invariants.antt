use Rattle.std.proofs.Common.{◌≡◌, [], take}
use Rattle.ftn_tree.specs.GlobalNames.{unit_pairs}
use Rattle.decl_table.specs.steps.Globals.{Keeps, kept_by, first_of}
use Rattle.decl_table.proofs.globals.units_fault.Given as goal

abbrev pub invariant-loop-given : goal.invariant-loop-given
invariant-loop-given l = record {
  found : l.found ≡ first_of (unit_pairs [] (take l.given-index l.units));
  kept : Keeps (kept_by l.seen) (take l.given-index l.units);
}
