use Rattle.std.proofs.Common.{◌≡◌, take}
use Rattle.decl_table.specs.steps.Globals.{Keeps, kept_by, first_of, block_pairs}
use Rattle.decl_table.proofs.globals.blocks_fault.Given as goal

abbrev pub invariant-loop-given : goal.invariant-loop-given
invariant-loop-given l = record {
  found : (all : _) → Keeps (kept_by l.units) all → l.found ≡ first_of (block_pairs all (take l.given-index l.blocks));
  kept : Keeps (kept_by l.seen) (take l.given-index l.blocks);
}
