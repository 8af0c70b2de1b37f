use Rattle.std.proofs.Common.{◌≡◌, map, drop}
use Rattle.ftn_base.specs.Accessible.{first_from}
use Rattle.use_assoc.specs.steps.Table.{AreTables}
use Rattle.use_assoc.proofs.uses.first_not_public.Given as goal

abbrev pub invariant-loop-list : goal.invariant-loop-list
invariant-loop-list l = record {
  count : l.at ≡ l.list-index;
  first : first_from 0 (map (λ pairs. pairs.items) l.exports) l.lists ≡ first_from l.at (map (λ pairs. pairs.items) l.exports) (drop l.list-index l.lists);
  tables : AreTables (map (λ pairs. pairs.items) l.exports) l.tables.by_module;
}
