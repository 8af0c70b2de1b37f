use Rattle.std.proofs.Common.{◌≡◌, drop}
use Rattle.const_value.specs.steps.Tables.{put_all}
use Rattle.const_value.proofs.tables.put_all.Given as goal

abbrev pub invariant-loop-mention : goal.invariant-loop-mention
invariant-loop-mention l = record {
  at : l.at ≡ l.mention-index;
  row : put_all 0 l.initial.row l.mentions l.denotes ≡ put_all l.at l.row (drop l.mention-index l.mentions) l.denotes;
}
