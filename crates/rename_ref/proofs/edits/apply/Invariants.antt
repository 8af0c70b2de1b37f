use Rattle.std.proofs.Common.{◌≡◌, ◌≤◌, ◌++◌, length, drop, IsTrue}
use Rattle.rename_ref.specs.Edits.{applied_from, fit}
use Rattle.rename_ref.proofs.edits.apply.Given as goal

abbrev pub invariant-loop-edit : goal.invariant-loop-edit
invariant-loop-edit l = record {
  made : applied_from 0 l.text l.edits ≡ l.made.items ++ applied_from l.at (drop l.at l.text) (drop l.edit-index l.edits);
  fits : IsTrue (fit l.at (drop l.at l.text) (drop l.edit-index l.edits));
  inside : l.at ≤ length l.text;
}
