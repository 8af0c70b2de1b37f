use Rattle.std.proofs.Common.{◌≡◌, ◌≤◌, ◌++◌, length, drop, true}
use Rattle.token_edit.specs.Edits.{applied_from}
use Rattle.token_edit.proofs.Chains.{is_chain}
use Rattle.token_edit.proofs.applying.apply.Given as goal

abbrev pub invariant-loop-edit : goal.invariant-loop-edit
invariant-loop-edit l = record {
  made : applied_from l.text 0 l.edits ≡ l.made.items ++ applied_from l.text l.at (drop l.edit-index l.edits);
  chain : is_chain l.at (length l.text) (drop l.edit-index l.edits) ≡ true;
  inside : l.at ≤ length l.text;
}
