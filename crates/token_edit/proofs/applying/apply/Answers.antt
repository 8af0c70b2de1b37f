use Rattle.std.proofs.Common.{◌++◌, List, ℕ, length, sym, ap, ◌∙◌, arith}
use Rattle.token_edit.specs.Edits.{applied_from}
use Rattle.token_edit.proofs.Chains.{fit_is_chain}
use Rattle.token_edit.proofs.applying.apply.Goals as goal

pub loop-edit-init : goal.loop-edit-init
loop-edit-init c = record {
  made = ap (λ (front : List ℕ). front ++ applied_from c.args.text.now 0 c.args.edits.now) (sym c.new-made.ensures.items);
  chain = sym (fit_is_chain (length c.args.text.now) c.args.edits.now) ∙ c.requires;
  inside = omega arith;
}
