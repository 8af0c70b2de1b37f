use Rattle.std.proofs.Common.{◌≡◌, drop}
use Rattle.token_edit.specs.Edits.{fit}
use Rattle.token_edit.proofs.Chains.{is_chain}
use Rattle.token_edit.proofs.edit.fits.Given as goal

abbrev pub invariant-loop-edit : goal.invariant-loop-edit
invariant-loop-edit l = fit l.length l.edits ≡ is_chain l.at l.length (drop l.edit-index l.edits)
