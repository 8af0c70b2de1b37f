use Rattle.token_edit.proofs.Chains.{fit_is_chain}
use Rattle.token_edit.proofs.edit.fits.Goals as goal

pub loop-edit-init : goal.loop-edit-init
loop-edit-init c = fit_is_chain c.args.length c.args.edits.now
