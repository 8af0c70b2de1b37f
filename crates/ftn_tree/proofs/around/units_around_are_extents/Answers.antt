use Rattle.ftn_tree.proofs.Surrounding.{around_covers, scope_around}
use Rattle.ftn_tree.proofs.around.units_around_are_extents.Goals as goal

pub returns : goal.returns
returns c = record { around = around_covers; scope = scope_around }
