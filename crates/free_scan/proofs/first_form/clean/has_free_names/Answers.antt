use Rattle.free_scan.proofs.CleanLaws.{free_else, free_then}
use Rattle.free_scan.proofs.first_form.clean.has_free_names.Goals as goal

pub returns-then-is_free_name : goal.returns-then-is_free_name
returns-then-is_free_name c = free_then c.args.program.now _ _ _ c.bytes.ensures.bytes c.as_slice.ensures c.if-is_free_name.ensures c.all_are_free.ensures

pub returns-else-is_free_name : goal.returns-else-is_free_name
returns-else-is_free_name c = free_else c.args.program.now _ _ c.bytes.ensures.bytes c.if-is_free_name.ensures c.is_free_name.ensures
