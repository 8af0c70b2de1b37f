use Rattle.std.proofs.Common.{◌∙◌, sym}
use Rattle.plan_file.proofs.Rows.{one_plan}
use Rattle.plan_file.proofs.reading.read_plan.Goals as goal

pub returns-in-Ok-clause-only : goal.returns-in-Ok-clause-only
returns-in-Ok-clause-only c = λ files text. one_plan c.in-Ok.files.items files c.args.bytes.now c.in-Ok.ensures.plan text ∙ sym c.from_vec-files.ensures
