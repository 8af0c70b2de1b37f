use Rattle.plan_file.proofs.Fronts.{after_is}
use Rattle.plan_file.proofs.fields.after.Goals as goal

pub returns : goal.returns
returns c = after_is (λ x. x.now) c.strip_prefix.result c.args.bytes.now c.args.field.now c.strip_prefix.ensures.cases
