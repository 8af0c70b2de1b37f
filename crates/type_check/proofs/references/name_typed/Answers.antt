use Rattle.std.proofs.Common.{sym, ◌∙◌, None}
use Rattle.name_types.specs.steps.Senses.{sense_seen}
use Rattle.type_check.proofs.ReferenceLaws.{reference_seen}
use Rattle.type_check.proofs.references.name_typed.Goals as goal

pub returns : goal.returns
returns c = c.plain_typed.ensures ∙ sym (reference_seen c.args.name (sense_seen c.args.sense.now) None None)
