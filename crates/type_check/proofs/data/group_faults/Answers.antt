use Rattle.std.proofs.Common.{◌∙◌, ap₂}
use Rattle.type_check.specs.steps.Noted.{first_seen, noted}
use Rattle.type_check.proofs.DataGroups.{group_is}
use Rattle.type_check.proofs.data.group_faults.Goals as goal

pub returns : goal.returns
returns c = λ files e right none. c.faults_by.ensures ∙ ap₂ (λ file told. noted file (first_seen c.args.faults.now) told) right.file (group_is files e c.args.setting.now right c.args.group.now none)
