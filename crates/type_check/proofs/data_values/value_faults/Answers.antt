use Rattle.std.proofs.Common.{◌∙◌, ap, sym}
use Rattle.type_check.specs.steps.DataBy.{constant_told, repeat_told}
use Rattle.type_check.specs.steps.Noted.{first_seen, noted}
use Rattle.type_check.proofs.NotedLaws.{noted_append}
use Rattle.type_check.proofs.data_values.value_faults.Goals as goal

pub returns : goal.returns
returns c =
    let s = c.args.setting.now in
    let v = c.args.value.now in
    c.constant_fault.ensures ∙ ap (λ o. noted s.file o (constant_told s v.constant)) c.repeat_fault.ensures
    ∙ sym (noted_append s.file (first_seen c.args.faults.now) (repeat_told s v.repeat) (constant_told s v.constant))
