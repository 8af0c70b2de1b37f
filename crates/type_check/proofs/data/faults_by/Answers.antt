use Rattle.std.proofs.Common.{◌∙◌, ap, ap₂, map}
use Rattle.std.specs.List.{flat_map}
use Rattle.ftn_tree.specs.DataTypes.{counts_told}
use Rattle.type_check.specs.steps.DataBy.{counted_object, counted_value, object_told, value_told}
use Rattle.type_check.specs.steps.Noted.{first_seen, noted}
use Rattle.type_check.proofs.DataGroups.{all_noted}
use Rattle.type_check.proofs.data.faults_by.Goals as goal

pub returns : goal.returns
returns c =
    let s = c.args.setting.now in
    let one = first_seen c.objects_faults.new.faults in
    let two = first_seen c.values_faults.new.faults in
    all_noted s c.args.group.now (first_seen c.args.faults.now) one two (first_seen c.counts_faults.new.faults)
    (c.objects_faults.ensures ∙ ap (λ xs. noted s.file (first_seen c.args.faults.now) (flat_map (object_told s) xs)) c.as_slice.ensures)
    (c.values_faults.ensures ∙ ap (λ xs. noted s.file one (flat_map (value_told s) xs)) c.as_slice-2.ensures)
    (c.counts_faults.ensures ∙ ap₂ (λ xs ys. noted s.file two (counts_told (map (counted_object s) xs) (map (counted_value s) ys))) c.as_slice-3.ensures c.as_slice-4.ensures)
