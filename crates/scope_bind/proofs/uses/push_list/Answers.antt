use Rattle.std.proofs.Common.{Some, ap, sym, option_map, ◌∙◌}
use Rattle.ftn_tree.specs.declared.form.Form.{Form, out-Form}
use Rattle.scope_bind.proofs.UsedNames.{renames_spelled, only_spelled}
use Rattle.scope_bind.proofs.uses.push_list.Goals as goal

pub rename_items-requires : goal.rename_items-requires
unfolding out-Form denote.Hole.Carrier.out
rename_items-requires c =
    let layer = ap (option_map out-Form) (sym c.in-Some-UseAll.ensures) ∙ ap (λ (form : Form). Some (out-Form form)) c.in-Some-UseAll.field-0-is in
    rw (c.as_slice.ensures, c.in-Some-UseAll.field-0-is) (renames_spelled c.args.known.now.files.now c.requires.known.trees c.args.file c.args.statement _ _ layer)

pub only_items-requires : goal.only_items-requires
unfolding out-Form denote.Hole.Carrier.out
only_items-requires c =
    let layer = ap (option_map out-Form) (sym c.in-Some-UseOnly.ensures) ∙ ap (λ (form : Form). Some (out-Form form)) c.in-Some-UseOnly.field-0-is in
    rw (c.as_slice-in-Some-module_number.ensures, c.in-Some-UseOnly.field-0-is) (only_spelled c.args.known.now.files.now c.requires.known.trees c.args.file c.args.statement _ _ layer)
