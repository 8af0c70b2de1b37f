use Rattle.std.proofs.Common.{◌∙◌, ◌++◌, map, ap}
use Rattle.ftn_tree.specs.declared.form.Form.{out-Form}
use Rattle.ftn_tree.specs.Wants.{expressions_of}
use Rattle.type_check.specs.steps.Calling.{call_seen, placed_by, whole_by}
use Rattle.type_check.proofs.CallTrees.{added}
use Rattle.type_check.proofs.CalledForms.{form_right}
use Rattle.type_check.proofs.statement_calls.push_form.Goals as goal

pub returns : goal.returns
returns c = λ files e right.
    let s = c.args.setting.now in
    let form = c.args.form.now in
    let old = map call_seen c.args.made.now.items in
    added old (whole_by s (out-Form form)) (placed_by s (expressions_of form)) (map call_seen c.push_whole.new.made.items) (map call_seen c.push_expressions.new.made.items)
    c.in_ok-push_whole.ensures c.in_ok-push_expressions.ensures
    ∙ ap (λ xs. old ++ xs) (form_right files e s right (out-Form form))
