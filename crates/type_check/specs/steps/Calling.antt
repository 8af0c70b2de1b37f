-- Which procedures references call, by what the code keeps of names. It serves the proof alone.
use Rattle.std.specs.Prelude.{ℕ, List, [], ◌++◌, Option}
use Rattle.std.specs.List.{flat_map}
use Rattle.std.specs.Option.{is_some, option_map, option_to_list, unwrap_or}
use Rattle.ftn_tree.specs.declared.expr.Expr.{Expr}
use Rattle.ftn_tree.specs.declared.expr.Part.{Part, fold-Part}
use Rattle.ftn_tree.specs.declared.form.Form.{out-Form}
use Rattle.ftn_tree.specs.declared.form.Form.TheOpen.{Form-F}
use Rattle.ftn_tree.specs.Calls as spec
use Rattle.ftn_tree.specs.GlobalNames.{place}
use Rattle.ftn_tree.specs.Layers.{FormLayer}
use Rattle.ftn_tree.specs.Trees.{Tree, Section, end_of, section_of, tree_step, part_step, tree_of}
use Rattle.ftn_tree.specs.Wants.{Placed, expressions_at}
use Rattle.name_types.specs.declared.names.Setting.{Setting}
use Rattle.name_types.specs.steps.Senses.{called_by, sense_by}
use Rattle.type_check.specs.declared.calls.CallSite.{CallSite}
use Rattle.type_check.specs.declared.expression_calls.Call.{Call}
use Rattle.type_check.specs.steps.Typing.{arguments_by}

abbrev pub call_seen : Call → spec.Call
call_seen c = (c.name, c.procedure)

abbrev pub found_seen : Option Call → List spec.Call
found_seen found = option_to_list (option_map call_seen found)

abbrev pub site_seen : CallSite → spec.Called
site_seen c = record { at = place c.file c.token; scope = c.scope; procedure = c.procedure }

-- ---- in expressions

abbrev pub calls_by : Setting → Expr → List spec.Call
calls_by s expr = spec.calls (sense_by s) (tree_of expr)

abbrev pub name_calls : Setting → ℕ → Option (List Expr) → List spec.Call
name_calls s name given = spec.call_by name (sense_by s name (is_some given)) (arguments_by s given)

abbrev pub args_calls : Setting → Option (List Expr) → List spec.Call
args_calls s given = flat_map (calls_by s) (unwrap_or given [])

abbrev pub end_calls : Setting → Option Expr → List spec.Call
end_calls s end = spec.calls_end (sense_by s) (end_of (option_map tree_of end))

abbrev pub part_calls : Setting → Option Part → List spec.Call
part_calls s part = spec.calls_section (sense_by s) (section_of (option_map (fold-Part Tree Section tree_step part_step) part))

-- ---- in statements

abbrev pub action_by : Setting → FormLayer → List spec.Call
action_by s (Form-F.Call name given) = spec.call_by name (called_by s name) (arguments_by s given)
action_by s _ = []

abbrev pub whole_by : Setting → FormLayer → List spec.Call
whole_by s (Form-F.If condition at inner) = action_by s (out-Form inner)
whole_by s other = action_by s other

abbrev pub placed_by : Setting → List Placed → List spec.Call
placed_by s placed = flat_map (λ (p : Placed). calls_by s p.expr) placed

abbrev pub form_by : Setting → FormLayer → List spec.Call
form_by s form = whole_by s form ++ placed_by s (expressions_at form)
