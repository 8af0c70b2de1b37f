use Rattle.std.proofs.Common.{map}
use Rattle.type_check.specs.steps.Calling.{call_seen}
use Rattle.type_check.proofs.CallTrees.{refer_added}
use Rattle.type_check.proofs.expression_calls.+calling.Goals as goal

pub push_calls-returns-in_ok-push_part-in-Refer : goal.push_calls-returns-in_ok-push_part-in-Refer
push_calls-returns-in_ok-push_part-in-Refer t c =
    refer_added c.args.setting.now c.in-Refer.name c.in-Refer.args c.in-Refer.part c.args.expr.now (map call_seen c.args.made.now.items) (map call_seen c.push_name.new.made.items)
    (map call_seen c.push_args.new.made.items) (map call_seen c.push_part.new.made.items) c.in-Refer.is c.in_ok-push_name-in-Refer.ensures c.in_ok-push_args-in-Refer.ensures
    c.in_ok-push_part-in-Refer.ensures
