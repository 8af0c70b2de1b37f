use Rattle.std.proofs.Common.{◌≡◌, ◌++◌, map, take}
use Rattle.ftn_tree.specs.Calls.{called_from}
use Rattle.type_check.specs.steps.Calling.{call_seen, site_seen}
use Rattle.type_check.proofs.calls.push_sites.Given as goal

abbrev pub invariant-loop-call : goal.invariant-loop-call
invariant-loop-call l = map site_seen l.sites.items ≡ map site_seen l.initial.sites.items ++ map (called_from l.unit) (map call_seen (take l.call-index l.calls))
