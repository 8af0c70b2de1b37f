use Rattle.std.proofs.Common.{◌≡◌, map, take}
use Rattle.std.specs.List.{flat_map}
use Rattle.ftn_tree.specs.Calls.{scope_calls}
use Rattle.ftn_tree.specs.Extents.{scoping}
use Rattle.type_check.specs.steps.Calling.{site_seen}
use Rattle.type_check.proofs.calls.calls_of.Given as goal

abbrev pub invariant-loop-at : goal.invariant-loop-at
invariant-loop-at l = map site_seen l.sites.items ≡ flat_map (scope_calls l.files) (take l.at (scoping l.files))
