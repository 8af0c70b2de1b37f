use Rattle.std.proofs.Common.{◌≡◌, ◌++◌, true, take}
use Rattle.std.specs.List.{flat_map, list_all}
use Rattle.const_value.specs.steps.Giving.{group_fits, group_given}
use Rattle.const_value.specs.steps.Telling.{sight_of}
use Rattle.const_value.proofs.givens.push_groups.Given as goal

abbrev pub invariant-loop-group : goal.invariant-loop-group
invariant-loop-group l = record {
  given : l.found.items ≡ l.initial.found.items ++ flat_map (group_given (sight_of l.view) l.scope) (take l.group-index l.groups);
  fits : list_all (group_fits (sight_of l.view)) (take l.group-index l.groups) ≡ true;
}
