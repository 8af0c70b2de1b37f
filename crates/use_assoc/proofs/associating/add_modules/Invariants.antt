use Rattle.std.proofs.Common.{◌≡◌, ◌<◌, length}
use Rattle.std.specs.List.{All, flat_map}
use Rattle.std.specs.Map.{keys_of}
use Rattle.indexmap.specs.IndexMap.{keys}
use Rattle.indexmap.specs.IndexSet.{insert_all}
use Rattle.ftn_base.specs.Accessible.{is_same_pair, exports_of, given_by}
use Rattle.use_assoc.specs.steps.Groups.{found_lists}
use Rattle.use_assoc.proofs.associating.add_modules.Given as goal

abbrev pub invariant-loop-number : goal.invariant-loop-number
invariant-loop-number l = record {
  pairs : insert_all is_same_pair l.initial.given (flat_map (λ number. given_by (exports_of l.exports number) (found_lists l.groups number)) (keys l.groups))
      ≡ insert_all is_same_pair l.given (flat_map (λ number. given_by (exports_of l.exports number) (found_lists l.groups number)) (keys_of l.number-iterator));
  modules : All (λ number. number < length l.exports) (keys_of l.number-iterator);
}
