use Rattle.std.proofs.Common.{◌≡◌, ◌<◌, length, sym, subst, IfOk}
use Rattle.std.specs.List.{All}
use Rattle.indexmap.specs.IndexMap.{keys}
use Rattle.use_assoc.specs.steps.Groups.{found_lists}
use Rattle.use_assoc.proofs.Modules.{all_is}
use Rattle.use_assoc.proofs.Once.{modules_within}
use Rattle.use_assoc.proofs.associating.pairs_of.Goals as goal

pub add_modules-requires : goal.add_modules-requires
add_modules-requires c = record {
  modules =
      subst (All (λ number. number < length c.args.exports.now)) (sym c.in_ok-groups.ensures.0)
      (modules_within (length c.args.exports.now) c.args.lists.now c.requires);
}

pub returns : goal.returns
returns c =
    subst (λ all. IfOk c.pairs.result (λ pairs. pairs.items ≡ all))
    (all_is c.args.exports.now c.args.lists.now c.new-given.result c.add_modules.new.given (keys c.in_ok-groups.groups) (found_lists c.in_ok-groups.groups)
    c.new-given.ensures c.in_ok-groups.ensures.0 c.in_ok-groups.ensures.1 c.in_ok-add_modules.ensures)
    c.pairs.ensures
