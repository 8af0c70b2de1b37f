use Rattle.std.proofs.Common.{◌≡◌, drop}
use Rattle.indexmap.specs.IndexSet.{insert_all}
use Rattle.ftn_base.specs.Exports.{is_among}
use Rattle.ftn_base.specs.Accessible.{is_same_pair, others}
use Rattle.use_assoc.proofs.uses.add_others.Given as goal

abbrev pub invariant-loop-pair : goal.invariant-loop-pair
invariant-loop-pair l =
    insert_all is_same_pair l.initial.given (others (is_among l.sources) l.pairs)
    ≡ insert_all is_same_pair l.given (others (is_among l.sources) (drop l.pair-index l.pairs))
