use Rattle.std.proofs.Common.{◌≡◌, ◌++◌, drop}
use Rattle.ftn_base.specs.Exports.{is_among, public_part}
use Rattle.use_assoc.proofs.access.add_public.Given as goal

abbrev pub invariant-loop-pair : goal.invariant-loop-pair
invariant-loop-pair l =
    l.initial.to.items ++ public_part l.default_public (is_among l.public) (is_among l.private) l.pairs
    ≡ l.to.items ++ public_part l.default_public (is_among l.public) (is_among l.private) (drop l.pair-index l.pairs)
