use Rattle.std.proofs.Common.{◌≡◌, drop, fold}
use Rattle.std.specs.List.{flat_map}
use Rattle.ftn_tree.specs.ScopeLetters.{put_given, given_group}
use Rattle.decl_table.proofs.letters.after_all.Given as goal

abbrev pub invariant-loop-group : goal.invariant-loop-group
invariant-loop-group l =
    fold put_given l.initial.map (flat_map (given_group l.files l.file) l.groups)
    ≡ fold put_given l.map (flat_map (given_group l.files l.file) (drop l.group-index l.groups))
