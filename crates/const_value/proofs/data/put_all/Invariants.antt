use Rattle.std.proofs.Common.{◌≡◌, map, drop}
use Rattle.ftn_tree.specs.Declarations.{Declared}
use Rattle.ftn_tree.specs.Scopes.{name_at}
use Rattle.const_value.specs.steps.Data.{put_by}
use Rattle.const_value.specs.steps.Names.{number_in}
use Rattle.const_value.specs.steps.Written.{written_seen}
use Rattle.const_value.proofs.data.put_all.Given as goal

abbrev pub invariant-loop-one : goal.invariant-loop-one
invariant-loop-one l =
    put_by (λ (d : Declared). number_in l.numbers (name_at l.files l.file d.name)) (map written_seen l.initial.written) l.declared
    ≡ put_by (λ (d : Declared). number_in l.numbers (name_at l.files l.file d.name)) (map written_seen l.written) (drop l.one-index l.declared)
