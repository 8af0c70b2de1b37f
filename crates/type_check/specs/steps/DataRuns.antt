-- The walk over the objects of a group of DATA with its values, one after the other. It serves the proof alone.
use Rattle.std.specs.Prelude.{◌≡◌, ◌≤◌, ℕ, List, drop}
use Rattle.std.specs.Option.{option_map}
use Rattle.ftn_tree.specs.DataTypes as types
use Rattle.ftn_base.specs.declared.fault.FaultKind.TheVariants.{WrongType}
use Rattle.ftn_tree.specs.DataTypes.{Counted, count_or_none, is_wrong, runs_from}
use Rattle.ftn_tree.specs.ExpressionTypes.{Told, if_told}
use Rattle.const_value.specs.steps.Projects.{sort_seen}
use Rattle.type_check.specs.declared.data_runs.Run.{Run}

abbrev pub run_seen : Run → types.Run
run_seen run = record { token = run.token; from = run.from; count = run.count; sort = option_map sort_seen run.sort }

-- values from that position on go to no object before that one, which begins at another position
abbrev pub AreWalked : List Counted → ℕ → ℕ → ℕ → Type 0
AreWalked objects at from position = (run : types.Run) → position ≤ run.from → is_wrong (runs_from 0 objects) run ≡ is_wrong (runs_from from (drop at objects)) run

-- the run of a value from that position on
abbrev pub run_from : ℕ → Counted → types.Run
run_from from c = record { token = c.token; from = from; count = count_or_none c; sort = c.sort }

abbrev pub wrong_told : List types.Run → ℕ → Counted → List Told
wrong_told objects from value = if_told (is_wrong objects (run_from from value)) WrongType value.token
