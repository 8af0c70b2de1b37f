-- What code keeps of the objects and values of DATA. It serves the proof alone.
use Rattle.std.specs.Prelude.{ℕ, ◌<◌, ◌≤◌, List, slice_get, Some}
use Rattle.std.specs.Prelude.{◌≡◌}
use Rattle.const_value.specs.declared.givens.Object.{Object}
use Rattle.const_value.specs.declared.givens.Supply.{Supply}
use Rattle.const_value.specs.steps.Giving as steps
use Rattle.const_value.specs.steps.Giving.{SupplyAs, end_of}

abbrev pub object_seen : Object → steps.Object
object_seen o = record { entity = o.entity; token = o.token; ty = o.ty; start = o.start; run = o.run }

abbrev pub supply_seen : Supply → SupplyAs
supply_seen s = record { constant = s.constant.now; run = s.run }

-- those before that one don't go beyond that position
abbrev pub ArePast : ℕ → ℕ → List SupplyAs → Type 0
ArePast position at supplies = (i : ℕ) (supply : SupplyAs) → i < at → slice_get supplies i ≡ Some supply → end_of supply.run ≤ position
