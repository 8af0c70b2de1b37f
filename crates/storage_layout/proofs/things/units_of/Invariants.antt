use Rattle.std.proofs.Common.{◌≡◌, take}
use Rattle.ftn_base.specs.StorageMembers.{sizes_of}
use Rattle.storage_layout.proofs.things.units_of.Given as goal

abbrev pub invariant-loop-object : goal.invariant-loop-object
invariant-loop-object l = l.units.items ≡ sizes_of (take l.object-index l.objects)
