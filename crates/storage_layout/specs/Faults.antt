-- Which fault is told.
use Rattle.std.specs.Prelude.{ℕ, ◌≡◌, List, None}
use Rattle.ftn_base.specs.declared.entity.Tie.{Tie}
use Rattle.ftn_base.specs.declared.storage.Object.{Object}
use Rattle.ftn_base.specs.declared.storage.BlockList.{BlockList}
use Rattle.ftn_base.specs.StorageFaults.{AreSmall, Contradicts, Extends, IsApart, IsBegun, IsConsistent, IsFirst, IsFirstOdd, IsFirstTooLarge, IsSorted, JoinsBlocks, MemberTold, TieTold}
use Rattle.ftn_base.specs.StorageMembers.{sizes_of}
use Rattle.storage_layout.specs.declared.fault.LayoutFault.{LayoutFault}
use Rattle.storage_layout.specs.declared.fault.LayoutFault.TheVariants as fault

-- each fault comes exactly where it is the first of its kind, and no fault of an earlier kind is there
abbrev pub IsTrueFault : List Object → List BlockList → List Tie → LayoutFault → Type 0
IsTrueFault objects blocks ties (fault.TooLarge number) = IsFirstTooLarge (sizes_of objects) number
IsTrueFault objects blocks ties (fault.Conflict tie) = AreSmall (sizes_of objects) × IsFirst (Contradicts objects blocks ties) ties tie
IsTrueFault objects blocks ties (fault.BeforeStart tie) = IsConsistent objects blocks ties × IsFirst (Extends objects blocks ties) ties tie
IsTrueFault objects blocks ties (fault.TwoBlocks tie) = IsBegun objects blocks ties × IsFirst (JoinsBlocks objects blocks ties) ties tie
IsTrueFault objects blocks ties (fault.SortMismatch tie member) =
    IsApart objects blocks ties × TieTold objects blocks ties tie × MemberTold objects blocks ties member × (((tie ≡ None) × (member ≡ None)) → ⊥)
IsTrueFault objects blocks ties (fault.CommonSize list) = IsSorted objects blocks ties × IsFirstOdd objects blocks ties list
IsTrueFault objects blocks ties fault.NoMemory = Unit
