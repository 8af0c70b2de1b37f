-- The names of faults and the codes of statuses, as they are printed.
use Rattle.std.specs.Prelude.{ℕ, List, codes}
use Rattle.ftn_base.specs.declared.fault.FaultKind.{FaultKind}
use Rattle.ftn_base.specs.declared.fault.FaultKind.TheVariants as kinds
use Rattle.ftn_base.specs.declared.status.Status.{Status}
use Rattle.ftn_base.specs.declared.status.Status.TheVariants as statuses

abbrev pub name_of : FaultKind → List ℕ
name_of kinds.BadByte = codes "BadByte"
name_of kinds.OpenText = codes "OpenText"
name_of kinds.LongLine = codes "LongLine"
name_of kinds.ManyContinuations = codes "ManyContinuations"
name_of kinds.LoneAmpersand = codes "LoneAmpersand"
name_of kinds.LongName = codes "LongName"
name_of kinds.BigNumber = codes "BigNumber"
name_of kinds.NotAStatement = codes "NotAStatement"
name_of kinds.OutOfProfile = codes "OutOfProfile"
name_of kinds.TooDeep = codes "TooDeep"
name_of kinds.Misplaced = codes "Misplaced"
name_of kinds.Twice = codes "Twice"
name_of kinds.Conflicting = codes "Conflicting"
name_of kinds.Unknown = codes "Unknown"
name_of kinds.Cycle = codes "Cycle"
name_of kinds.NotPublic = codes "NotPublic"
name_of kinds.Ambiguous = codes "Ambiguous"
name_of kinds.RealOutOfProfile = codes "RealOutOfProfile"
name_of kinds.NotConstant = codes "NotConstant"
name_of kinds.Overflow = codes "Overflow"
name_of kinds.Zero = codes "Zero"
name_of kinds.Circular = codes "Circular"
name_of kinds.BadShape = codes "BadShape"
name_of kinds.WrongType = codes "WrongType"
name_of kinds.WrongCount = codes "WrongCount"
name_of kinds.NoSpecific = codes "NoSpecific"
name_of kinds.TwoSpecifics = codes "TwoSpecifics"
name_of kinds.NotDefinable = codes "NotDefinable"
name_of kinds.TooLarge = codes "TooLarge"
name_of kinds.Conflict = codes "Conflict"
name_of kinds.BeforeStart = codes "BeforeStart"
name_of kinds.TwoBlocks = codes "TwoBlocks"
name_of kinds.SortMismatch = codes "SortMismatch"
name_of kinds.CommonSize = codes "CommonSize"
name_of kinds.InitialTwice = codes "InitialTwice"
name_of kinds.NoMain = codes "NoMain"
name_of kinds.TwoMains = codes "TwoMains"
name_of kinds.NotBuilt = codes "NotBuilt"

abbrev pub code_of : Status → ℕ
code_of statuses.Done = 0
code_of statuses.Refused = 1
code_of statuses.BadWords = 2
code_of statuses.BadProject = 3
code_of statuses.Limit = 4
code_of statuses.StoreFault = 5
code_of statuses.InputFault = 6
code_of statuses.OutputFault = 7
code_of statuses.NoMemory = 8
code_of statuses.ProgramFaulted = 9
code_of statuses.StepsSpent = 10
code_of statuses.Pending = 11
