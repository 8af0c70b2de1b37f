-- When a scan tells a fault.
use Rattle.std.specs.Prelude.{⊤, ℕ, ◌+◌, ◌≤◌, List}
use Rattle.ftn_base.specs.declared.name.Edition.{Edition}
use Rattle.ftn_tree.specs.Breaks.{IsBreak}
use Rattle.free_scan.specs.declared.free_form.tokens.ScanFault.{ScanFault}
use Rattle.free_scan.specs.declared.free_form.tokens.ScanFault.TheVariants as faults

-- the text breaks a rule there first, or memory was wanting
abbrev pub IsScanFault : Edition → List ℕ → ScanFault → Type 0
IsScanFault edition text (faults.At kind at) = IsBreak edition text at kind
IsScanFault edition text faults.NoMemory = ⊤

-- the bytes before that place were counted
abbrev pub HasTicked : ℕ → ℕ → ScanFault → Type 0
HasTicked before now (faults.At kind at) = before + at ≤ now
HasTicked before now faults.NoMemory = before ≤ now
