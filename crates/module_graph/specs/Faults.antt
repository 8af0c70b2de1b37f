-- Which cycle is told.
use Rattle.std.specs.Prelude.{ℕ, List}
use Rattle.ftn_base.specs.ModuleCycles.{IsLeastCycle}
use Rattle.module_graph.specs.declared.fault.GraphFault.{GraphFault}
use Rattle.module_graph.specs.declared.fault.GraphFault.TheVariants as fault

-- a fault is want of memory, or tells that cycle
abbrev pub IsTrueFault : List (List ℕ) → GraphFault → Type 0
IsTrueFault uses (fault.Cycle list) = IsLeastCycle uses list.items
IsTrueFault uses fault.NoMemory = Unit
