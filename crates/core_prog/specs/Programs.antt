-- Resolved programs (Fortran 90, 2.2, 2.4, 14.6): variables, procedures and areas by their numbers.
use Rattle.std.specs.Prelude.{ℕ, List, map, Option}
use Rattle.core_prog.specs.declared.program.Core.{Core}
use Rattle.core_prog.specs.declared.program.Procedure as declared
use Rattle.core_prog.specs.declared.storage.Area.{Area}
use Rattle.core_prog.specs.declared.storage.Variable.{Variable}
use Rattle.core_prog.specs.Actions.{Block, block_of}

-- its dummy arguments, its result, what it does
pub record Procedure : Type 0 where
  pub dummies : List ℕ
  pub result : Option ℕ
  pub body : Block

pub record Program : Type 0 where
  pub variables : List Variable
  pub procedures : List Procedure
  pub areas : List Area
  pub main : Block

abbrev pub procedure_of : declared.Procedure → Procedure
procedure_of p = record { dummies = p.dummies; result = p.result; body = block_of p.body }

abbrev pub program_of : Core → Program
program_of core = record { variables = core.variables; procedures = map procedure_of core.procedures; areas = core.areas; main = block_of core.main }
