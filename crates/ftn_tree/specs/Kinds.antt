-- Kinds of scoping units and entities (Fortran 90, 14.1).
use Rattle.std.specs.Prelude.{Bool, true, false}
use Rattle.ftn_tree.specs.declared.table.ScopeKind.{ScopeKind}
use Rattle.ftn_tree.specs.declared.table.ScopeKind.TheVariants as scope
use Rattle.ftn_tree.specs.declared.table.EntityKind.{EntityKind}
use Rattle.ftn_tree.specs.declared.table.EntityKind.TheVariants as entity

-- a procedure that the project defines
abbrev pub is_procedure_scope : ScopeKind → Bool
is_procedure_scope scope.Program = false
is_procedure_scope scope.Module = false
is_procedure_scope scope.BlockData = false
is_procedure_scope scope.Subroutine = true
is_procedure_scope scope.Function = true
is_procedure_scope scope.Body = false

-- executable statements may stand in it
abbrev pub holds_executables : ScopeKind → Bool
holds_executables scope.Program = true
holds_executables scope.Module = false
holds_executables scope.BlockData = false
holds_executables scope.Subroutine = true
holds_executables scope.Function = true
holds_executables scope.Body = false

-- a procedure that the project defines
abbrev pub is_procedure : EntityKind → Bool
is_procedure entity.Subroutine = true
is_procedure entity.Function = true
is_procedure _ = false

-- a variable, a dummy argument, or the result after RESULT
abbrev pub is_variable : EntityKind → Bool
is_variable entity.Variable = true
is_variable entity.Dummy = true
is_variable entity.Answer = true
is_variable _ = false

-- a program unit's or a procedure's
abbrev pub is_unit : EntityKind → Bool
is_unit entity.Program = true
is_unit entity.Module = true
is_unit entity.BlockData = true
is_unit entity.Subroutine = true
is_unit entity.Function = true
is_unit _ = false
