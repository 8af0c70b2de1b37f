-- The main program (Fortran 90, 2.2.1, 11.1): a project has one.
use Rattle.std.specs.Prelude.{Bool, true, false, List, [], ◌∷◌, Option, Some, None}
use Rattle.std.specs.List.{filter}
use Rattle.ftn_base.specs.declared.fault.Fault.{Fault}
use Rattle.ftn_base.specs.declared.fault.FaultKind.TheVariants.{NoMain, TwoMains}
use Rattle.ftn_tree.specs.declared.table.Extent.{Extent}
use Rattle.ftn_tree.specs.declared.table.ScopeKind.{ScopeKind}
use Rattle.ftn_tree.specs.declared.table.ScopeKind.TheVariants as kinds
use Rattle.ftn_tree.specs.declared.unit.FileTree.{FileTree}
use Rattle.ftn_tree.specs.Scopes.{span_of, first_token_at, scope_kind}
use Rattle.ftn_tree.specs.GlobalNames.{program_units}

abbrev pub is_main : ScopeKind → Bool
is_main kinds.Program = true
is_main _ = false

abbrev pub mains : List FileTree → List Extent
mains files = filter (λ e. is_main (scope_kind files e)) (program_units files)

-- none has no place, and of several the second one's statement is told
abbrev pub fault_of_mains : List FileTree → List Extent → Option Fault
fault_of_mains files [] = Some (record { kind = NoMain; span = None; other = None })
fault_of_mains files (main ∷ []) = None
fault_of_mains files (main ∷ second ∷ rest) =
    Some (record { kind = TwoMains; span = Some (span_of files second.file (first_token_at files second.file second.opening)); other = None })

abbrev pub main_fault : List FileTree → Option Fault
main_fault files = fault_of_mains files (mains files)
