-- Faults of USE statements by marks of the modules that lead to the least one on a cycle.
use Rattle.std.specs.Prelude.{◌≡◌, ◌==◌, ℕ, Bool, false, if◌then◌else◌, List, [], ◌∷◌, ◌++◌, slice_get, Option, Some, None, Vec}
use Rattle.std.specs.List.{flat_map}
use Rattle.std.specs.Option.{option_map_or, unwrap_or}
use Rattle.ftn_base.specs.declared.fault.FaultKind.TheVariants.{Cycle}
use Rattle.ftn_tree.specs.declared.table.Extent.{Extent}
use Rattle.ftn_tree.specs.declared.unit.FileTree.{FileTree}
use Rattle.ftn_tree.specs.DeclarationFaults.{Finding, found}
use Rattle.ftn_tree.specs.Extents.{same_extent}
use Rattle.ftn_tree.specs.GlobalNames.{place, has_no_host}
use Rattle.ftn_tree.specs.NameFaults.{UseStatement, module_uses, unknown_use, use_statement_at, use_statements, used_number}
use Rattle.ftn_tree.specs.Scopes.{first_token_at}
use Rattle.scope_bind.specs.steps.Globals.{unit_at, IsNumber}
use Rattle.module_graph.specs.Uses.{used_lists}

-- what is found at a USE in a program unit, the marks being of modules that lead back to it, where it is the module of that cycle
abbrev pub is_marked : List Bool → Option ℕ → Bool
is_marked marks None = false
is_marked marks (Some used) = unwrap_or (slice_get marks used) false

abbrev pub use_by : List FileTree → Extent → List Bool → UseStatement → List Finding
use_by files e marks one =
    unknown_use files e one
    ++ (if is_marked marks (used_number files e.file one) then found Cycle (place e.file (first_token_at files e.file one.statement)) ∷ [] else [])

-- what is found at a statement of a program unit
abbrev pub use_at : List FileTree → Extent → List Bool → ℕ → List Finding
use_at files e marks statement = option_map_or (use_by files e marks) (use_statement_at files e.file statement) []

-- the scoping unit of a module, or none
abbrev pub IsModuleScope : List FileTree → Option ℕ → Type 0
IsModuleScope files None = Unit {0}
IsModuleScope files (Some scope) = IsNumber files scope

-- the marks that count in the scoping unit of that number: all where it is the module of that cycle
abbrev pub marks_in : ℕ → Option ℕ → List Bool → List Bool
marks_in scope None marks = []
marks_in scope (Some cyclic) marks = if cyclic == scope then marks else []

abbrev pub uses_by : List FileTree → Option ℕ → List Bool → Extent → List Finding
uses_by files on_cycle marks e =
    flat_map (use_by files e (if option_map_or (λ scope. same_extent e (unit_at files scope)) on_cycle false then marks else [])) (use_statements files e)

abbrev pub outer_uses : List FileTree → Option ℕ → List Bool → ℕ → List Finding
outer_uses files on_cycle marks scope = if has_no_host files (unit_at files scope) then uses_by files on_cycle marks (unit_at files scope) else []

abbrev pub AreUsed : {A : Type 0} → List FileTree → List (Vec ℕ A) → Type 0
AreUsed files uses = used_lists uses ≡ module_uses files
