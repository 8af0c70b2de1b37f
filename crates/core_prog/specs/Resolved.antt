-- The resolved program of a project without a fault (Fortran 90, 2.2): its executable statements with each name replaced by what it denotes,
-- and the variables, procedures and areas that they work on.
use Rattle.std.specs.Prelude.{ℕ, ◌==◌, Bool, false, if◌then◌else◌, List, [], ◌∷◌, map, flat_map, slice_get, Option, None}
use Rattle.std.specs.List.{find}
use Rattle.std.specs.Option.{option_map_or, option_and_then}
use Rattle.ftn_tree.specs.declared.table.Entity.{Entity}
use Rattle.ftn_tree.specs.declared.table.Scope.{Scope}
use Rattle.ftn_tree.specs.declared.unit.Block.{Block as BlockTree}
use Rattle.ftn_tree.specs.declared.unit.FileTree.{FileTree}
use Rattle.ftn_tree.specs.declared.unit.Unit.{Unit as UnitTree, fold-Unit}
use Rattle.ftn_tree.specs.declared.unit.Unit.TheOpen.{Unit-F}
use Rattle.core_prog.specs.declared.storage.Variable.{Variable}
use Rattle.core_prog.specs.Actions.{Block, empty}
use Rattle.core_prog.specs.Programs.{Program, Procedure}
use Rattle.core_prog.specs.Naming.{Known, entity_at, scope_at, known_numbers, rank_of, variable_entities, procedure_entities, all_numbers, variable_number, scope_opened, dummies_in, result_in, is_main}
use Rattle.core_prog.specs.ResolvedActions.{actions_of}
use Rattle.core_prog.specs.ResolvedStorage.{variable_of, areas_of}

-- units by the statements that open them, with their own statements
abbrev pub Opened : Type 0
Opened = ℕ × List BlockTree

abbrev pub unit_step : Unit-F (List Opened) → List Opened
unit_step u = (u.opening, u.body) ∷ flat_map (λ inner. inner) u.inner

abbrev pub opened_in : UnitTree → List Opened
opened_in = fold-Unit (List Opened) unit_step

module _ (known : Known) where
  abbrev pub blocks_at : ℕ → ℕ → List BlockTree
  blocks_at file statement =
      option_map_or (λ (tree : FileTree). option_map_or (λ (one : Opened). one.1) (find (λ (one : Opened). one.0 == statement) (flat_map opened_in tree.units)) []) (slice_get known.files file) []

  -- the statements of a scoping unit
  abbrev pub body_of : ℕ → Block
  body_of scope = option_map_or (λ (s : Scope). actions_of known s.unit.file scope (blocks_at s.unit.file s.unit.statement)) (scope_at known scope) empty

  -- the result of a function, where it is a scalar: an array is no value of a reference
  abbrev pub scalar_result : ℕ → Option ℕ
  scalar_result number = option_and_then (λ result. if rank_of known result == 0 then variable_number known result else None) (result_in known number)

  abbrev pub procedure_of : ℕ → Procedure
  procedure_of number = record {
    dummies = known_numbers (map (variable_number known) (dummies_in known (scope_opened known number)));
    result = scalar_result number;
    body = body_of (scope_opened known number);
  }

  abbrev pub variables_at : ℕ → List Variable
  variables_at number = option_map_or (λ e. variable_of known number e ∷ []) (entity_at known number) []

  abbrev pub is_main_entity : ℕ → Bool
  is_main_entity number = option_map_or (λ (e : Entity). is_main e.kind) (entity_at known number) false

  abbrev pub main_body : Block
  main_body = option_map_or (λ number. body_of (scope_opened known number)) (find is_main_entity (all_numbers known)) empty

  abbrev pub resolved : Program
  resolved = record {
    variables = flat_map variables_at (variable_entities known);
    procedures = map procedure_of (procedure_entities known);
    areas = areas_of known;
    main = main_body;
  }
