-- What is kept of declared procedures, by what a project's files define. It serves the proof alone.
use Rattle.std.specs.Prelude.{◌≡◌, ℕ, if◌then◌else◌, List, [], ◌++◌, map, slice_get, Option, Some, None}
use Rattle.std.specs.List.{flat_map}
use Rattle.std.specs.Option.{option_map, option_and_then}
use Rattle.ftn_tree.specs.declared.table.Extent.{Extent}
use Rattle.ftn_tree.specs.declared.unit.FileTree.{FileTree}
use Rattle.ftn_tree.specs.Constants.{known_of, naming_at}
use Rattle.ftn_tree.specs.DeclarationFaults.{declaration_fault}
use Rattle.ftn_tree.specs.Declarations.{typing_of}
use Rattle.ftn_tree.specs.DeclaredEntities.{names_after, is_said}
use Rattle.ftn_tree.specs.Extents.{scoping}
use Rattle.ftn_tree.specs.ExpressionTypes.{Told}
use Rattle.ftn_tree.specs.KeyKinds.{Datum}
use Rattle.ftn_tree.specs.Meanings.{unit, Meaning, one}
use Rattle.ftn_tree.specs.NameFaults.{name_fault, said_of}
use Rattle.ftn_tree.specs.Procedures.{dummies_of, result_of}
use Rattle.ftn_tree.specs.Projects.{AreTrees}
use Rattle.ftn_tree.specs.Sayings.{answer, sayings}
use Rattle.ftn_tree.specs.TypeFaults as spec
use Rattle.const_expr.specs.Namings.{naming_by}
use Rattle.const_value.specs.steps.Names.{all_data, all_said, number_at, number_of}
use Rattle.const_value.specs.steps.Projects.{row_in}
use Rattle.decl_table.specs.steps.Located.{IsScoping}
use Rattle.type_check.specs.declared.procedures.Declared.{Declared}
use Rattle.name_types.specs.steps.Gathered.{AreNames}
use Rattle.name_types.specs.steps.Generics.{outside_number}
use Rattle.name_types.specs.steps.Index.{found_in}

-- what is kept is right
pub record AreDeclared (files : List FileTree) (known : Declared) : Type 0 where
  pub trees : AreTrees files
  pub declared : declaration_fault files ≡ None
  pub bound : name_fault files ≡ None
  pub names : AreNames files known.names.now
  pub units : IsScoping files known.scoping.now
  pub said : map (λ one. one.items) known.said.now ≡ map (sayings files) (scoping files)
  pub numbers : (scope : ℕ) (name : List ℕ) → number_at known.numbers.items scope name ≡ number_of (all_said files) scope name
  pub tokens : (file token : ℕ) → naming_by (row_in known.names.now.project.now.rows.items file) known.namings.items token ≡ naming_at files (known_of files) file token
  pub outside : (name : List ℕ) → found_in known.outside 0 name ≡ outside_number files name

-- the numbers of some data
abbrev pub AreData : List FileTree → List ℕ → List Datum → Type 0
AreData files names data' = map (slice_get (all_data files)) names ≡ map Some data'

abbrev pub IsResult : List FileTree → Option ℕ → Option Datum → Type 0
IsResult files name result = option_map (slice_get (all_data files)) name ≡ option_map Some result

-- the number of the scoping unit of a procedure, and what it stands for
abbrev pub procedure_in : Meaning → Option Extent
procedure_in (one (unit e)) = Some e
procedure_in _ = None

abbrev pub extent_of : List FileTree → Option ℕ → Option Extent
extent_of files scope = option_and_then (slice_get (scoping files)) scope

-- where a name that is no result gets its type
abbrev pub typing_token : List FileTree → Datum → Option ℕ
typing_token files d = if is_said answer (said_of files d.scope d.name) then None else option_map (λ typing. typing.1.name) (typing_of files d.scope d.name)

-- what is told of two subroutines, or of two functions
abbrev pub same_told : List FileTree → ℕ → Extent → Extent → List Told
same_told files name body defined =
    spec.dummies_told files name (dummies_of files body) (dummies_of files defined) ++ spec.results_told files (result_of files body) (result_of files defined)

-- what is told of all that a scoping unit declares
abbrev pub declared_told : List FileTree → Extent → List Told
declared_told files e = flat_map (spec.type_told files e) (names_after [] (sayings files e)) ++ spec.body_told files e
