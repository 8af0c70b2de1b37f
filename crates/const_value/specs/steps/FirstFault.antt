-- What is told of a project, in the order in which it is looked at. It serves the proof alone.
use Rattle.std.specs.Prelude.{ℕ, ◌+◌, nat_lt, Bool, ◌&&◌, if◌then◌else◌, length, List, [], ◌∷◌, ◌++◌}
use Rattle.std.specs.Option.{is_some}
use Rattle.std.specs.List.{flat_map, range_with_len}
use Rattle.ftn_tree.specs.declared.unit.FileTree.{FileTree}
use Rattle.ftn_tree.specs.declared.unit.Statement.{Statement}
use Rattle.ftn_tree.specs.declared.unit.Unit.{Unit as UnitTree}
use Rattle.ftn_tree.specs.Cases.{constructs_of}
use Rattle.ftn_tree.specs.DeclarationFaults.{Finding}
use Rattle.decl_table.specs.steps.Rows.{Row, number_at}
use Rattle.const_expr.specs.declared.naming.Naming.{Naming}
use Rattle.const_value.specs.declared.circles.Circles.{Circles}
use Rattle.const_value.specs.declared.measured.Measured.{Measured}
use Rattle.const_value.specs.declared.project.Project.{Project}
use Rattle.const_value.specs.declared.view.View.{View}
use Rattle.const_value.specs.steps.Cases.{construct_told}
use Rattle.const_value.specs.steps.Projects.{row_in}
use Rattle.const_value.specs.steps.References.{circular_findings}
use Rattle.const_value.specs.steps.Shaping.{name_told}
use Rattle.const_value.specs.steps.Telling.{Sight, given_by, sight_of, statement_by}

abbrev pub unit_by : Sight → UnitTree → List Finding
unit_by s u = flat_map (construct_told (given_by s) s.project.files.now s.file) (constructs_of u)

abbrev pub unit_told : View → UnitTree → List Finding
unit_told view = unit_by (sight_of view)

-- what is seen of the file with that number
abbrev pub sight_at : Project → List Measured → List Naming → ℕ → Sight
sight_at p known namings file = record { project = p; known = known; row = row_in p.rows.items file; namings = namings; file = file }

-- the statement stands in a scoping unit
abbrev pub is_within : List Row → ℕ → ℕ → Bool
is_within rows file statement = nat_lt statement 4294967296 && is_some (number_at rows file statement)

abbrev pub if_within : Bool → List Finding → List Finding
if_within within told = if within then told else []

abbrev pub statements_by : Sight → List Row → ℕ → List Statement → List Finding
statements_by s rows at [] = []
statements_by s rows at (statement ∷ rest) = if_within (is_within rows s.file at) (statement_by s statement) ++ statements_by s rows (at + 1) rest

abbrev pub tree_by : Sight → List Row → FileTree → List Finding
tree_by s rows tree = statements_by s rows 0 tree.statements ++ flat_map (unit_by s) tree.units

abbrev pub file_told : Project → List Measured → List Naming → List Row → ℕ → FileTree → List Finding
file_told p known namings rows file tree = tree_by (sight_at p known namings file) rows tree

abbrev pub files_told : Project → List Measured → List Naming → List Row → ℕ → List FileTree → List Finding
files_told p known namings rows file [] = []
files_told p known namings rows file (tree ∷ rest) = file_told p known namings rows file tree ++ files_told p known namings rows (file + 1) rest

abbrev pub names_told : Project → List Measured → List Naming → List Finding
names_told p known namings = flat_map (name_told p known namings) (range_with_len 0 (length p.names.items))

abbrev pub all_told : Circles → Project → List Measured → List Naming → List Row → List Finding
all_told circles p known namings rows = circular_findings circles p ++ (names_told p known namings ++ files_told p known namings rows 0 p.files.now)
