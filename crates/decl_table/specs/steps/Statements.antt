-- Faults of IMPLICIT, and of PUBLIC and PRIVATE without names, by tokens: what the code does.
use Rattle.std.specs.Prelude.{ℕ, Bool, true, false, ◌&&◌, ◌||◌, if◌then◌else◌, List, [], ◌∷◌, ◌++◌, map, is_some, Option, Some, None}
use Rattle.std.specs.List.{flat_map}
use Rattle.ftn_base.specs.ImplicitLetters.{Entry, first_given}
use Rattle.ftn_base.specs.declared.fault.FaultKind.TheVariants.{Conflicting}
use Rattle.ftn_tree.specs.declared.table.ScopeKind.{ScopeKind}
use Rattle.ftn_tree.specs.declared.unit.FileTree.{FileTree}
use Rattle.ftn_tree.specs.DeclarationFaults.{Finding, found, is_default_access, is_module}
use Rattle.ftn_tree.specs.Extents.{layer_at}
use Rattle.ftn_tree.specs.GlobalNames.{place}
use Rattle.ftn_tree.specs.Layers.{FormLayer}
use Rattle.ftn_tree.specs.ScopeLetters.{Given, givens_at, is_implicit_at, is_none_at}
use Rattle.ftn_tree.specs.Scopes.{first_token_at}
use Rattle.decl_table.specs.declared.statements.Came.{Came}

abbrev pub conflicts : ℕ → List ℕ → List Finding
conflicts file tokens = map (λ token. found Conflicting (place file token)) tokens

abbrev pub givens_in : List FileTree → ℕ → ℕ → List Given
givens_in files file statement = givens_at files file (layer_at files file statement)

abbrev pub again_at : List Entry → Given → List ℕ
again_at entries given = if is_some (first_given given.from given.to entries) then given.token ∷ [] else []

abbrev pub implicit_none : Option FormLayer → Option Bool
implicit_none layer = if is_implicit_at layer then Some (is_none_at layer) else None

abbrev pub nothing : Came
nothing = record { any = false; none = false }

abbrev pub with_statement : Came → Option Bool → Came
with_statement came (Some none) = record { any = true; none = came.none || none }
with_statement came None = came

abbrev pub is_beside : Came → Option Bool → Bool
is_beside came (Some none) = (none && came.any) || came.none
is_beside came None = false

abbrev pub first_if : List FileTree → ℕ → ℕ → Bool → List ℕ
first_if files file statement holds = if holds then first_token_at files file statement ∷ [] else []

abbrev pub beside_by : List FileTree → ℕ → Came → List ℕ → List ℕ
beside_by files file came [] = []
beside_by files file came (statement ∷ rest) =
    first_if files file statement (is_beside came (implicit_none (layer_at files file statement)))
    ++ beside_by files file (with_statement came (implicit_none (layer_at files file statement))) rest

abbrev pub access_at : List FileTree → ℕ → ℕ → List ℕ
access_at files file statement = first_if files file statement (is_default_access (layer_at files file statement))

-- all statements of PUBLIC or PRIVATE without names, outside of modules
abbrev pub access_by : List FileTree → ℕ → ScopeKind → List ℕ → List ℕ
access_by files file kind own = if is_module kind then [] else flat_map (access_at files file) own
