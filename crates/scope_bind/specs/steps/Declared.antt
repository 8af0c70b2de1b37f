-- What a scoping unit itself says that a name denotes, by what is heard of it.
use Rattle.std.specs.Prelude.{ℕ, Bool, ◌&&◌, ◌||◌, if◌then◌else◌, List, Option, Some, None, is_some, map}
use Rattle.std.specs.List.{filter, list_any}
use Rattle.ftn_base.specs.Keywords.{is_intrinsic}
use Rattle.ftn_tree.specs.declared.table.Extent.{Extent}
use Rattle.ftn_tree.specs.declared.unit.FileTree.{FileTree}
use Rattle.ftn_tree.specs.DeclaredEntities.{has_result_at, is_referenced}
use Rattle.ftn_tree.specs.Extents.{scoping, layer_at, is_body}
use Rattle.ftn_tree.specs.Meanings.{Meaning, nothing, one, unknown, unit, own, intrinsic_function}
use Rattle.ftn_tree.specs.Sayings.{Saying, sayings, same_name}
use Rattle.decl_table.specs.declared.heard.Heard.{Heard}
use Rattle.decl_table.specs.steps.Heard.{heard_of, is_typed_alone}
use Rattle.scope_bind.specs.declared.candidates.Sort.TheVariants as sort
use Rattle.scope_bind.specs.declared.declared.Declared.{Declared}
use Rattle.scope_bind.specs.declared.declared.Declared.TheVariants as made
use Rattle.scope_bind.specs.steps.Globals.{unit_at, unit_number, inner_candidate}
use Rattle.scope_bind.specs.steps.Index.{first_at}
use Rattle.scope_bind.specs.steps.Told.{is_external}

abbrev pub known_unit : Option ℕ → Declared
known_unit None = made.Unknown
known_unit (Some scope) = made.Unit scope

abbrev pub intrinsic_or : List ℕ → Declared → Declared
intrinsic_or name other = if is_intrinsic name then made.Intrinsic else other

abbrev pub procedure_by : List FileTree → List ℕ → Declared
procedure_by files name = known_unit (unit_number files sort.Procedure name)

abbrev pub outside_by : List FileTree → List ℕ → Bool → Declared
outside_by files name external = if external then procedure_by files name else intrinsic_or name made.Unknown

abbrev pub function_by : List FileTree → List ℕ → Declared
function_by files name = intrinsic_or name (known_unit (unit_number files sort.Function name))

abbrev pub result_by : List FileTree → ℕ → List ℕ → Declared
result_by files scope name =
    if has_result_at (layer_at files (unit_at files scope).file (unit_at files scope).opening) then made.Own
    else if is_body files (unit_at files scope) then procedure_by files name
    else made.Unit scope

abbrev pub inner_by : List FileTree → ℕ → List ℕ → Declared
inner_by files scope name = known_unit (first_at scope name (map (inner_candidate files) (scoping files)))

abbrev pub declared_by : List FileTree → ℕ → List ℕ → Heard → Bool → Bool → Declared
declared_by files scope name heard referenced external =
    if heard.dummy then made.Own
    else if heard.answer then result_by files scope name
    else if heard.inner then inner_by files scope name
    else if is_some heard.generic || is_some heard.label then made.Own
    else if heard.outside then outside_by files name external
    else if referenced && is_typed_alone heard then function_by files name
    else if heard.declared then made.Own
    else made.Nothing

abbrev pub said_of : List FileTree → ℕ → List ℕ → List Saying
said_of files scope name = filter (same_name name) (sayings files (unit_at files scope))

abbrev pub declared_at : List FileTree → ℕ → List ℕ → Declared
declared_at files scope name =
    declared_by files scope name (heard_of (said_of files scope name)) (is_referenced files (unit_at files scope) name) (list_any is_external (said_of files scope name))

-- what it denotes
abbrev pub meant : List FileTree → ℕ → List ℕ → Declared → Meaning
meant files scope name made.Nothing = nothing
meant files scope name made.Unknown = unknown
meant files scope name (made.Unit number) = one (unit (unit_at files number))
meant files scope name made.Own = one (own (unit_at files scope) name)
meant files scope name made.Intrinsic = one (intrinsic_function name)
