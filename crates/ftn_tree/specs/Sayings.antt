-- What the statements of a scoping unit say of its names (Fortran 90, 5, 8.1.4, 11.3, 12.3.2, 12.5.2): its own mentions, and of each
-- procedure and interface body right inside it the name where that opens.
use Rattle.std.specs.Prelude.{ℕ, ◌==◌, Bool, true, false, not, ◌&&◌, ◌||◌, if◌then◌else◌, List, [], ◌∷◌, ◌++◌, map, slice_get, Option, Some, None}
use Rattle.std.specs.List.{flat_map, list_any, find}
use Rattle.std.specs.Option.{option_map_or}
use Rattle.std.specs.Str.{bytes_eq}
use Rattle.ftn_tree.specs.declared.form.Form.{Form}
use Rattle.ftn_tree.specs.declared.mention.Mention.{Mention}
use Rattle.ftn_tree.specs.declared.mention.Role.{Role}
use Rattle.ftn_tree.specs.declared.mention.Role.TheVariants as role
use Rattle.ftn_tree.specs.declared.table.Extent.{Extent}
use Rattle.ftn_tree.specs.declared.unit.FileTree.{FileTree}
use Rattle.ftn_tree.specs.Roles.{says, mention}
use Rattle.ftn_tree.specs.Mentions.{mentions_of}
use Rattle.ftn_tree.specs.Extents.{extents, scoping, form_at, scope_of, host_of, is_body, is_some_extent}
use Rattle.ftn_tree.specs.Scopes.{name_at, name_token, all_statements}

-- a name and what is said of it in that place
pub record Saying : Type 0 where
  pub name : List ℕ
  pub said : Mention

abbrev pub saying : List FileTree → ℕ → Mention → Saying
saying files file m = record { name = name_at files file m.token; said = m }

abbrev pub mentions_at : List FileTree → ℕ → ℕ → List Mention
mentions_at files file statement = option_map_or mentions_of (form_at files file statement) []

-- what the opening of an inner scoping unit says in its host
abbrev pub inner_role : Bool → Role
inner_role true = role.Body
inner_role false = role.Inner

abbrev pub inner_mention : List FileTree → Extent → List Mention
inner_mention files inner = option_map_or (λ token. mention token (inner_role (is_body files inner)) ∷ []) (name_token files inner) []

abbrev pub opened_at : List FileTree → ℕ → ℕ → Option Extent
opened_at files file statement = find (λ e. (e.file == file) && (e.opening == statement)) (scoping files)

-- what opens there is right inside the scoping unit
abbrev pub inner_at : List FileTree → Extent → Option Extent → List Mention
inner_at files e None = []
inner_at files e (Some inner) = if is_some_extent e (host_of files inner) then inner_mention files inner else []

abbrev pub said_at : List FileTree → Extent → ℕ → List Mention
said_at files e statement =
    if is_some_extent e (scope_of files e.file statement) then mentions_at files e.file statement else inner_at files e (opened_at files e.file statement)

-- all that is said in a scoping unit, in the order of tokens
abbrev pub sayings : List FileTree → Extent → List Saying
sayings files e = map (saying files e.file) (flat_map (said_at files e) (all_statements e))

abbrev pub same_name : List ℕ → Saying → Bool
same_name name s = bytes_eq s.name name

-- ---- what is said

-- a type (5.1)
abbrev pub typed : Saying → Bool
typed s = says role.Typed s.said

-- bounds (5.1.2.4, 5.2.5, 5.5.2)
abbrev pub bounded : Saying → Bool
bounded s = says role.Bounded s.said || says role.Dimensioned s.said || says role.DimensionAttribute s.said

-- a value (5.1, 5.2.10), and one that is an initial value by its declaration
abbrev pub valued : Saying → Bool
valued s = says role.Valued s.said

abbrev pub parameter : Saying → Bool
parameter s = says role.Parameter s.said

abbrev pub initial : Saying → Bool
initial s = valued s && not (parameter s)

-- SAVE by its name; a block that is saved is no name of the scoping unit
abbrev pub saved : Saying → Bool
saved s = says role.Saved s.said && not (says role.Slash s.said)

abbrev pub dummy : Saying → Bool
dummy s = says role.Dummy s.said

abbrev pub answer : Saying → Bool
answer s = says role.Answer s.said

abbrev pub argument : Saying → Bool
argument s = dummy s || answer s

abbrev pub external : Saying → Bool
external s = says role.External s.said

abbrev pub intrinsic : Saying → Bool
intrinsic s = says role.Intrinsic s.said

abbrev pub body : Saying → Bool
body s = says role.Body s.said

-- a procedure outside of the scoping unit
abbrev pub outside : Saying → Bool
outside s = external s || intrinsic s || body s

abbrev pub member : Saying → Bool
member s = says role.Member s.said || says role.NamedMember s.said

abbrev pub tied : Saying → Bool
tied s = says role.Tied s.said

abbrev pub intent : Saying → Bool
intent s = says role.IntentIn s.said || says role.IntentOut s.said || says role.IntentInOut s.said

abbrev pub public : Saying → Bool
public s = says role.Public s.said

abbrev pub private : Saying → Bool
private s = says role.Private s.said

-- a procedure inside, a generic name or a construct name
abbrev pub inside : Saying → Bool
inside s = says role.Inner s.said || says role.Generic s.said || says role.Label s.said

-- the name is declared there
abbrev pub declares : Saying → Bool
declares s =
    argument s || inside s || outside s || typed s || bounded s || parameter s || saved s || intent s || member s || tied s
