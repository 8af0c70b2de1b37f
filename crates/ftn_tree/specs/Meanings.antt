-- What names denote (Fortran 90, 2.5.5, 11.3.2, 12.3.2, 12.4, 14.1): in a scoping unit the entity that it declares, a procedure outside, what
-- USE makes accessible, what the name denotes in the host, and else an entity that its first letter types.
use Rattle.std.specs.Prelude.{ℕ, zero, suc, ◌==◌, Bool, true, false, not, ◌&&◌, ◌||◌, if◌then◌else◌, List, [], ◌∷◌, ◌++◌, map, fold, length, Option, Some, None}
use Rattle.std.specs.List.{filter, find, flat_map, list_any, position}
use Rattle.std.specs.Option.{option_map, option_map_or, option_and_then, unwrap_or}
use Rattle.std.specs.Str.{bytes_eq}
use Rattle.ftn_base.specs.Keywords.{is_intrinsic}
use Rattle.ftn_base.specs.Exports.{PairOf, exported}
use Rattle.ftn_base.specs.Accessible.{accessible_by, once}
use Rattle.ftn_base.specs.declared.uses.Access.{Access}
use Rattle.ftn_base.specs.declared.uses.UseItem.{UseItem}
use Rattle.ftn_base.specs.declared.uses.UseList.{UseList}
use Rattle.ftn_tree.specs.declared.form.Form.TheOpen.{Form-F}
use Rattle.ftn_tree.specs.declared.mention.Mention.{Mention}
use Rattle.ftn_tree.specs.declared.mention.Role.{Role}
use Rattle.ftn_tree.specs.declared.mention.Role.TheVariants as role
use Rattle.ftn_tree.specs.declared.parts.AccessWord.TheVariants.{Public, Private}
use Rattle.ftn_tree.specs.declared.parts.OnlyItem.{OnlyItem}
use Rattle.ftn_tree.specs.declared.parts.Rename.{Rename}
use Rattle.ftn_tree.specs.declared.table.Extent.{Extent}
use Rattle.ftn_tree.specs.declared.table.ScopeKind.{ScopeKind}
use Rattle.ftn_tree.specs.declared.table.ScopeKind.TheVariants as kinds
use Rattle.ftn_tree.specs.declared.unit.FileTree.{FileTree}
use Rattle.ftn_tree.specs.Layers.{FormLayer}
use Rattle.ftn_tree.specs.Roles.{says, is_special}
use Rattle.ftn_tree.specs.Extents.{scoping, layer_at, host_of, is_body, same_extent, is_some_extent}
use Rattle.ftn_tree.specs.Scopes.{name_at, name_token, scope_name, chain, own_statements, scope_kind}
use Rattle.ftn_tree.specs.Sayings.{Saying, sayings, same_name, dummy, answer, external, intrinsic, body, outside, inside, declares, public, private}
use Rattle.ftn_tree.specs.GlobalNames.{program_units, Place, place, before}
use Rattle.ftn_tree.specs.DeclaredEntities.{own_mentions, is_named, first_occurrence, is_referenced, is_said, is_typed_alone, has_result_at, own_place, kind_said}

-- ---- entities, told by what makes them

-- a unit or procedure by its place (a function without RESULT is its result too); what a scoping unit declares, or types by a first letter,
-- by its name; a common block; an intrinsic function
pub data Key : Type 0 where
  unit : Extent → Key
  own : Extent → List ℕ → Key
  block : Option (List ℕ) → Key
  intrinsic_function : List ℕ → Key

abbrev pub same_names : Option (List ℕ) → Option (List ℕ) → Bool
same_names None None = true
same_names (Some one) (Some other) = bytes_eq one other
same_names _ _ = false

abbrev pub same_key : Key → Key → Bool
same_key (unit one) (unit other) = same_extent one other
same_key (own one a) (own other b) = same_extent one other && bytes_eq a b
same_key (block one) (block other) = same_names one other
same_key (intrinsic_function one) (intrinsic_function other) = bytes_eq one other
same_key _ _ = false

-- what a name denotes: nothing so far; one entity; several, of which a reference would be ambiguous; nothing, and nothing around it counts
pub data Meaning : Type 0 where
  nothing : Meaning
  one : Key → Meaning
  several : Key → Key → List Key → Meaning
  unknown : Meaning

abbrev pub known : Option Key → Meaning
known None = unknown
known (Some key) = one key

-- ---- global names

abbrev pub unit_of : List FileTree → (ScopeKind → Bool) → List ℕ → Option Extent
unit_of files wanted name = find (λ e. wanted (scope_kind files e) && bytes_eq (scope_name files e) name) (program_units files)

abbrev pub is_module : ScopeKind → Bool
is_module kinds.Module = true
is_module _ = false

abbrev pub is_procedure : ScopeKind → Bool
is_procedure kinds.Subroutine = true
is_procedure kinds.Function = true
is_procedure _ = false

abbrev pub is_function : ScopeKind → Bool
is_function kinds.Function = true
is_function _ = false

abbrev pub external_of : List FileTree → List ℕ → Option Key
external_of files name = option_map unit (unit_of files is_procedure name)

abbrev pub intrinsic_of : List ℕ → Option Key
intrinsic_of name = if is_intrinsic name then Some (intrinsic_function name) else None

abbrev pub or_else : {A : Type 0} → Option A → Option A → Option A
or_else None other = other
or_else (Some a) other = Some a

-- ---- what a scoping unit itself says

abbrev pub inner_of : List FileTree → Extent → List ℕ → Option Extent
inner_of files e name =
    find (λ inner. is_some_extent e (host_of files inner) && not (is_body files inner) && bytes_eq (scope_name files inner) name) (scoping files)

-- 12.3.2: a procedure outside. EXTERNAL and interface bodies name external procedures, INTRINSIC intrinsic functions
abbrev pub outside_meaning : List FileTree → List ℕ → List Saying → Meaning
outside_meaning files name said = if is_said external said || is_said body said then known (external_of files name) else known (intrinsic_of name)

-- 12.4: a name that is typed alone and referenced with parentheses is a function: an intrinsic one, else one of the project
abbrev pub function_meaning : List FileTree → List ℕ → Meaning
function_meaning files name = known (or_else (intrinsic_of name) (option_map unit (unit_of files is_function name)))

-- a result that has no name of its own: in an interface body it is the project's function
abbrev pub result_meaning : List FileTree → Extent → List ℕ → Meaning
result_meaning files e name =
    if has_result_at (layer_at files e.file e.opening) then one (own e name)
    else if is_body files e then known (external_of files name)
    else one (unit e)

abbrev pub declared_meaning : List FileTree → Extent → List ℕ → List Saying → Meaning
declared_meaning files e name said =
    if is_said dummy said then one (own e name)
    else if is_said answer said then result_meaning files e name
    else if is_said (λ s. says role.Inner s.said) said then known (option_map unit (inner_of files e name))
    else if is_said inside said then one (own e name)
    else if is_said outside said then outside_meaning files name said
    else if is_referenced files e name && is_typed_alone said then function_meaning files name
    else if is_said declares said then one (own e name)
    else nothing

abbrev pub declared_in : List FileTree → Extent → List ℕ → Meaning
declared_in files e name = declared_meaning files e name (filter (same_name name) (sayings files e))

-- 5.3: a name that stands somewhere without parentheses, and not only where its place alone tells what it is
abbrev pub is_plain : Mention → Bool
is_plain m = not (is_special m.role || says role.Called m || says role.Parenthesised m)

abbrev pub stands_plain : List FileTree → Extent → List ℕ → Bool
stands_plain files e name = list_any (λ m. is_plain m && is_named files e.file name m) (own_mentions files e)

-- ---- one scoping unit, given what USE makes accessible and what the name denotes in the host

abbrev pub keys_of : List ℕ → List (PairOf Key) → List Key
keys_of name pairs = map (λ pair. pair.1) (filter (λ pair. bytes_eq pair.0 name) pairs)

abbrev pub used_meaning : List Key → Meaning
used_meaning [] = nothing
used_meaning (key ∷ []) = one key
used_meaning (key ∷ other ∷ rest) = several key other rest

abbrev pub or_meaning : Meaning → Meaning → Meaning
or_meaning nothing other = other
or_meaning first other = first

abbrev pub letter_meaning : List FileTree → Extent → List ℕ → Meaning
letter_meaning files e name = if stands_plain files e name then one (own e name) else nothing

abbrev pub meaning_in : List FileTree → List (PairOf Key) → Extent → List ℕ → Meaning → Meaning
meaning_in files accessible e name around =
    or_meaning (declared_in files e name) (or_meaning (used_meaning (keys_of name accessible))
    (or_meaning (if is_body files e then nothing else around) (letter_meaning files e name)))

-- ---- USE and modules (11.3)

abbrev pub module_numbered : List FileTree → List Extent
module_numbered files = filter (λ e. is_module (scope_kind files e)) (program_units files)

abbrev pub module_number : List FileTree → List ℕ → Option ℕ
module_number files name = position (λ e. bytes_eq (scope_name files e) name) (module_numbered files)

abbrev pub rename_item : List FileTree → ℕ → Rename → UseItem
rename_item files file item = record { local = name_at files file item.local; source = name_at files file item.source }

abbrev pub only_item : List FileTree → ℕ → OnlyItem → UseItem
only_item files file item = record { local = name_at files file (unwrap_or item.local item.source); source = name_at files file item.source }

abbrev pub use_list : Bool → List UseItem → ℕ → UseList
use_list only items number = record { «module» = number; only = only; items = items }

-- a USE of no module gives nothing
abbrev pub list_if_known : Bool → List UseItem → Option ℕ → List UseList
list_if_known only items None = []
list_if_known only items (Some number) = use_list only items number ∷ []

abbrev pub use_at : List FileTree → ℕ → Option FormLayer → List UseList
use_at files file (Some (Form-F.UseAll name renames)) = list_if_known false (map (rename_item files file) renames) (module_number files (name_at files file name))
use_at files file (Some (Form-F.UseOnly name items)) = list_if_known true (map (only_item files file) items) (module_number files (name_at files file name))
use_at files file _ = []

abbrev pub use_lists : List FileTree → Extent → List UseList
use_lists files e = flat_map (λ statement. use_at files e.file (layer_at files e.file statement)) (own_statements files e)

-- 5.2.3: PUBLIC and PRIVATE
abbrev pub is_private_default : Option FormLayer → Bool
is_private_default (Some (Form-F.Access Private colons [])) = true
is_private_default _ = false

abbrev pub names_said : (Saying → Bool) → List Saying → List (List ℕ)
names_said what said = map (λ (s : Saying). s.name) (filter what said)

abbrev pub access_of : List FileTree → Extent → Access
access_of files e = record {
  default_public = not (list_any (λ statement. is_private_default (layer_at files e.file statement)) (own_statements files e));
  public = names_said public (sayings files e);
  private = names_said private (sayings files e);
}

-- ---- a module's own names, in order: declared ones, and then those that letters type

abbrev pub names_in : List FileTree → Extent → List (List ℕ)
names_in files e = once bytes_eq (map (λ (m : Mention). name_at files e.file m.token) (own_mentions files e))

-- the scoping unit that an entity belongs to, of a procedure its host
abbrev pub home_of : List FileTree → Key → Option Extent
home_of files (unit e) = host_of files e
home_of files (own e name) = Some e
home_of files _ = None

-- an entity of its own: a procedure outside is none, whatever names it there
abbrev pub key_if_own : List FileTree → Extent → Meaning → Option Key
key_if_own files e (one key) = if is_some_extent e (home_of files key) then Some key else None
key_if_own files e _ = None

-- where an entity begins in its scoping unit
abbrev pub begins_at : List FileTree → Extent → PairOf Key → ℕ
begins_at files e (name, unit inner) = unwrap_or (name_token files inner) 0
begins_at files e (name, other) =
    let said = filter (same_name name) (sayings files e) in
    option_map_or (λ kind. own_place kind (first_occurrence files e name) said)
    (kind_said (has_result_at (layer_at files e.file e.opening)) (is_referenced files e name) said) (first_occurrence files e name)

abbrev pub put_in_place : List FileTree → Extent → PairOf Key → List (PairOf Key) → List (PairOf Key)
put_in_place files e pair [] = pair ∷ []
put_in_place files e pair (first ∷ rest) =
    if before (place e.file (begins_at files e pair)) (place e.file (begins_at files e first)) then pair ∷ first ∷ rest
    else first ∷ put_in_place files e pair rest

abbrev pub in_place : List FileTree → Extent → List (PairOf Key) → List (PairOf Key)
in_place files e [] = []
in_place files e (pair ∷ rest) = put_in_place files e pair (in_place files e rest)

abbrev pub pair_if_own : List FileTree → Extent → List ℕ → Meaning → List (PairOf Key)
pair_if_own files e name meaning = option_map_or (λ key. (name, key) ∷ []) (key_if_own files e meaning) []

-- the names of procedures inside stand in their own openings
abbrev pub names_said_in : List FileTree → Extent → List (List ℕ)
names_said_in files e = once bytes_eq (map (λ (s : Saying). s.name) (filter declares (sayings files e)))

abbrev pub declared_pairs : List FileTree → Extent → List (PairOf Key)
declared_pairs files e = in_place files e (flat_map (λ name. pair_if_own files e name (declared_in files e name)) (names_said_in files e))

abbrev pub is_nothing : Meaning → Bool
is_nothing nothing = true
is_nothing _ = false

abbrev pub letter_pairs : List FileTree → List (PairOf Key) → Extent → Meaning → List ℕ → List (PairOf Key)
letter_pairs files accessible e around name =
    if is_nothing (or_meaning (declared_in files e name) (or_meaning (used_meaning (keys_of name accessible)) around))
    then pair_if_own files e name (letter_meaning files e name) else []

-- a module has no host
abbrev pub own_pairs : List FileTree → List (PairOf Key) → Extent → List (PairOf Key)
own_pairs files accessible e =
    declared_pairs files e ++ in_place files e (flat_map (letter_pairs files accessible e nothing) (names_in files e))

-- ---- exports and accessible pairs, by a number of rounds: without a cycle of uses, as many as there are modules are enough

abbrev pub accessible_from : List FileTree → List (List (PairOf Key)) → Extent → List (PairOf Key)
accessible_from files exports e = accessible_by same_key exports (use_lists files e)

abbrev pub exports_from : List FileTree → List (List (PairOf Key)) → Extent → List (PairOf Key)
exports_from files exports e =
    exported (own_pairs files (accessible_from files exports e) e) (accessible_from files exports e) (access_of files e)

abbrev pub exports_after : List FileTree → ℕ → List (List (PairOf Key))
exports_after files zero = map (λ e. []) (module_numbered files)
exports_after files (suc rounds) = map (exports_from files (exports_after files rounds)) (module_numbered files)

abbrev pub all_exports : List FileTree → List (List (PairOf Key))
all_exports files = exports_after files (length (module_numbered files))

-- what the USE statements of a scoping unit make accessible
abbrev pub accessible_in : List FileTree → Extent → List (PairOf Key)
accessible_in files e = accessible_from files (all_exports files) e

-- ---- what a name denotes in a scoping unit, and where it stands

abbrev pub denotes : List FileTree → Extent → List ℕ → Meaning
denotes files e name = fold (λ around one. meaning_in files (accessible_in files one) one name around) nothing (chain files e)

-- 12.4: where that is nothing, a reference with parentheses is an intrinsic function, else an external procedure, and what is called an
-- external procedure
abbrev pub reference_meaning : List FileTree → Mention → List ℕ → Meaning
reference_meaning files m name =
    if says role.Called m then known (external_of files name)
    else if says role.Parenthesised m && not (says role.Given m) then known (or_else (intrinsic_of name) (external_of files name))
    else unknown

abbrev pub meaning_at : List FileTree → Extent → Mention → Meaning
meaning_at files e m =
    let name = name_at files e.file m.token in
    or_meaning (denotes files e name) (reference_meaning files m name)
