-- Procedures as references see them: their dummy arguments and results, the specific procedures of generic names, and what a name in an
-- expression is (Fortran 90, 12.2, 12.3.2.1, 12.4.1, 12.5.2).
use Rattle.std.specs.Prelude.{ℕ, ◌==◌, Bool, true, false, ◌&&◌, if◌then◌else◌, List, [], ◌∷◌, ◌++◌, map, Option, Some, None}
use Rattle.std.specs.List.{filter, filter_map, find, flat_map}
use Rattle.std.specs.Option.{option_map, option_map_or, option_and_then, unwrap_or}
use Rattle.std.specs.Str.{bytes_eq}
use Rattle.ftn_base.specs.Accessible.{once}
use Rattle.ftn_tree.specs.declared.form.Form.TheOpen.{Form-F}
use Rattle.ftn_tree.specs.declared.mention.Mention.{Mention}
use Rattle.ftn_tree.specs.declared.mention.Role.TheVariants as role
use Rattle.ftn_tree.specs.declared.table.EntityKind.{EntityKind}
use Rattle.ftn_tree.specs.declared.table.EntityKind.TheVariants as kinds
use Rattle.ftn_tree.specs.declared.table.Extent.{Extent}
use Rattle.ftn_tree.specs.declared.unit.FileTree.{FileTree}
use Rattle.ftn_tree.specs.Layers.{FormLayer}
use Rattle.ftn_tree.specs.Roles.{same_role}
use Rattle.ftn_tree.specs.Extents.{extents, scoping, layer_at, encloses, covers, innermost, host_of, is_some_extent}
use Rattle.ftn_tree.specs.Scopes.{name_at, scope_name, own_statements}
use Rattle.ftn_tree.specs.Sayings.{mentions_at}
use Rattle.ftn_tree.specs.DeclaredEntities.{unit_kind_at}
use Rattle.ftn_tree.specs.Meanings.{Key, unit, own, intrinsic_function, same_key, external_of}
use Rattle.ftn_tree.specs.NameFaults.{said_of}
use Rattle.ftn_tree.specs.declared.intrinsic.Intrinsic as intrinsics
use Rattle.ftn_tree.specs.Intrinsics.{function_named}
use Rattle.ftn_tree.specs.KeyKinds.{Kind, Datum, datum, datum_of, key_at, kind_of, kind_of_datum, is_function, is_out, is_data, may_be_defined}

-- ---- dummy arguments and results

-- a dummy argument: its type and rank, and whether what is passed to it is defined
pub record Formal : Type 0 where
  pub kind : Option Kind
  pub out : Bool

-- a procedure: its dummy arguments in their order; whether it is a function, and its result's type and rank
pub record Signature : Type 0 where
  pub procedure : Extent
  pub formals : List Formal
  pub function : Bool
  pub result : Option Kind

abbrev pub dummy_tokens : Option FormLayer → List ℕ
dummy_tokens (Some (Form-F.Subroutine name (Some dummies))) = dummies
dummy_tokens (Some (Form-F.Function ty name dummies answer)) = dummies
dummy_tokens _ = []

abbrev pub dummies_of : List FileTree → Extent → List Datum
dummies_of files e = map (λ token. datum e (name_at files e.file token)) (dummy_tokens (layer_at files e.file e.opening))

abbrev pub result_token : Option FormLayer → Option ℕ
result_token (Some (Form-F.Function ty name dummies answer)) = Some (unwrap_or answer name)
result_token _ = None

-- 12.5.2.2
abbrev pub result_of : List FileTree → Extent → Option Datum
result_of files e = option_map (λ token. datum e (name_at files e.file token)) (result_token (layer_at files e.file e.opening))

abbrev pub formal_of : List FileTree → Datum → Formal
formal_of files d = record { kind = kind_of_datum files d; out = is_out (said_of files d.scope d.name) }

abbrev pub signature_of : List FileTree → Extent → Signature
signature_of files e = record {
  procedure = e;
  formals = map (formal_of files) (dummies_of files e);
  function = is_function (unit_kind_at (layer_at files e.file e.opening));
  result = option_and_then (kind_of_datum files) (result_of files e);
}

-- ---- the specific procedures of a generic name (12.3.2.1)

abbrev pub is_block_named : List FileTree → ℕ → List ℕ → Option FormLayer → Bool
is_block_named files file name (Some (Form-F.Interface (Some token))) = bytes_eq (name_at files file token) name
is_block_named files file name _ = false

-- the interface block of a generic name in a scoping unit
abbrev pub generic_block : List FileTree → Extent → List ℕ → Option Extent
generic_block files e name =
    find (λ around. is_some_extent e (host_of files around) && is_block_named files around.file name (layer_at files around.file around.opening)) (extents files)

-- those that MODULE PROCEDURE names
abbrev pub listed_in : List FileTree → Extent → Extent → List Key
listed_in files e around =
    filter_map (λ (m : Mention). key_at files e.file m.token)
    (filter (λ m. same_role m.role role.Specific)
    (flat_map (mentions_at files e.file) (filter (λ statement. covers e.file statement around) (own_statements files e))))

-- those that its interface bodies name
abbrev pub is_body_in : List FileTree → Extent → Extent → Bool
is_body_in files around body = is_some_extent around (innermost (encloses body.file body.opening) (extents files))

abbrev pub bodies_in : List FileTree → Extent → List Key
bodies_in files around = filter_map (λ body. external_of files (scope_name files body)) (filter (is_body_in files around) (scoping files))

abbrev pub specific_keys : List FileTree → Extent → List ℕ → List Key
specific_keys files e name =
    once same_key (option_map_or (λ around. listed_in files e around ++ bodies_in files around) (generic_block files e name) [])

abbrev pub signature_if : List FileTree → Key → List Signature
signature_if files (unit e) = signature_of files e ∷ []
signature_if files _ = []

abbrev pub specifics_of : List FileTree → Extent → List ℕ → List Signature
specifics_of files e name = flat_map (signature_if files) (specific_keys files e name)

-- ---- what a name is where it stands

-- a variable, a constant, a dummy argument or a result, and whether it may be defined; with arguments also a function in itself, another
-- procedure, a generic name with its specific procedures, an intrinsic function; else nothing that an expression may have
pub data Sense : Type 0 where
  Data : Kind → Bool → Sense
  Itself : Signature → Sense
  Procedure : Signature → Sense
  Generic : List Signature → Sense
  Intrinsic : intrinsics.Intrinsic → Sense
  Other : Sense

-- a function without RESULT in itself: with arguments, where it is no array, it is called
abbrev pub is_call : List FileTree → Key → Bool → Bool
is_call files (unit e) has_args = has_args && option_map_or (λ k. k.rank == 0) (kind_of_datum files (datum e (scope_name files e))) true
is_call files key has_args = false

abbrev pub data_sense : List FileTree → Key → Option Kind → Sense
data_sense files key None = Other
data_sense files key (Some k) = Data k (may_be_defined files key)

abbrev pub intrinsic_sense : Option intrinsics.Intrinsic → Sense
intrinsic_sense None = Other
intrinsic_sense (Some function) = Intrinsic function

abbrev pub generic_sense : List FileTree → EntityKind → Extent → List ℕ → Sense
generic_sense files kinds.Generic e name = Generic (specifics_of files e name)
generic_sense files _ e name = Other

abbrev pub procedure_sense : List FileTree → EntityKind → Extent → Sense
procedure_sense files kinds.Subroutine e = Procedure (signature_of files e)
procedure_sense files kinds.Function e = Procedure (signature_of files e)
procedure_sense files _ e = Other

-- what a procedure's name is, an intrinsic function's, or a generic one
abbrev pub called_sense : List FileTree → Option Key → Sense
called_sense files (Some (unit e)) = procedure_sense files (kind_of files (unit e)) e
called_sense files (Some (own e name)) = generic_sense files (kind_of files (own e name)) e name
called_sense files (Some (intrinsic_function name)) = intrinsic_sense (function_named name)
called_sense files _ = Other

-- only a function's name stands in an expression with arguments
abbrev pub function_sense : Sense → Sense
function_sense (Procedure signature) = if signature.function then Procedure signature else Other
function_sense other = other

abbrev pub called_itself : List FileTree → Key → Sense
called_itself files (unit e) = Itself (signature_of files e)
called_itself files key = Other

abbrev pub own_sense : List FileTree → Key → Bool → Sense
own_sense files key true = called_itself files key
own_sense files key false = data_sense files key (option_and_then (kind_of_datum files) (datum_of files key))

abbrev pub sense_of : List FileTree → Extent → Option Key → Bool → Sense
sense_of files e None has_args = Other
sense_of files e (Some key) has_args =
    if is_data files e key then own_sense files key (is_call files key has_args)
    else if has_args then function_sense (called_sense files (Some key)) else Other

abbrev pub sense_at : List FileTree → Extent → ℕ → Bool → Sense
sense_at files e token has_args = sense_of files e (key_at files e.file token) has_args
