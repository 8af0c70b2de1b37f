-- The faults of modules and of names (Fortran 90, 5.3, 11.3.2, 12.3.2, 14.1.2), and the first of them: a USE of no module and cycles of uses;
-- where there are none, items of USE that a module doesn't make public; where there are none, the faults of references and of types.
use Rattle.std.specs.Prelude.{ℕ, zero, suc, ◌-◌, Bool, false, not, ◌&&◌, ◌||◌, nat_eq, if◌then◌else◌, List, [], ◌∷◌, ◌++◌, map, length, slice_get, slice_index_or, Option, Some}
use Rattle.std.specs.List.{filter, filter_map, find, flat_map, list_any, position}
use Rattle.std.specs.Option.{is_none, option_map, option_map_or, option_and_then, option_or, unwrap_or}
use Rattle.ftn_base.specs.ModuleUses.{used_by}
use Rattle.ftn_base.specs.declared.entity.Letter.{Letter}
use Rattle.ftn_base.specs.declared.entity.Letter.TheVariants as letter
use Rattle.ftn_base.specs.declared.fault.Fault.{Fault}
use Rattle.ftn_base.specs.declared.fault.FaultKind.{FaultKind}
use Rattle.ftn_base.specs.declared.fault.FaultKind.TheVariants.{Unknown, Cycle, NotPublic, Ambiguous, RealOutOfProfile, Conflicting}
use Rattle.ftn_tree.specs.declared.mention.Mention.{Mention}
use Rattle.ftn_tree.specs.declared.mention.Role.TheVariants as role
use Rattle.ftn_tree.specs.declared.table.Extent.{Extent}
use Rattle.ftn_tree.specs.declared.unit.FileTree.{FileTree}
use Rattle.ftn_tree.specs.Roles.{same_role}
use Rattle.ftn_tree.specs.Extents.{scoping, layer_at, same_extent}
use Rattle.ftn_tree.specs.Scopes.{name_at, first_token_at, all_statements}
use Rattle.ftn_tree.specs.ScopeLetters.{letters_of}
use Rattle.ftn_tree.specs.Sayings.{Saying, sayings, same_name, mentions_at, typed, answer, inside, declares}
use Rattle.ftn_tree.specs.GlobalNames.{Place, place, program_units, unit_global}
use Rattle.ftn_tree.specs.DeclaredEntities.{may_be_own, is_said, is_referenced, has_result_at, kind_said, has_type, names_after}
use Rattle.ftn_tree.specs.DeclarationFaults.{Finding, found, found_with, first_finding, fault_of}
use Rattle.ftn_tree.specs.Meanings.{Key, unit, own, Meaning, several, unknown, keys_of, module_numbered, module_number, accessible_in}
use Rattle.ftn_tree.specs.Bindings.{module_token, item_keys, Denoting, denotings, is_letter_typed}

-- ---- USE of no module, and cycles (11.3.2)

-- a USE statement, with the token of the module's name
pub record UseStatement : Type 0 where
  pub statement : ℕ
  pub name : ℕ

abbrev pub use_statement_at : List FileTree → ℕ → ℕ → Option UseStatement
use_statement_at files file statement =
    option_map (λ name. record { statement = statement; name = name }) (option_and_then module_token (layer_at files file statement))

-- those of a program unit, and of the units inside it among them
abbrev pub use_statements : List FileTree → Extent → List UseStatement
use_statements files e = filter_map (use_statement_at files e.file) (all_statements e)

abbrev pub used_number : List FileTree → ℕ → UseStatement → Option ℕ
used_number files file use_statement = module_number files (name_at files file use_statement.name)

-- the modules that each module uses
abbrev pub module_uses : List FileTree → List (List ℕ)
module_uses files = map (λ e. filter_map (used_number files e.file) (use_statements files e)) (module_numbered files)

-- a chain of at most so many uses leads from a module to another, or it is the same. Of n modules n uses lead as far as any number does
abbrev pub leads : List (List ℕ) → ℕ → ℕ → ℕ → Bool
leads uses zero first last = nat_eq first last
leads uses (suc count) first last = nat_eq first last || list_any (λ next. leads uses count next last) (used_by uses first)

abbrev pub leads_to : List (List ℕ) → ℕ → ℕ → Bool
leads_to uses first last = leads uses (length uses) first last

-- the project has no such module
abbrev pub unknown_use : List FileTree → Extent → UseStatement → List Finding
unknown_use files e use_statement =
    if is_none (used_number files e.file use_statement) then found Unknown (place e.file use_statement.name) ∷ [] else []

-- a USE of a module that leads back to the one in which it stands
abbrev pub is_on_cycle : List FileTree → Option ℕ → Option ℕ → Bool
is_on_cycle files (Some user) (Some used) = leads_to (module_uses files) used user
is_on_cycle files _ _ = false

abbrev pub cycle_use : List FileTree → Extent → UseStatement → List Finding
cycle_use files e use_statement =
    if is_on_cycle files (position (same_extent e) (module_numbered files)) (used_number files e.file use_statement)
    then found Cycle (place e.file (first_token_at files e.file use_statement.statement)) ∷ [] else []

abbrev pub use_findings : List FileTree → List Finding
use_findings files =
    flat_map (λ e. flat_map (λ one_use. unknown_use files e one_use ++ cycle_use files e one_use) (use_statements files e)) (program_units files)

-- the order of the kinds at one place
abbrev pub use_rank : FaultKind → ℕ
use_rank Unknown = 0
use_rank other = 1

-- ---- items that the module doesn't make public

abbrev pub is_not_public : List FileTree → ℕ → ℕ → Mention → Bool
is_not_public files file statement m =
    same_role m.role role.Source && nat_eq (length (item_keys files file (layer_at files file statement) m.token)) 0

abbrev pub not_public_at : List FileTree → ℕ → ℕ → List Finding
not_public_at files file statement =
    map (λ (m : Mention). found NotPublic (place file m.token)) (filter (is_not_public files file statement) (mentions_at files file statement))

abbrev pub not_public_findings : List FileTree → List Finding
not_public_findings files = flat_map (λ e. flat_map (not_public_at files e.file) (all_statements e)) (program_units files)

-- ---- where an entity begins

-- the name of a procedure inside, of a generic name, of a construct, or of a function without RESULT, in its opening
abbrev pub opens_name : Saying → Bool
opens_name s = inside s || (answer s && same_role s.said.role role.Opens)

-- the first token of a name in its scoping unit, by all that is said of it there
abbrev pub begins : List Saying → ℕ
begins said =
    option_map_or (λ (s : Saying). s.said.token) (option_or (find opens_name said) (find (λ s. may_be_own s.said.role) said)) 0

abbrev pub said_of : List FileTree → Extent → List ℕ → List Saying
said_of files e name = filter (same_name name) (sayings files e)

-- blocks and intrinsic functions aren't accessible by USE
abbrev pub key_place : List FileTree → Key → Place
key_place files (unit e) = (unit_global files e).at
key_place files (own e name) = place e.file (begins (said_of files e name))
key_place files _ = place 0 0

-- ---- references

-- of several entities the second one is told
abbrev pub reference_findings : List FileTree → Denoting → List Finding
reference_findings files d = of d.meaning where
  of : Meaning → List Finding
  of (several first second rest) = found_with Ambiguous d.at (key_place files second) ∷ []
  of unknown = found Unknown d.at ∷ []
  of _ = []

-- ---- types by first letters (5.3)

-- it is a constant, a variable or a result, and no type is written for it
abbrev pub needs_type : List FileTree → Extent → List ℕ → List Saying → Bool
needs_type files e name said =
    not (is_said typed said)
    && (is_said answer said || option_map_or has_type (kind_said (has_result_at (layer_at files e.file e.opening)) (is_referenced files e name) said) false
    || is_letter_typed files e name)

-- the letter has no type, or it is real, which is refused (this project's own)
abbrev pub letter_finding : Place → Letter → List Finding
letter_finding at letter.Nothing = found Unknown at ∷ []
letter_finding at letter.Real = found RealOutOfProfile at ∷ []
letter_finding at (letter.Known ty) = []

abbrev pub letter_of : List FileTree → Extent → List ℕ → Letter
letter_of files e name = unwrap_or (slice_get (letters_of files e) (slice_index_or name 0 97 - 97)) letter.Nothing

abbrev pub type_findings : List FileTree → Extent → List ℕ → List Saying → List Finding
type_findings files e name said =
    if needs_type files e name said then letter_finding (place e.file (begins said)) (letter_of files e name) else []

-- ---- a declared name that USE makes accessible (11.3.2)

abbrev pub local_findings : List FileTree → Extent → List ℕ → List Saying → List Finding
local_findings files e name said =
    if is_said declares said && not (nat_eq (length (keys_of name (accessible_in files e))) 0)
    then found Conflicting (place e.file (begins said)) ∷ [] else []

-- ---- the first

-- each name that is said anything of in a scoping unit
abbrev pub name_findings : List FileTree → Extent → List Finding
name_findings files e =
    flat_map (λ name. type_findings files e name (said_of files e name) ++ local_findings files e name (said_of files e name))
    (names_after [] (sayings files e))

abbrev pub binding_findings : List FileTree → List Finding
binding_findings files = flat_map (reference_findings files) (denotings files) ++ flat_map (name_findings files) (scoping files)

-- the order of the kinds at one place
abbrev pub name_rank : FaultKind → ℕ
name_rank Ambiguous = 0
name_rank Unknown = 1
name_rank RealOutOfProfile = 2
name_rank other = 3

abbrev pub first_of_names : List FileTree → Option Finding
first_of_names files =
    option_or (first_finding use_rank (use_findings files))
    (option_or (first_finding use_rank (not_public_findings files)) (first_finding name_rank (binding_findings files)))

-- the first fault of a project's modules and names
abbrev pub name_fault : List FileTree → Option Fault
name_fault files = option_map (fault_of files) (first_of_names files)
