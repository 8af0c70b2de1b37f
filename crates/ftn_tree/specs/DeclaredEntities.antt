-- The entities that a project declares, and where its names occur (Fortran 90, 2.4, 5, 8.1.4, 11, 12, 14.1). Entities that are made by a
-- first letter alone, and intrinsic functions, are added once it is known what names denote.
use Rattle.std.specs.Prelude.{ℕ, ◌+◌, ◌-◌, Bool, true, false, not, ◌&&◌, ◌||◌, ◌==◌, nat_lt, if◌then◌else◌, List, [], ◌∷◌, ◌++◌, map, length, Option, Some, None}
use Rattle.std.specs.List.{flat_map, filter, find, list_any, range_with_len, enumerate_from, cons_option}
use Rattle.std.specs.Option.{option_map, option_map_or, option_and_then}
use Rattle.std.specs.Str.{bytes_eq}
use Rattle.ftn_tree.specs.declared.form.Form.TheOpen.{Form-F}
use Rattle.ftn_tree.specs.declared.mention.Mention.{Mention}
use Rattle.ftn_tree.specs.declared.mention.Role.{Role}
use Rattle.ftn_tree.specs.declared.mention.Role.TheVariants as role
use Rattle.ftn_tree.specs.declared.parts.BlockName.{BlockName}
use Rattle.ftn_tree.specs.declared.parts.BlockName.TheVariants as block
use Rattle.ftn_tree.specs.declared.parts.CommonGroup.{CommonGroup}
use Rattle.ftn_tree.specs.declared.table.Entity.{Entity}
use Rattle.ftn_tree.specs.declared.table.EntityKind.{EntityKind}
use Rattle.ftn_tree.specs.declared.table.EntityKind.TheVariants as kinds
use Rattle.ftn_tree.specs.declared.table.Occurrence.{Occurrence}
use Rattle.ftn_tree.specs.declared.table.Scope.{Scope}
use Rattle.ftn_tree.specs.declared.table.Tables.{Tables}
use Rattle.ftn_tree.specs.declared.table.Extent.{Extent}
use Rattle.ftn_tree.specs.declared.unit.FileTree.{FileTree}
use Rattle.ftn_tree.specs.Layers.{FormLayer}
use Rattle.ftn_tree.specs.Extents.{scoping, layer_at, scope_of, is_body}
use Rattle.ftn_tree.specs.Scopes.{name_at, name_token, span_of, first_token_at, own_statements, all_statements, path_of, scope_kind, scope_number, host_number}
use Rattle.ftn_tree.specs.ScopeLetters.{letters_of}
use Rattle.ftn_tree.specs.Roles.{says, same_role}
use Rattle.ftn_tree.specs.Sayings.{Saying, mentions_at, sayings, same_name, typed, bounded, valued, parameter, saved, dummy, answer, outside, member, tied, intent, inside, declares}
use Rattle.ftn_tree.specs.GlobalNames.{Place, place, before, Global, blocks, program_units}

-- ---- scoping units and occurrences of names, with their numbers

abbrev pub scope_entry : List FileTree → Extent → Scope
scope_entry files e = record {
  kind = scope_kind files e;
  path = path_of files e;
  host = host_number files e;
  opening = span_of files e.file (first_token_at files e.file e.opening);
  unit = record { file = e.file; statement = e.opening };
  letters = letters_of files e;
}

-- the number of the scoping unit in which a statement stands
abbrev pub number_at : List FileTree → ℕ → ℕ → ℕ
number_at files file statement = option_map_or (λ number. number) (option_and_then (scope_number files) (scope_of files file statement)) 0

abbrev pub occurrence : List FileTree → ℕ → ℕ → Mention → Occurrence
occurrence files file statement m = record {
  span = span_of files file m.token;
  scope = number_at files file statement;
  name = name_at files file m.token;
  role = m.role;
}

abbrev pub occurrences_in : List FileTree → ℕ → FileTree → List Occurrence
occurrences_in files file tree =
    flat_map (λ statement. map (occurrence files file statement) (mentions_at files file statement)) (range_with_len 0 (length tree.statements))

abbrev pub occurrences_of : List FileTree → List Occurrence
occurrences_of files = flat_map (λ one. occurrences_in files one.0 one.1) (enumerate_from 0 files)

-- ---- the names that a scoping unit declares

-- not the name of a unit that opens or ends, of a block, of a module, or in an item of USE
abbrev pub may_be_own : Role → Bool
may_be_own role.Opens = false
may_be_own role.Ends = false
may_be_own role.Slash = false
may_be_own role.Module = false
may_be_own role.Source = false
may_be_own role.Local = false
may_be_own _ = true

abbrev pub own_mentions : List FileTree → Extent → List Mention
own_mentions files e = flat_map (mentions_at files e.file) (own_statements files e)

abbrev pub is_named : List FileTree → ℕ → List ℕ → Mention → Bool
is_named files file name m = bytes_eq (name_at files file m.token) name

-- the first token at which a name stands in its scoping unit, a declaration or not
abbrev pub first_occurrence : List FileTree → Extent → List ℕ → ℕ
first_occurrence files e name =
    option_map_or (λ (m : Mention). m.token) (find (λ m. may_be_own m.role && is_named files e.file name m) (own_mentions files e)) 0

-- it is referenced with parentheses there (12.4.2)
abbrev pub is_referenced : List FileTree → Extent → List ℕ → Bool
is_referenced files e name = list_any (λ m. same_role m.role role.Parenthesised && is_named files e.file name m) (own_mentions files e)

abbrev pub is_said : (Saying → Bool) → List Saying → Bool
is_said what said = list_any what said

-- a type declaration gives it a type, and nothing else declares it (12.3.2.2, 12.4)
abbrev pub is_typed_alone : List Saying → Bool
is_typed_alone said =
    is_said typed said && not (is_said (λ s. bounded s || valued s || parameter s || saved s || intent s || member s || tied s) said)

-- RESULT is written
abbrev pub has_result_at : Option FormLayer → Bool
has_result_at (Some (Form-F.Function ty name dummies (Some result))) = true
has_result_at _ = false

-- what it declares by what is said of a name, the name being referenced with parentheses or not: nothing, where the name is that of a
-- procedure that is defined inside or outside
abbrev pub kind_said : Bool → Bool → List Saying → Option EntityKind
kind_said has_result referenced said =
    if is_said dummy said then Some kinds.Dummy
    else if is_said answer said then (if has_result then Some kinds.Answer else None)
    else if is_said (λ s. says role.Inner s.said) said then None
    else if is_said (λ s. says role.Generic s.said) said then Some kinds.Generic
    else if is_said (λ s. says role.Label s.said) said then Some kinds.Construct
    else if is_said outside said || (referenced && is_typed_alone said) then None
    else if is_said parameter said then Some kinds.Constant
    else if is_said declares said then Some kinds.Variable
    else None

-- ---- entities with their first tokens

pub record Drafted : Type 0 where
  pub at : Place
  pub last : Bool
  pub entity : Entity

abbrev pub drafted : List FileTree → Place → Bool → Option (List ℕ) → Option ℕ → EntityKind → Bool → Option ℕ → Drafted
drafted files at last name home kind implicit opens = record {
  at = at;
  last = last;
  entity = record { name = name; home = home; kind = kind; first = span_of files at.file at.token; implicit = implicit; opens = opens };
}

-- whether a type is written for it; a function without RESULT is its result too (12.5.2.2)
abbrev pub has_type : EntityKind → Bool
has_type kinds.Variable = true
has_type kinds.Constant = true
has_type kinds.Dummy = true
has_type kinds.Answer = true
has_type _ = false

-- generic names and construct names begin where they are opened
abbrev pub own_place : EntityKind → ℕ → List Saying → ℕ
own_place kinds.Generic first said = option_map_or (λ (s : Saying). s.said.token) (find (λ s. says role.Generic s.said) said) first
own_place kinds.Construct first said = option_map_or (λ (s : Saying). s.said.token) (find (λ s. says role.Label s.said) said) first
own_place _ first said = first

abbrev pub draft_name : List FileTree → Extent → List ℕ → List Saying → Option Drafted
draft_name files e name said =
    option_map (λ kind. drafted files (place e.file (own_place kind (first_occurrence files e name) said)) false (Some name) (scope_number files e) kind
    (has_type kind && not (is_said typed said)) None)
    (kind_said (has_result_at (layer_at files e.file e.opening)) (is_referenced files e name) said)

-- the names of these sayings, each once
abbrev pub names_after : List (List ℕ) → List Saying → List (List ℕ)
names_after seen [] = []
names_after seen (s ∷ rest) = if list_any (λ name. bytes_eq name s.name) seen then names_after seen rest else s.name ∷ names_after (s.name ∷ seen) rest

abbrev pub drafts_in : List FileTree → Extent → List Drafted
drafts_in files e =
    flat_map (λ name. cons_option (draft_name files e name (filter (same_name name) (sayings files e))) []) (names_after [] (sayings files e))

-- ---- units and procedures

abbrev pub unit_kind_at : Option FormLayer → EntityKind
unit_kind_at (Some (Form-F.Program name)) = kinds.Program
unit_kind_at (Some (Form-F.Module name)) = kinds.Module
unit_kind_at (Some (Form-F.BlockData joined name)) = kinds.BlockData
unit_kind_at (Some (Form-F.Function ty name dummies result)) = kinds.Function
unit_kind_at _ = kinds.Subroutine

-- the type of a function without RESULT comes from its first letter
abbrev pub is_untyped_at : List FileTree → Extent → Option FormLayer → Bool
is_untyped_at files e (Some (Form-F.Function ty name dummies None)) =
    not (is_said typed (filter (same_name (name_at files e.file name)) (sayings files e)))
is_untyped_at files e _ = false

abbrev pub draft_unit : List FileTree → Extent → Drafted
draft_unit files e =
    drafted files (place e.file (option_map_or (λ token. token) (name_token files e) (first_token_at files e.file e.opening))) false
    (option_map (name_at files e.file) (name_token files e)) (host_number files e) (unit_kind_at (layer_at files e.file e.opening))
    (is_untyped_at files e (layer_at files e.file e.opening)) (scope_number files e)

-- ---- common blocks (5.5.2)

abbrev pub is_blank : CommonGroup → Bool
is_blank g = is_blank_name g.block where
  is_blank_name : BlockName → Bool
  is_blank_name block.Unwritten = true
  is_blank_name (block.Blank slash joined) = true
  is_blank_name (block.Named slash name) = false

abbrev pub lists_blank_at : Option FormLayer → Bool
lists_blank_at (Some (Form-F.Common groups)) = list_any is_blank groups
lists_blank_at _ = false

abbrev pub blank_places : List FileTree → List Place
blank_places files =
    flat_map (λ e. map (λ statement. place e.file (first_token_at files e.file statement))
    (filter (λ statement. lists_blank_at (layer_at files e.file statement)) (all_statements e))) (program_units files)

abbrev pub draft_block : List FileTree → Global → Drafted
draft_block files g = drafted files g.at false g.name None kinds.Block false None

abbrev pub draft_blank : List FileTree → List Place → List Drafted
draft_blank files [] = []
draft_blank files (first ∷ rest) = drafted files first true None None kinds.Block false None ∷ []

-- ---- all of a project, numbered by file and first token, blank common last

abbrev pub comes_before : Drafted → Drafted → Bool
comes_before one other = (not one.last && other.last) || ((not one.last || other.last) && before one.at other.at)

abbrev pub put_draft : Drafted → List Drafted → List Drafted
put_draft d [] = d ∷ []
put_draft d (first ∷ rest) = if comes_before d first then d ∷ first ∷ rest else first ∷ put_draft d rest

abbrev pub in_order : List Drafted → List Drafted
in_order [] = []
in_order (d ∷ rest) = put_draft d (in_order rest)

abbrev pub drafts : List FileTree → List Drafted
drafts files =
    map (draft_unit files) (filter (λ e. not (is_body files e)) (scoping files)) ++ (flat_map (drafts_in files) (scoping files)
    ++ (map (draft_block files) (blocks files) ++ draft_blank files (blank_places files)))

abbrev pub entities_of : List FileTree → List Entity
entities_of files = map (λ d. d.entity) (in_order (drafts files))

-- the scoping units of a project, its declared entities, and where its names occur
abbrev pub tables_of : List FileTree → Tables
tables_of files = record {
  scopes = map (scope_entry files) (scoping files);
  entities = entities_of files;
  occurrences = occurrences_of files;
}
