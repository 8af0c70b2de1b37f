-- Names that are declared twice, and what conflicts (Fortran 90, 5.1.2, 5.3, 14.1.2): the faults of a project's declarations, and the first.
use Rattle.std.specs.Prelude.{ℕ, Bool, true, false, not, ◌&&◌, ◌||◌, ◌==◌, nat_lt, nat_le, if◌then◌else◌, List, [], ◌∷◌, ◌++◌, map, Option, Some, None}
use Rattle.std.specs.List.{flat_map, filter, find, list_any, reduce}
use Rattle.std.specs.Option.{option_map, option_map_or}
use Rattle.ftn_base.specs.declared.fault.Fault.{Fault}
use Rattle.ftn_base.specs.declared.fault.FaultKind.{FaultKind}
use Rattle.ftn_base.specs.declared.fault.FaultKind.TheVariants.{Twice, Conflicting}
use Rattle.ftn_tree.specs.declared.form.Form.TheOpen.{Form-F}
use Rattle.ftn_tree.specs.declared.table.Extent.{Extent}
use Rattle.ftn_tree.specs.declared.unit.FileTree.{FileTree}
use Rattle.ftn_tree.specs.declared.table.ScopeKind.{ScopeKind}
use Rattle.ftn_tree.specs.declared.table.ScopeKind.TheVariants as kinds
use Rattle.ftn_tree.specs.Layers.{FormLayer}
use Rattle.ftn_tree.specs.Extents.{scoping, layer_at}
use Rattle.ftn_tree.specs.Scopes.{span_of, first_token_at, scope_kind, own_statements}
use Rattle.ftn_tree.specs.ScopeLetters.{givens_of, given_again, implicits_of, beside_none}
use Rattle.ftn_base.specs.ImplicitLetters as letters
use Rattle.ftn_tree.specs.Sayings.{Saying, sayings, same_name, dummy, intent, public, private}
use Rattle.ftn_tree.specs.Exclusions.{is_twice, is_twice_itself, is_excluded, excludes}
use Rattle.ftn_tree.specs.GlobalNames.{Place, place, global_twice}

-- ---- a fault and its place

-- a kind of fault, the token where it is, and the token of the second place
pub record Finding : Type 0 where
  pub kind : FaultKind
  pub at : Place
  pub other : Option Place

abbrev pub found : FaultKind → Place → Finding
found kind at = record { kind = kind; at = at; other = None }

abbrev pub found_with : FaultKind → Place → Place → Finding
found_with kind at other = record { kind = kind; at = at; other = Some other }

-- the order of the kinds at one place
abbrev pub declaration_rank : FaultKind → ℕ
declaration_rank Twice = 0
declaration_rank other = 1

-- ---- one scoping unit

abbrev pub is_module : ScopeKind → Bool
is_module kinds.Module = true
is_module _ = false

abbrev pub is_block_data : ScopeKind → Bool
is_block_data kinds.BlockData = true
is_block_data _ = false

abbrev pub place_of_saying : ℕ → Saying → Place
place_of_saying file s = place file s.said.token

-- the first saying before this one, or itself, that makes it a second declaration
abbrev pub partner : List Saying → Saying → Option Saying
partner before s = find (λ earlier. same_name s.name earlier && is_twice earlier s) (before ++ (if is_twice_itself s then s ∷ [] else []))

abbrev pub twice_at : ℕ → List Saying → Saying → List Finding
twice_at file before s = option_map_or (λ earlier. found_with Twice (place_of_saying file s) (place_of_saying file earlier) ∷ []) (partner before s) []

-- 5.1.2.3: INTENT of a name that is no dummy argument; 5.2.3: PUBLIC and PRIVATE in what is no module
abbrev pub is_misplaced : ScopeKind → List Saying → Saying → Bool
is_misplaced kind before s =
    (intent s && not (list_any (λ earlier. same_name s.name earlier && dummy earlier) before)) || ((public s || private s) && not (is_module kind))

abbrev pub is_conflicting : ScopeKind → List Saying → Saying → Bool
is_conflicting kind before s =
    excludes (is_block_data kind) s s || is_misplaced kind before s
    || list_any (λ earlier. same_name s.name earlier && is_excluded (is_block_data kind) earlier s) before

abbrev pub conflicting_at : ScopeKind → ℕ → List Saying → Saying → List Finding
conflicting_at kind file before s = if is_conflicting kind before s then found Conflicting (place_of_saying file s) ∷ [] else []

-- each with all that is said before it
abbrev pub each_after : ScopeKind → ℕ → List Saying → List Saying → List Finding
each_after kind file before [] = []
each_after kind file before (s ∷ rest) =
    twice_at file before s ++ (conflicting_at kind file before s ++ each_after kind file (before ++ s ∷ []) rest)

-- ---- IMPLICIT, and PUBLIC or PRIVATE without names

abbrev pub letter_faults : List FileTree → Extent → List Finding
letter_faults files e = map (λ token. found Conflicting (place e.file token)) (given_again letters.none (givens_of files e))

abbrev pub none_faults : List FileTree → Extent → List Finding
none_faults files e = map (λ statement. found Conflicting (place e.file (first_token_at files e.file statement))) (beside_none files e.file [] (implicits_of files e))

abbrev pub is_default_access : Option FormLayer → Bool
is_default_access (Some (Form-F.Access which colons [])) = true
is_default_access _ = false

abbrev pub default_accesses : List FileTree → Extent → List ℕ
default_accesses files e = filter (λ statement. is_default_access (layer_at files e.file statement)) (own_statements files e)

abbrev pub access_faults : List FileTree → Extent → List Finding
access_faults files e =
    if is_module (scope_kind files e) then []
    else map (λ statement. found Conflicting (place e.file (first_token_at files e.file statement))) (default_accesses files e)

abbrev pub scope_findings : List FileTree → Extent → List Finding
scope_findings files e =
    each_after (scope_kind files e) e.file [] (sayings files e) ++ (letter_faults files e ++ (none_faults files e ++ access_faults files e))

-- ---- the project

abbrev pub global_findings : List FileTree → List Finding
global_findings files = map (λ pair. found_with Twice pair.0 pair.1) (global_twice files)

abbrev pub findings : List FileTree → List Finding
findings files = global_findings files ++ flat_map (scope_findings files) (scoping files)

-- by file, then by token, then by kind
abbrev pub before_in_place : (FaultKind → ℕ) → Finding → Finding → Bool
before_in_place rank one other =
    nat_lt one.at.file other.at.file
    || ((one.at.file == other.at.file) && (nat_lt one.at.token other.at.token || ((one.at.token == other.at.token) && nat_lt (rank one.kind) (rank other.kind))))

-- the first of all, and of those alike the first that is listed
abbrev pub first_finding : (FaultKind → ℕ) → List Finding → Option Finding
first_finding rank all = reduce (λ one other. if before_in_place rank other one then other else one) all

abbrev pub fault_of : List FileTree → Finding → Fault
fault_of files f = record {
  kind = f.kind;
  span = Some (span_of files f.at.file f.at.token);
  other = option_map (λ (p : Place). span_of files p.file p.token) f.other;
}

-- the first fault of a project's declarations
abbrev pub declaration_fault : List FileTree → Option Fault
declaration_fault files = option_map (fault_of files) (first_finding declaration_rank (findings files))
