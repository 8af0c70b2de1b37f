-- Reading the files of a project. Of each text at most one byte more is read than a file may have. This serves the proof of the code.
use Rattle.std.specs.Prelude.{◌≡◌, ℕ, ◌+◌, ◌≤◌, nat_lt, Bool, List, [], ◌∷◌, length, map, take, Option, Some, None, Result, Ok, Err, if◌then◌else◌}
use Rattle.std.specs.Option.{option_map}
use Rattle.std.specs.List.{list_all}
use Rattle.ftn_base.specs.Files.{File, is_source, project, text_of}
use Rattle.ftn_base.specs.Limits.{most_file_bytes, most_project_bytes}
use Rattle.ftn_base.specs.declared.limits.Limit.{Limit}
use Rattle.ftn_base.specs.declared.limits.Limit.TheVariants as limits
use Rattle.ftn_tree.specs.ProjectLimits.{limit_of}
use Rattle.plan_store.specs.Middle.{HasNoPlan}
use Rattle.ftn_tool.specs.declared.project.ProjectFault.{ProjectFault}
use Rattle.ftn_tool.specs.declared.project.ProjectFault.TheVariants as faults
use Rattle.ftn_tool.specs.Verdicts.{HasPlan}

abbrev pub IsSmall : File → Type 0
IsSmall file = length file.1 ≤ most_file_bytes

abbrev pub front : List ℕ → List ℕ
front text = take (most_file_bytes + 1) text

abbrev pub front_of : File → File
front_of file = (file.0, front file.1)

-- the front of the text of that file, where it is a project file
abbrev pub source_front : List File → List ℕ → Option (List ℕ)
source_front files name = if is_source name then option_map front (text_of files name) else None

abbrev pub with_name : List ℕ → Option (List ℕ) → List File → List File
with_name name None files = files
with_name name (Some text) files = (name, text) ∷ files

-- the project files among those of these names, each with the front of its text
abbrev pub fronts : List File → List (List ℕ) → List File
fronts files [] = []
fronts files (name ∷ names) = with_name name (source_front files name) (fronts files names)

-- how many bytes there are with this text after so many, or the limit that it passes
abbrev pub size_with : ℕ → List ℕ → Result ℕ Limit
size_with before text =
    if nat_lt most_file_bytes (length text) then Err limits.File
    else if nat_lt most_project_bytes (before + length text) then Err limits.Project
    else Ok (before + length text)

-- where a fault is a limit, it is the one that is passed, and none is a plan file
abbrev pub IsPassed : Option Limit → ProjectFault → Type 0
IsPassed passed (faults.Past which) = passed ≡ Some which
IsPassed passed faults.Waiting = ⊥
IsPassed passed faults.StoreFailed = Unit {0}
IsPassed passed faults.NoMemory = Unit {0}

abbrev pub IsNoLimit : ProjectFault → Type 0
IsNoLimit (faults.Past which) = ⊥
IsNoLimit faults.Waiting = ⊥
IsNoLimit faults.StoreFailed = Unit {0}
IsNoLimit faults.NoMemory = Unit {0}

-- why the project of these files isn't read: there is a plan file; or there is none, and a limit is passed
abbrev pub IsStopped : ProjectFault → List File → Type 0
IsStopped faults.Waiting files = HasPlan files
IsStopped (faults.Past which) files = HasNoPlan files × (limit_of (map front_of (project files)) ≡ Some which)
IsStopped faults.StoreFailed files = Unit {0}
IsStopped faults.NoMemory files = Unit {0}

-- all these are project files
abbrev pub are_sources : List File → Bool
are_sources files = list_all (λ file. is_source file.0) files
