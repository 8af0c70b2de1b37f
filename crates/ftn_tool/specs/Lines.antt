-- The lines that are written, each with its LF.
use Rattle.std.specs.Prelude.{ℕ, List, [], ◌∷◌, ◌++◌, codes, Option, Some, None, slice_get}
use Rattle.std.specs.Fmt.{decimal}
use Rattle.std.specs.Option.{option_map}
use Rattle.ftn_base.specs.Files.{File}
use Rattle.ftn_base.specs.FaultNames.{name_of as fault_name}
use Rattle.ftn_base.specs.Places.{place_of}
use Rattle.ftn_base.specs.declared.fault.Fault.{Fault}
use Rattle.ftn_base.specs.declared.fault.FaultKind.TheVariants.{NotBuilt as not_built}
use Rattle.ftn_base.specs.declared.limits.Limit.{Limit}
use Rattle.ftn_base.specs.declared.limits.Limit.TheVariants as limits
use Rattle.ftn_base.specs.declared.place.Span.{Span}
use Rattle.rename_ref.specs.Conditions.{name_of}
use Rattle.rename_ref.specs.declared.judgement.Cond.{Cond}
use Rattle.ftn_tool.specs.declared.verdict.Point.{Point}
use Rattle.ftn_tool.specs.declared.verdict.Verdict.{Verdict}
use Rattle.ftn_tool.specs.declared.verdict.Verdict.TheVariants.{Waiting, Past, Broken, NotBuilt, Refused, Checked, Changed}

-- a line of the output
abbrev pub line : List ℕ → List ℕ
line text = text ++ 10 ∷ []

-- ---- places

-- FILE:LINE:COLUMN
abbrev pub text_in : Option File → ℕ → List ℕ
text_in None at = codes "-"
text_in (Some file) at =
    let place = place_of file.1 at in
    file.0 ++ codes ":" ++ decimal place.0 ++ codes ":" ++ decimal place.1

abbrev pub point_text : List File → Point → List ℕ
point_text files point = text_in (slice_get files point.file) point.at

-- or `-` without a place
abbrev pub place_text : List File → Option Point → List ℕ
place_text files None = codes "-"
place_text files (Some point) = point_text files point

-- the first byte of a range
abbrev pub start_of : Span → Point
start_of span = record { file = span.file; at = span.range.start }

-- ---- lines

abbrev pub limit_name : Limit → List ℕ
limit_name limits.Files = codes "files"
limit_name limits.File = codes "file"
limit_name limits.Project = codes "project"

abbrev pub limit_line : Limit → List ℕ
limit_line which = line (codes "limit " ++ limit_name which)

abbrev pub fault_line : List File → Fault → List ℕ
fault_line files fault = line (codes "fault " ++ fault_name fault.kind ++ codes " " ++ place_text files (option_map start_of fault.span))

abbrev pub not_built_line : List ℕ
not_built_line = line (codes "fault " ++ fault_name not_built ++ codes " -")

abbrev pub refused_line : List File → Cond → Option Point → List ℕ
refused_line files cond at = line (codes "refused " ++ name_of cond ++ codes " " ++ place_text files at)

abbrev pub ok_line : ℕ → ℕ → List ℕ
ok_line files units = line (codes "ok " ++ decimal files ++ codes " files, " ++ decimal units ++ codes " units")

abbrev pub applying_line : ℕ → List ℕ
applying_line files = line (codes "applying " ++ decimal files ++ codes " files")

-- where a plan file waits for recovery
abbrev pub pending_line : List ℕ
pending_line = line (codes "pending")

abbrev pub nothing_line : List ℕ
nothing_line = line (codes "nothing to recover")

abbrev pub recovering_line : ℕ → List ℕ
recovering_line files = line (codes "recovering " ++ decimal files ++ codes " files")

abbrev pub plan_limit_line : List ℕ
plan_limit_line = line (codes "limit plan")

-- the plan file's bytes are no plan's text: the first field that is broken or cut begins at that offset
abbrev pub no_plan_line : ℕ → List ℕ
no_plan_line at = line (codes "fault NotAPlan ftn.plan:" ++ decimal at)

abbrev pub store_fault_line : List ℕ
store_fault_line = line (codes "store fault")

abbrev pub bad_word_line : ℕ → List ℕ
bad_word_line position = line (codes "bad word " ++ decimal position)

-- the line of a verdict on these files
abbrev pub line_of : List File → Verdict → List ℕ
line_of files Waiting = pending_line
line_of files (Past which) = limit_line which
line_of files (Broken fault) = fault_line files fault
line_of files NotBuilt = not_built_line
line_of files (Refused cond at) = refused_line files cond at
line_of files (Checked count units) = ok_line count units
line_of files (Changed name text) = applying_line 1
