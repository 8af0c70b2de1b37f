-- The limit that a project passes first. The limits are this project's own.
use Rattle.std.specs.Prelude.{ℕ, ◌+◌, nat_lt, if◌then◌else◌, List, [], ◌∷◌, length, Option, Some, None}
use Rattle.ftn_base.specs.Files.{File}
use Rattle.ftn_base.specs.Limits.{most_files, most_file_bytes, most_project_bytes}
use Rattle.ftn_base.specs.declared.limits.Limit.{Limit}
use Rattle.ftn_base.specs.declared.limits.Limit.TheVariants as limits

-- the first limit of bytes that these files pass, one after another, where that many bytes come before them
abbrev pub past_bytes : ℕ → List File → Option Limit
past_bytes before [] = None
past_bytes before (file ∷ files) =
    if nat_lt most_file_bytes (length file.1) then Some limits.File
    else if nat_lt most_project_bytes (before + length file.1) then Some limits.Project
    else past_bytes (before + length file.1) files

-- the limit that a project of these files passes first: how many they are is counted before any is read
abbrev pub limit_of : List File → Option Limit
limit_of files = if nat_lt most_files (length files) then Some limits.Files else past_bytes 0 files
