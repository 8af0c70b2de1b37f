-- Plans of changes, and the one text of each.
use Rattle.std.specs.Prelude.{◌≡◌, ℕ, ◌≤◌, Bool, true, ◌&&◌, nat_le, List, ◌++◌, length, codes}
use Rattle.std.specs.Fmt.{decimal}
use Rattle.std.specs.List.{flat_map, list_all, sum_by}
use Rattle.ftn_base.specs.Files.{File, IsInOrder, is_source}
use Rattle.ftn_base.specs.Limits.{most_files, most_file_bytes, most_project_bytes}
use Rattle.ftn_base.specs.Names.{is_file_name}

-- how many bytes all texts have
abbrev pub size_of : List File → ℕ
size_of files = sum_by (λ file. length file.1) files

-- a source file's name, and a text that isn't too long
abbrev pub is_planned : File → Bool
is_planned file = is_file_name file.0 && is_source file.0 && nat_le (length file.1) most_file_bytes

-- a valid plan
pub record IsPlan (files : List File) : Type 0 where
  pub some : 1 ≤ length files
  pub few : length files ≤ most_files
  pub planned : list_all is_planned files ≡ true
  pub in_order : IsInOrder files
  pub small : size_of files ≤ most_project_bytes

-- the first field
abbrev pub title : List ℕ
title = codes "ftn-plan 1\n"

abbrev pub count_field : ℕ → List ℕ
count_field n = codes "files " ++ decimal n ++ codes "\n"

abbrev pub file_field : ℕ → List ℕ → List ℕ
file_field size name = codes "file " ++ decimal size ++ codes " " ++ name ++ codes "\n"

-- the bytes of a text, however many, and LF
abbrev pub text_field : List ℕ → List ℕ
text_field text = text ++ codes "\n"

abbrev pub entry : File → List ℕ
entry file = file_field (length file.1) file.0 ++ text_field file.1

-- the last field
abbrev pub ending : List ℕ
ending = codes "end\n"

abbrev pub plan_text : List File → List ℕ
plan_text files = title ++ count_field (length files) ++ flat_map entry files ++ ending
