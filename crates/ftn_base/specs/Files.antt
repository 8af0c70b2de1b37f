-- The files that a store tells: names and texts, in byte order of names, without repeats.
use Rattle.std.specs.Prelude.{ℕ, Bool, ◌==◌, List, map, Option, codes, IsTrue}
use Rattle.std.specs.List.{filter, ends_with}
use Rattle.std.specs.Ordering.{nat_cmp}
use Rattle.std.specs.Cmp.Lexicographic.{slice_cmp}
use Rattle.std.specs.declared.cmp.Ordering.{Ordering}
use Rattle.std.specs.FinMap.{find, put, is_sorted}

-- a name and a text
abbrev pub File : Type 0
File = List ℕ × List ℕ

abbrev pub by_name : List ℕ → List ℕ → Ordering
by_name = slice_cmp nat_cmp

-- the text of the file of that name
abbrev pub text_of : List File → List ℕ → Option (List ℕ)
text_of files name = find by_name name files

-- the files after that text was put under that name
abbrev pub with_file : List ℕ → List ℕ → List File → List File
with_file name text files = put by_name name text files

abbrev pub names_of : List File → List (List ℕ)
names_of files = map (λ file. file.0) files

-- strictly rising by name
abbrev pub IsInOrder : List File → Type 0
IsInOrder files = IsTrue (is_sorted by_name files)

abbrev pub is_source : List ℕ → Bool
is_source name = ends_with ◌==◌ name (codes ".f90")

-- the project is the part whose names end in `.f90`
abbrev pub project : List File → List File
project files = filter (λ file. is_source file.0) files
