-- Limits and numbers: those of source form by edition (Fortran 90, 3.2.1 and 3.3.1), and this project's own.
use Rattle.std.specs.Prelude.{ℕ, ◌^◌}
use Rattle.ftn_base.specs.declared.name.Edition.{Edition}
use Rattle.ftn_base.specs.declared.name.Edition.TheVariants.{F90, F2003}

-- ---- source form. The numbers of F2003 are this project's choice for its second edition.

-- 3.3.1: how many bytes a line may have before its end
abbrev pub line_limit : ℕ
line_limit = 132

-- 3.3.1.3: how many lines may continue a statement
abbrev pub continuation_limit : Edition → ℕ
continuation_limit F90 = 39
continuation_limit F2003 = 255

-- 3.2.1: how many bytes a name may have
abbrev pub name_limit : Edition → ℕ
name_limit F90 = 31
name_limit F2003 = 63

-- ---- this project's own

-- the greatest whole number
abbrev pub greatest_integer : ℕ
greatest_integer = 2147483647

-- how deep parentheses may nest
abbrev pub most_parentheses : ℕ
most_parentheses = 200

-- how deep IF, DO and SELECT CASE may nest
abbrev pub most_constructs : ℕ
most_constructs = 100

-- how many files a project may have
abbrev pub most_files : ℕ
most_files = 4096

-- how many bytes the name of a file may have
abbrev pub most_file_name_bytes : ℕ
most_file_name_bytes = 255

-- how many bytes a file may have
abbrev pub most_file_bytes : ℕ
most_file_bytes = 4194304

-- how many bytes all files of a project may have
abbrev pub most_project_bytes : ℕ
most_project_bytes = 16777216

-- how many bytes the text of a project in first form may have
abbrev pub most_first_form_bytes : ℕ
most_first_form_bytes = 65536

-- how many storage units a variable or a result may have
abbrev pub most_units_of_one : ℕ
most_units_of_one = 2 ^ 20

-- how many storage units all variables and results may have
abbrev pub most_units_of_all : ℕ
most_units_of_all = 2 ^ 24
