-- The generated project of a seed: modules with a variable and a subroutine each, and a program that calls all of them.
use Rattle.std.specs.Prelude.{ℕ, ◌+◌, ◌*◌, ◌%◌, List, [], ◌∷◌, ◌++◌, map, codes}
use Rattle.std.specs.Fmt.{decimal}
use Rattle.std.specs.List.{range_with_len, flat_map}
use Rattle.ftn_base.specs.Files.{File}

-- how many modules there are
abbrev pub modules : ℕ → ℕ
modules seed = 1 + seed % 2000

-- what the variable of a module is at first
abbrev pub constant : ℕ → ℕ → ℕ
constant seed i = (seed + 7 * i) % 1000

abbrev pub file_of_module : ℕ → List ℕ
file_of_module i = codes "m" ++ decimal i ++ codes ".f90"

-- the first lines of the module of that number, whose variable has that value
unfoldable pub head_of : List ℕ → List ℕ → List ℕ
head_of number value =
    codes "module m" ++ number ++ codes "\n"
    ++ codes "  implicit none\n"
    ++ codes "  integer :: v" ++ number ++ codes " = " ++ value ++ codes "\n"
    ++ codes "contains\n"

-- its subroutine, up to the last line of that
unfoldable pub body_of : List ℕ → List ℕ
body_of number =
    codes "  subroutine s" ++ number ++ codes "(x)\n    integer, intent(inout) :: x\n    x = x + v" ++ number ++ codes "\n"

-- the last lines of both
unfoldable pub end_of : List ℕ → List ℕ
end_of number =
    codes "  end subroutine s" ++ number ++ codes "\nend module m" ++ number ++ codes "\n"

abbrev pub text_of_module : ℕ → ℕ → List ℕ
text_of_module seed i = head_of (decimal i) (decimal (constant seed i)) ++ body_of (decimal i) ++ end_of (decimal i)

abbrev pub use_line : ℕ → List ℕ
use_line i = codes "  use m" ++ decimal i ++ codes "\n"

abbrev pub call_line : ℕ → List ℕ
call_line i = codes "  call s" ++ decimal i ++ codes "(t)\n"

-- a line for each module
abbrev pub line_each : (ℕ → List ℕ) → ℕ → List ℕ
line_each line count = flat_map line (range_with_len 0 count)

-- the program over so many modules, up to IMPLICIT NONE
unfoldable pub uses_of : ℕ → List ℕ
uses_of count =
    codes "program main\n"
    ++ line_each use_line count
    ++ codes "  implicit none\n"

-- and from there on
unfoldable pub calls_of : ℕ → List ℕ
calls_of count =
    codes "  integer :: t\n  t = 0\n" ++ line_each call_line count ++ codes "  print *, t\nend program main\n"

abbrev pub text_of_main : ℕ → List ℕ
text_of_main count = uses_of count ++ calls_of count

abbrev pub module_file : ℕ → ℕ → File
module_file seed i = (file_of_module i, text_of_module seed i)

abbrev pub main_file : ℕ → File
main_file count = (codes "main.f90", text_of_main count)

-- the modules by number, and then the program
abbrev pub project_files : ℕ → List File
project_files seed = map (module_file seed) (range_with_len 0 (modules seed)) ++ main_file (modules seed) ∷ []
