-- Words that no name may be given by a refactoring: the words of statements, and the intrinsic functions of
-- the profile (13.10), in lower case. The table of words is this project's own.
use Rattle.std.specs.Prelude.{ℕ, Bool, List, [], ◌∷◌, codes}
use Rattle.std.specs.List.{list_any}
use Rattle.std.specs.Str.{bytes_eq}

abbrev pub keywords : List (List ℕ)
keywords =
    codes "program" ∷
    codes "module" ∷
    codes "subroutine" ∷
    codes "function" ∷
    codes "procedure" ∷
    codes "result" ∷
    codes "contains" ∷
    codes "use" ∷
    codes "only" ∷
    codes "implicit" ∷
    codes "none" ∷
    codes "interface" ∷
    codes "integer" ∷
    codes "logical" ∷
    codes "character" ∷
    codes "len" ∷
    codes "parameter" ∷
    codes "dimension" ∷
    codes "save" ∷
    codes "public" ∷
    codes "private" ∷
    codes "external" ∷
    codes "intrinsic" ∷
    codes "intent" ∷
    codes "in" ∷
    codes "out" ∷
    codes "inout" ∷
    codes "common" ∷
    codes "equivalence" ∷
    codes "call" ∷
    codes "if" ∷
    codes "then" ∷
    codes "else" ∷
    codes "elseif" ∷
    codes "do" ∷
    codes "while" ∷
    codes "exit" ∷
    codes "cycle" ∷
    codes "select" ∷
    codes "selectcase" ∷
    codes "case" ∷
    codes "default" ∷
    codes "stop" ∷
    codes "return" ∷
    codes "continue" ∷
    codes "print" ∷
    codes "write" ∷
    codes "read" ∷
    codes "end" ∷
    codes "endprogram" ∷
    codes "endmodule" ∷
    codes "endsubroutine" ∷
    codes "endfunction" ∷
    codes "endinterface" ∷
    codes "endif" ∷
    codes "enddo" ∷
    codes "endselect" ∷
    codes "endblock" ∷
    codes "endblockdata" ∷
    codes "real" ∷
    codes "complex" ∷
    codes "double" ∷
    codes "doubleprecision" ∷
    codes "type" ∷
    codes "pointer" ∷
    codes "target" ∷
    codes "allocatable" ∷
    codes "allocate" ∷
    codes "deallocate" ∷
    codes "nullify" ∷
    codes "recursive" ∷
    codes "optional" ∷
    codes "go" ∷
    codes "goto" ∷
    codes "format" ∷
    codes "entry" ∷
    codes "namelist" ∷
    codes "where" ∷
    codes "elsewhere" ∷
    codes "include" ∷
    codes "assign" ∷
    codes "pause" ∷
    codes "data" ∷
    codes "block" ∷
    codes "blockdata" ∷
    codes "open" ∷
    codes "close" ∷
    codes "inquire" ∷
    codes "rewind" ∷
    codes "backspace" ∷
    codes "endfile" ∷
    []

abbrev pub intrinsics : List (List ℕ)
intrinsics =
    codes "abs" ∷
    codes "mod" ∷
    codes "sign" ∷
    codes "min" ∷
    codes "max" ∷
    codes "len" ∷
    codes "len_trim" ∷
    codes "trim" ∷
    codes "ichar" ∷
    codes "char" ∷
    codes "index" ∷
    []

abbrev pub is_one_of : List (List ℕ) → List ℕ → Bool
is_one_of words word = list_any (λ entry. bytes_eq entry word) words

abbrev pub is_keyword : List ℕ → Bool
is_keyword word = is_one_of keywords word

abbrev pub is_intrinsic : List ℕ → Bool
is_intrinsic word = is_one_of intrinsics word
