-- What the spelling can't say of a program in first form.
use Rattle.std.specs.Prelude.{ℕ, Bool, true, not, ◌&&◌, nat_le, List, [], ◌∷◌, ◌++◌}
use Rattle.std.specs.List.{list_all, list_any, flat_map}
use Rattle.std.specs.Str.{bytes_eq}
use Rattle.ftn_base.specs.Keywords.{is_keyword, is_intrinsic}
use Rattle.ftn_base.specs.Limits.{greatest_integer, name_limit}
use Rattle.ftn_base.specs.Names.{is_name}
use Rattle.ftn_base.specs.declared.name.Edition.TheVariants.{F90}
use Rattle.free_scan.specs.declared.first_form.program.Operand.{Operand}
use Rattle.free_scan.specs.declared.first_form.program.Operand.TheVariants as operands
use Rattle.free_scan.specs.declared.first_form.program.Sum.{Sum}
use Rattle.free_scan.specs.declared.first_form.program.Statement.{Statement}
use Rattle.free_scan.specs.declared.first_form.program.Statement.TheVariants as statements
use Rattle.free_scan.specs.declared.first_form.program.Program.{Program}
use Rattle.free_scan.specs.Spelling.{is_some_row}

abbrev pub operand_names : Operand → List (List ℕ)
operand_names (operands.Variable name) = name ∷ []
operand_names (operands.Whole n) = []

abbrev pub sum_names : Sum → List (List ℕ)
sum_names sum = operand_names sum.first ++ flat_map (λ term. operand_names term.operand) sum.rest

-- the names that a statement refers to, each as often as it does
abbrev pub statement_names : Statement → List (List ℕ)
statement_names (statements.Assign target value) = target ∷ sum_names value
statement_names (statements.Print items) = flat_map sum_names items

abbrev pub operand_fits : Operand → Bool
operand_fits (operands.Variable name) = true
operand_fits (operands.Whole n) = nat_le n greatest_integer

abbrev pub sum_fits : Sum → Bool
sum_fits sum = operand_fits sum.first && list_all (λ term. operand_fits term.operand) sum.rest

-- whole numbers are at most the greatest integer, and a list has an item
abbrev pub statement_fits : Statement → Bool
statement_fits (statements.Assign target value) = sum_fits value
statement_fits (statements.Print items) = is_some_row items && list_all sum_fits items

abbrev pub is_among : List (List ℕ) → List ℕ → Bool
is_among names name = list_any (λ other. bytes_eq other name) names

abbrev pub are_distinct : List (List ℕ) → Bool
are_distinct [] = true
are_distinct (name ∷ names) = not (is_among names name) && are_distinct names

-- a name that is no word of a statement and no intrinsic function
abbrev pub is_free_name : List ℕ → Bool
is_free_name name = is_name (name_limit F90) name && not (is_keyword name) && not (is_intrinsic name)

abbrev pub variables : Program → List (List ℕ)
variables program = flat_map (λ names. names) program.declared

-- the program and its variables have names of their own, and only its variables are referred to
abbrev pub is_clean : Program → Bool
is_clean program =
    list_all is_some_row program.declared
    && list_all statement_fits program.statements
    && list_all is_free_name (program.name ∷ variables program)
    && are_distinct (program.name ∷ variables program)
    && list_all (is_among (variables program)) (flat_map statement_names program.statements)
