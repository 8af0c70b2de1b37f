-- A program with one name put for another.
use Rattle.std.specs.Prelude.{ℕ, List, map, if◌then◌else◌}
use Rattle.std.specs.Str.{bytes_eq}
use Rattle.free_scan.specs.declared.first_form.program.Operand.{Operand}
use Rattle.free_scan.specs.declared.first_form.program.Operand.TheVariants as operands
use Rattle.free_scan.specs.declared.first_form.program.Term.{Term}
use Rattle.free_scan.specs.declared.first_form.program.Sum.{Sum}
use Rattle.free_scan.specs.declared.first_form.program.Statement.{Statement}
use Rattle.free_scan.specs.declared.first_form.program.Statement.TheVariants as statements
use Rattle.free_scan.specs.declared.first_form.program.Program.{Program}

-- names by a function on names
abbrev pub map_operand : (List ℕ → List ℕ) → Operand → Operand
map_operand f (operands.Variable name) = operands.Variable (f name)
map_operand f (operands.Whole n) = operands.Whole n

abbrev pub map_term : (List ℕ → List ℕ) → Term → Term
map_term f term = record { sign = term.sign; operand = map_operand f term.operand }

abbrev pub map_sum : (List ℕ → List ℕ) → Sum → Sum
map_sum f sum = record { first = map_operand f sum.first; rest = map (map_term f) sum.rest }

abbrev pub map_statement : (List ℕ → List ℕ) → Statement → Statement
map_statement f (statements.Assign target value) = statements.Assign (f target) (map_sum f value)
map_statement f (statements.Print items) = statements.Print (map (map_sum f) items)

abbrev pub map_program : (List ℕ → List ℕ) → Program → Program
map_program f program = record { name = f program.name; declared = map (map f) program.declared; statements = map (map_statement f) program.statements }

-- the new name for the old one
abbrev pub renamed : List ℕ → List ℕ → List ℕ → List ℕ
renamed old new name = if bytes_eq name old then new else name
