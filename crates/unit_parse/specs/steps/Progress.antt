-- One statement after another. It serves the proof of the code.
use Rattle.std.specs.Prelude.{◌≡◌, ◌⊎◌, ℕ, List, [], ◌∷◌, ◌++◌, length, slice_get, Result, Ok, Err}
use Rattle.std.specs.Option.{option_map_or}
use Rattle.ftn_base.specs.declared.fault.FaultKind.{FaultKind}
use Rattle.ftn_base.specs.declared.fault.FaultKind.TheVariants as kinds
use Rattle.ftn_base.specs.declared.place.Range.{Range}
use Rattle.ftn_base.specs.declared.memory.NoMemory.{NoMemory}
use Rattle.ftn_tree.specs.declared.form.Form.{Form}
use Rattle.ftn_tree.specs.declared.mark.Mark.{Mark}
use Rattle.ftn_tree.specs.declared.token.Tokens.{Tokens}
use Rattle.ftn_tree.specs.declared.unit.Statement.{Statement}
use Rattle.ftn_tree.specs.Misfits.{IsDeep}
use Rattle.ftn_tree.specs.Marks.{mark_of}
use Rattle.ftn_tree.specs.NestFaults.{marks_of, same_name}
use Rattle.ftn_tree.specs.FileFaults.{is_statement, row_in, IsRead, AreRead, IsMisread, IsStatementFault, first_bytes, no_bytes}
use Rattle.expr_parse.specs.declared.fault.StatementFault.{StatementFault}
use Rattle.expr_parse.specs.declared.fault.StatementFault.TheVariants as misfit
use Rattle.unit_parse.specs.declared.fault.NestFault.{NestFault}
use Rattle.unit_parse.specs.declared.fault.NestFault.TheVariants as nest
use Rattle.unit_parse.specs.declared.fault.ParseFault.{ParseFault}
use Rattle.unit_parse.specs.declared.fault.ParseFault.TheVariants as fault
use Rattle.unit_parse.specs.declared.statements.Reading.{Reading}
use Rattle.unit_parse.specs.Parsing.{HasNoTree}
use Rattle.unit_parse.specs.Taking.{start, take, take_all}

-- ---- one statement

-- what tokens that are no statement are told to be; want of memory is free
abbrev pub IsMisreadAs : Tokens → Range → StatementFault → Type 0
IsMisreadAs tokens range misfit.NotAStatement = IsMisread tokens range kinds.NotAStatement
IsMisreadAs tokens range misfit.OutOfProfile = IsMisread tokens range kinds.OutOfProfile
IsMisreadAs tokens range misfit.TooDeep = IsMisread tokens range kinds.TooDeep
IsMisreadAs tokens range misfit.NoMemory = Unit {0}

abbrev pub IsForm : Tokens → Range → Result Form StatementFault → Type 0
IsForm tokens range (Ok form) =
    (IsDeep (row_in tokens range) → ⊥) × is_statement form range.start (row_in tokens range)
    × ((other : Form) → is_statement other range.start (row_in tokens range) → other ≡ form)
IsForm tokens range (Err found) = IsMisreadAs tokens range found

-- ---- faults with their places

abbrev pub misread : StatementFault → Range → ParseFault
misread misfit.NotAStatement range = fault.At kinds.NotAStatement range
misread misfit.OutOfProfile range = fault.At kinds.OutOfProfile range
misread misfit.TooDeep range = fault.At kinds.TooDeep range
misread misfit.NoMemory range = fault.NoMemory

abbrev pub refused : NestFault → Range → ParseFault
refused (nest.At kind statement) range = fault.At kind range
refused nest.NoMemory range = fault.NoMemory

abbrev pub bytes_of : Tokens → List Statement → ℕ → Range
bytes_of tokens statements number = option_map_or (λ statement. first_bytes tokens statement.tokens) (slice_get statements number) no_bytes

abbrev pub unfinished : NestFault → Tokens → List Statement → ParseFault
unfinished (nest.At kind statement) tokens statements = fault.At kind (bytes_of tokens statements statement)
unfinished nest.NoMemory tokens statements = fault.NoMemory

-- ---- the statements so far

abbrev pub nothing : Reading
nothing = record { statements = []; nesting = start }

-- the statement comes after them
abbrev pub AddsForm : Reading → Form → Range → Result Mark NoMemory → Reading → Type 0
AddsForm old form range (Ok m) new = (m ≡ mark_of form) × (new ≡ record old { statements = old.statements ++ record { form = form; tokens = range } ∷ [] })
AddsForm old form range (Err found) new = Unit {0}

-- they are what the tokens say and nothing else is, and the nesting took them
pub record Holds (tokens : Tokens) (ranges : List Range) (reading : Reading) : Type 0 where
  pub read : AreRead tokens ranges reading.statements
  pub only : (others : List Statement) → AreRead tokens ranges others → others ≡ reading.statements
  pub taken : take_all (same_name tokens) start 0 (marks_of reading.statements) ≡ Ok reading.nesting

-- the next statement is read, and the nesting takes it
pub record Goes (tokens : Tokens) (range : Range) (old new : Reading) : Type 0 where
  pub statement : Statement
  pub read : IsRead tokens range statement
  pub only : (other : Statement) → IsRead tokens range other → other ≡ statement
  pub statements : new.statements ≡ old.statements ++ statement ∷ []
  pub taken : take (same_name tokens) old.nesting (length old.statements) (mark_of statement.form) ≡ Ok new.nesting

-- the next statement is read, and the nesting refuses it
pub record Stays (tokens : Tokens) (range : Range) (old : Reading) (kind : FaultKind) : Type 0 where
  pub statement : Statement
  pub read : IsRead tokens range statement
  pub only : (other : Statement) → IsRead tokens range other → other ≡ statement
  pub refused : take (same_name tokens) old.nesting (length old.statements) (mark_of statement.form) ≡ Err kind

abbrev pub Stops : Tokens → Range → Reading → ParseFault → Type 0
Stops tokens range old (fault.At kind bytes) = (IsMisread tokens range kind ⊎ Stays tokens range old kind) × (bytes ≡ first_bytes tokens range)
Stops tokens range old fault.NoMemory = Unit {0}

abbrev pub Adds : Tokens → Range → Reading → Result (Unit {0}) ParseFault → Reading → Type 0
Adds tokens range old (Ok done) new = Goes tokens range old new
Adds tokens range old (Err found) new = Stops tokens range old found

-- ---- all statements

abbrev pub StopsAt : Tokens → ParseFault → Type 0
StopsAt tokens (fault.At kind bytes) = IsStatementFault tokens kind bytes × HasNoTree tokens (fault.At kind bytes)
StopsAt tokens fault.NoMemory = Unit {0}

abbrev pub ReadsAll : Tokens → Result Reading ParseFault → Type 0
ReadsAll tokens (Ok reading) = Holds tokens tokens.statements reading
ReadsAll tokens (Err found) = StopsAt tokens found
