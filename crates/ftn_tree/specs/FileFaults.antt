-- The statements of a file as its tokens give them, and what is wrong with a file first.
use Rattle.std.specs.Prelude.{◌≡◌, ◌⊎◌, ◌+◌, ◌-◌, ℕ, true, false, List, [], ◌∷◌, ◌++◌, length, take, drop, slice_get, Some}
use Rattle.std.specs.Option.{option_map_or}
use Rattle.ftn_base.specs.declared.fault.FaultKind.{FaultKind}
use Rattle.ftn_base.specs.declared.fault.FaultKind.TheVariants as kinds
use Rattle.ftn_base.specs.declared.name.Edition.{Edition}
use Rattle.ftn_base.specs.declared.place.Range.{Range}
use Rattle.ftn_tree.specs.declared.form.Form.{Form}
use Rattle.ftn_tree.specs.declared.token.Token.{Token}
use Rattle.ftn_tree.specs.declared.token.Tokens.{Tokens}
use Rattle.ftn_tree.specs.declared.unit.FileTree.{FileTree}
use Rattle.ftn_tree.specs.declared.unit.Statement.{Statement}
use Rattle.ftn_tree.specs.Phrases.{Phrase}
use Rattle.ftn_tree.specs.Misfits.{IsDeep, is_outside}
use Rattle.ftn_tree.specs.Specifications.{is_specification}
use Rattle.ftn_tree.specs.ExecutableForms.{is_executable}
use Rattle.ftn_tree.specs.Nesting.{Nested, Begins}
use Rattle.ftn_tree.specs.NestFaults.{IsRefused, IsUnfinished, marks_of, same_name}
use Rattle.ftn_tree.specs.Reading.{tokens_of}
use Rattle.ftn_tree.specs.Breaks.{IsBreak, breaches_of}

-- ---- one statement

-- a form, and exactly the tokens of its statement
abbrev pub is_statement : Form → Phrase
is_statement form at row = is_specification form at row ⊎ is_executable form at row

-- the tokens of a range of numbers, as far as they are there
abbrev pub row_in : Tokens → Range → List Token
row_in tokens range = take (range.end - range.start) (drop range.start tokens.items)

-- the statement is what these tokens say
pub record IsRead (tokens : Tokens) (range : Range) (statement : Statement) : Type 0 where
  pub place : statement.tokens ≡ range
  pub shallow : IsDeep (row_in tokens range) → ⊥
  pub says : is_statement statement.form range.start (row_in tokens range)

abbrev pub AreRead : Tokens → List Range → List Statement → Type 0
AreRead tokens [] [] = Unit {0}
AreRead tokens [] (statement ∷ statements) = ⊥
AreRead tokens (range ∷ ranges) [] = ⊥
AreRead tokens (range ∷ ranges) (statement ∷ statements) = IsRead tokens range statement × AreRead tokens ranges statements

-- no form fits these tokens
abbrev pub SaysNothing : Tokens → Range → Type 0
SaysNothing tokens range = (form : Form) → is_statement form range.start (row_in tokens range) → ⊥

-- the tokens are no statement, for that reason
abbrev pub IsMisread : Tokens → Range → FaultKind → Type 0
IsMisread tokens range kinds.TooDeep = IsDeep (row_in tokens range)
IsMisread tokens range kinds.OutOfProfile = (IsDeep (row_in tokens range) → ⊥) × SaysNothing tokens range × (is_outside (row_in tokens range) ≡ true)
IsMisread tokens range kinds.NotAStatement = (IsDeep (row_in tokens range) → ⊥) × SaysNothing tokens range × (is_outside (row_in tokens range) ≡ false)
IsMisread tokens range other = ⊥

-- ---- a file

-- the file's statements are what its tokens say, and its units are what they make
pub record IsFileTree (tokens : Tokens) (tree : FileTree) : Type 0 where
  pub tokens_are : tree.tokens ≡ tokens
  pub read : AreRead tokens tokens.statements tree.statements
  pub nested : Nested (same_name tokens) (marks_of tree.statements) tree.units

-- where a statement begins: the bytes of its first token
abbrev pub no_bytes : Range
no_bytes = record { start = 0; end = 0 }

abbrev pub first_bytes : Tokens → Range → Range
first_bytes tokens range = option_map_or (λ token. token.range) (slice_get tokens.items range.start) no_bytes

-- the statements before it are read and begin a file; it is no statement, or one that may not stand there
pub record IsStatementFault (tokens : Tokens) (kind : FaultKind) (bytes : Range) : Type 0 where
  pub before : List Range
  pub here : Range
  pub after : List Range
  pub whole : tokens.statements ≡ before ++ here ∷ after
  pub statements : List Statement
  pub read : AreRead tokens before statements
  pub begins : Begins (same_name tokens) (marks_of statements)
  pub fault : IsMisread tokens here kind
      ⊎ ((statement : Statement) × IsRead tokens here statement × IsRefused (same_name tokens) (marks_of (statements ++ statement ∷ [])) kind (length statements))
  pub place : bytes ≡ first_bytes tokens here

-- all statements are read and begin a file, and the innermost opening has no ending
pub record IsEndFault (tokens : Tokens) (kind : FaultKind) (bytes : Range) : Type 0 where
  pub statements : List Statement
  pub read : AreRead tokens tokens.statements statements
  pub at : ℕ
  pub unfinished : IsUnfinished (same_name tokens) (marks_of statements) kind at
  pub opening : Statement
  pub opened : slice_get statements at ≡ Some opening
  pub place : bytes ≡ first_bytes tokens opening.tokens

-- the first fault of a file whose text breaks no rule of its form
abbrev pub IsTreeFault : Tokens → FaultKind → Range → Type 0
IsTreeFault tokens kind bytes = IsStatementFault tokens kind bytes ⊎ IsEndFault tokens kind bytes

-- the first fault of a text, and where: the bytes of the statement's first token, or the one byte at which the text breaks a rule of source form
abbrev pub IsTextFault : Edition → List ℕ → FaultKind → Range → Type 0
IsTextFault edition text kind bytes =
    ((at : ℕ) × IsBreak edition text at kind × (bytes ≡ record { start = at; end = at + 1 })) ⊎ ((breaches_of edition text ≡ []) × IsTreeFault (tokens_of text) kind bytes)

-- the text has no fault, and this is its tree
abbrev pub IsTreeOf : Edition → List ℕ → FileTree → Type 0
IsTreeOf edition text tree = (breaches_of edition text ≡ []) × IsFileTree (tokens_of text) tree
