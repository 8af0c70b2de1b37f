-- The grammar of expressions (Fortran 90, 7.1.1, 6.1.1, 6.2.2, 12.4.1): a tree of a level, and exactly its tokens.
use Rattle.std.specs.Prelude.{◌≡◌, ◌≤◌, ℕ, ℤ, pos, Bool, true, false, Some}
use Rattle.ftn_base.specs.Limits.{greatest_integer}
use Rattle.ftn_tree.specs.declared.expr.Expr.{Expr}
use Rattle.ftn_tree.specs.declared.token.Token.{Token}
use Rattle.ftn_tree.specs.declared.lexeme.Lexeme.{Lexeme}
use Rattle.ftn_tree.specs.declared.lexeme.Lexeme.TheVariants as lexeme
use Rattle.ftn_tree.specs.Lexemes.{lexeme_of}
use Rattle.ftn_tree.specs.Levels.{Binding, Prefix, between, before, loosest}
use Rattle.ftn_tree.specs.Trees.{Tree, Trees, Args, Section, End, whole, truth, quoted, paren, unary, binary, refer, no_args, args, none, more, no_section, section, no_end, end, tree_of}
use Rattle.ftn_tree.specs.Phrases.{Phrase, nothing, ◌·◌, token, mark, mark_at, name, in_parens, provided}
use Rattle.ftn_tree.specs.Expressions.{is_reference}
use Rattle.ftn_tree.specs.Breaks.{number_of}

-- the token is an operator that binds so between two operands
abbrev pub IsBetween : Token → Binding → Type 0
IsBetween here how = between (lexeme_of here) ≡ Some how

-- the token is an operator that binds so before an operand
abbrev pub IsBefore : Token → Prefix → Type 0
IsBefore here how = before (lexeme_of here) ≡ Some how

-- the logical constant (4.3.2.2)
abbrev pub truth_lexeme : Bool → Lexeme
truth_lexeme true = lexeme.True
truth_lexeme false = lexeme.False

-- the row of digits means that number (4.3.1.1), which has 32 bits (this project's own)
pub record IsNumber (here : Token) (value : ℤ) : Type 0 where
  pub digits : lexeme_of here ≡ lexeme.Whole
  pub value_is : value ≡ pos (number_of here.value)
  pub small : number_of here.value ≤ greatest_integer

-- the phrase of some level
abbrev pub some_level : (ℕ → Phrase) → Phrase
some_level phrase at tokens = (level : ℕ) × (level ≤ loosest) × phrase level at tokens

abbrev mutual
  pub Spells : Tree → ℕ → Phrase
  Spells (whole number value) level at tokens = (level ≡ 0) × token (λ at here. (number ≡ at) × IsNumber here value) at tokens
  Spells (truth number value) level at tokens = (level ≡ 0) × mark_at number (truth_lexeme value) at tokens
  Spells (quoted number value) level at tokens = (level ≡ 0) × token (λ at here. (number ≡ at) × (lexeme_of here ≡ lexeme.Quoted) × (value ≡ here.value)) at tokens
  Spells (paren number inner) level at tokens = (level ≡ 0) × (mark_at number lexeme.Open · some_level (Spells inner) · mark lexeme.Close) at tokens
  Spells (unary number operator operand) level at tokens =
      (how : Prefix) × (operator ≡ how.operator) × (level ≡ how.level) × (k : ℕ) × (k ≤ how.operand)
      × (token (λ at here. (number ≡ at) × IsBefore here how) · Spells operand k) at tokens
  Spells (binary number operator left right) level at tokens =
      (how : Binding) × (operator ≡ how.operator) × (level ≡ how.level) × (j : ℕ) × (j ≤ how.left) × (k : ℕ) × (k ≤ how.right)
      × (Spells left j · token (λ at here. (number ≡ at) × IsBetween here how) · Spells right k) at tokens
  Spells (refer number given part) level at tokens = (level ≡ 0) × (name number · SpellsArgs given · SpellsSection part) at tokens

  -- the list of subscripts or actual arguments, which may be empty
  pub SpellsArgs : Args → Phrase
  SpellsArgs no_args = nothing
  SpellsArgs (args given) = in_parens (SpellsList given)

  pub SpellsList : Trees → Phrase
  SpellsList none = nothing
  SpellsList (more first rest) = some_level (Spells first) · SpellsMore rest

  pub SpellsMore : Trees → Phrase
  SpellsMore none = nothing
  SpellsMore (more next rest) = mark lexeme.Comma · some_level (Spells next) · SpellsMore rest

  -- the substring range
  pub SpellsSection : Section → Phrase
  SpellsSection no_section = nothing
  SpellsSection (section low high) = in_parens (SpellsEnd low · mark lexeme.Colon · SpellsEnd high)

  pub SpellsEnd : End → Phrase
  SpellsEnd no_end = nothing
  SpellsEnd (end tree) = some_level (Spells tree)

-- an expression, with exactly its tokens
abbrev pub IsExpression : Tree → Phrase
IsExpression tree = some_level (Spells tree)

abbrev pub expr : Expr → Phrase
expr e = IsExpression (tree_of e)

-- a name with what follows it, as a variable is written (6)
abbrev pub reference : Expr → Phrase
reference e = provided (is_reference e) (expr e)
