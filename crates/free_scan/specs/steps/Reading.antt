-- Reading a program from rows of lexemes: the computation that the code follows.
use Rattle.std.specs.Prelude.{ℕ, Bool, false, ◌&&◌, nat_le, if◌then◌else◌, List, [], ◌∷◌, take, drop, codes, Option, Some, None}
use Rattle.std.specs.List.{prefix_len, slice_split}
use Rattle.std.specs.Option.{option_map}
use Rattle.std.specs.Str.{bytes_eq}
use Rattle.ftn_base.specs.Letters.{folded}
use Rattle.ftn_base.specs.Limits.{greatest_integer, name_limit}
use Rattle.ftn_base.specs.Names.{is_name}
use Rattle.ftn_base.specs.declared.name.Edition.TheVariants.{F90}
use Rattle.free_scan.specs.declared.first_form.program.Operand.{Operand}
use Rattle.free_scan.specs.declared.first_form.program.Operand.TheVariants as operands
use Rattle.free_scan.specs.declared.first_form.program.Sign.{Sign}
use Rattle.free_scan.specs.declared.first_form.program.Sign.TheVariants as signs
use Rattle.free_scan.specs.declared.first_form.program.Term.{Term}
use Rattle.free_scan.specs.declared.first_form.program.Sum.{Sum}
use Rattle.free_scan.specs.declared.first_form.program.Statement.{Statement}
use Rattle.free_scan.specs.declared.first_form.program.Statement.TheVariants as statements
use Rattle.free_scan.specs.declared.first_form.program.Program.{Program}
use Rattle.free_scan.specs.Clean.{is_clean}
use Rattle.free_scan.specs.Spelling.{Lexeme, word, whole, mark}

infixl 10 ◌>>=◌
abbrev pub ◌>>=◌ : {A B : Type 0} → Option A → (A → Option B) → Option B
(Some x) >>= f = f x
None >>= f = None

-- each of a list, if none fails
abbrev pub read_all : {A B : Type 0} → (A → Option B) → List A → Option (List B)
read_all read [] = Some []
read_all read (x ∷ xs) = read x >>= λ y. option_map (λ ys. y ∷ ys) (read_all read xs)

-- the last of a list, and those before it
abbrev pub and_last : {A : Type 0} → A → List A → List A × A
and_last x [] = ([], x)
and_last x (y ∷ ys) = let p = and_last y ys in (x ∷ p.0, p.1)

abbrev pub says_mark : List ℕ → Lexeme → Bool
says_mark text (mark other) = bytes_eq other text
says_mark text (word other) = false
says_mark text (whole n) = false

abbrev pub says_word : List ℕ → Lexeme → Bool
says_word text (word other) = bytes_eq other text
says_word text (mark other) = false
says_word text (whole n) = false

-- a name in lower case, as each word of a token is
abbrev pub is_lower_name : List ℕ → Bool
is_lower_name name = is_name (name_limit F90) name && bytes_eq (folded name) name

abbrev pub word_of : Lexeme → Option (List ℕ)
word_of (word name) = if is_lower_name name then Some name else None
word_of (whole n) = None
word_of (mark text) = None

abbrev pub is_comma : Lexeme → Bool
is_comma lexeme = says_mark (codes ",") lexeme

-- a whole number that a variable may have
abbrev pub fitting : ℕ → Option ℕ
fitting n = if nat_le n greatest_integer then Some n else None

abbrev pub read_operand : Lexeme → Option Operand
read_operand (word name) = option_map (λ found. operands.Variable found) (word_of (word name))
read_operand (whole n) = option_map (λ value. operands.Whole value) (fitting n)
read_operand (mark text) = None

abbrev pub read_sign : Lexeme → Option Sign
read_sign lexeme =
    if says_mark (codes "+") lexeme then Some signs.Plus
    else if says_mark (codes "-") lexeme then Some signs.Minus
    else None

abbrev pub read_term : Lexeme → Lexeme → Option Term
read_term first second = do
  sign ← read_sign first
  operand ← read_operand second
  Some (record { sign = sign; operand = operand })

abbrev pub read_terms : List Lexeme → Option (List Term)
read_terms [] = Some []
read_terms (first ∷ []) = None
read_terms (first ∷ second ∷ rest) = read_term first second >>= λ term. option_map (λ terms. term ∷ terms) (read_terms rest)

unfoldable pub read_sum : List Lexeme → Option Sum
read_sum [] = None
read_sum (first ∷ rest) = do
  operand ← read_operand first
  terms ← read_terms rest
  Some (record { first = operand; rest = terms })

unfoldable pub read_sums : List Lexeme → Option (List Sum)
read_sums row = read_all read_sum (slice_split is_comma row)

abbrev pub read_name : List Lexeme → Option (List ℕ)
read_name [] = None
read_name (first ∷ []) = word_of first
read_name (first ∷ second ∷ rest) = None

unfoldable pub read_names : List Lexeme → Option (List (List ℕ))
read_names row = read_all read_name (slice_split is_comma row)

-- integer ::
abbrev pub is_declaration : List Lexeme → Bool
is_declaration [] = false
is_declaration (first ∷ []) = false
is_declaration (first ∷ second ∷ rest) = says_word (codes "integer") first && says_mark (codes "::") second

unfoldable pub read_declaration : List Lexeme → Option (List (List ℕ))
read_declaration row = if is_declaration row then read_names (drop 2 row) else None

abbrev pub read_assignment : Lexeme → List Lexeme → Option Statement
read_assignment target value = do
  name ← word_of target
  sum ← read_sum value
  Some (statements.Assign name sum)

abbrev pub read_print : List Lexeme → Option Statement
read_print [] = None
read_print (comma ∷ items) = if is_comma comma then option_map (λ sums. statements.Print sums) (read_sums items) else None

unfoldable pub read_statement : List Lexeme → Option Statement
read_statement [] = None
read_statement (first ∷ []) = None
read_statement (first ∷ second ∷ rest) =
    if says_mark (codes "=") second then read_assignment first rest
    else if says_word (codes "print") first && says_mark (codes "*") second then read_print rest
    else None

-- program NAME
abbrev pub read_opening : List Lexeme → Option (List ℕ)
read_opening [] = None
read_opening (first ∷ rest) = if says_word (codes "program") first then read_name rest else None

-- end program NAME
abbrev pub is_closing : List ℕ → List Lexeme → Bool
is_closing name [] = false
is_closing name (first ∷ []) = false
is_closing name (first ∷ second ∷ []) = false
is_closing name (first ∷ second ∷ third ∷ []) = says_word (codes "end") first && says_word (codes "program") second && says_word name third
is_closing name (first ∷ second ∷ third ∷ fourth ∷ rest) = false

-- the declarations, and then the statements
unfoldable pub read_body : List ℕ → List (List Lexeme) → Option Program
read_body name rows = do
  declared ← read_all read_declaration (take (prefix_len is_declaration rows) rows)
  statements ← read_all read_statement (drop (prefix_len is_declaration rows) rows)
  Some (record { name = name; declared = declared; statements = statements })

unfoldable pub read_program : List (List Lexeme) → Option Program
read_program [] = None
read_program (opening ∷ []) = None
read_program (opening ∷ next ∷ rows) = do
  name ← read_opening opening
  if is_closing name (and_last next rows).1 then read_body name (and_last next rows).0 else None

unfoldable pub read_clean : List (List Lexeme) → Option Program
read_clean rows = read_program rows >>= λ program. if is_clean program then Some program else None
