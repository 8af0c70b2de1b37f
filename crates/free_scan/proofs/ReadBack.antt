-- What is spelled is read back.
use Rattle.std.proofs.Common.{◌≡◌, ℕ, ◌+◌, true, false, cond, List, [], ◌∷◌, ◌++◌, length, map, take, drop, codes, Option, Some, None, refl, ap, ◌∙◌, take_at, drop_at, one-add}
use Rattle.std.specs.Prelude.{nat_le}
use Rattle.std.specs.List.{slice_split, onto_first, prefix_len, AllByRecursion}
use Rattle.std.specs.Option.{option_map}
use Rattle.std.specs.Str.{bytes_eq}
use Rattle.std.proofs.lemmas.Bool.{and_right}
use Rattle.std.proofs.lemmas.Slice.Eq.{bytes_eq-Decides}
use Rattle.ftn_base.specs.Limits.{greatest_integer}
use Rattle.free_scan.specs.steps.Reading.{◌>>=◌, is_closing, is_comma, is_declaration, is_lower_name, read_all, read_body, read_declaration, read_name, read_names, read_operand, read_program, read_sign, read_statement, read_sum, read_sums, read_terms, says_word, word_of}
use Rattle.free_scan.specs.Spelling.{Lexeme, word, whole, mark, commas, is_some_row, spell_declaration, spell_operand, spell_program, spell_sign, spell_statement, spell_sum, spell_terms}
use Rattle.free_scan.specs.declared.first_form.program.Operand.{Operand}
use Rattle.free_scan.specs.declared.first_form.program.Operand.TheVariants as operands
use Rattle.free_scan.specs.declared.first_form.program.Sign.{Sign}
use Rattle.free_scan.specs.declared.first_form.program.Sign.TheVariants as signs
use Rattle.free_scan.specs.declared.first_form.program.Term.{Term}
use Rattle.free_scan.specs.declared.first_form.program.Sum.{Sum}
use Rattle.free_scan.specs.declared.first_form.program.Statement.{Statement}
use Rattle.free_scan.specs.declared.first_form.program.Statement.TheVariants as statements
use Rattle.free_scan.specs.declared.first_form.program.Program.{Program}
use Rattle.free_scan.proofs.Whole.{program_at}

-- a lexeme that reading takes: a name in lower case, a whole number that fits, any mark
abbrev pub IsGood : Lexeme → Type 0
IsGood (word name) = is_lower_name name ≡ true
IsGood (whole n) = nat_le n greatest_integer ≡ true
IsGood (mark text) = Unit {0}

abbrev pub Good : List Lexeme → Type 0
Good row = AllByRecursion IsGood row

pub same_bytes : (bytes : List ℕ) → bytes_eq bytes bytes ≡ true
same_bytes bytes = (bytes_eq-Decides bytes bytes).1 refl

pub all_front : {A : Type 0} (P : A → Type 0) (xs ys : List A) → AllByRecursion P (xs ++ ys) → AllByRecursion P xs
all_front P [] ys h = tt
all_front P (x ∷ xs) ys h = (h.0, all_front P xs ys h.1)

pub all_back : {A : Type 0} (P : A → Type 0) (xs ys : List A) → AllByRecursion P (xs ++ ys) → AllByRecursion P ys
all_back P [] ys h = h
all_back P (x ∷ xs) ys h = all_back P xs ys h.1

word_back : (name : List ℕ) → is_lower_name name ≡ true → word_of (word name) ≡ Some name
word_back name h = ap (λ b. cond b (Some name) None) h

operand_back : (operand : Operand) → IsGood (spell_operand operand) → read_operand (spell_operand operand) ≡ Some operand
operand_back (operands.Variable name) h = ap (option_map (λ found. operands.Variable found)) (word_back name h)
operand_back (operands.Whole n) h = ap (λ b. option_map (λ value. operands.Whole value) (cond b (Some n) None)) h

sign_back : (sign : Sign) → read_sign (spell_sign sign) ≡ Some sign
sign_back signs.Plus = refl
sign_back signs.Minus = refl

terms_back : (terms : List Term) → Good (spell_terms terms) → read_terms (spell_terms terms) ≡ Some terms
terms_back [] h = refl
terms_back (term ∷ terms) h =
    ap (λ o. (o >>= λ sign. read_operand (spell_operand term.operand) >>= λ operand. Some (record { sign = sign; operand = operand })) >>= λ t. option_map (λ ts. t ∷ ts) (read_terms (spell_terms terms))) (sign_back term.sign)
    ∙ ap (λ o. (o >>= λ operand. Some (record { sign = term.sign; operand = operand })) >>= λ t. option_map (λ ts. t ∷ ts) (read_terms (spell_terms terms))) (operand_back term.operand h.1.0)
    ∙ ap (option_map (λ ts. term ∷ ts)) (terms_back terms h.1.1)

pub sum_back : (sum : Sum) → Good (spell_sum sum) → read_sum (spell_sum sum) ≡ Some sum
unfolding read_sum
sum_back sum h =
    ap (λ o. o >>= λ operand. read_terms (spell_terms sum.rest) >>= λ terms. Some (record { first = operand; rest = terms })) (operand_back sum.first h.0)
    ∙ ap (λ o. o >>= λ terms. Some (record { first = sum.first; rest = terms })) (terms_back sum.rest h.1)

-- ---- lists with commas between

abbrev NoComma : List Lexeme → Type 0
NoComma row = AllByRecursion (λ lexeme. is_comma lexeme ≡ false) row

operand_plain : (operand : Operand) → is_comma (spell_operand operand) ≡ false
operand_plain (operands.Variable name) = refl
operand_plain (operands.Whole n) = refl

sign_plain : (sign : Sign) → is_comma (spell_sign sign) ≡ false
sign_plain signs.Plus = refl
sign_plain signs.Minus = refl

terms_plain : (terms : List Term) → NoComma (spell_terms terms)
terms_plain [] = tt
terms_plain (term ∷ terms) = (sign_plain term.sign, (operand_plain term.operand, terms_plain terms))

sum_plain : (sum : Sum) → NoComma (spell_sum sum)
sum_plain sum = (operand_plain sum.first, terms_plain sum.rest)

split_last : (item : List Lexeme) → NoComma item → slice_split is_comma item ≡ item ∷ []
split_last [] h = refl
split_last (x ∷ xs) h =
    ap (λ b. cond b ([] ∷ slice_split is_comma xs) (onto_first x (slice_split is_comma xs))) h.0 ∙ ap (onto_first x) (split_last xs h.1)

split_item : (item rest : List Lexeme) → NoComma item → slice_split is_comma (item ++ mark (codes ",") ∷ rest) ≡ item ∷ slice_split is_comma rest
split_item [] rest h = refl
split_item (x ∷ xs) rest h =
    ap (λ b. cond b ([] ∷ slice_split is_comma (xs ++ mark (codes ",") ∷ rest)) (onto_first x (slice_split is_comma (xs ++ mark (codes ",") ∷ rest)))) h.0
    ∙ ap (onto_first x) (split_item xs rest h.1)

module _ {A : Type 0} (spell : A → List Lexeme) (plain : (a : A) → NoComma (spell a)) where
  split_commas : (a : A) (others : List A) → slice_split is_comma (commas (map spell (a ∷ others))) ≡ map spell (a ∷ others)
  split_commas a [] = split_last (spell a) (plain a)
  split_commas a (b ∷ others) = split_item (spell a) (commas (map spell (b ∷ others))) (plain a) ∙ ap (λ rows. spell a ∷ rows) (split_commas b others)

  good_items : (a : A) (others : List A) → Good (commas (map spell (a ∷ others))) → AllByRecursion Good (map spell (a ∷ others))
  good_items a [] h = (h, tt)
  good_items a (b ∷ others) h =
      (all_front IsGood (spell a) _ h, good_items b others (all_back IsGood (spell a) (mark (codes ",") ∷ commas (map spell (b ∷ others))) h).1)

-- each is read back
each_back : {A B : Type 0} (P : B → Type 0) (spell : A → B) (read : B → Option A) (back : (a : A) → P (spell a) → read (spell a) ≡ Some a) (xs : List A)
    → AllByRecursion P (map spell xs) → read_all read (map spell xs) ≡ Some xs
each_back P spell read back [] h = refl
each_back P spell read back (x ∷ xs) h =
    ap (λ o. o >>= λ y. option_map (λ ys. y ∷ ys) (read_all read (map spell xs))) (back x h.0)
    ∙ ap (option_map (λ ys. x ∷ ys)) (each_back P spell read back xs h.1)

sums_back : (sums : List Sum) → is_some_row sums ≡ true → Good (commas (map spell_sum sums)) → read_sums (commas (map spell_sum sums)) ≡ Some sums
unfolding read_sums
sums_back [] some h = absurd cc
sums_back (sum ∷ sums) some h =
    ap (read_all read_sum) (split_commas spell_sum sum_plain sum sums)
    ∙ each_back Good spell_sum read_sum sum_back (sum ∷ sums) (good_items spell_sum sum_plain sum sums h)

abbrev pub spell_name : List ℕ → List Lexeme
spell_name name = word name ∷ []

name_plain : (name : List ℕ) → NoComma (spell_name name)
name_plain name = (refl, tt)

name_back : (name : List ℕ) → Good (spell_name name) → read_name (spell_name name) ≡ Some name
name_back name h = word_back name h.0

names_back : (names : List (List ℕ)) → is_some_row names ≡ true → Good (commas (map spell_name names)) → read_names (commas (map spell_name names)) ≡ Some names
unfolding read_names
names_back [] some h = absurd cc
names_back (name ∷ names) some h =
    ap (read_all read_name) (split_commas spell_name name_plain name names)
    ∙ each_back Good spell_name read_name name_back (name ∷ names) (good_items spell_name name_plain name names h)

-- ---- rows

declaration_back : (names : List (List ℕ)) → is_some_row names ≡ true → Good (spell_declaration names) → read_declaration (spell_declaration names) ≡ Some names
unfolding read_declaration
declaration_back names some h = names_back names some h.1.1

-- a list has an item
abbrev pub IsFilled : Statement → Type 0
IsFilled (statements.Assign target value) = Unit {0}
IsFilled (statements.Print items) = is_some_row items ≡ true

statement_back : (statement : Statement) → IsFilled statement → Good (spell_statement statement) → read_statement (spell_statement statement) ≡ Some statement
unfolding read_statement
statement_back (statements.Assign target value) some h =
    ap (λ o. o >>= λ name. read_sum (spell_sum value) >>= λ sum. Some (statements.Assign name sum)) (word_back target h.0)
    ∙ ap (λ o. o >>= λ sum. Some (statements.Assign target sum)) (sum_back value h.1.1)
statement_back (statements.Print items) some h = ap (option_map (λ sums. statements.Print sums)) (sums_back items some h.1.1.1)

no_declaration : (statement : Statement) → is_declaration (spell_statement statement) ≡ false
no_declaration (statements.Assign target value) = and_right (says_word (codes "integer") (word target)) false refl
no_declaration (statements.Print items) = refl

none_declared : (stated : List Statement) → prefix_len is_declaration (map spell_statement stated) ≡ 0
none_declared [] = refl
none_declared (statement ∷ stated) = ap (λ b. cond b (1 + prefix_len is_declaration (map spell_statement stated)) 0) (no_declaration statement)

all_declared : (declared : List (List (List ℕ))) (stated : List Statement)
    → prefix_len is_declaration (map spell_declaration declared ++ map spell_statement stated) ≡ length (map spell_declaration declared)
all_declared [] stated = none_declared stated
all_declared (names ∷ declared) stated = ap (λ n. 1 + n) (all_declared declared stated) ∙ one-add (length (map spell_declaration declared))

-- each declared list and each statement with its items
abbrev pub Filled : Program → Type 0
Filled program = AllByRecursion (λ names. is_some_row names ≡ true) program.declared × AllByRecursion IsFilled program.statements

declared_back : (declared : List (List (List ℕ))) → AllByRecursion (λ names. is_some_row names ≡ true) declared → AllByRecursion Good (map spell_declaration declared)
    → read_all read_declaration (map spell_declaration declared) ≡ Some declared
declared_back [] some h = refl
declared_back (names ∷ declared) some h =
    ap (λ o. o >>= λ y. option_map (λ ys. y ∷ ys) (read_all read_declaration (map spell_declaration declared))) (declaration_back names some.0 h.0)
    ∙ ap (option_map (λ ys. names ∷ ys)) (declared_back declared some.1 h.1)

stated_back : (stated : List Statement) → AllByRecursion IsFilled stated → AllByRecursion Good (map spell_statement stated)
    → read_all read_statement (map spell_statement stated) ≡ Some stated
stated_back [] some h = refl
stated_back (statement ∷ stated) some h =
    ap (λ o. o >>= λ y. option_map (λ ys. y ∷ ys) (read_all read_statement (map spell_statement stated))) (statement_back statement some.0 h.0)
    ∙ ap (option_map (λ ys. statement ∷ ys)) (stated_back stated some.1 h.1)

body_back : (program : Program) → Filled program → AllByRecursion Good (map spell_declaration program.declared) → AllByRecursion Good (map spell_statement program.statements)
    → read_body program.name (map spell_declaration program.declared ++ map spell_statement program.statements) ≡ Some program
unfolding read_body
body_back program some good_declared good_stated =
    let ds = map spell_declaration program.declared in
    let ss = map spell_statement program.statements in
    let whole : Option (List (List (List ℕ))) → Option (List Statement) → Option Program = λ declared stated. declared >>= λ d. stated >>= λ s. Some (record { name = program.name; declared = d; statements = s }) in
    ap (λ n. whole (read_all read_declaration (take n (ds ++ ss))) (read_all read_statement (drop n (ds ++ ss)))) (all_declared program.declared program.statements)
    ∙ ap (λ d. whole (read_all read_declaration d) (read_all read_statement (drop (length ds) (ds ++ ss)))) (take_at ds ss (length ds) refl)
    ∙ ap (λ s. whole (read_all read_declaration ds) (read_all read_statement s)) (drop_at ds ss (length ds) refl)
    ∙ ap (λ d. whole d (read_all read_statement ss)) (declared_back program.declared some.0 good_declared)
    ∙ ap (λ s. whole (Some program.declared) s) (stated_back program.statements some.1 good_stated)

-- A program whose words are names in lower case, whose numbers fit and whose lists are not empty is read back.
pub program_back : (program : Program) → Filled program → AllByRecursion Good (spell_program program) → read_program (spell_program program) ≡ Some program
program_back program some h =
    let ds = map spell_declaration program.declared in
    let ss = map spell_statement program.statements in
    let name = program.name in
    let opening : List Lexeme = word (codes "program") ∷ word name ∷ [] in
    let closing : List Lexeme = word (codes "end") ∷ word (codes "program") ∷ word name ∷ [] in
    let good = all_front Good (ds ++ ss) (closing ∷ []) h.1 in
    program_at opening (ds ++ ss) closing
    ∙ ap (λ o. o >>= λ n. cond (is_closing n closing) (read_body n (ds ++ ss)) None) (word_back name h.0.1.0)
    ∙ ap (λ b. cond b (read_body name (ds ++ ss)) None) (same_bytes name)
    ∙ body_back program some (all_front Good ds ss good) (all_back Good ds ss good)
