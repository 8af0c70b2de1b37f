-- What is read is spelled so.
use Rattle.std.proofs.Common.{◌≡◌, ℕ, Bool, true, false, cond, List, [], ◌∷◌, ◌++◌, map, take, drop, codes, Option, Some, None, refl, sym, ap, ◌∙◌}
use Rattle.std.specs.Prelude.{nat_le, ◌&&◌}
use Rattle.std.specs.List.{slice_split, onto_first, prefix_len}
use Rattle.std.specs.Option.{option_map}
use Rattle.std.specs.Str.{bytes_eq}
use Rattle.std.proofs.lemmas.Bool.{and_parts}
use Rattle.std.proofs.lemmas.List.{take-append-drop}
use Rattle.std.proofs.lemmas.Slice.Eq.{bytes_eq-Decides}
use Rattle.ftn_base.specs.Limits.{greatest_integer}
use Rattle.std.proofs.lemmas.Option.{same_Some}
use Rattle.free_scan.specs.steps.Reading.{◌>>=◌, and_last, fitting, is_closing, is_comma, is_declaration, is_lower_name, read_all, read_body, read_declaration, read_name, read_names, read_opening, read_operand, read_print, read_program, read_sign, read_statement, read_sum, read_sums, read_term, read_terms, says_mark, says_word, word_of}
use Rattle.free_scan.specs.Spelling.{Lexeme, word, whole, mark, commas, is_some_row, spell_declaration, spell_operand, spell_program, spell_sign, spell_statement, spell_sum, spell_terms}
use Rattle.free_scan.specs.declared.first_form.program.Operand.{Operand}
use Rattle.free_scan.specs.declared.first_form.program.Operand.TheVariants as operands
use Rattle.free_scan.specs.declared.first_form.program.Sign.{Sign}
use Rattle.free_scan.specs.declared.first_form.program.Sign.TheVariants as signs
use Rattle.free_scan.specs.declared.first_form.program.Term.{Term}
use Rattle.free_scan.specs.declared.first_form.program.Sum.{Sum}
use Rattle.free_scan.specs.declared.first_form.program.Statement.{Statement}
use Rattle.free_scan.specs.declared.first_form.program.Statement.TheVariants as statements
use Rattle.free_scan.specs.declared.first_form.program.Program.{Program}
use Rattle.free_scan.proofs.ReadBack.{spell_name}

-- ---- what a step that succeeded says

bound : {A B : Type 0} (o : Option A) (f : A → Option B) (y : B) → (o >>= f) ≡ Some y → (x : A) × (o ≡ Some x) × (f x ≡ Some y)
bound None f y e = absurd cc
bound (Some x) f y e = (x, refl, e)

pub mapped : {A B : Type 0} (f : A → B) (o : Option A) (y : B) → option_map f o ≡ Some y → (x : A) × (o ≡ Some x) × (f x ≡ y)
mapped f None y e = absurd cc
mapped f (Some x) y e = (x, refl, cc)

tested : {A : Type 0} (b : Bool) (o : Option A) (y : A) → cond b o None ≡ Some y → (b ≡ true) × (o ≡ Some y)
tested true o y e = (refl, e)
tested false o y e = absurd cc

same : (a b : List ℕ) → bytes_eq a b ≡ true → a ≡ b
same a b h = (bytes_eq-Decides a b).0 h

marked : (text : List ℕ) (lexeme : Lexeme) → says_mark text lexeme ≡ true → lexeme ≡ mark text
marked text (mark other) h = ap mark (same other text h)
marked text (word other) h = absurd cc
marked text (whole n) h = absurd cc

worded : (text : List ℕ) (lexeme : Lexeme) → says_word text lexeme ≡ true → lexeme ≡ word text
worded text (word other) h = ap word (same other text h)
worded text (mark other) h = absurd cc
worded text (whole n) h = absurd cc

-- ---- operands and sums

word_true : (lexeme : Lexeme) (name : List ℕ) → word_of lexeme ≡ Some name → lexeme ≡ word name
word_true (word other) name e = ap word (same_Some other name (tested (is_lower_name other) (Some other) name e).1)
word_true (whole n) name e = absurd cc
word_true (mark text) name e = absurd cc

operand_true : (lexeme : Lexeme) (operand : Operand) → read_operand lexeme ≡ Some operand → lexeme ≡ spell_operand operand
operand_true (word name) operand e =
    let found = mapped (λ n. operands.Variable n) (word_of (word name)) operand e in
    word_true (word name) found.0 found.1 ∙ ap spell_operand found.2
operand_true (whole n) operand e =
    let found = mapped (λ value. operands.Whole value) (fitting n) operand e in
    let fits = tested (nat_le n greatest_integer) (Some n) found.0 found.1 in
    ap whole (same_Some n found.0 fits.1) ∙ ap spell_operand found.2
operand_true (mark text) operand e = absurd cc

sign_cases : (lexeme : Lexeme) (sign : Sign) (plus minus : Bool) → (plus ≡ true → lexeme ≡ mark (codes "+")) → (minus ≡ true → lexeme ≡ mark (codes "-"))
    → cond plus (Some signs.Plus) (cond minus (Some signs.Minus) None) ≡ Some sign → lexeme ≡ spell_sign sign
sign_cases lexeme sign true minus p m e = p refl ∙ ap spell_sign (same_Some signs.Plus sign e)
sign_cases lexeme sign false true p m e = m refl ∙ ap spell_sign (same_Some signs.Minus sign e)
sign_cases lexeme sign false false p m e = absurd cc

sign_true : (lexeme : Lexeme) (sign : Sign) → read_sign lexeme ≡ Some sign → lexeme ≡ spell_sign sign
sign_true lexeme sign e =
    sign_cases lexeme sign (says_mark (codes "+") lexeme) (says_mark (codes "-") lexeme) (marked (codes "+") lexeme) (marked (codes "-") lexeme) e

abbrev spell_term : Term → List Lexeme
spell_term term = spell_sign term.sign ∷ spell_operand term.operand ∷ []

term_true : (first second : Lexeme) (term : Term) → read_term first second ≡ Some term → first ∷ second ∷ [] ≡ spell_term term
term_true first second term e =
    let a = bound (read_sign first) (λ sign. read_operand second >>= λ operand. Some (record { sign = sign; operand = operand })) term e in
    let b = bound (read_operand second) (λ operand. Some (record { sign = a.0; operand = operand })) term a.2 in
    let made : Term = record { sign = a.0; operand = b.0 } in
    ap (λ x. x ∷ second ∷ []) (sign_true first a.0 a.1) ∙ ap (λ x. spell_sign a.0 ∷ x ∷ []) (operand_true second b.0 b.1) ∙ ap spell_term (same_Some made term b.2)

terms_true : (row : List Lexeme) (terms : List Term) → read_terms row ≡ Some terms → row ≡ spell_terms terms
terms_true [] terms e = ap spell_terms (same_Some [] terms e)
terms_true (first ∷ []) terms e = absurd cc
terms_true (first ∷ second ∷ rest) terms e =
    let a = bound (read_term first second) (λ term. option_map (λ ts. term ∷ ts) (read_terms rest)) terms e in
    let b = mapped (λ ts. a.0 ∷ ts) (read_terms rest) terms a.2 in
    ap (λ front. front ++ rest) (term_true first second a.0 a.1) ∙ ap (λ back. spell_term a.0 ++ back) (terms_true rest b.0 b.1) ∙ ap spell_terms b.2

sum_true : (row : List Lexeme) (sum : Sum) → read_sum row ≡ Some sum → row ≡ spell_sum sum
unfolding read_sum
sum_true [] sum e = absurd cc
sum_true (first ∷ rest) sum e =
    let a = bound (read_operand first) (λ operand. read_terms rest >>= λ terms. Some (record { first = operand; rest = terms })) sum e in
    let b = bound (read_terms rest) (λ terms. Some (record { first = a.0; rest = terms })) sum a.2 in
    let made : Sum = record { first = a.0; rest = b.0 } in
    ap (λ x. x ∷ rest) (operand_true first a.0 a.1) ∙ ap (λ xs. spell_operand a.0 ∷ xs) (terms_true rest b.0 b.1) ∙ ap spell_sum (same_Some made sum b.2)

-- ---- lists with commas between

some_step : (b : Bool) (x : Lexeme) (parts : List (List Lexeme)) → is_some_row (cond b ([] ∷ parts) (onto_first x parts)) ≡ true
some_step true x parts = refl
some_step false x [] = refl
some_step false x (part ∷ parts) = refl

some_split : (row : List Lexeme) → is_some_row (slice_split is_comma row) ≡ true
some_split [] = refl
some_split (x ∷ xs) = some_step (is_comma x) x (slice_split is_comma xs)

join_step : (b : Bool) (x : Lexeme) (parts : List (List Lexeme)) (row : List Lexeme) → is_some_row parts ≡ true → commas parts ≡ row → (b ≡ true → x ≡ mark (codes ","))
    → commas (cond b ([] ∷ parts) (onto_first x parts)) ≡ x ∷ row
join_step b x [] row some joined comma = absurd cc
join_step true x (part ∷ parts) row some joined comma = ap (λ y. y ∷ commas (part ∷ parts)) (sym (comma refl)) ∙ ap (λ ys. x ∷ ys) joined
join_step false x (part ∷ []) row some joined comma = ap (λ ys. x ∷ ys) joined
join_step false x (part ∷ next ∷ parts) row some joined comma = ap (λ ys. x ∷ ys) joined

split_joined : (row : List Lexeme) → commas (slice_split is_comma row) ≡ row
split_joined [] = refl
split_joined (x ∷ xs) = join_step (is_comma x) x (slice_split is_comma xs) xs (some_split xs) (split_joined xs) (marked (codes ",") x)

each_true : {A B : Type 0} (spell : A → B) (read : B → Option A) (true_of : (b : B) (a : A) → read b ≡ Some a → b ≡ spell a) (bs : List B) (xs : List A)
    → read_all read bs ≡ Some xs → bs ≡ map spell xs
each_true spell read true_of [] xs e = ap (map spell) (same_Some [] xs e)
each_true spell read true_of (b ∷ bs) xs e =
    let p = bound (read b) (λ y. option_map (λ ys. y ∷ ys) (read_all read bs)) xs e in
    let q = mapped (λ ys. p.0 ∷ ys) (read_all read bs) xs p.2 in
    ap (λ x. x ∷ bs) (true_of b p.0 p.1) ∙ ap (λ more. spell p.0 ∷ more) (each_true spell read true_of bs q.0 q.1) ∙ ap (map spell) q.2

sums_true : (row : List Lexeme) (sums : List Sum) → read_sums row ≡ Some sums → row ≡ commas (map spell_sum sums)
unfolding read_sums
sums_true row sums e = sym (split_joined row) ∙ ap commas (each_true spell_sum read_sum sum_true (slice_split is_comma row) sums e)

name_true : (row : List Lexeme) (name : List ℕ) → read_name row ≡ Some name → row ≡ spell_name name
name_true [] name e = absurd cc
name_true (first ∷ []) name e = ap (λ x. x ∷ []) (word_true first name e)
name_true (first ∷ second ∷ rest) name e = absurd cc

names_true : (row : List Lexeme) (names : List (List ℕ)) → read_names row ≡ Some names → row ≡ commas (map spell_name names)
unfolding read_names
names_true row names e = sym (split_joined row) ∙ ap commas (each_true spell_name read_name name_true (slice_split is_comma row) names e)

-- ---- rows

declaration_true : (row : List Lexeme) (names : List (List ℕ)) → read_declaration row ≡ Some names → row ≡ spell_declaration names
unfolding read_declaration
declaration_true [] names e = absurd cc
declaration_true (first ∷ []) names e = absurd cc
declaration_true (first ∷ second ∷ rest) names e =
    let t = tested (is_declaration (first ∷ second ∷ rest)) (read_names rest) names e in
    let h = and_parts (says_word (codes "integer") first) (says_mark (codes "::") second) t.0 in
    ap (λ x. x ∷ second ∷ rest) (worded (codes "integer") first h.0)
    ∙ ap (λ x. word (codes "integer") ∷ x ∷ rest) (marked (codes "::") second h.1)
    ∙ ap (λ xs. word (codes "integer") ∷ mark (codes "::") ∷ xs) (names_true rest names t.1)

print_true : (row : List Lexeme) (statement : Statement) → read_print row ≡ Some statement → word (codes "print") ∷ mark (codes "*") ∷ row ≡ spell_statement statement
print_true [] statement e = absurd cc
print_true (comma ∷ items) statement e =
    let t = tested (is_comma comma) (option_map (λ sums. statements.Print sums) (read_sums items)) statement e in
    let s = mapped (λ sums. statements.Print sums) (read_sums items) statement t.1 in
    ap (λ x. word (codes "print") ∷ mark (codes "*") ∷ x ∷ items) (marked (codes ",") comma t.0)
    ∙ ap (λ xs. word (codes "print") ∷ mark (codes "*") ∷ mark (codes ",") ∷ xs) (sums_true items s.0 s.1)
    ∙ ap spell_statement s.2

assignment_true : (target : Lexeme) (row : List Lexeme) (statement : Statement)
    → (word_of target >>= λ name. read_sum row >>= λ sum. Some (statements.Assign name sum)) ≡ Some statement → target ∷ mark (codes "=") ∷ row ≡ spell_statement statement
assignment_true target row statement e =
    let a = bound (word_of target) (λ name. read_sum row >>= λ sum. Some (statements.Assign name sum)) statement e in
    let b = bound (read_sum row) (λ sum. Some (statements.Assign a.0 sum)) statement a.2 in
    ap (λ x. x ∷ mark (codes "=") ∷ row) (word_true target a.0 a.1)
    ∙ ap (λ xs. word a.0 ∷ mark (codes "=") ∷ xs) (sum_true row b.0 b.1)
    ∙ ap spell_statement (same_Some (statements.Assign a.0 b.0) statement b.2)

statement_cases : (first second : Lexeme) (rest : List Lexeme) (statement : Statement) (assigns prints : Bool)
    → (assigns ≡ true → second ≡ mark (codes "=")) → (prints ≡ true → first ∷ second ∷ [] ≡ word (codes "print") ∷ mark (codes "*") ∷ [])
    → cond assigns (word_of first >>= λ name. read_sum rest >>= λ sum. Some (statements.Assign name sum)) (cond prints (read_print rest) None) ≡ Some statement
    → first ∷ second ∷ rest ≡ spell_statement statement
statement_cases first second rest statement true prints assign print e = ap (λ x. first ∷ x ∷ rest) (assign refl) ∙ assignment_true first rest statement e
statement_cases first second rest statement false true assign print e = ap (λ front. front ++ rest) (print refl) ∙ print_true rest statement e
statement_cases first second rest statement false false assign print e = absurd cc

printing : (first second : Lexeme) → (says_word (codes "print") first && says_mark (codes "*") second) ≡ true → first ∷ second ∷ [] ≡ word (codes "print") ∷ mark (codes "*") ∷ []
printing first second e =
    let h = and_parts (says_word (codes "print") first) (says_mark (codes "*") second) e in
    ap (λ x. x ∷ second ∷ []) (worded (codes "print") first h.0) ∙ ap (λ x. word (codes "print") ∷ x ∷ []) (marked (codes "*") second h.1)

statement_true : (row : List Lexeme) (statement : Statement) → read_statement row ≡ Some statement → row ≡ spell_statement statement
unfolding read_statement
statement_true [] statement e = absurd cc
statement_true (first ∷ []) statement e = absurd cc
statement_true (first ∷ second ∷ rest) statement e =
    statement_cases first second rest statement (says_mark (codes "=") second) (says_word (codes "print") first && says_mark (codes "*") second) (marked (codes "=") second) (printing first second) e

opening_true : (row : List Lexeme) (name : List ℕ) → read_opening row ≡ Some name → row ≡ word (codes "program") ∷ word name ∷ []
opening_true [] name e = absurd cc
opening_true (first ∷ rest) name e =
    let t = tested (says_word (codes "program") first) (read_name rest) name e in
    ap (λ x. x ∷ rest) (worded (codes "program") first t.0) ∙ ap (λ xs. word (codes "program") ∷ xs) (name_true rest name t.1)

abbrev ending : List ℕ → List Lexeme
ending name = word (codes "end") ∷ word (codes "program") ∷ word name ∷ []

closing_true : (name : List ℕ) (row : List Lexeme) → is_closing name row ≡ true → row ≡ ending name
closing_true name [] h = absurd cc
closing_true name (first ∷ []) h = absurd cc
closing_true name (first ∷ second ∷ []) h = absurd cc
closing_true name (first ∷ second ∷ third ∷ []) h =
    let p = and_parts (says_word (codes "end") first && says_word (codes "program") second) (says_word name third) h in
    let q = and_parts (says_word (codes "end") first) (says_word (codes "program") second) p.0 in
    ap (λ x. x ∷ second ∷ third ∷ []) (worded (codes "end") first q.0)
    ∙ ap (λ x. word (codes "end") ∷ x ∷ third ∷ []) (worded (codes "program") second q.1)
    ∙ ap (λ x. word (codes "end") ∷ word (codes "program") ∷ x ∷ []) (worded name third p.1)
closing_true name (first ∷ second ∷ third ∷ fourth ∷ rest) h = absurd cc

abbrev spell_body : Program → List (List Lexeme)
spell_body program = map spell_declaration program.declared ++ map spell_statement program.statements

body_true : (name : List ℕ) (rows : List (List Lexeme)) (program : Program) → read_body name rows ≡ Some program → (rows ≡ spell_body program) × (name ≡ program.name)
unfolding read_body
body_true name rows program e =
    let n = prefix_len is_declaration rows in
    let a = bound (read_all read_declaration (take n rows)) (λ ds. read_all read_statement (drop n rows) >>= λ ss. Some (record { name = name; declared = ds; statements = ss })) program e in
    let b = bound (read_all read_statement (drop n rows)) (λ ss. Some (record { name = name; declared = a.0; statements = ss })) program a.2 in
    let made : Program = record { name = name; declared = a.0; statements = b.0 } in
    let is : made ≡ program = same_Some made program b.2 in (
      sym (take-append-drop n rows)
          ∙ ap (λ front. front ++ drop n rows) (each_true spell_declaration read_declaration declaration_true (take n rows) a.0 a.1)
          ∙ ap (λ back. map spell_declaration a.0 ++ back) (each_true spell_statement read_statement statement_true (drop n rows) b.0 b.1)
          ∙ ap spell_body is,
      ap (λ (p : Program). p.name) is,
    )

last_joined : {A : Type 0} (x : A) (xs : List A) → (and_last x xs).0 ++ (and_last x xs).1 ∷ [] ≡ x ∷ xs
last_joined x [] = refl
last_joined x (y ∷ ys) = ap (λ zs. x ∷ zs) (last_joined y ys)

-- What is read is spelled so.
pub program_true : (rows : List (List Lexeme)) (program : Program) → read_program rows ≡ Some program → rows ≡ spell_program program
unfolding read_program
program_true [] program e = absurd cc
program_true (opening ∷ []) program e = absurd cc
program_true (opening ∷ next ∷ rows) program e =
    let parts = and_last next rows in
    let a = bound (read_opening opening) (λ name. cond (is_closing name parts.1) (read_body name parts.0) None) program e in
    let t = tested (is_closing a.0 parts.1) (read_body a.0 parts.0) program a.2 in
    let body = body_true a.0 parts.0 program t.1 in
    ap (λ row. row ∷ next ∷ rows) (opening_true opening a.0 a.1 ∙ ap (λ name. word (codes "program") ∷ word name ∷ []) body.1)
    ∙ ap (λ rest. (word (codes "program") ∷ word program.name ∷ []) ∷ rest)
    (sym (last_joined next rows)
    ∙ ap (λ row. parts.0 ++ row ∷ []) (closing_true a.0 parts.1 t.0 ∙ ap ending body.1)
    ∙ ap (λ front. front ++ ending program.name ∷ []) body.0)
