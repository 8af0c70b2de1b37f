-- The words of a clean program are names, its numbers fit, and its lists are not empty.
use Rattle.std.proofs.Common.{◌≡◌, ℕ, Bool, true, false, List, [], ◌∷◌, ◌++◌, map, codes, refl, subst}
use Rattle.std.specs.Prelude.{nat_le, ◌&&◌, ◌||◌, not}
use Rattle.std.specs.List.{AllByRecursion, flat_map, list_all}
use Rattle.std.specs.Str.{bytes_eq}
use Rattle.std.proofs.lemmas.Bool.{and_parts, and_from}
use Rattle.std.proofs.lemmas.List.Concat.{flat_map-cons}
use Rattle.std.proofs.lemmas.Slice.Eq.{bytes_eq-Decides}
use Rattle.ftn_base.specs.Keywords.{is_keyword, is_intrinsic}
use Rattle.ftn_base.specs.Letters.{folded}
use Rattle.ftn_base.specs.Limits.{greatest_integer, name_limit}
use Rattle.ftn_base.specs.Names.{is_name}
use Rattle.ftn_base.specs.declared.name.Edition.TheVariants.{F90}
use Rattle.free_scan.specs.Clean.{are_distinct, is_among, is_clean, is_free_name, operand_fits, operand_names, statement_fits, statement_names, sum_fits, sum_names, variables}
use Rattle.free_scan.specs.Spelling.{Lexeme, word, whole, mark, commas, is_some_row, spell_declaration, spell_operand, spell_program, spell_sign, spell_statement, spell_sum, spell_terms}
use Rattle.free_scan.specs.declared.first_form.program.Operand.{Operand}
use Rattle.free_scan.specs.declared.first_form.program.Operand.TheVariants as operands
use Rattle.free_scan.specs.declared.first_form.program.Sign.{Sign}
use Rattle.free_scan.specs.declared.first_form.program.Sign.TheVariants as signs
use Rattle.free_scan.specs.declared.first_form.program.Term.{Term}
use Rattle.free_scan.specs.declared.first_form.program.Sum.{Sum}
use Rattle.free_scan.specs.declared.first_form.program.Statement.{Statement}
use Rattle.free_scan.specs.declared.first_form.program.Statement.TheVariants as statements
use Rattle.free_scan.specs.declared.first_form.program.Program.{Program}
use Rattle.free_scan.proofs.LowerRows.{IsLower}
use Rattle.free_scan.proofs.ReadBack.{Filled, Good, IsFilled, IsGood, all_back, all_front, spell_name}

abbrev Named : List ℕ → Type 0
Named name = is_name (name_limit F90) name ≡ true

abbrev AllNamed : List (List ℕ) → Type 0
AllNamed names = AllByRecursion Named names

abbrev pub IsClean : Lexeme → Type 0
IsClean (word name) = Named name
IsClean (whole n) = nat_le n greatest_integer ≡ true
IsClean (mark text) = Unit {0}

abbrev Clean : List Lexeme → Type 0
Clean row = AllByRecursion IsClean row

all_join : {A : Type 0} (P : A → Type 0) (xs ys : List A) → AllByRecursion P xs → AllByRecursion P ys → AllByRecursion P (xs ++ ys)
all_join P [] ys ps qs = qs
all_join P (x ∷ xs) ys ps qs = (ps.0, all_join P xs ys ps.1 qs)

-- the names in the first and in the others
parted : {A : Type 0} (f : A → List (List ℕ)) (x : A) (xs : List A) → AllNamed (flat_map f (x ∷ xs)) → AllNamed (f x) × AllNamed (flat_map f xs)
parted f x xs h =
    let g = subst (λ names. AllNamed names) (flat_map-cons f x xs) h in
    (all_front Named (f x) (flat_map f xs) g, all_back Named (f x) (flat_map f xs) g)

operand_clean : (operand : Operand) → AllNamed (operand_names operand) → operand_fits operand ≡ true → IsClean (spell_operand operand)
operand_clean (operands.Variable name) named fits = named.0
operand_clean (operands.Whole n) named fits = fits

sign_clean : (sign : Sign) → IsClean (spell_sign sign)
sign_clean signs.Plus = tt
sign_clean signs.Minus = tt

terms_clean : (terms : List Term) → AllNamed (flat_map (λ term. operand_names term.operand) terms) → list_all (λ term. operand_fits term.operand) terms ≡ true → Clean (spell_terms terms)
terms_clean [] named fits = tt
terms_clean (term ∷ terms) named fits =
    let n = parted (λ (t : Term). operand_names t.operand) term terms named in
    let f = and_parts (operand_fits term.operand) (list_all (λ t. operand_fits t.operand) terms) fits in
    (sign_clean term.sign, (operand_clean term.operand n.0 f.0, terms_clean terms n.1 f.1))

sum_clean : (sum : Sum) → AllNamed (sum_names sum) → sum_fits sum ≡ true → Clean (spell_sum sum)
sum_clean sum named fits =
    let others = flat_map (λ (term : Term). operand_names term.operand) sum.rest in
    let f = and_parts (operand_fits sum.first) (list_all (λ t. operand_fits t.operand) sum.rest) fits in
    (operand_clean sum.first (all_front Named (operand_names sum.first) others named) f.0, terms_clean sum.rest (all_back Named (operand_names sum.first) others named) f.1)

sums_clean : (sums : List Sum) → AllNamed (flat_map sum_names sums) → list_all sum_fits sums ≡ true → Clean (commas (map spell_sum sums))
sums_clean [] named fits = tt
sums_clean (sum ∷ []) named fits = sum_clean sum (parted sum_names sum [] named).0 (and_parts (sum_fits sum) true fits).0
sums_clean (sum ∷ next ∷ sums) named fits =
    let n = parted sum_names sum (next ∷ sums) named in
    let f = and_parts (sum_fits sum) (list_all sum_fits (next ∷ sums)) fits in
    all_join IsClean (spell_sum sum) (mark (codes ",") ∷ commas (map spell_sum (next ∷ sums))) (sum_clean sum n.0 f.0) (tt, sums_clean (next ∷ sums) n.1 f.1)

statement_clean : (statement : Statement) → AllNamed (statement_names statement) → statement_fits statement ≡ true → Clean (spell_statement statement)
statement_clean (statements.Assign target value) named fits = (named.0, (tt, sum_clean value named.1 fits))
statement_clean (statements.Print items) named fits =
    let f = and_parts (is_some_row items) (list_all sum_fits items) fits in
    (refl, (tt, (tt, sums_clean items named f.1)))

statement_filled : (statement : Statement) → statement_fits statement ≡ true → IsFilled statement
statement_filled (statements.Assign target value) fits = tt
statement_filled (statements.Print items) fits = (and_parts (is_some_row items) (list_all sum_fits items) fits).0

names_clean : (names : List (List ℕ)) → AllNamed names → Clean (commas (map spell_name names))
names_clean [] named = tt
names_clean (name ∷ []) named = (named.0, tt)
names_clean (name ∷ next ∷ names) named = (named.0, (tt, names_clean (next ∷ names) named.1))

declared_clean : (declared : List (List (List ℕ))) → AllNamed (flat_map (λ names. names) declared) → AllByRecursion Clean (map spell_declaration declared)
declared_clean [] named = tt
declared_clean (names ∷ declared) named =
    let n = parted (λ (some : List (List ℕ)). some) names declared named in
    ((refl, (tt, names_clean names n.0)), declared_clean declared n.1)

stated_clean : (stated : List Statement) → AllNamed (flat_map statement_names stated) → list_all statement_fits stated ≡ true → AllByRecursion Clean (map spell_statement stated)
stated_clean [] named fits = tt
stated_clean (statement ∷ stated) named fits =
    let n = parted statement_names statement stated named in
    let f = and_parts (statement_fits statement) (list_all statement_fits stated) fits in
    (statement_clean statement n.0 f.0, stated_clean stated n.1 f.1)

stated_filled : (stated : List Statement) → list_all statement_fits stated ≡ true → AllByRecursion IsFilled stated
stated_filled [] fits = tt
stated_filled (statement ∷ stated) fits =
    let f = and_parts (statement_fits statement) (list_all statement_fits stated) fits in (statement_filled statement f.0, stated_filled stated f.1)

declared_filled : (declared : List (List (List ℕ))) → list_all is_some_row declared ≡ true → AllByRecursion (λ names. is_some_row names ≡ true) declared
declared_filled [] some = tt
declared_filled (names ∷ declared) some =
    let f = and_parts (is_some_row names) (list_all is_some_row declared) some in (f.0, declared_filled declared f.1)

free_named : (names : List (List ℕ)) → list_all is_free_name names ≡ true → AllNamed names
free_named [] free = tt
free_named (name ∷ names) free =
    let f = and_parts (is_free_name name) (list_all is_free_name names) free in
    let g = and_parts (is_name (name_limit F90) name && not (is_keyword name)) (not (is_intrinsic name)) f.0 in
    ((and_parts (is_name (name_limit F90) name) (not (is_keyword name)) g.0).0, free_named names f.1)

or_named : (b c : Bool) (other name : List ℕ) → (b ≡ true → other ≡ name) → (c ≡ true → Named name) → Named other → (b || c) ≡ true → Named name
or_named true c other name same more named h = subst (λ n. Named n) (same refl) named
or_named false c other name same more named h = more h

among_named : (names : List (List ℕ)) (name : List ℕ) → AllNamed names → is_among names name ≡ true → Named name
among_named [] name named h = absurd cc
among_named (other ∷ names) name named h =
    or_named (bytes_eq other name) (is_among names name) other name (bytes_eq-Decides other name).0 (among_named names name named.1) named.0 h

used_named : (names used : List (List ℕ)) → AllNamed names → list_all (is_among names) used ≡ true → AllNamed used
used_named names [] named h = tt
used_named names (name ∷ used) named h =
    let f = and_parts (is_among names name) (list_all (is_among names) used) h in (among_named names name named f.0, used_named names used named f.1)

-- what is clean, part by part
record Parts (program : Program) : Type 0 where
  pub some : list_all is_some_row program.declared ≡ true
  pub fits : list_all statement_fits program.statements ≡ true
  pub free : list_all is_free_name (program.name ∷ variables program) ≡ true
  pub used : list_all (is_among (variables program)) (flat_map statement_names program.statements) ≡ true

parts : (program : Program) → is_clean program ≡ true → Parts program
parts program h =
    let some = list_all is_some_row program.declared in
    let fits = list_all statement_fits program.statements in
    let free = list_all is_free_name (program.name ∷ variables program) in
    let apart = are_distinct (program.name ∷ variables program) in
    let used = list_all (is_among (variables program)) (flat_map statement_names program.statements) in
    let a = and_parts (some && fits && free && apart) used h in
    let b = and_parts (some && fits && free) apart a.0 in
    let c = and_parts (some && fits) free b.0 in
    let d = and_parts some fits c.0 in
    record { some = d.0; fits = d.1; free = c.1; used = a.1 }

pub is_filled : (program : Program) → is_clean program ≡ true → Filled program
is_filled program h = let p = parts program h in (declared_filled program.declared p.some, stated_filled program.statements p.fits)

rows_clean : (program : Program) → is_clean program ≡ true → AllByRecursion Clean (spell_program program)
rows_clean program h =
    let p = parts program h in
    let named = free_named (program.name ∷ variables program) p.free in
    let used = used_named (variables program) (flat_map statement_names program.statements) named.1 p.used in
    let ds = map spell_declaration program.declared in
    let ss = map spell_statement program.statements in
    let closing : List Lexeme = word (codes "end") ∷ word (codes "program") ∷ word program.name ∷ [] in (
      (refl, (named.0, tt)),
      all_join Clean (ds ++ ss) (closing ∷ [])
          (all_join Clean ds ss (declared_clean program.declared named.1) (stated_clean program.statements used p.fits))
          ((refl, (refl, (named.0, tt))), tt),
    )

lexeme_good : (lexeme : Lexeme) → IsLower lexeme → IsClean lexeme → IsGood lexeme
lexeme_good (word name) lower clean = and_from (is_name (name_limit F90) name) (bytes_eq (folded name) name) clean lower
lexeme_good (whole n) lower clean = clean
lexeme_good (mark text) lower clean = tt

row_good : (row : List Lexeme) → AllByRecursion IsLower row → Clean row → Good row
row_good [] lower clean = tt
row_good (lexeme ∷ row) lower clean = (lexeme_good lexeme lower.0 clean.0, row_good row lower.1 clean.1)

all_good : (rows : List (List Lexeme)) → AllByRecursion (λ row. AllByRecursion IsLower row) rows → AllByRecursion Clean rows → AllByRecursion Good rows
all_good [] lower clean = tt
all_good (row ∷ rows) lower clean = (row_good row lower.0 clean.0, all_good rows lower.1 clean.1)

pub rows_good : (program : Program) → is_clean program ≡ true → AllByRecursion (λ row. AllByRecursion IsLower row) (spell_program program) → AllByRecursion Good (spell_program program)
rows_good program h lower = all_good (spell_program program) lower (rows_clean program h)
