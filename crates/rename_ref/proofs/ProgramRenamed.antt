-- A renamed program: how it is spelled, and that it is clean.
use Rattle.std.proofs.Common.{◌≡◌, ℕ, Bool, true, List, [], ◌∷◌, ◌++◌, map, flat_map, refl, sym, ap, ◌∙◌, codes}
use Rattle.std.specs.List.{list_all}
use Rattle.std.proofs.lemmas.Bool.{and_parts}
use Rattle.std.proofs.lemmas.List.{map-append}
use Rattle.free_scan.specs.Spelling.{Lexeme, word, mark, commas, spell_operand, spell_sign, spell_terms, spell_sum, spell_statement, spell_declaration, spell_program}
use Rattle.free_scan.specs.Clean.{operand_names, sum_names, statement_names, variables}
use Rattle.free_scan.specs.declared.first_form.program.Operand.{Operand}
use Rattle.free_scan.specs.declared.first_form.program.Operand.TheVariants as operands
use Rattle.free_scan.specs.declared.first_form.program.Sign.{Sign}
use Rattle.free_scan.specs.declared.first_form.program.Sign.TheVariants as signs
use Rattle.free_scan.specs.declared.first_form.program.Term.{Term}
use Rattle.free_scan.specs.declared.first_form.program.Sum.{Sum}
use Rattle.free_scan.specs.declared.first_form.program.Statement.{Statement}
use Rattle.free_scan.specs.declared.first_form.program.Statement.TheVariants as statements
use Rattle.free_scan.specs.declared.first_form.program.Program.{Program}
use Rattle.rename_ref.specs.Renaming.{map_operand, map_term, map_sum, map_statement, map_program}
use Rattle.rename_ref.proofs.TokensRenamed.{map_lexeme}
use Rattle.rename_ref.proofs.Alls.{all_append_parts, all_flat_parts, map_agree, cons_same}

-- ---- spelling

module _ (f : List ℕ → List ℕ) where
  -- a list with commas, with other words
  map_commas : (items : List (List Lexeme)) → map (map_lexeme f) (commas items) ≡ commas (map (map (map_lexeme f)) items)
  map_commas [] = refl
  map_commas (item ∷ []) = refl
  map_commas (item ∷ next ∷ items) =
      map-append (map_lexeme f) item (mark (codes ",") ∷ commas (next ∷ items))
      ∙ ap (λ (rest : List Lexeme). map (map_lexeme f) item ++ (mark (codes ",") ∷ rest)) (map_commas (next ∷ items))

  -- a renamed operand is spelled by the partner
  operand_spelled : (o : Operand) → spell_operand (map_operand f o) ≡ map_lexeme f (spell_operand o)
  operand_spelled (operands.Variable name) = refl
  operand_spelled (operands.Whole n) = refl

  -- a sign stays
  sign_spelled : (s : Sign) → spell_sign s ≡ map_lexeme f (spell_sign s)
  sign_spelled signs.Plus = refl
  sign_spelled signs.Minus = refl

  -- renamed terms are spelled by partners
  terms_spelled : (ts : List Term) → spell_terms (map (map_term f) ts) ≡ map (map_lexeme f) (spell_terms ts)
  terms_spelled [] = refl
  terms_spelled (t ∷ ts) =
      let s : spell_sign t.sign ≡ map_lexeme f (spell_sign t.sign) = sign_spelled t.sign in
      let o : spell_operand (map_operand f t.operand) ≡ map_lexeme f (spell_operand t.operand) = operand_spelled t.operand in
      let r : spell_terms (map (map_term f) ts) ≡ map (map_lexeme f) (spell_terms ts) = terms_spelled ts in
      cons_same s (cons_same o r)

  -- a renamed expression is spelled by partners
  sum_spelled : (s : Sum) → spell_sum (map_sum f s) ≡ map (map_lexeme f) (spell_sum s)
  sum_spelled s = cons_same (operand_spelled s.first) (terms_spelled s.rest)

  -- renamed expressions are spelled by partners
  sums_spelled : (ss : List Sum) → map spell_sum (map (map_sum f) ss) ≡ map (map (map_lexeme f)) (map spell_sum ss)
  sums_spelled [] = refl
  sums_spelled (s ∷ ss) = cons_same (sum_spelled s) (sums_spelled ss)

  -- a name as an item of a list
  abbrev alone : List ℕ → List Lexeme
  alone name = word name ∷ []

  -- renamed names as items
  alone_spelled : (names : List (List ℕ)) → map alone (map f names) ≡ map (map (map_lexeme f)) (map alone names)
  alone_spelled [] = refl
  alone_spelled (name ∷ names) = ap (λ (r : List (List Lexeme)). alone (f name) ∷ r) (alone_spelled names)

  module _ (integer : f (codes "integer") ≡ codes "integer") where
    -- a renamed declaration is spelled by partners
    declaration_spelled : (names : List (List ℕ)) → spell_declaration (map f names) ≡ map (map_lexeme f) (spell_declaration names)
    declaration_spelled names =
        let r : commas (map alone (map f names)) ≡ map (map_lexeme f) (commas (map alone names)) = ap commas (alone_spelled names) ∙ sym (map_commas (map alone names)) in
        cons_same (ap word (sym integer)) (ap (λ (rest : List Lexeme). mark (codes "::") ∷ rest) r)

    -- renamed declarations are spelled by partners
    declarations_spelled : (rows : List (List (List ℕ))) → map spell_declaration (map (map f) rows) ≡ map (map (map_lexeme f)) (map spell_declaration rows)
    declarations_spelled [] = refl
    declarations_spelled (names ∷ rows) = cons_same (declaration_spelled names) (declarations_spelled rows)

  module _ (print : f (codes "print") ≡ codes "print") where
    -- a renamed statement is spelled by partners
    statement_spelled : (s : Statement) → spell_statement (map_statement f s) ≡ map (map_lexeme f) (spell_statement s)
    statement_spelled (statements.Assign target value) = ap (λ (r : List Lexeme). word (f target) ∷ mark (codes "=") ∷ r) (sum_spelled value)
    statement_spelled (statements.Print items) =
        cons_same (ap word (sym print)) (ap (λ (rest : List Lexeme). mark (codes "*") ∷ mark (codes ",") ∷ rest) (ap commas (sums_spelled items) ∙ sym (map_commas (map spell_sum items))))

    -- renamed statements are spelled by partners
    statements_spelled : (ss : List Statement) → map spell_statement (map (map_statement f) ss) ≡ map (map (map_lexeme f)) (map spell_statement ss)
    statements_spelled [] = refl
    statements_spelled (s ∷ ss) = cons_same (statement_spelled s) (statements_spelled ss)

  -- the row that ends a program
  abbrev last_row : List ℕ → List ℕ → List ℕ → List Lexeme
  last_row end program name = word end ∷ word program ∷ word name ∷ []

  -- A renamed program is spelled by the partners of the words, where the words of statements stay.
  pub spelled_renamed : f (codes "program") ≡ codes "program" → f (codes "integer") ≡ codes "integer" → f (codes "print") ≡ codes "print" → f (codes "end") ≡ codes "end"
      → (p : Program) → spell_program (map_program f p) ≡ map (map (map_lexeme f)) (spell_program p)
  spelled_renamed program integer print end p =
      let g : List (List Lexeme) → List (List Lexeme) = map (map (map_lexeme f)) in
      let ds : List (List Lexeme) = map spell_declaration p.declared in
      let ss : List (List Lexeme) = map spell_statement p.statements in
      let last : last_row (codes "end") (codes "program") (f p.name) ≡ last_row (f (codes "end")) (f (codes "program")) (f p.name) = rows (sym end) (sym program) in
      let whole : map (map (map_lexeme f)) ((ds ++ ss) ++ (last_row (codes "end") (codes "program") p.name ∷ [])) ≡ (map (map (map_lexeme f)) ds ++ map (map (map_lexeme f)) ss) ++ (last_row (f (codes "end")) (f (codes "program")) (f p.name) ∷ []) =
      map-append (map (map_lexeme f)) (ds ++ ss) (last_row (codes "end") (codes "program") p.name ∷ [])
      ∙ ap (λ (r : List (List Lexeme)). r ++ (last_row (f (codes "end")) (f (codes "program")) (f p.name) ∷ [])) (map-append (map (map_lexeme f)) ds ss) in
      joined (ap word (sym program)) (declarations_spelled integer p.declared) (statements_spelled print p.statements) last whole
    where
      rows : {a b c d : List ℕ} {n : List ℕ} → a ≡ b → c ≡ d → last_row a c n ≡ last_row b d n
      rows p q = cc

      joined : {a b n : Lexeme} {ds es ss ts : List (List Lexeme)} {l m : List Lexeme} {r : List (List Lexeme)} → a ≡ b → ds ≡ es → ss ≡ ts → l ≡ m → r ≡ (es ++ ts) ++ (m ∷ [])
          → (a ∷ n ∷ []) ∷ ((ds ++ ss) ++ (l ∷ [])) ≡ (b ∷ n ∷ []) ∷ r
      joined p d s l e = cc

-- ---- names that agree

module _ (f g : List ℕ → List ℕ) (fresh : List ℕ → Bool) (agree : (n : List ℕ) → fresh n ≡ true → f n ≡ g n) where
  -- operands are made the same
  operand_agrees : (o : Operand) → list_all fresh (operand_names o) ≡ true → map_operand f o ≡ map_operand g o
  operand_agrees (operands.Variable name) a = ap operands.Variable (agree name (and_parts (fresh name) true a).0)
  operand_agrees (operands.Whole n) a = refl

  -- the names in a term
  abbrev term_names : Term → List (List ℕ)
  term_names term = operand_names term.operand

  -- terms are made the same
  term_agrees : (t : Term) → list_all fresh (term_names t) ≡ true → map_term f t ≡ map_term g t
  term_agrees t a = ap made (operand_agrees t.operand a)
    where
      made : Operand → Term
      made o = record { sign = t.sign; operand = o }

  -- expressions are made the same
  sum_agrees : (s : Sum) → list_all fresh (sum_names s) ≡ true → map_sum f s ≡ map_sum g s
  sum_agrees s a =
      let parts = all_append_parts fresh (operand_names s.first) (flat_map term_names s.rest) a in
      made_same (operand_agrees s.first parts.0) (map_agree (λ t. list_all fresh (term_names t)) (map_term f) (map_term g) term_agrees s.rest (all_flat_parts fresh term_names s.rest parts.1))
    where
      made : Operand → List Term → Sum
      made o ts = record { first = o; rest = ts }

      made_same : {o q : Operand} {ts us : List Term} → o ≡ q → ts ≡ us → made o ts ≡ made q us
      made_same p q = cc

  -- statements are made the same
  statement_agrees : (s : Statement) → list_all fresh (statement_names s) ≡ true → map_statement f s ≡ map_statement g s
  statement_agrees (statements.Assign target value) a =
      let parts = and_parts (fresh target) (list_all fresh (sum_names value)) a in
      let t : f target ≡ g target = agree target parts.0 in
      let s : map_sum f value ≡ map_sum g value = sum_agrees value parts.1 in
      cc
  statement_agrees (statements.Print items) a =
      ap statements.Print (map_agree (λ s. list_all fresh (sum_names s)) (map_sum f) (map_sum g) sum_agrees items (all_flat_parts fresh sum_names items a))

  -- the names of a row
  abbrev self : List (List ℕ) → List (List ℕ)
  self names = names

  -- Functions that agree on the names of a program make the same of it.
  pub program_agrees : (p : Program) → fresh p.name ≡ true → list_all fresh (variables p) ≡ true → list_all fresh (flat_map statement_names p.statements) ≡ true → map_program f p ≡ map_program g p
  program_agrees p n v s =
      made_same (agree p.name n)
      (map_agree (list_all fresh) (map f) (map g) (map_agree fresh f g agree) p.declared (all_flat_parts fresh self p.declared v))
      (map_agree (λ t. list_all fresh (statement_names t)) (map_statement f) (map_statement g) statement_agrees p.statements (all_flat_parts fresh statement_names p.statements s))
    where
      made : List ℕ → List (List (List ℕ)) → List Statement → Program
      made n d s = record { name = n; declared = d; statements = s }

      made_same : {n m : List ℕ} {d e : List (List (List ℕ))} {s t : List Statement} → n ≡ m → d ≡ e → s ≡ t → made n d s ≡ made m e t
      made_same p q r = cc
