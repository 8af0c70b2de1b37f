-- How the rows of a program are told apart.
use Rattle.std.proofs.Common.{◌≡◌, ℕ, zero, suc, ◌≤◌, ◌-◌, ◌+◌, Bool, cond, List, [], ◌∷◌, ◌++◌, length, take, drop, get_or, map, Option, Some, None, refl, sym, ap, ◌∙◌, arith}
use Rattle.std.specs.List.{prefix_len}
use Rattle.std.proofs.lemmas.List.{take-map, drop-map, map-append}
use Rattle.free_scan.specs.steps.Reading.{◌>>=◌, and_last, is_closing, is_declaration, read_all, read_body, read_declaration, read_opening, read_program, read_statement}
use Rattle.free_scan.specs.Spelling.{Lexeme}
use Rattle.free_scan.specs.declared.first_form.program.Program.{Program}
use Rattle.free_scan.specs.declared.first_form.program.Statement.{Statement}

pub last_is : {A : Type 0} (x : A) (xs : List A) (y : A) → and_last x (xs ++ y ∷ []) ≡ (x ∷ xs, y)
last_is x [] y = refl
last_is x (z ∷ xs) y = ap (λ p. (x ∷ p.0, p.1)) (last_is z xs y)

-- a program's rows begin with its name and end with it
pub program_at : (opening : List Lexeme) (body : List (List Lexeme)) (closing : List Lexeme)
    → read_program (opening ∷ (body ++ closing ∷ [])) ≡ (read_opening opening >>= λ name. cond (is_closing name closing) (read_body name body) None)
unfolding read_program
program_at opening [] closing = refl
program_at opening (row ∷ rows) closing =
    ap (λ p. read_opening opening >>= λ name. cond (is_closing name p.1) (read_body name p.0) None) (last_is row rows closing)

pub last_of : {A : Type 0} (n : ℕ) (xs : List A) (y : A) → length xs ≡ suc n → y ≡ get_or xs n y → xs ≡ take n xs ++ y ∷ []
last_of n [] y len at = absurd (omega (arith, len))
last_of zero (x ∷ []) y len at = ap (λ z. z ∷ []) (sym at)
last_of (suc n) (x ∷ []) y len at = absurd (omega (arith, len))
last_of zero (x ∷ z ∷ xs) y len at = absurd (omega (arith, len))
last_of (suc n) (x ∷ z ∷ xs) y len at = ap (λ ys. x ∷ ys) (last_of n (z ∷ xs) y (omega (arith, len)) at)

-- a list of two or more by its ends
pub ends_are : {A : Type 0} (xs : List A) (x y : A) → 2 ≤ length xs → x ≡ get_or xs 0 x → y ≡ get_or xs (length xs - 1) y
    → xs ≡ x ∷ (take (length xs - 1 - 1) (drop 1 xs) ++ y ∷ [])
ends_are [] x y le first last = absurd (omega (arith, le))
ends_are (z ∷ []) x y le first last = absurd (omega (arith, le))
ends_are {A} (z ∷ w ∷ xs) x y le first last =
    let n : ℕ = length (z ∷ w ∷ xs) - 1 - 1 in
    let k : length (z ∷ w ∷ xs) - 1 ≡ suc n = omega arith in
    let at : y ≡ get_or (w ∷ xs) n y = last ∙ ap (λ m. get_or (z ∷ w ∷ xs) m y) k in
    let len : length (w ∷ xs) ≡ suc n = omega arith in
    ap (λ v. v ∷ w ∷ xs) (sym first) ∙ ap (λ ys. x ∷ ys) (last_of n (w ∷ xs) y len at)

module _ {A : Type 0} (view : A → List Lexeme) where
  viewed : (rows : List A) (opening closing : A) → 2 ≤ length rows → opening ≡ get_or rows 0 opening → closing ≡ get_or rows (length rows - 1) closing
      → read_program (map view rows) ≡ (read_opening (view opening) >>= λ name. cond (is_closing name (view closing)) (read_body name (map view (take (length rows - 1 - 1) (drop 1 rows)))) None)
  viewed rows opening closing le first last =
      let body = take (length rows - 1 - 1) (drop 1 rows) in
      ap (λ xs. read_program (map view xs)) (ends_are rows opening closing le first last)
      ∙ ap (λ xs. read_program (view opening ∷ xs)) (map-append view body (closing ∷ []))
      ∙ program_at (view opening) (map view body) (view closing)

  pub closes : (rows : List A) (opening closing : A) (name : List ℕ) (b : Bool) → 2 ≤ length rows → opening ≡ get_or rows 0 opening → closing ≡ get_or rows (length rows - 1) closing
      → read_opening (view opening) ≡ Some name → is_closing name (view closing) ≡ b
      → read_program (map view rows) ≡ cond b (read_body name (map view (take (length rows - 1 - 1) (drop 1 rows)))) None
  closes rows opening closing name b le first last named closed =
      viewed rows opening closing le first last
      ∙ ap (λ o. o >>= λ n. cond (is_closing n (view closing)) (read_body n (map view (take (length rows - 1 - 1) (drop 1 rows)))) None) named
      ∙ ap (λ t. cond t (read_body name (map view (take (length rows - 1 - 1) (drop 1 rows)))) None) closed

  counted : (p : List Lexeme → Bool) (rows : List A) → prefix_len p (map view rows) ≡ prefix_len (λ row. p (view row)) rows
  counted p [] = refl
  counted p (row ∷ rows) = ap (λ n. cond (p (view row)) (1 + n) 0) (counted p rows)

  abbrev parts_of : List ℕ → Option (List (List (List ℕ))) → Option (List Statement) → Option Program
  parts_of name declared statements = declared >>= λ ds. statements >>= λ ss. Some (record { name = name; declared = ds; statements = ss })

  pub body_is : (name : List ℕ) (rows : List A) (n : ℕ) → n ≡ prefix_len (λ row. is_declaration (view row)) rows
      → read_body name (map view rows) ≡ parts_of name (read_all read_declaration (map view (take n rows))) (read_all read_statement (map view (drop n rows)))
  unfolding read_body
  body_is name rows n e =
      let k : prefix_len is_declaration (map view rows) ≡ n = counted is_declaration rows ∙ sym e in
      ap (λ m. parts_of name (read_all read_declaration (take m (map view rows))) (read_all read_statement (drop m (map view rows)))) k
      ∙ ap (λ d. parts_of name (read_all read_declaration d) (read_all read_statement (drop n (map view rows)))) (take-map view n rows)
      ∙ ap (λ s. parts_of name (read_all read_declaration (map view (take n rows))) (read_all read_statement s)) (drop-map view n rows)

  pub body_given : (name : List ℕ) (rows : List A) (n : ℕ) (front back : List A) (ds : Option (List (List (List ℕ)))) (ss : Option (List Statement))
      → n ≡ prefix_len (λ row. is_declaration (view row)) rows → front ≡ take n rows → back ≡ drop n rows
      → read_all read_declaration (map view front) ≡ ds → read_all read_statement (map view back) ≡ ss → read_body name (map view rows) ≡ parts_of name ds ss
  body_given name rows n front back ds ss e at_front at_back declared stated =
      body_is name rows n e
      ∙ ap (λ xs. parts_of name (read_all read_declaration (map view xs)) (read_all read_statement (map view (drop n rows)))) (sym at_front)
      ∙ ap (λ xs. parts_of name (read_all read_declaration (map view front)) (read_all read_statement (map view xs))) (sym at_back)
      ∙ ap (λ o. parts_of name o (read_all read_statement (map view back))) declared
      ∙ ap (λ o. parts_of name ds o) stated
