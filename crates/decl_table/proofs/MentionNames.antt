-- The names in the statements of a project are names in lower case.
use Rattle.std.proofs.Common.{◌≡◌, ℕ, zero, suc, ◌+◌, ◌-◌, ◌≤◌, Bool, true, false, ◌&&◌, List, [], ◌∷◌, take, drop, codes, map, Option, Some, None, refl, sym, ap, ◌∙◌, subst, arith, if◌then◌else◌}
use Rattle.std.specs.Prelude.{◌==◌, slice_get}
use Rattle.std.specs.List.{All}
use Rattle.std.specs.Option.{option_map, option_map_or, option_and_then}
use Rattle.ftn_base.specs.declared.place.Range.{Range}
use Rattle.ftn_tree.specs.declared.lexeme.Lexeme.{Lexeme}
use Rattle.ftn_tree.specs.declared.lexeme.Lexeme.TheVariants as lexeme
use Rattle.ftn_tree.specs.declared.mention.Mention.{Mention}
use Rattle.ftn_tree.specs.declared.token.Token.{Token}
use Rattle.ftn_tree.specs.declared.token.Tokens.{Tokens}
use Rattle.ftn_tree.specs.declared.token.TokenKind.{TokenKind}
use Rattle.ftn_tree.specs.declared.token.TokenKind.TheVariants as tokens
use Rattle.ftn_tree.specs.declared.unit.FileTree.{FileTree}
use Rattle.ftn_tree.specs.declared.unit.Statement.{Statement}
use Rattle.ftn_tree.specs.FileFaults.{IsRead, AreRead, row_in}
use Rattle.ftn_tree.specs.Extents.{form_in}
use Rattle.ftn_tree.specs.Lexemes.{is_text, logical, dotted, one_byte, two_bytes, mark, lexeme_by}
use Rattle.ftn_tree.specs.Projects.{AreTrees, IsSomeTree}
use Rattle.ftn_tree.specs.Reading.{tokens_of}
use Rattle.ftn_tree.specs.Mentions.{mentions_of}
use Rattle.ftn_tree.specs.Roles.{name_bytes, value_of}
use Rattle.ftn_tree.specs.RowNames.{IsWordOf, has_letters, names_in}
use Rattle.ftn_tree.specs.Sayings.{mentions_at}
use Rattle.ftn_tree.proofs.RowLaws.{words_of}
use Rattle.ftn_tree.proofs.StatementNames.{statement_names}
use Rattle.std.proofs.lemmas.Option.{get_or_from_slice_get, slice_get_within}
use Rattle.decl_table.specs.steps.Occurrences.{IsNameAt}
use Rattle.decl_table.specs.steps.Spelled.{IsSpelled}
use Rattle.decl_table.proofs.Order.{Each, each_of}
use Rattle.decl_table.proofs.WordNames.{word_is_name}

-- ---- only words are words

abbrev pick : List (Bool × Lexeme) → Lexeme → Lexeme
pick [] other = other
pick (choice ∷ more) other = if choice.0 then choice.1 else pick more other

abbrev NoWord : Lexeme → Type 0
NoWord kind = kind ≡ lexeme.Word → ⊥

picked : (choices : List (Bool × Lexeme)) (other : Lexeme) → Each (λ choice. NoWord choice.1) choices → NoWord other → NoWord (pick choices other)
picked [] other none last = last
picked (choice ∷ more) other (first, none) last = by choice.0 (picked more other none last) where
  by : (test : Bool) → NoWord (pick more other) → NoWord (if test then choice.1 else pick more other)
  by true rest = first
  by false rest = rest

foreign_no : NoWord lexeme.Foreign
foreign_no word = cc word

logical_no : (value : List ℕ) → NoWord (logical value)
logical_no value =
    picked
    ((is_text value (codes ".and."), lexeme.And) ∷ (is_text value (codes ".or."), lexeme.Or) ∷ (is_text value (codes ".not."), lexeme.Not)
    ∷ (is_text value (codes ".true."), lexeme.True) ∷ (is_text value (codes ".false."), lexeme.False) ∷ (is_text value (codes ".eqv."), lexeme.Eqv)
    ∷ (is_text value (codes ".neqv."), lexeme.Neqv) ∷ [])
    lexeme.Foreign (λ w. cc w, (λ w. cc w, (λ w. cc w, (λ w. cc w, (λ w. cc w, (λ w. cc w, (λ w. cc w, tt))))))) foreign_no

dotted_no : (value : List ℕ) → NoWord (dotted value)
dotted_no value =
    picked
    ((is_text value (codes ".eq."), lexeme.Eq) ∷ (is_text value (codes ".ne."), lexeme.Ne) ∷ (is_text value (codes ".lt."), lexeme.Lt)
    ∷ (is_text value (codes ".le."), lexeme.Le) ∷ (is_text value (codes ".gt."), lexeme.Gt) ∷ (is_text value (codes ".ge."), lexeme.Ge) ∷ [])
    (logical value) (λ w. cc w, (λ w. cc w, (λ w. cc w, (λ w. cc w, (λ w. cc w, (λ w. cc w, tt)))))) (logical_no value)

one_byte_no : (b : ℕ) → NoWord (one_byte b)
one_byte_no b =
    picked
    ((b == 40, lexeme.Open) ∷ (b == 41, lexeme.Close) ∷ (b == 44, lexeme.Comma) ∷ (b == 58, lexeme.Colon) ∷ (b == 61, lexeme.Equals) ∷ (b == 42, lexeme.Times)
    ∷ (b == 47, lexeme.Divide) ∷ (b == 43, lexeme.Plus) ∷ (b == 45, lexeme.Minus) ∷ (b == 60, lexeme.Lt) ∷ (b == 62, lexeme.Gt) ∷ [])
    lexeme.Foreign (λ w. cc w, (λ w. cc w, (λ w. cc w, (λ w. cc w, (λ w. cc w, (λ w. cc w, (λ w. cc w, (λ w. cc w, (λ w. cc w, (λ w. cc w, (λ w. cc w, tt))))))))))) foreign_no

two_bytes_no : (a b : ℕ) → NoWord (two_bytes a b)
two_bytes_no a b =
    picked
    ((a == 42 && b == 42, lexeme.Power) ∷ (a == 47 && b == 47, lexeme.Concat) ∷ (a == 61 && b == 61, lexeme.Eq) ∷ (a == 47 && b == 61, lexeme.Ne)
    ∷ (a == 60 && b == 61, lexeme.Le) ∷ (a == 62 && b == 61, lexeme.Ge) ∷ (a == 58 && b == 58, lexeme.Colons) ∷ (a == 61 && b == 62, lexeme.Arrow) ∷ [])
    lexeme.Foreign (λ w. cc w, (λ w. cc w, (λ w. cc w, (λ w. cc w, (λ w. cc w, (λ w. cc w, (λ w. cc w, (λ w. cc w, tt)))))))) foreign_no

mark_no : (value : List ℕ) → NoWord (mark value)
mark_no [] = foreign_no
mark_no (b ∷ []) = one_byte_no b
mark_no (a ∷ b ∷ []) = two_bytes_no a b
mark_no (a ∷ b ∷ c ∷ rest) = foreign_no

kind_is : (kind : TokenKind) (value : List ℕ) → lexeme_by kind value ≡ lexeme.Word → kind ≡ tokens.Word
kind_is tokens.Word value word = refl
kind_is tokens.Whole value word = absurd (cc word)
kind_is tokens.Quoted value word = absurd (cc word)
kind_is tokens.RealForm value word = absurd (cc word)
kind_is tokens.Dotted value word = absurd (dotted_no value word)
kind_is tokens.Mark value word = absurd (mark_no value word)

-- ---- where tokens stand

taken_at : (n : ℕ) (xs : List Token) (k : ℕ) (x : Token) → slice_get (take n xs) k ≡ Some x → slice_get xs k ≡ Some x
taken_at zero xs k x is = absurd (cc is)
taken_at (suc n) [] k x is = absurd (cc is)
taken_at (suc n) (y ∷ xs) zero x is = is
taken_at (suc n) (y ∷ xs) (suc k) x is = taken_at n xs k x is

dropped_at : (n : ℕ) (xs : List Token) (k m : ℕ) (x : Token) → n + k ≡ m → slice_get (drop n xs) k ≡ Some x → slice_get xs m ≡ Some x
dropped_at zero xs k m x same is = ap (slice_get xs) (zero_less k m same) ∙ is where
  zero_less : (k m : ℕ) → 0 + k ≡ m → m ≡ k
  zero_less k m same = omega arith
dropped_at (suc n) [] k m x same is = absurd (cc is)
dropped_at (suc n) (y ∷ xs) k zero x same is = absurd (omega arith)
dropped_at (suc n) (y ∷ xs) k (suc m) x same is = dropped_at n xs k m x (omega arith) is

row_at : (items : List Token) (start end number : ℕ) (here : Token) → start ≤ number → slice_get (take (end - start) (drop start items)) (number - start) ≡ Some here
    → slice_get items number ≡ Some here
row_at items start end number here from is =
    dropped_at start items (number - start) number here (omega arith) (taken_at (end - start) (drop start items) (number - start) here is)

read_at : (tokens : Tokens) (ranges : List Range) (statements : List Statement) (k : ℕ) (statement : Statement) → AreRead tokens ranges statements → slice_get statements k ≡ Some statement
    → (range : Range) × IsRead tokens range statement
read_at tokens [] [] k statement read is = absurd (cc is)
read_at tokens [] (s ∷ statements) k statement read is = absurd read
read_at tokens (range ∷ ranges) [] k statement read is = absurd (cc is)
read_at tokens (range ∷ ranges) (s ∷ statements) zero statement (first, read) is = (range, subst (IsRead tokens range) (cc is) first)
read_at tokens (range ∷ ranges) (s ∷ statements) (suc k) statement (first, read) is = read_at tokens ranges statements k statement read is

-- ---- the names of a statement

token_value : (tokens : Tokens) (k : ℕ) (here : Token) → slice_get tokens.items k ≡ Some here → name_bytes tokens k ≡ here.value
token_value tokens k here is = ap value_of is

in_tree : (tree : FileTree) → IsSomeTree tree → (k : ℕ) (statement : Statement) → slice_get tree.statements k ≡ Some statement
    → All (λ number. IsSpelled (name_bytes tree.tokens number)) (names_in statement.form)
in_tree tree (edition, text, short, (clean, is)) k statement there =
    let (range, read) = read_at (tokens_of text) (tokens_of text).statements tree.statements k statement is.read there in
    λ i d less. by range (words_of (has_letters statement.form) (row_in (tokens_of text) range) range.start (names_in statement.form) (statement_names statement.form range.start (row_in (tokens_of text) range) read.says) i d less)
  where
    by : {number : ℕ} (range : Range) → IsWordOf range.start (row_in (tokens_of text) range) number → IsSpelled (name_bytes tree.tokens number)
    by {number} range w =
        let at : slice_get (tokens_of text).items number ≡ Some w.here = row_at (tokens_of text).items range.start range.end number w.here w.from w.there in
        subst IsSpelled (sym (ap (λ tokens. name_bytes tokens number) is.tokens_are ∙ token_value (tokens_of text) number w.here at))
        (word_is_name edition text clean number w.here at (kind_is w.here.kind w.here.value w.is_a_word))

each_to : {A : Type 0} (P Q : A → Type 0) (xs : List A) → ((x : A) → P x → Q x) → Each P xs → Each Q xs
each_to P Q [] gives all = tt
each_to P Q (x ∷ xs) gives (first, all) = (gives x first, each_to P Q xs gives all)

each_token : (P : ℕ → Type 0) (mentions : List Mention) → Each P (map (λ (m : Mention). m.token) mentions) → Each (λ (m : Mention). P m.token) mentions
each_token P [] all = tt
each_token P (m ∷ mentions) (first, all) = (first, each_token P mentions all)

pub mentions_named : (files : List FileTree) → AreTrees files → (file statement : ℕ) → Each (IsNameAt files file) (mentions_at files file statement)
mentions_named files are file statement = by (slice_get files file) refl where
  at_statement : (tree : FileTree) → IsSomeTree tree → (found : Option Statement) → slice_get tree.statements statement ≡ found
      → Each (λ (m : Mention). IsSpelled (name_bytes tree.tokens m.token)) (option_map_or mentions_of (option_map (λ (s : Statement). s.form) found) [])
  at_statement tree some None is = tt
  at_statement tree some (Some s) is =
      each_token (λ number. IsSpelled (name_bytes tree.tokens number)) (mentions_of s.form)
      (each_of (λ number. IsSpelled (name_bytes tree.tokens number)) (names_in s.form) (in_tree tree some statement s is))

  by : (found : Option FileTree) → slice_get files file ≡ found → Each (IsNameAt files file) (mentions_at files file statement)
  by None is = subst (λ found. Each (IsNameAt files file) (option_map_or mentions_of (option_and_then (form_in statement) found) [])) (sym is) tt
  by (Some tree) is =
      let some : IsSomeTree tree = subst IsSomeTree (get_or_from_slice_get files file tree tree is) (are.trees file tree (slice_get_within files file tree is)) in
      subst (λ found. Each (IsNameAt files file) (option_map_or mentions_of (option_and_then (form_in statement) found) [])) (sym is)
      (each_to (λ (m : Mention). IsSpelled (name_bytes tree.tokens m.token)) (IsNameAt files file)
      (option_map_or mentions_of (option_map (λ (s : Statement). s.form) (slice_get tree.statements statement)) [])
      (λ m named. subst (λ found. IsSpelled (option_map_or (λ (tree : FileTree). name_bytes tree.tokens m.token) found [])) (sym is) named)
      (at_statement tree some (slice_get tree.statements statement) refl))
