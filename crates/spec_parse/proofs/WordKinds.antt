-- Tokens that are words in the grammar are words.
use Rattle.std.proofs.Common.{◌≡◌, refl, ℕ, Bool, true, false, ◌&&◌, ◌==◌, List, [], ◌∷◌, codes, if◌then◌else◌}
use Rattle.ftn_tree.specs.declared.token.TokenKind.{TokenKind}
use Rattle.ftn_tree.specs.declared.token.TokenKind.TheVariants as kinds
use Rattle.ftn_tree.specs.declared.lexeme.Lexeme.{Lexeme}
use Rattle.ftn_tree.specs.declared.lexeme.Lexeme.TheVariants.{Word, True, False, Power, Times, Divide, Plus, Minus, Concat, Eq, Ne, Lt, Le, Gt, Ge, Not, And, Or, Eqv, Neqv, Open, Close, Comma, Colon, Colons, Equals, Arrow, Foreign}
use Rattle.ftn_tree.specs.Lexemes.{lexeme_by, dotted, one_byte, two_bytes, mark, logical, is_text}

-- a choice between other kinds
no_word : (test : Bool) (one other : Lexeme) → (one ≡ Word → ⊥) → (other ≡ Word → ⊥) → (if test then one else other) ≡ Word → ⊥
no_word true one other first second is = first is
no_word false one other first second is = second is

abbrev Other : Lexeme → Type 0
Other kind = kind ≡ Word → ⊥

foreign : Other Foreign
foreign is = cc is

logical_other : (value : List ℕ) → Other (logical value)
logical_other value =
    no_word (is_text value (codes ".and.")) And _ (λ is. cc is) (no_word (is_text value (codes ".or.")) Or _ (λ is. cc is)
    (no_word (is_text value (codes ".not.")) Not _ (λ is. cc is) (no_word (is_text value (codes ".true.")) True _ (λ is. cc is) (no_word (is_text value (codes ".false.")) False _ (λ is. cc is)
    (no_word (is_text value (codes ".eqv.")) Eqv _ (λ is. cc is) (no_word (is_text value (codes ".neqv.")) Neqv Foreign (λ is. cc is) foreign))))))

dotted_other : (value : List ℕ) → Other (dotted value)
dotted_other value =
    no_word (is_text value (codes ".eq.")) Eq _ (λ is. cc is) (no_word (is_text value (codes ".ne.")) Ne _ (λ is. cc is) (no_word (is_text value (codes ".lt.")) Lt _ (λ is. cc is)
    (no_word (is_text value (codes ".le.")) Le _ (λ is. cc is) (no_word (is_text value (codes ".gt.")) Gt _ (λ is. cc is) (no_word (is_text value (codes ".ge.")) Ge _ (λ is. cc is)
    (logical_other value))))))

one_other : (byte : ℕ) → Other (one_byte byte)
one_other byte =
    no_word (byte == 40) Open _ (λ is. cc is) (no_word (byte == 41) Close _ (λ is. cc is) (no_word (byte == 44) Comma _ (λ is. cc is) (no_word (byte == 58) Colon _ (λ is. cc is)
    (no_word (byte == 61) Equals _ (λ is. cc is) (no_word (byte == 42) Times _ (λ is. cc is) (no_word (byte == 47) Divide _ (λ is. cc is) (no_word (byte == 43) Plus _ (λ is. cc is)
    (no_word (byte == 45) Minus _ (λ is. cc is) (no_word (byte == 60) Lt _ (λ is. cc is) (no_word (byte == 62) Gt Foreign (λ is. cc is) foreign))))))))))

two_other : (first second : ℕ) → Other (two_bytes first second)
two_other first second =
    no_word (first == 42 && second == 42) Power _ (λ is. cc is) (no_word (first == 47 && second == 47) Concat _ (λ is. cc is)
    (no_word (first == 61 && second == 61) Eq _ (λ is. cc is) (no_word (first == 47 && second == 61) Ne _ (λ is. cc is)
    (no_word (first == 60 && second == 61) Le _ (λ is. cc is) (no_word (first == 62 && second == 61) Ge _ (λ is. cc is)
    (no_word (first == 58 && second == 58) Colons _ (λ is. cc is) (no_word (first == 61 && second == 62) Arrow Foreign (λ is. cc is) foreign)))))))

mark_other : (value : List ℕ) → Other (mark value)
mark_other [] = foreign
mark_other (byte ∷ []) = one_other byte
mark_other (first ∷ second ∷ []) = two_other first second
mark_other (first ∷ second ∷ third ∷ rest) = foreign

pub is_word_kind : (kind : TokenKind) (value : List ℕ) → lexeme_by kind value ≡ Word → kind ≡ kinds.Word
is_word_kind kinds.Word value is = refl
is_word_kind kinds.Whole value is = absurd (cc is)
is_word_kind kinds.RealForm value is = absurd (cc is)
is_word_kind kinds.Quoted value is = absurd (cc is)
is_word_kind kinds.Dotted value is = absurd (dotted_other value is)
is_word_kind kinds.Mark value is = absurd (mark_other value is)
