-- What follows where the names of a row are those of these numbers.
use Rattle.std.proofs.Common.{◌≡◌, ◌≢◌, inl, inr, refl, sym, ◌∙◌, ap, subst, ◌≤◌, ◌<◌, ℕ, zero, suc, ◌+◌, ◌-◌, Bool, List, [], ◌∷◌, ◌++◌, length, slice_get, Some, None, add-zero, arith}
use Rattle.std.specs.List.{All}
use Rattle.std.proofs.lemmas.List.Elements.{All-nil, All-cons, All-head, All-same, All-rest, All-weaker}
use Rattle.ftn_tree.specs.declared.lexeme.Lexeme.TheVariants as lexeme
use Rattle.ftn_tree.specs.declared.token.Token.{Token}
use Rattle.ftn_tree.specs.Lexemes.{lexeme_of}
use Rattle.ftn_tree.specs.RowNames.{IsPlainWord, IsNoName, AreNames, Rise, IsWordOf}

pub one_on : (at n : ℕ) → (at + 1) + n ≡ at + suc n
one_on at n = omega arith

-- the names of two rows, one after the other
pub joined : (letters : Bool) (before after : List Token) (at : ℕ) (first others : List ℕ)
    → AreNames letters at before first → AreNames letters (at + length before) after others → AreNames letters at (before ++ after) (first ++ others)
joined letters [] after at first others none said =
    subst (λ first. AreNames letters at after (first ++ others)) (sym none) (subst (λ n. AreNames letters n after others) (add-zero at) said)
joined letters (here ∷ before) after at first others (inl (more, word, split, rest)) said =
    inl (
      more ++ others,
      word,
      ap (λ first. first ++ others) split,
      joined letters before after (at + 1) more others rest (subst (λ n. AreNames letters n after others) (sym (one_on at (length before))) said),
    )
joined letters (here ∷ before) after at first others (inr (no_name, rest)) said =
    inr (no_name, joined letters before after (at + 1) first others rest (subst (λ n. AreNames letters n after others) (sym (one_on at (length before))) said))

-- ---- the numbers are those from the first token's on, and rise

pub from_first : (letters : Bool) (row : List Token) (at : ℕ) (numbers : List ℕ) → AreNames letters at row numbers → All (λ number. at ≤ number) numbers
from_first letters [] at numbers none = All-same (λ number. at ≤ number) numbers [] none (All-nil (λ number. at ≤ number))
from_first letters (here ∷ rest) at numbers (inl (others, word, split, said)) =
    All-same (λ number. at ≤ number) numbers (at ∷ others) split
    (All-cons (λ number. at ≤ number) at others (omega arith)
    (All-weaker (λ number. at + 1 ≤ number) (λ number. at ≤ number) (λ number more. omega arith) others (from_first letters rest (at + 1) others said)))
from_first letters (here ∷ rest) at numbers (inr (no_name, said)) =
    All-weaker (λ number. at + 1 ≤ number) (λ number. at ≤ number) (λ number more. omega arith) numbers (from_first letters rest (at + 1) numbers said)

pub up_to_last : (letters : Bool) (row : List Token) (at : ℕ) (numbers : List ℕ) → AreNames letters at row numbers → All (λ number. number < at + length row) numbers
up_to_last letters [] at numbers none = All-same (λ number. number < at + 0) numbers [] none (All-nil (λ number. number < at + 0))
up_to_last letters (here ∷ rest) at numbers (inl (others, word, split, said)) =
    All-same (λ number. number < at + suc (length rest)) numbers (at ∷ others) split
    (All-cons (λ number. number < at + suc (length rest)) at others (omega arith)
    (All-weaker (λ number. number < at + 1 + length rest) (λ number. number < at + suc (length rest)) (λ number less. omega arith) others (up_to_last letters rest (at + 1) others said)))
up_to_last letters (here ∷ rest) at numbers (inr (no_name, said)) =
    All-weaker (λ number. number < at + 1 + length rest) (λ number. number < at + suc (length rest)) (λ number less. omega arith) numbers (up_to_last letters rest (at + 1) numbers said)

pub rising : (letters : Bool) (row : List Token) (at : ℕ) (numbers : List ℕ) → AreNames letters at row numbers → Rise numbers
rising letters [] at numbers none = subst Rise (sym none) tt
rising letters (here ∷ rest) at numbers (inl (others, word, split, said)) =
    subst Rise (sym split) (
      All-weaker (λ number. at + 1 ≤ number) (λ number. at < number) (λ number more. omega arith) others (from_first letters rest (at + 1) others said),
      rising letters rest (at + 1) others said,
    )
rising letters (here ∷ rest) at numbers (inr (no_name, said)) = rising letters rest (at + 1) numbers said

-- ---- each is that of a word of the row

further : (at number : ℕ) → at + 1 ≤ number → suc (number - (at + 1)) ≡ number - at
further at number more = omega arith

nothing_less : (at : ℕ) → 0 ≡ at - at
nothing_less at = omega arith

in_rest : (at : ℕ) (first : Token) (rest : List Token) (number : ℕ) → IsWordOf (at + 1) rest number → IsWordOf at (first ∷ rest) number
in_rest at first rest number w = record {
  from = let more = w.from in omega arith;
  here = w.here;
  there = subst (λ place. slice_get (first ∷ rest) place ≡ Some w.here) (further at number w.from) w.there;
  is_a_word = w.is_a_word;
}

at_first : (at : ℕ) (here : Token) (rest : List Token) → lexeme_of here ≡ lexeme.Word → IsWordOf at (here ∷ rest) at
at_first at here rest word = record {
  from = omega arith;
  here = here;
  there = subst (λ place. slice_get (here ∷ rest) place ≡ Some here) (nothing_less at) refl;
  is_a_word = word;
}

pub words_of : (letters : Bool) (row : List Token) (at : ℕ) (numbers : List ℕ) → AreNames letters at row numbers → All (IsWordOf at row) numbers
words_of letters [] at numbers none = All-same (IsWordOf at []) numbers [] none (All-nil (IsWordOf at []))
words_of letters (here ∷ rest) at numbers (inl (others, word, split, said)) =
    All-same (IsWordOf at (here ∷ rest)) numbers (at ∷ others) split
    (All-cons (IsWordOf at (here ∷ rest)) at others (at_first at here rest word)
    (All-weaker (IsWordOf (at + 1) rest) (IsWordOf at (here ∷ rest)) (in_rest at here rest) others (words_of letters rest (at + 1) others said)))
words_of letters (here ∷ rest) at numbers (inr (no_name, said)) =
    All-weaker (IsWordOf (at + 1) rest) (IsWordOf at (here ∷ rest)) (in_rest at here rest) numbers (words_of letters rest (at + 1) numbers said)

-- ---- other words are plain

plain : (letters : Bool) (first here : Token) → first ≡ here → IsNoName letters first → lexeme_of here ≡ lexeme.Word → IsPlainWord letters here
plain letters first here same (inl other) word = absurd (other (ap lexeme_of same ∙ word))
plain letters first here same (inr said) word = subst (IsPlainWord letters) same said

pub others_plain : (letters : Bool) (row : List Token) (at : ℕ) (numbers : List ℕ) → AreNames letters at row numbers
    → (place : ℕ) (here : Token) → slice_get row place ≡ Some here → lexeme_of here ≡ lexeme.Word → All (λ number. number ≢ at + place) numbers → IsPlainWord letters here
others_plain letters [] at numbers none place here there word missing = let e : None ≡ Some here = there in absurd (cc e)
others_plain letters (first ∷ rest) at numbers (inl (others, is_word, split, said)) zero here there word missing =
    absurd (All-head (λ number. number ≢ at + 0) at others (All-same (λ number. number ≢ at + 0) (at ∷ others) numbers (sym split) missing) (omega arith))
others_plain letters (first ∷ rest) at numbers (inl (others, is_word, split, said)) (suc place) here there word missing =
    others_plain letters rest (at + 1) others said place here there word
    (subst (λ n. All (λ number. number ≢ n) others) (sym (one_on at place)) (All-rest (λ number. number ≢ at + suc place) at others numbers split missing))
others_plain letters (first ∷ rest) at numbers (inr (no_name, said)) zero here there word missing =
    plain letters first here (let e : Some first ≡ Some here = there in cc e) no_name word
others_plain letters (first ∷ rest) at numbers (inr (no_name, said)) (suc place) here there word missing =
    others_plain letters rest (at + 1) numbers said place here there word (subst (λ n. All (λ number. number ≢ n) numbers) (sym (one_on at place)) missing)
