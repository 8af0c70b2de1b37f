-- Words that end at a byte, and fields that are made of such words.
use Rattle.std.proofs.Common.{◌≡◌, ℕ, ◌+◌, ◌-◌, ◌<◌, ◌≤◌, ◌^◌, ◌%◌, Bool, true, false, not, ◌==◌, List, [], ◌∷◌, ◌++◌, length, take, drop, Some, None, refl, sym, ap, ◌∙◌, arith, codes}
use Rattle.std.specs.Fmt.{decimal}
use Rattle.std.specs.List.{list_all, position, prefix_len}
use Rattle.std.proofs.lemmas.Bool.{and_parts, and_from, cond-true, cond-false, eq-eqb, ne_eqb, lt-ltb}
use Rattle.std.proofs.lemmas.Bool.Decides.{nat_tests}
use Rattle.std.proofs.lemmas.Fmt.{decimal_by_steps, decimal_injective}
use Rattle.std.proofs.lemmas.List.{append_assoc, append_cancel_left, length-append, take_at, drop_at, take_rest}
use Rattle.ftn_base.specs.Names.{is_file_name, is_file_byte, are_file_bytes}
use Rattle.plan_file.specs.Fields.{BeginsWith}
use Rattle.plan_file.specs.steps.Next.{lacks}
use Rattle.plan_file.specs.Plans.{count_field, file_field}

front_length : (p : ℕ → Bool) (word : List ℕ) (byte : ℕ) (rest : List ℕ) → list_all p word ≡ true → p byte ≡ false → prefix_len p (word ++ byte ∷ rest) ≡ length word
front_length p [] byte rest all ends = cond-false (p byte) (1 + prefix_len p rest) 0 ends
front_length p (x ∷ xs) byte rest all ends =
    let parts = and_parts (p x) (list_all p xs) all in
    cond-true (p x) (1 + prefix_len p (xs ++ byte ∷ rest)) 0 parts.0 ∙ ap (λ n. 1 + n) (front_length p xs byte rest parts.1 ends) ∙ omega arith

pub place_after : (byte : ℕ) (word rest : List ℕ) → lacks byte word ≡ true → position (λ b. b == byte) (word ++ byte ∷ rest) ≡ Some (length word)
place_after byte word rest all =
    let size : prefix_len (λ b. not (b == byte)) (word ++ byte ∷ rest) ≡ length word
    = front_length (λ b. not (b == byte)) word byte rest all (ap not (eq-eqb byte byte refl)) in
    let all_of : length (word ++ byte ∷ rest) ≡ length word + (1 + length rest) = length-append word (byte ∷ rest) ∙ omega arith in
    rw size (cond-true _ (Some (length word)) None (lt-ltb (length word) (length (word ++ byte ∷ rest)) (omega arith)))

-- where a byte ends a word, its first place splits the bytes there
pub parts_are : (byte at : ℕ) (bytes word rest : List ℕ) → position (λ b. b == byte) bytes ≡ Some at → lacks byte word ≡ true → bytes ≡ word ++ byte ∷ rest → (take at bytes ≡ word) × (take (length bytes - (at + 1)) (drop (at + 1) bytes) ≡ rest)
parts_are byte at bytes word rest found all is =
    let same : Some at ≡ Some (length word) = sym found ∙ ap (position (λ b. b == byte)) is ∙ place_after byte word rest all in
    let place : at ≡ length word = cc in
    let front : take at bytes ≡ word = ap (take at) is ∙ take_at word (byte ∷ rest) at (sym place) in
    let size : length (word ++ byte ∷ []) ≡ at + 1 = length-append word (byte ∷ []) ∙ omega arith in
    let all_of : bytes ≡ (word ++ byte ∷ []) ++ rest = is ∙ sym (append_assoc word (byte ∷ []) rest) in
    (front, take_rest bytes (at + 1) ∙ ap (drop (at + 1)) all_of ∙ drop_at (word ++ byte ∷ []) rest (at + 1) size)

pub place_is_there : (byte : ℕ) (bytes word rest : List ℕ) → position (λ b. b == byte) bytes ≡ None → lacks byte word ≡ true → bytes ≡ word ++ byte ∷ rest → ⊥
place_is_there byte bytes word rest none all is =
    let both : None ≡ Some (length word) = sym none ∙ ap (position (λ b. b == byte)) is ∙ place_after byte word rest all in
    cc

pub words_apart : (byte : ℕ) (word other xs ys : List ℕ) → lacks byte word ≡ true → lacks byte other ≡ true → word ++ byte ∷ xs ≡ other ++ byte ∷ ys → (word ≡ other) × (xs ≡ ys)
words_apart byte word other xs ys first second is =
    let parts = parts_are byte (length word) (word ++ byte ∷ xs) other ys (place_after byte word xs first) second is in
    let same : word ≡ other = sym (take_at word (byte ∷ xs) (length word) refl) ∙ parts.0 in
    let rest : byte ∷ xs ≡ byte ∷ ys = append_cancel_left other (byte ∷ xs) (byte ∷ ys) (ap (λ (w : List ℕ). w ++ byte ∷ xs) (sym same) ∙ is) in
    (same, cc)

all_append : (p : ℕ → Bool) (xs ys : List ℕ) → list_all p xs ≡ true → list_all p ys ≡ true → list_all p (xs ++ ys) ≡ true
all_append p [] ys first second = second
all_append p (x ∷ xs) ys first second =
    let parts = and_parts (p x) (list_all p xs) first in
    and_from (p x) (list_all p (xs ++ ys)) parts.0 (all_append p xs ys parts.1 second)

pub number_lacks : (byte n : ℕ) → byte < 48 → n < 2 ^ 64 → lacks byte (decimal n) ≡ true
number_lacks byte n low small =
    decimal_by_steps (λ _ ds. lacks byte ds ≡ true) (λ m _. digit m) (λ m ds _ h. all_append (λ b. not (b == byte)) ds ((48 + m % 10) ∷ []) h (digit (m % 10))) n small
  where
    digit : (d : ℕ) → lacks byte ((48 + d) ∷ []) ≡ true
    digit d = and_from (not ((48 + d) == byte)) true (ap not (ne_eqb (48 + d) byte (λ e. omega arith))) refl

name_bytes_lack : (byte : ℕ) (name : List ℕ) → byte < 33 → are_file_bytes name ≡ true → lacks byte name ≡ true
name_bytes_lack byte [] low all = refl
name_bytes_lack byte (x ∷ xs) low all =
    let parts = and_parts (is_file_byte x) (are_file_bytes xs) all in
    let high : 33 ≤ x = above x parts.0 in
    and_from (not (x == byte)) (lacks byte xs) (ap not (ne_eqb x byte (λ e. omega arith))) (name_bytes_lack byte xs low parts.1)
  where
    above : (b : ℕ) → is_file_byte b ≡ true → 33 ≤ b
    above b h = grind (arith, nat_tests)

pub name_lacks : (byte : ℕ) (name : List ℕ) → byte < 33 → is_file_name name ≡ true → lacks byte name ≡ true
name_lacks byte name low valid = name_bytes_lack byte name low (and_parts _ (are_file_bytes name) valid).1

pub count_spelled : (n : ℕ) (rest : List ℕ) → count_field n ++ rest ≡ codes "files " ++ (decimal n ++ 10 ∷ rest)
count_spelled n rest = simp append_assoc

pub file_spelled : (size : ℕ) (name rest : List ℕ) → file_field size name ++ rest ≡ codes "file " ++ (decimal size ++ 32 ∷ (name ++ 10 ∷ rest))
file_spelled size name rest = simp append_assoc

pub counts_apart : (n m : ℕ) (xs ys : List ℕ) → n < 2 ^ 64 → m < 2 ^ 64 → count_field n ++ xs ≡ count_field m ++ ys → (n ≡ m) × (xs ≡ ys)
counts_apart n m xs ys small low is =
    let spelled : codes "files " ++ (decimal n ++ 10 ∷ xs) ≡ codes "files " ++ (decimal m ++ 10 ∷ ys) = sym (count_spelled n xs) ∙ is ∙ count_spelled m ys in
    let words = words_apart 10 (decimal n) (decimal m) xs ys (number_lacks 10 n (omega arith) small) (number_lacks 10 m (omega arith) low) (append_cancel_left (codes "files ") _ _ spelled) in
    (decimal_injective n m small low words.0, words.1)

pub record SameFields (size other : ℕ) (name called xs ys : List ℕ) : Type 0 where
  pub sized : size ≡ other
  pub named : name ≡ called
  pub rest : xs ≡ ys

pub files_apart : (size other : ℕ) (name called xs ys : List ℕ) → size < 2 ^ 64 → other < 2 ^ 64 → lacks 10 name ≡ true → lacks 10 called ≡ true → file_field size name ++ xs ≡ file_field other called ++ ys → SameFields size other name called xs ys
files_apart size other name called xs ys small low first second is =
    let spelled : codes "file " ++ (decimal size ++ 32 ∷ (name ++ 10 ∷ xs)) ≡ codes "file " ++ (decimal other ++ 32 ∷ (called ++ 10 ∷ ys))
    = sym (file_spelled size name xs) ∙ is ∙ file_spelled other called ys in
    let numbers = words_apart 32 (decimal size) (decimal other) (name ++ 10 ∷ xs) (called ++ 10 ∷ ys) (number_lacks 32 size (omega arith) small) (number_lacks 32 other (omega arith) low) (append_cancel_left (codes "file ") _ _ spelled) in
    let names = words_apart 10 name called xs ys first second numbers.1 in
    record { sized = decimal_injective size other small low numbers.0; named = names.0; rest = names.1 }

pub count_after : (bytes rest : List ℕ) (n : ℕ) → bytes ≡ codes "files " ++ rest → BeginsWith (count_field n) bytes → (after : List ℕ) × (rest ≡ decimal n ++ 10 ∷ after)
count_after bytes rest n is begins = (begins.0, append_cancel_left (codes "files ") _ _ (sym is ∙ begins.1 ∙ count_spelled n begins.0))

pub file_after : (bytes rest : List ℕ) (size : ℕ) (name : List ℕ) → bytes ≡ codes "file " ++ rest → BeginsWith (file_field size name) bytes → (after : List ℕ) × (rest ≡ decimal size ++ 32 ∷ (name ++ 10 ∷ after))
file_after bytes rest size name is begins = (begins.0, append_cancel_left (codes "file ") _ _ (sym is ∙ begins.1 ∙ file_spelled size name begins.0))
