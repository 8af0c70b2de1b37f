-- A name in lower case is a name that folding leaves as it is.
use Rattle.std.proofs.Common.{◌≡◌, ℕ, ◌+◌, Bool, true, false, List, [], ◌∷◌, length, refl, ap, ◌∙◌, ◌&&◌, nat_lt, bytes_eq, if◌then◌else◌, arith}
use Rattle.std.specs.Prelude.{IsTrue}
use Rattle.std.specs.List.{list_all}
use Rattle.std.proofs.lemmas.Bool.{and_parts, and_from, or_right, or_parts}
use Rattle.std.proofs.lemmas.Bool.Decides.{nat_tests}
use Rattle.std.proofs.lemmas.List.{length-map}
use Rattle.std.proofs.lemmas.Slice.Eq.{bytes_eq-Decides}
use Rattle.ftn_base.specs.Letters.{folded, fold_byte, is_letter, is_name_byte, is_upper, is_within}
use Rattle.ftn_base.specs.Names.{is_folded_name, is_name, is_name_text}

pub fold_letter : (b : ℕ) → is_letter b ≡ true → is_letter (fold_byte b) ≡ true
fold_letter b h = go (is_upper b) refl
  where
    low : is_upper b ≡ true → is_within 97 122 (b + 32) ≡ true
    low u = grind (arith, nat_tests)

    go : (t : Bool) → is_upper b ≡ t → is_letter (if t then b + 32 else b) ≡ true
    go true u = or_right (is_upper (b + 32)) (is_within 97 122 (b + 32)) (low u)
    go false u = h

pub letter_name_byte : (b : ℕ) → is_letter b ≡ true → is_name_byte b ≡ true
letter_name_byte b h = rw h refl

pub fold_name_byte : (b : ℕ) → is_name_byte b ≡ true → is_name_byte (fold_byte b) ≡ true
fold_name_byte b h = go (is_letter b) refl
  where
    go : (t : Bool) → is_letter b ≡ t → is_name_byte (fold_byte b) ≡ true
    go true l = letter_name_byte (fold_byte b) (fold_letter b l)
    go false l =
        let u : is_upper b ≡ false = (or_parts (is_upper b) (is_within 97 122 b) l).0 in
        let e : fold_byte b ≡ b = ap (λ (t : Bool). if t then b + 32 else b) u in
        ap is_name_byte e ∙ h

pub fold_name_bytes : (bytes : List ℕ) → list_all is_name_byte bytes ≡ true → list_all is_name_byte (folded bytes) ≡ true
fold_name_bytes [] h = refl
fold_name_bytes (b ∷ rest) h =
    let p = and_parts (is_name_byte b) (list_all is_name_byte rest) h in
    and_from (is_name_byte (fold_byte b)) (list_all is_name_byte (folded rest)) (fold_name_byte b p.0) (fold_name_bytes rest p.1)

-- a name of whatever length, folded, is one of that length
pub folded_name : (limit : ℕ) (bytes : List ℕ) → is_name limit bytes ≡ true → is_name limit (folded bytes) ≡ true
folded_name limit [] name = name
folded_name limit (b ∷ rest) name =
    let q = and_parts (is_letter b && nat_lt (length rest) limit) (list_all is_name_byte rest) name in
    let p = and_parts (is_letter b) (nat_lt (length rest) limit) q.0 in
    let short : nat_lt (length (folded rest)) limit ≡ true = ap (λ (n : ℕ). nat_lt n limit) (length-map rest fold_byte) ∙ p.1 in
    and_from (is_letter (fold_byte b) && nat_lt (length (folded rest)) limit) (list_all is_name_byte (folded rest))
    (and_from (is_letter (fold_byte b)) (nat_lt (length (folded rest)) limit) (fold_letter b p.0) short)
    (fold_name_bytes rest q.1)

name_is_text : (limit : ℕ) (bytes : List ℕ) → is_name limit bytes ≡ true → is_name_text bytes ≡ true
name_is_text limit [] name = name
name_is_text limit (b ∷ rest) name =
    let q = and_parts (is_letter b && nat_lt (length rest) limit) (list_all is_name_byte rest) name in
    let p = and_parts (is_letter b) (nat_lt (length rest) limit) q.0 in
    and_from (is_letter b) (list_all is_name_byte rest) p.0 q.1

pub fold_byte_twice : (b : ℕ) → fold_byte (fold_byte b) ≡ fold_byte b
fold_byte_twice b = grind (arith, nat_tests)

pub folded_twice : (bytes : List ℕ) → folded (folded bytes) ≡ folded bytes
folded_twice [] = refl
folded_twice (b ∷ rest) = ap (λ x. x ∷ folded (folded rest)) (fold_byte_twice b) ∙ ap (λ xs. fold_byte b ∷ xs) (folded_twice rest)

-- so it is a name in lower case
pub folded_is_name : (limit : ℕ) (bytes : List ℕ) → is_name limit bytes ≡ true → IsTrue (is_folded_name (folded bytes))
folded_is_name limit bytes name =
    and_from (is_name_text (folded bytes)) (bytes_eq (folded (folded bytes)) (folded bytes))
    (name_is_text limit (folded bytes) (folded_name limit bytes name))
    ((bytes_eq-Decides (folded (folded bytes)) (folded bytes)).1 (folded_twice bytes))
