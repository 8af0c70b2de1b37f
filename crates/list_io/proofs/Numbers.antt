-- What `parse` reads as an integer of 32 bits is what an integer item says.
use Rattle.std.proofs.Common.{◌≡◌, ℕ, zero, suc, ◌^◌, ◌<◌, Bool, true, false, cond, ◌&&◌, ◌==◌, if◌then◌else◌, ℤ, pos, negsuc, FitsSigned, List, [], ◌∷◌, drop, Option, Some, None, Result, Ok, Err, refl, sym, ap, ◌∙◌, arith}
use Rattle.std.proofs.lemmas.Bool.{and_parts, and_from}
use Rattle.std.proofs.lemmas.Bool.Decides.{nat_tests}
use Rattle.std.proofs.lemmas.Fmt.{IsAscii-from_digits, parse-signed_decimal}
use Rattle.std.proofs.lemmas.Str.{IsUtf8-from_ascii}
use Rattle.std.proofs.lemmas.Str.Parse.{IsNumeralModel, numerals_by_value, tells_all_ascii_digits}
use Rattle.std.proofs.lemmas.Str.Ascii.{IsAscii-cons}
use Rattle.std.specs.Fmt.{signed_decimal}
use Rattle.std.specs.Int.{w32}
use Rattle.std.specs.Result.{result_ok, OkIff}
use Rattle.std.specs.Str.{IsAscii, IsUtf8, all_ascii_digits}
use Rattle.std.specs.Str.Parse.{AllDigits, IsNumeral, ParsesSigned, digits_value, signed_digits_value, without_leading_sign}
use lib.Signed.{mag}
use Rattle.ftn_base.specs.Arithmetic.{is_integer}
use Rattle.ftn_tree.specs.ListItems.{is_some, is_signed_numeral, whole_of}

own : IsNumeralModel (λ digits. all_ascii_digits digits ≡ true) (digits_value 10)
own = numerals_by_value _ tells_all_ascii_digits

pub fits-from_FitsSigned : (z : ℤ) → FitsSigned w32 z → is_integer z ≡ true
fits-from_FitsSigned (pos n) h = let small : n < 2 ^ 31 = h.sfits in grind (arith, nat_tests)
fits-from_FitsSigned (negsuc n) h = let small : n < 2 ^ 31 = h.sfits in grind (arith, nat_tests)

pub FitsSigned-from_fits : (z : ℤ) → is_integer z ≡ true → FitsSigned w32 z
FitsSigned-from_fits (pos n) e = let small : n < 2 ^ 31 = grind (arith, nat_tests) in record { sfits = small }
FitsSigned-from_fits (negsuc n) e = let small : n < 2 ^ 31 = grind (arith, nat_tests) in record { sfits = small }

numeral_is_told : (digits : List ℕ) → IsNumeral 10 digits → (is_some digits && all_ascii_digits digits) ≡ true
numeral_is_told [] h = absurd (omega (arith, h.0))
numeral_is_told (c ∷ cs) h = own.from (c ∷ cs) h.1

told_is_numeral : (digits : List ℕ) → (is_some digits && all_ascii_digits digits) ≡ true → IsNumeral 10 digits
told_is_numeral [] e = cc
told_is_numeral (c ∷ cs) e = (omega arith, own.to (c ∷ cs) e)

abbrev is_whole : List ℕ → Bool
is_whole bytes = is_signed_numeral bytes && is_integer (signed_digits_value 10 bytes)

abbrev IsWhole : List ℕ → Type 0
IsWhole bytes = IsNumeral 10 (without_leading_sign bytes) × FitsSigned w32 (signed_digits_value 10 bytes)

is_whole-from_IsWhole : (bytes : List ℕ) → IsWhole bytes → is_whole bytes ≡ true
is_whole-from_IsWhole bytes h = and_from _ _ (numeral_is_told (without_leading_sign bytes) h.0) (fits-from_FitsSigned (signed_digits_value 10 bytes) h.1)

IsWhole-from_is_whole : (bytes : List ℕ) → is_whole bytes ≡ true → IsWhole bytes
IsWhole-from_is_whole bytes e =
    let parts = and_parts (is_signed_numeral bytes) (is_integer (signed_digits_value 10 bytes)) e in
    (told_is_numeral (without_leading_sign bytes) parts.0, FitsSigned-from_fits (signed_digits_value 10 bytes) parts.1)

taken : (b : Bool) (value z : ℤ) → b ≡ true → z ≡ value → ◌≡◌ {A = Option ℤ} (Some z) (if b then Some value else None)
taken true value z e same = ap Some same
taken false value z e same = cc

refused : (b : Bool) (value : ℤ) → ¬ (b ≡ true) → ◌≡◌ {A = Option ℤ} None (if b then Some value else None)
refused true value h = absurd (h refl)
refused false value h = refl

pub whole_of_parsed : {E : Type 0} (bytes : List ℕ) (r : Result ℤ E) → ParsesSigned w32 10 bytes r → result_ok r ≡ whole_of bytes
whole_of_parsed bytes (Ok z) h = taken (is_whole bytes) (signed_digits_value 10 bytes) z (is_whole-from_IsWhole bytes h.0) h.1
whole_of_parsed bytes (Err e) h = refused (is_whole bytes) (signed_digits_value 10 bytes) (λ told. h (IsWhole-from_is_whole bytes told))

-- a text whose bytes are no text at all is no numeral

ascii_by_sign : (minus plus : Bool) (c : ℕ) (cs : List ℕ) → (minus ≡ true → c < 128) → (plus ≡ true → c < 128) → AllDigits 10 (cond minus cs (drop (cond plus 1 0) (c ∷ cs))) → IsAscii (c ∷ cs)
ascii_by_sign true plus c cs m p digits = IsAscii-cons c cs (m refl) (IsAscii-from_digits cs digits)
ascii_by_sign false true c cs m p digits = IsAscii-cons c cs (p refl) (IsAscii-from_digits cs digits)
ascii_by_sign false false c cs m p digits = IsAscii-from_digits (c ∷ cs) digits

sign_is_small : (c sign : ℕ) → sign < 128 → (c == sign) ≡ true → c < 128
sign_is_small c sign small e = grind (arith, nat_tests)

ascii : (bytes : List ℕ) → AllDigits 10 (without_leading_sign bytes) → IsAscii bytes
ascii [] digits = IsAscii-from_digits [] tt
ascii (c ∷ cs) digits = ascii_by_sign (c == 45) (c == 43) c cs (sign_is_small c 45 (omega arith)) (sign_is_small c 43 (omega arith)) digits

pub whole_of_no_text : (bytes : List ℕ) → ¬ (IsUtf8 bytes) → ◌≡◌ {A = Option ℤ} None (whole_of bytes)
whole_of_no_text bytes h =
    refused (is_whole bytes) (signed_digits_value 10 bytes) (λ told. h (IsUtf8-from_ascii bytes (ascii bytes (IsWhole-from_is_whole bytes told).0.1)))

-- an integer's text says that integer

abbrev as_result : Bool → ℤ → Result ℤ (Unit {0})
as_result b value = if b then Ok value else Err tt

answers : (b : Bool) (P : Type 0) (value : ℤ) → (b ≡ true → P) → (P → b ≡ true) → OkIff (as_result b value) P value
answers true P value to from = (to refl, refl)
answers false P value to from = λ p. cc (from p)

parsed : (bytes : List ℕ) → ParsesSigned w32 10 bytes (as_result (is_whole bytes) (signed_digits_value 10 bytes))
parsed bytes = answers (is_whole bytes) (IsWhole bytes) (signed_digits_value 10 bytes) (IsWhole-from_is_whole bytes) (is_whole-from_IsWhole bytes)

magnitude : (z : ℤ) → is_integer z ≡ true → mag z < 2 ^ 63
magnitude (pos n) e = let small : n < 2 ^ 31 = grind (arith, nat_tests) in omega arith
magnitude (negsuc n) e = let small : n < 2 ^ 31 = grind (arith, nat_tests) in omega arith

pub whole_of_signed_decimal : (z : ℤ) → is_integer z ≡ true → whole_of (signed_decimal z) ≡ Some z
whole_of_signed_decimal z e =
    let bytes : List ℕ = signed_decimal z in
    let r : Result ℤ (Unit {0}) = as_result (is_whole bytes) (signed_digits_value 10 bytes) in
    sym (whole_of_parsed bytes r (parsed bytes))
    ∙ ap result_ok (parse-signed_decimal w32 z bytes r (FitsSigned-from_fits z e) (magnitude z e) refl (parsed bytes))
