-- The text of a value that is one item is read back as that value.
use Rattle.std.proofs.Common.{◌≡◌, ℕ, suc, ◌-◌, ◌^◌, ◌<◌, true, false, ℤ, pos, negsuc, List, [], ◌∷◌, ◌++◌, length, take, Some, refl, ap, ◌∙◌, arith, append-nil, length-append}
use Rattle.std.proofs.lemmas.Bool.Decides.{nat_tests}
use Rattle.std.proofs.lemmas.Fmt.{decimal_is_IsNumeral}
use Rattle.std.proofs.lemmas.List.{take-append-le, take_all}
use Rattle.std.proofs.lemmas.Str.Parse.{digit_from_value}
use Rattle.std.specs.Fmt.{signed_decimal}
use Rattle.std.specs.Int.{IsInRange}
use Rattle.std.specs.List.{list_all}
use Rattle.std.specs.Str.Parse.{AllDigits, IsNumeral}
use Rattle.ftn_base.specs.declared.entity.Ty.{Ty}
use Rattle.ftn_base.specs.declared.entity.Ty.TheVariants.{Integer, Logical, Character}
use Rattle.ftn_base.specs.Arithmetic.{is_integer}
use Rattle.ftn_tree.specs.declared.value.Value.{Value}
use Rattle.ftn_tree.specs.declared.value.Value.TheVariants.{Whole, Truth, Chars}
use Rattle.ftn_tree.specs.ListItems.{is_item_byte, is_run, item_of}
use Rattle.ftn_tree.specs.ListRecords.{record_of, text_of}
use Rattle.list_io.specs.ReadBack.{between, is_one_item}
use Rattle.list_io.proofs.Numbers.{whole_of_signed_decimal}

front : (text : List ℕ) → take (length (32 ∷ (text ++ 10 ∷ [])) - 2) (text ++ 10 ∷ []) ≡ text
front text =
    let count : length (32 ∷ (text ++ 10 ∷ [])) - 2 ≡ length text = omega (arith, length-append text (10 ∷ [])) in
    rw count (take-append-le (length text) text (10 ∷ []) (omega arith) ∙ take_all (length text) text (omega arith))

between_is_text : (value : Value) → between (record_of (value ∷ [])) ≡ text_of value
between_is_text value = let nil : text_of value ++ [] ≡ text_of value = append-nil (text_of value) in rw nil (front (text_of value))

digit_is_item_byte : (c : ℕ) → IsInRange 48 57 c → is_item_byte c ≡ true
digit_is_item_byte c h = let low = h.0 in let high = h.1 in grind (arith, nat_tests)

digits_are_item_bytes : (digits : List ℕ) → AllDigits 10 digits → list_all is_item_byte digits ≡ true
digits_are_item_bytes [] h = refl
digits_are_item_bytes (c ∷ cs) h = rw (digit_is_item_byte c (digit_from_value c h.0), digits_are_item_bytes cs h.1) refl

numeral_is_run : (digits : List ℕ) → IsNumeral 10 digits → is_run digits ≡ true
numeral_is_run [] h = absurd (omega (arith, h.0))
numeral_is_run (c ∷ cs) h = digits_are_item_bytes (c ∷ cs) h.1

signed_decimal_is_run : (z : ℤ) → is_integer z ≡ true → is_run (signed_decimal z) ≡ true
signed_decimal_is_run (pos n) e =
    let small : n < 2 ^ 31 = grind (arith, nat_tests) in
    numeral_is_run _ (decimal_is_IsNumeral n (omega arith)).0
signed_decimal_is_run (negsuc n) e =
    let small : n < 2 ^ 31 = grind (arith, nat_tests) in
    digits_are_item_bytes _ (decimal_is_IsNumeral (suc n) (omega arith)).0.1

text_is_read_back : (value : Value) (ty : Ty) → is_one_item value ty ≡ true → item_of (text_of value) ty ≡ Some value
text_is_read_back (Whole z) Integer e = rw (signed_decimal_is_run z e, whole_of_signed_decimal z e) refl
text_is_read_back (Truth true) Logical e = refl
text_is_read_back (Truth false) Logical e = refl
text_is_read_back (Chars bytes) (Character length) e = rw e refl
text_is_read_back (Whole z) Logical e = cc
text_is_read_back (Whole z) (Character length) e = cc
text_is_read_back (Truth truth) Integer e = cc
text_is_read_back (Truth truth) (Character length) e = cc
text_is_read_back (Chars bytes) Integer e = cc
text_is_read_back (Chars bytes) Logical e = cc

pub items_are_read_back : (value : Value) (ty : Ty) → is_one_item value ty ≡ true → item_of (between (record_of (value ∷ []))) ty ≡ Some value
items_are_read_back value ty e = ap (λ text. item_of text ty) (between_is_text value) ∙ text_is_read_back value ty e
