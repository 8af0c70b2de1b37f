-- What stands in front of bytes.
use Rattle.std.proofs.Common.{◌≡◌, ℕ, ◌+◌, ◌<◌, ◌^◌, ◌==◌, true, false, List, ◌++◌, length, take, drop, Option, Some, None, Result, Ok, Err, refl, sym, ap, ◌∙◌, arith}
use lib.Pointwise.{pointwise}
use Rattle.std.specs.Fmt.{decimal}
use Rattle.std.specs.Option.{MatchOption}
use Rattle.std.specs.Result.{MatchResult, result_ok}
use Rattle.std.specs.Str.{IsUtf8}
use Rattle.std.specs.Str.Parse.{ParsesUnsigned}
use Rattle.std.proofs.lemmas.Fmt.{IsAscii-decimal, parse-decimal}
use Rattle.std.proofs.lemmas.List.{take-append-drop, take_at}
use Rattle.std.proofs.lemmas.Slice.Eq.{bytes_eq-Decides}
use Rattle.std.proofs.lemmas.Bool.{both_ways}
use Rattle.std.proofs.lemmas.Str.{IsUtf8-from_ascii}
use Rattle.plan_file.specs.Fields.{BeginsWith}

pub after_is : {X : Type 0} (now : X → List ℕ) (r : Option X) (bytes field : List ℕ)
    → MatchOption r (pointwise ◌==◌ (take (length field) bytes) field ≡ false) (λ x. (pointwise ◌==◌ (take (length field) bytes) field ≡ true) × (now x ≡ drop (length field) bytes) × (length (now x) + length field ≡ length bytes))
    → MatchOption r (BeginsWith field bytes → ⊥) (λ x. bytes ≡ field ++ now x)
after_is now None bytes field differs =
    λ begins. both_ways (pointwise ◌==◌ (take (length field) bytes) field) differs ((bytes_eq-Decides (take (length field) bytes) field).1 (ap (take (length field)) begins.1 ∙ take_at field begins.0 (length field) refl))
after_is now (Some x) bytes field same =
    let front : take (length field) bytes ≡ field = (bytes_eq-Decides (take (length field) bytes) field).0 same.0 in
    sym (take-append-drop (length field) bytes) ∙ ap (λ (f : List ℕ). f ++ drop (length field) bytes) front ∙ ap (λ (r : List ℕ). field ++ r) (sym same.1)

pub digits_are_text : {S E : Type 0} (r : Result S E) (P : S → Type 0) (Q : E → Type 0) (digits : List ℕ) (n : ℕ) → MatchResult r P (λ e. (IsUtf8 digits → ⊥) × Q e) → result_ok r ≡ None → n < 2 ^ 32 → digits ≡ decimal n → ⊥
digits_are_text (Ok s) P Q digits n cases none small is = cc
digits_are_text (Err e) P Q digits n cases none small is = cases.0 (rw is (IsUtf8-from_ascii (decimal n) (IsAscii-decimal n (omega arith))))

pub number_read : {S E : Type 0} (now : S → List ℕ) (r : Result S E) (Q : E → Type 0) (s : S) (digits : List ℕ) (n : ℕ) {F : Type 0} (parsed : Result ℕ F)
    → MatchResult r (λ t. (now t ≡ digits) × IsUtf8 digits) Q → result_ok r ≡ Some s → ParsesUnsigned 32 10 (now s) parsed → n < 2 ^ 32 → digits ≡ decimal n → result_ok parsed ≡ Some n
number_read now (Ok t) Q s digits n parsed cases some parses small is =
    let same : t ≡ s = cc in
    let text : now s ≡ decimal n = ap now (sym same) ∙ cases.0 ∙ is in
    ap result_ok (parse-decimal 32 n (now s) parsed small (omega arith) text parses)
number_read now (Err e) Q s digits n parsed cases some parses small is = cc
