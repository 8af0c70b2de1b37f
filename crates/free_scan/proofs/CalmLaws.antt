-- Calm bytes in front of a line are code, and stand for themselves.
use Rattle.std.proofs.Common.{◌≡◌, ℕ, suc, ◌+◌, ◌≤◌, ◌<◌, Bool, true, false, List, [], ◌∷◌, drop, Option, Some, None, refl, ap, sym, subst, ◌∙◌, arith, one-add, zero-add, suc-add}
use Rattle.std.specs.Prelude.{◌&&◌, ◌||◌, not, ◌==◌, nat_le, nat_lt, if◌then◌else◌}
use Rattle.std.specs.List.{prefix_len}
use Rattle.std.proofs.lemmas.Bool.{cond_both, leb-true, ltb-true, lt-leb, le-ltb, not-true}
use Rattle.std.proofs.lemmas.Bool.Decides.{nat_tests}
use Rattle.ftn_tree.specs.Code.{code_len, is_control, is_quote, is_wrong, quote_after}
use Rattle.free_scan.specs.steps.PlainText.{is_calm, is_plain, plain_end}

from_eq : (a b : ℕ) → (a == b) ≡ true → a ≡ b
from_eq a b e = grind (arith, nat_tests)

above : (a b : ℕ) → b < a → (a == b) ≡ false
above a b lt = grind (arith, nat_tests)

below : (a b : ℕ) → a < b → (a == b) ≡ false
below a b lt = grind (arith, nat_tests)

three_true : (a b c : Bool) → (a && b && c) ≡ true → (a ≡ true) × ((b ≡ true) × (c ≡ true))
three_true true true true e = (refl, (refl, refl))
three_true true true false e = absurd (cc)
three_true true false c e = absurd (cc)
three_true false b c e = absurd (cc)

-- what such a byte isn't
record Calm (b : ℕ) : Type 0 where
  quote : is_quote b ≡ false
  mark : (b == 33) ≡ false
  end : (b == 59) ≡ false
  right : is_wrong None b ≡ false

calm_blank : (b : ℕ) → b ≡ 32 → Calm b
calm_blank b e = record { quote = ap is_quote e; mark = ap (λ n. n == 33) e; end = ap (λ n. n == 59) e; right = ap (is_wrong None) e }

calm_other : (b : ℕ) → 40 ≤ b → b < 127 → (b == 59) ≡ false → Calm b
calm_other b least most other =
    let quote : (b == 39) ≡ false = above b 39 least in
    let double : (b == 34) ≡ false = above b 34 (omega arith) in
    let low : nat_lt b 32 ≡ false = le-ltb b 32 (omega arith) in
    let last : (b == 127) ≡ false = below b 127 most in
    let high : nat_le 128 b ≡ false = lt-leb 128 b (omega arith) in
    let ampersand : (b == 38) ≡ false = above b 38 (omega arith) in
    let control : is_control b ≡ false = ap (λ c. c && not (b == 9) || b == 127) low ∙ last in
    record {
      quote = ap (λ c. c || b == 34) quote ∙ double;
      mark = above b 33 (omega arith);
      end = other;
      right = ap (λ c. c || (nat_le 128 b || b == 38)) control ∙ ap (λ c. c || b == 38) high ∙ ampersand;
    }

calm_is : (b : ℕ) → is_calm b ≡ true → Calm b
calm_is b e = by (b == 32) refl e where
  by : (c : Bool) → (b == 32) ≡ c → (c || nat_le 40 b && nat_lt b 127 && not (b == 59)) ≡ true → Calm b
  by true blank e = calm_blank b (from_eq b 32 blank)
  by false blank e =
      let parts : (nat_le 40 b ≡ true) × ((nat_lt b 127 ≡ true) × (not (b == 59) ≡ true)) = three_true (nat_le 40 b) (nat_lt b 127) (not (b == 59)) e in
      calm_other b (leb-true 40 b parts.0) (ltb-true b 127 parts.1.0) (not-true (b == 59) parts.1.1)

calm_quote : (b : ℕ) → Calm b → quote_after None b ≡ None
calm_quote b calm = ap (λ c. if c then Some b else None) calm.quote

calm_step : (b : ℕ) (rest : List ℕ) → Calm b → code_len None (b ∷ rest) ≡ suc (code_len None rest)
calm_step b rest calm = ap (λ c. if c then 0 else suc (code_len (quote_after None b) rest)) calm.mark ∙ ap (λ q. suc (code_len q rest)) (calm_quote b calm)

calm_code : (bytes : List ℕ) → code_len None bytes ≡ prefix_len is_calm bytes + code_len None (drop (prefix_len is_calm bytes) bytes)
calm_code [] = refl
calm_code (b ∷ rest) =
    cond_both (is_calm b) (1 + prefix_len is_calm rest) 0 (λ n. code_len None (b ∷ rest) ≡ n + code_len None (drop n (b ∷ rest)))
    (λ e. subst (λ n. code_len None (b ∷ rest) ≡ n + code_len None (drop n (b ∷ rest))) (sym (one-add (prefix_len is_calm rest)))
    (calm_step b rest (calm_is b e) ∙ ap suc (calm_code rest) ∙ sym (suc-add (prefix_len is_calm rest) (code_len None (drop (prefix_len is_calm rest) rest)))))
    (λ e. sym (zero-add (code_len None (b ∷ rest))))

pub calm_sum : (bytes : List ℕ) (n m : ℕ) → n ≡ prefix_len is_calm bytes → m ≡ code_len None (drop n bytes) → n + m ≡ code_len None bytes
calm_sum bytes n m a b = ap (λ k. n + k) b ∙ ap (λ k. k + code_len None (drop k bytes)) a ∙ sym (calm_code bytes)

plain_step : (b : ℕ) (rest : List ℕ) → Calm b → plain_end None (b ∷ rest) ≡ plain_end None rest
plain_step b rest calm =
    let plain : is_plain None b ≡ true = ap (λ c. not (c || is_wrong None b)) calm.end ∙ ap not calm.right in
    ap (λ c. if c then plain_end (quote_after None b) rest else None) plain ∙ ap (λ q. plain_end q rest) (calm_quote b calm)

calm_plain : (bytes : List ℕ) → plain_end None (drop (prefix_len is_calm bytes) bytes) ≡ plain_end None bytes
calm_plain [] = refl
calm_plain (b ∷ rest) =
    cond_both (is_calm b) (1 + prefix_len is_calm rest) 0 (λ n. plain_end None (drop n (b ∷ rest)) ≡ plain_end None (b ∷ rest))
    (λ e. subst (λ n. plain_end None (drop n (b ∷ rest)) ≡ plain_end None (b ∷ rest)) (sym (one-add (prefix_len is_calm rest)))
    (calm_plain rest ∙ sym (plain_step b rest (calm_is b e))))
    (λ e. refl)

pub calm_end : (bytes : List ℕ) (n : ℕ) (last : Option (Option ℕ)) → n ≡ prefix_len is_calm bytes → last ≡ plain_end None (drop n bytes) → last ≡ plain_end None bytes
calm_end bytes n last a b = b ∙ ap (λ k. plain_end None (drop k bytes)) a ∙ calm_plain bytes
