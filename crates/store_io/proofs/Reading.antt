-- What follows where a read was not cut short.
use Rattle.std.proofs.Common.{◌≡◌, ℕ, ◌+◌, ◌≤◌, List, length, take, min, Option, None, Some, arith, ap, sym, ◌∙◌}
use Rattle.std.proofs.lemmas.List.{take_all, length-take}
use Rattle.std.specs.Option.{option_map}

whole : (most : ℕ) (all text : List ℕ) → take (most + 1) all ≡ text → length text ≤ most → all ≡ text
whole most all text is short =
    let size : min (most + 1) (length all) ≤ most = omega (arith, sym (length-take (most + 1) all), ap length is, short) in
    let small : length all ≤ most + 1 = omega arith in
    sym (take_all (most + 1) all small) ∙ is

-- a text of at most `most` bytes is the whole text
pub whole_read : (most : ℕ) (told : Option (List ℕ)) (text : List ℕ) → option_map (take (most + 1)) told ≡ Some text → length text ≤ most → told ≡ Some text
whole_read most None text is short = cc
whole_read most (Some all) text is short = ap Some (whole most all text (cc) short)
