use Rattle.std.proofs.Common.{◌≡◌, length, map, take, true, if◌then◌else◌}
use Rattle.std.specs.List.{range_with_len}
use Rattle.ftn_base.specs.ImplicitLetters.{entry_of}
use Rattle.ftn_base.specs.Letters.{is_within}
use Rattle.implicit_type.proofs.letter_map.LetterMap.given.Given as goal

abbrev pub invariant-loop-number : goal.invariant-loop-number
invariant-loop-number l = record {
  made : take l.number l.entries
      ≡ map (λ letter. if is_within l.from l.to letter then (l.letter, true) else entry_of letter l.self-inside.entries) (range_with_len 97 l.number);
  long : length l.entries ≡ 26;
}
