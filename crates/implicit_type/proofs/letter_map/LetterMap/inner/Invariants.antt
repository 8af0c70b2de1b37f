use Rattle.std.proofs.Common.{◌≡◌, length, map, take, false}
use Rattle.std.specs.List.{range_with_len}
use Rattle.ftn_base.specs.ImplicitLetters as spec
use Rattle.implicit_type.proofs.letter_map.LetterMap.inner.Given as goal

abbrev pub invariant-loop-number : goal.invariant-loop-number
invariant-loop-number l = record {
  made : take l.number l.entries ≡ map (λ letter. (spec.type_of letter l.self-inside.entries, false)) (range_with_len 97 l.number);
  long : length l.entries ≡ 26;
}
