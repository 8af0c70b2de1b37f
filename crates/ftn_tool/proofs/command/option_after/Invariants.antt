use Rattle.std.proofs.Common.{◌≡◌, ◌-◌, drop, length, map}
use Rattle.std.specs.String.{string_bytes}
use Rattle.ftn_tool.specs.Words.{names_edition}
use Rattle.ftn_tool.specs.steps.Reading.{edition_from}
use Rattle.ftn_tool.proofs.command.option_after.Given as goal

abbrev pub invariant-words : goal.invariant-words
invariant-words l = edition_from (names_edition l.first) 1 (drop 1 (map string_bytes l.words)) ≡ edition_from (names_edition l.first) l.at (drop l.at (map string_bytes l.words))

abbrev pub decreases-words : goal.decreases-words
decreases-words l = length l.words - l.at
