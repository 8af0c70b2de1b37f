-- A scan as it goes over lines: what is left of a text, and what was found of it so far. It serves the proof of the code.
use Rattle.std.specs.Prelude.{ℕ, not, nat_lt, nat_le, if◌then◌else◌, List, [], length, take, drop, Option}
use Rattle.std.specs.List.{position_or_len, filter, flat_map, slice_split}
use Rattle.ftn_base.specs.declared.name.Edition.{Edition}
use Rattle.ftn_tree.specs.Breaks.{Breach, breaches_from, long_line}
use Rattle.ftn_tree.specs.Lines.{Line, is_comment, is_line_feed, placed, without_return}
use Rattle.ftn_tree.specs.Logical.{Carried, row_from}
use Rattle.free_scan.specs.steps.Firsts.{least}
use Rattle.free_scan.specs.steps.Scanning.{State, taken_all}

-- how many bytes stand before the next LF
abbrev pub line_size : List ℕ → ℕ
line_size rest = position_or_len is_line_feed rest

-- the line at the front of the rest of a text
abbrev pub body_at : List ℕ → List ℕ
body_at rest = if nat_lt (line_size rest) (length rest) then without_return (take (line_size rest) rest) else rest

-- the lines from that offset on, where a line begins, or none past the end
abbrev pub lines_left : ℕ → ℕ → List ℕ → List Line
lines_left number at text = if nat_le at (length text) then placed number at (slice_split is_line_feed (drop at text)) else []

abbrev pub code_in : List Line → List Line
code_in lines = filter (λ line. not (is_comment line.body)) lines

-- what becomes of a scan over those lines
abbrev pub row_left : State → Option Carried → List Line → State
row_left s before lines = taken_all s (row_from before (code_in lines))

-- the first breach of code, those of these lines too
abbrev pub code_left : Edition → Option Breach → Option Carried → List Line → Option Breach
code_left edition found before lines = least found (breaches_from edition before (code_in lines))

-- the first line that is too long, one of these lines too
abbrev pub long_left : Option Breach → List Line → Option Breach
long_left found lines = least found (flat_map long_line lines)
