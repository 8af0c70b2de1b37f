use Rattle.std.proofs.Common.{◌≡◌, ◌+◌, ◌-◌, ◌≤◌, ◌++◌, None, length}
use Rattle.std.specs.Prelude.{map, IfSome}
use Rattle.std.specs.List.{flat_map}
use Rattle.ftn_tree.specs.Breaks.{breaches_from, long_line}
use Rattle.ftn_tree.specs.Lines.{code_lines, line_starts, lines_of}
use Rattle.ftn_tree.specs.Logical.{row_of}
use Rattle.free_scan.specs.steps.Firsts.{least}
use Rattle.free_scan.specs.steps.LinesLeft as left
use Rattle.free_scan.specs.steps.Scanning as spec
use Rattle.free_scan.proofs.free_form.tokens.read_all.Given as goal

abbrev pub decreases-lines : goal.decreases-lines
decreases-lines g l = length l.text + 1 - l.at

abbrev pub invariant-lines : goal.invariant-lines
invariant-lines g l = record {
  at : l.at ≤ length l.text + 1;
  number : l.number ≤ l.at + 1;
  row : spec.taken_all (spec.begun l.edition) (row_of l.text) ≡ left.row_left l.reader.scanner l.reader.before (left.lines_left l.number l.at l.text);
  code : least None (breaches_from l.edition None (code_lines l.text)) ≡ left.code_left l.edition l.reader.code l.reader.before (left.lines_left l.number l.at l.text);
  long : least None (flat_map long_line (lines_of l.text)) ≡ left.long_left l.reader.long (left.lines_left l.number l.at l.text);
  starts : line_starts l.text ≡ l.reader.starts ++ map (λ line. line.at) (left.lines_left l.number l.at l.text);
  counted : IfSome l.reader.before (λ carried. carried.count ≤ l.at);
  within : spec.IsWithin l.at l.reader.scanner;
  ticks : l.steps + (length l.text - l.at) ≡ l.fn.steps + length l.text;
}
