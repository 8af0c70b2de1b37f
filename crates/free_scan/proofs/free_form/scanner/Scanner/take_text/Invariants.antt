use Rattle.std.proofs.Common.{◌≡◌, ◌+◌, drop}
use Rattle.std.specs.Prelude.{◌||◌}
use Rattle.std.specs.List.{list_any}
use Rattle.ftn_tree.specs.Breaks.{wrong_bytes}
use Rattle.ftn_tree.specs.Code.{open_after}
use Rattle.ftn_tree.specs.Logical.{glyphs, is_cut}
use Rattle.free_scan.specs.steps.Firsts.{least}
use Rattle.free_scan.specs.steps.Scanning as spec
use Rattle.free_scan.proofs.free_form.scanner.Scanner.take_text.Given as goal

abbrev pub invariant-loop-byte : goal.invariant-loop-byte
invariant-loop-byte l = record {
  next : l.next ≡ l.at + l.byte-index;
  within : spec.IsWithin l.next l.self;
  state : spec.taken_all l.fn.self (glyphs l.fn.quote l.line l.at l.bytes) ≡ spec.taken_all l.self (glyphs l.open l.line l.next (drop l.byte-index l.bytes));
  code : least l.fn.code (wrong_bytes l.fn.quote l.at l.bytes) ≡ least l.code (wrong_bytes l.open l.next (drop l.byte-index l.bytes));
  quote : open_after l.fn.quote l.bytes ≡ open_after l.open (drop l.byte-index l.bytes);
  cut : list_any is_cut (glyphs l.fn.quote l.line l.at l.bytes) ≡ (l.is_cut || list_any is_cut (glyphs l.open l.line l.next (drop l.byte-index l.bytes)));
}
