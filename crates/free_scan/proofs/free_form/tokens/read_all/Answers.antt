use Rattle.std.proofs.Common.{◌≡◌, ◌+◌, ◌-◌, ◌∷◌, ◌++◌, List, [], length, ap, sym, ◌∙◌, arith, append_assoc, length-drop}
use Rattle.std.specs.Prelude.{map}
use Rattle.ftn_tree.specs.Lines.{Line}
use Rattle.free_scan.specs.steps.LinesLeft as left
use Rattle.free_scan.proofs.ScanLaws.{within_more}
use Rattle.free_scan.proofs.LinesLaws.{lines_on, long_step, counted_more, ticked}
use Rattle.free_scan.proofs.free_form.tokens.read_all.Goals as goal

pub returns-clause-within : goal.returns-clause-within
returns-clause-within g c = within_more c.lines.at 2147483647 c.lines.reader.scanner (omega (arith, c.lines.invariant.at, c.requires.short)) c.lines.invariant.within

pub lines-preserved : goal.lines-preserved
lines-preserved g c =
    let rest : List Line = left.lines_left (c.lines.number + 1) (c.lines.at + (c.line_size-size.result + 1)) c.args.text.now in
    let line : Line = record { number = c.lines.number; at = c.lines.at; body = c.body_at.result.now } in
    let step : left.lines_left c.lines.number c.lines.at c.args.text.now ≡ line ∷ rest
    = lines_on c.lines.number c.lines.at c.line_size-size.result c.args.text.now c.after-rest.result.now c.body_at.result.now c.lines-test.true c.after-rest.ensures c.line_size-size.ensures.size c.body_at.ensures.body in
    let size : length c.after-rest.result.now ≡ length c.args.text.now - c.lines.at = ap length c.after-rest.ensures ∙ length-drop c.lines.at c.args.text.now in
    record {
      at = omega (arith, c.line_size-size.ensures.fits, c.lines-test.true);
      number = omega (arith, c.lines.invariant.number);
      row = c.lines.invariant.row ∙ ap (left.row_left c.lines.reader.scanner c.lines.reader.before) step ∙ sym (c.in_ok-read_line.ensures.row rest);
      code = c.lines.invariant.code ∙ ap (left.code_left c.args.edition c.lines.reader.code c.lines.reader.before) step ∙ sym (c.in_ok-read_line.ensures.code rest);
      long = c.lines.invariant.long ∙ ap (left.long_left c.lines.reader.long) step ∙ long_step c.lines.reader.long line rest ∙ ap (λ found. left.long_left found rest) (sym c.in_ok-read_line.ensures.long);
      starts = c.lines.invariant.starts ∙ ap (λ lines. c.lines.reader.starts ++ map (λ line. line.at) lines) step
          ∙ sym (append_assoc c.lines.reader.starts (c.lines.at ∷ []) (map (λ line. line.at) rest)) ∙ ap (λ starts. starts ++ map (λ line. line.at) rest) (sym c.in_ok-read_line.ensures.starts);
      counted = counted_more c.read_line.new.self.before (c.lines.at + 1) (c.lines.at + (c.line_size-size.result + 1)) (omega arith) c.in_ok-read_line.ensures.counted;
      within = within_more (c.lines.at + length c.body_at.result.now) (c.lines.at + (c.line_size-size.result + 1)) c.read_line.new.self.scanner (omega (arith, c.body_at.ensures.fits)) c.in_ok-read_line.ensures.within;
      ticks = ticked (length c.args.text.now) c.lines.at c.line_size-size.result c.lines.steps c.tick_all.new.steps (c.args.steps.now + length c.args.text.now)
          c.lines-test.true (omega (arith, c.line_size-size.ensures.fits)) (rw (← size) (c.tick_all.ensures ∙ ap (λ n. c.lines.steps + n) c.min.ensures)) c.lines.invariant.ticks;
    }
