use Rattle.std.proofs.Common.{◌≤◌, length, sym, ◌∙◌, arith}
use Rattle.rename_ref.proofs.LineLengths.{all_lengths}
use Rattle.rename_ref.proofs.conditions.line_lengths.Goals as goal

pub returns : goal.returns
returns c =
    let past : length c.args.text.now ≤ c.loop-byte.byte-index = omega arith in
    let all = all_lengths c.args.text.now c.loop-byte.lengths.items c.loop-byte.length c.loop-byte.byte-index past c.loop-byte.invariant.lengths in
    c.in_ok-end_last.ensures ∙ sym all
