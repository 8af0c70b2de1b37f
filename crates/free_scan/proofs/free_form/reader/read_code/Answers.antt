use Rattle.std.proofs.Common.{◌+◌, length, arith}
use Rattle.free_scan.proofs.ScanLaws.{within_more}
use Rattle.free_scan.proofs.free_form.reader.read_code.Goals as goal

pub take_line-requires-clause-within : goal.take_line-requires-clause-within
take_line-requires-clause-within c =
    within_more c.args.at (c.args.at + c.skipped.result) c.begin_line.new.self (omega arith) (c.in_ok-begin_line.ensures.within c.args.at c.requires.within)

pub returns-clause-within : goal.returns-clause-within
returns-clause-within c =
    within_more (c.args.at + c.skipped.result + length c.before_mark-text.result.now) (c.args.at + length c.args.body.now) c.take_line.new.self
    (omega (arith, c.skipped.ensures.count, c.said-whole.ensures.fits, c.before_mark-text.ensures.fits)) c.in_ok-end.ensures.within
