use Rattle.std.proofs.Common.{◌+◌, length, arith}
use Rattle.free_scan.proofs.ScanLaws.{within_more}
use Rattle.free_scan.proofs.free_form.reader.Reader.read_line.Goals as goal

pub returns-else-not-is_comment-clause-within : goal.returns-else-not-is_comment-clause-within
returns-else-not-is_comment-clause-within c = within_more c.args.at (c.args.at + length c.args.body.now) c.args.self.now.scanner (omega arith) c.requires.within
