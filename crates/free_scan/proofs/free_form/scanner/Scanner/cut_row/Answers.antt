use Rattle.std.proofs.Common.{◌+◌, length, arith}
use Rattle.free_scan.specs.steps.PlainText.{with_row}
use Rattle.free_scan.specs.steps.Scanning.{IsWithin, flushed}
use Rattle.free_scan.proofs.PlainTextLaws.{within_flushed_row}
use Rattle.free_scan.proofs.free_form.scanner.Scanner.cut_row.Goals as goal

pub end_statement-requires : goal.end_statement-requires
end_statement-requires c =
    let within : IsWithin (c.args.at + length c.args.bytes.now) (flushed (with_row c.args.line c.args.at c.args.bytes.now c.args.self.now))
    = within_flushed_row c.args.at c.args.line c.args.at c.args.bytes.now c.args.self.now c.requires.within in
    rw c.in_ok-flush_row.ensures (omega (arith, within, c.requires.few))
