use Rattle.std.proofs.Common.{arith}
use Rattle.free_scan.specs.steps.Scanning.{IsWithin, flushed}
use Rattle.free_scan.proofs.ScanLaws.{within_flushed}
use Rattle.free_scan.proofs.free_form.scanner.Scanner.cut.Goals as goal

pub end_statement-requires : goal.end_statement-requires
end_statement-requires c =
    let within : IsWithin 2147483647 (flushed c.args.self.now) = within_flushed 2147483647 c.args.self.now c.requires in
    rw c.in_ok-flush.ensures (omega (arith, within))
