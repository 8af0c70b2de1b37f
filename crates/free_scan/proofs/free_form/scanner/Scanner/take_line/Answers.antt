use Rattle.std.proofs.Common.{◌∙◌, ap, sym}
use Rattle.free_scan.specs.steps.Firsts.{least}
use Rattle.free_scan.proofs.PlainTextLaws.{plain_line, plain_open, plain_right, plain_uncut, within_read}
use Rattle.free_scan.proofs.free_form.scanner.Scanner.take_line.Goals as goal

pub returns-in-Some-clause-state : goal.returns-in-Some-clause-state
returns-in-Some-clause-state c =
    c.in_ok-cut_row.ensures
    ∙ plain_line c.args.self.now c.args.quote c.in-Some.open c.args.line c.args.at c.args.bytes.now c.args.goes_on c.if-not-goes_on.true (sym c.in-Some.ensures)

pub returns-in-Some-clause-within : goal.returns-in-Some-clause-within
returns-in-Some-clause-within c = rw c.in_ok-cut_row.ensures (within_read c.args.at c.args.line c.args.at c.args.bytes.now c.args.self.now c.requires.within)

pub returns-in-Some-clause-code : goal.returns-in-Some-clause-code
returns-in-Some-clause-code c = sym (ap (least c.args.code.now) (plain_right c.args.quote c.in-Some.open c.args.at c.args.bytes.now (sym c.in-Some.ensures)))

pub returns-in-Some-clause-end : goal.returns-in-Some-clause-end
returns-in-Some-clause-end c = (
  sym (plain_open c.args.quote c.in-Some.open c.args.bytes.now (sym c.in-Some.ensures)),
  sym (plain_uncut c.args.quote c.in-Some.open c.args.line c.args.at c.args.bytes.now (sym c.in-Some.ensures)),
)
