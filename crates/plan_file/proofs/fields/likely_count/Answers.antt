use Rattle.std.proofs.Common.{arith}
use Rattle.std.specs.Fmt.{decimal}
use Rattle.plan_file.proofs.Words.{count_after, number_lacks}
use Rattle.plan_file.proofs.fields.likely_count.Goals as goal

pub returns-in_err-split : goal.returns-in_err-split
returns-in_err-split c = λ n small begins.
    let found = count_after c.args.bytes.now c.in_ok-rest.rest.now n c.in_ok-rest.ensures begins in
    absurd (c.in_err-split.ensures (decimal n) found.0 (number_lacks 10 n (omega arith) (omega arith)) found.1)

pub returns : goal.returns
returns c = λ n small begins.
    let found = count_after c.args.bytes.now c.in_ok-rest.rest.now n c.in_ok-rest.ensures begins in
    let parts = c.in_ok-split.ensures (decimal n) found.0 (number_lacks 10 n (omega arith) (omega arith)) found.1 in
    c.number.ensures n small parts.0
