use Rattle.std.proofs.Common.{◌≡◌, ◌++◌, ◌∷◌, Some, None, arith}
use Rattle.std.specs.Fmt.{decimal}
use Rattle.plan_file.proofs.Words.{file_after, number_lacks, name_lacks}
use Rattle.plan_file.proofs.fields.likely_file.Goals as goal

pub returns-in_err-digits : goal.returns-in_err-digits
returns-in_err-digits c = λ size name small valid begins.
    let found = file_after c.args.bytes.now c.in_ok-rest.rest.now size name c.in_ok-rest.ensures begins in
    absurd (c.in_err-digits.ensures (decimal size) (name ++ 10 ∷ found.0) (number_lacks 32 size (omega arith) (omega arith)) found.1)

pub returns-in_err-size : goal.returns-in_err-size
returns-in_err-size c = λ size name small valid begins.
    let found = file_after c.args.bytes.now c.in_ok-rest.rest.now size name c.in_ok-rest.ensures begins in
    let parts = c.in_ok-digits.ensures (decimal size) (name ++ 10 ∷ found.0) (number_lacks 32 size (omega arith) (omega arith)) found.1 in
    let both : None ≡ Some size = c.in_err-size.ensures size small parts.0 in
    absurd (cc)

pub returns-in_err-name : goal.returns-in_err-name
returns-in_err-name c = λ size name small valid begins.
    let found = file_after c.args.bytes.now c.in_ok-rest.rest.now size name c.in_ok-rest.ensures begins in
    let parts = c.in_ok-digits.ensures (decimal size) (name ++ 10 ∷ found.0) (number_lacks 32 size (omega arith) (omega arith)) found.1 in
    absurd (c.in_err-name.ensures name found.0 (name_lacks 10 name (omega arith) valid) parts.1)

pub returns : goal.returns
returns c = λ size name small valid begins.
    let found = file_after c.args.bytes.now c.in_ok-rest.rest.now size name c.in_ok-rest.ensures begins in
    let parts = c.in_ok-digits.ensures (decimal size) (name ++ 10 ∷ found.0) (number_lacks 32 size (omega arith) (omega arith)) found.1 in
    let number : Some c.in_ok-size.size ≡ Some size = c.in_ok-size.ensures size small parts.0 in
    let called = c.in_ok-name.ensures name found.0 (name_lacks 10 name (omega arith) valid) parts.1 in
    (cc, called.0)
