use Rattle.std.proofs.Common.{◌≢◌, length, sym, ◌∙◌, arith}
use Rattle.std.proofs.lemmas.Bool.{eqb-true, eqb-false}
use Rattle.std.proofs.lemmas.Result.{err_from_is_err_and}
use Rattle.plan_file.proofs.Broken.{broken_title, broken_end, broken_more}
use Rattle.plan_file.proofs.Progress.{no_count, bad_count, stands_first, stands_more, stays_small, stopped_there, whole_there}
use Rattle.plan_file.proofs.reading.read_files.Goals as goal
use Rattle.plan_file.proofs.reading.read_files.Goals.{then-count-lt1-via-then-count-lt1, then-count-lt1-via-else-count-lt1+then-count-gt-MOST_FILES}

pub returns-in_default-clause-stopped : goal.returns-in_default-clause-stopped
returns-in_default-clause-stopped c = broken_title c.args.bytes.now c.in_default.ensures

pub returns-in_default-2-clause-stopped : goal.returns-in_default-2-clause-stopped
returns-in_default-2-clause-stopped c = no_count c.in_ok-count.field-0 (λ x. x.0) c.args.bytes.now c.in-Some.rest.now c.in-Some.ensures c.in_default-2.is c.in_ok-count.ensures.only

pub returns-then-count-lt1-clause-stopped : goal.returns-then-count-lt1-clause-stopped
returns-then-count-lt1-clause-stopped c =
    bad_count c.in_ok-count.field-0 (λ x. x.0) c.args.bytes.now c.in-Some.rest.now _ c.in-Some.ensures c.in-Some-2.is c.in_ok-count.ensures.only
    (λ some few. elim c.then-count-lt1.branch [ then-count-lt1-via-then-count-lt1 w ↦ omega arith | then-count-lt1-via-else-count-lt1+then-count-gt-MOST_FILES w ↦ omega arith ])

pub files-init : goal.files-init
files-init c =
    stands_first c.in_ok-count.field-0 (λ x. x.0) (λ x. x.1.now) c.args.bytes.now c.in-Some.rest.now _ c.new-files.result.items c.in-Some.ensures c.in-Some-2.is c.in_ok-count.ensures.stands (omega arith) (omega arith) c.new-files.ensures.items

pub next_file-requires-clause-order : goal.next_file-requires-clause-order
next_file-requires-clause-order c = c.files.invariant.stands.begun.in_order

pub next_file-requires-clause-total : goal.next_file-requires-clause-total
next_file-requires-clause-total c = c.files.invariant.sum

pub next_file-requires-clause-small : goal.next_file-requires-clause-small
next_file-requires-clause-small c = let sum = c.files.invariant.sum in let small = c.files.invariant.stands.begun.small in omega arith

pub returns-in_err-size-clause-stopped : goal.returns-in_err-size-clause-stopped
returns-in_err-size-clause-stopped c =
    let number = c.files.invariant.number in
    let p = err_from_is_err_and c.from_residual-in_err-size.result c.from_residual-in_err-size.ensures.1 in
    rw (p.1, p.2) (stopped_there c.in_err-size.field-0.0 c.args.bytes.now c.in-Some-2.count c.files.files.items c.files.left.now c.files.invariant.stands (omega arith) c.in_err-size.ensures.stopped)

pub overflow_add-total : goal.overflow_add-total
overflow_add-total c =
    let small = stays_small c.files.files.items c.next_file.new.files.items c.files.left.now c.in_ok-size.after_file.now c.files.total c.in_ok-size.size c.files.invariant.sum c.in_ok-size.ensures.took in
    omega arith

pub files-preserved : goal.files-preserved
files-preserved c =
    stands_more c.args.bytes.now c.in-Some-2.count c.files.files.items c.next_file.new.files.items c.files.left.now c.in_ok-size.after_file.now c.files.total c.files.counter c.in_ok-size.size c.files.invariant (omega arith) c.in_ok-size.ensures.took

pub returns-in-None-clause-stopped : goal.returns-in-None-clause-stopped
returns-in-None-clause-stopped c =
    let number = c.files.invariant.number in
    let within = c.files.invariant.stands.begun.within in
    broken_end c.args.bytes.now c.in-Some-2.count c.files.files.items c.files.left.now c.files.invariant.stands (omega arith) c.in-None.ensures

pub returns-then-is_empty-clause-plan : goal.returns-then-is_empty-clause-plan
returns-then-is_empty-clause-plan c =
    let number = c.files.invariant.number in
    let within = c.files.invariant.stands.begun.within in
    whole_there c.args.bytes.now c.in-Some-2.count c.files.files.items c.files.left.now c.in-Some-after.more.now c.files.invariant.stands (omega arith) c.in-Some-after.ensures (eqb-true (length c.in-Some-after.more.now) 0 (sym c.is_empty.ensures ∙ c.if-is_empty.true))

pub returns-else-is_empty-clause-stopped : goal.returns-else-is_empty-clause-stopped
returns-else-is_empty-clause-stopped c =
    let number = c.files.invariant.number in
    let within = c.files.invariant.stands.begun.within in
    let some : length c.in-Some-after.more.now ≢ 0 = eqb-false (length c.in-Some-after.more.now) 0 (sym c.is_empty.ensures ∙ c.if-is_empty.false) in
    broken_more c.args.bytes.now c.in-Some-2.count c.files.files.items c.files.left.now c.in-Some-after.more.now c.files.invariant.stands (omega arith) c.in-Some-after.ensures (omega arith)
