use Rattle.plan_file.proofs.Progress.{Standing}
use Rattle.plan_file.proofs.reading.read_files.Given as goal

abbrev pub invariant-files : goal.invariant-files
invariant-files l = Standing l.bytes l.count l.files.items l.left l.total l.counter
