use Rattle.std.proofs.Common.{rules}
use Rattle.spec_parse.proofs.colons.after_colons.Goals as goal

pub returns-in_err-items : goal.returns-in_err-items
returns-in_err-items g c reader reads = let e = c.separated.ensures reader reads in search rules
