use Rattle.std.proofs.Common.{rules}
use Rattle.rename_ref.specs.Meaning.{leaf}
use Rattle.rename_ref.proofs.LastTerm.{last_term}
use Rattle.rename_ref.proofs.first_meaning.expression.+value.Goals as goal

pub returns-in_err-steps-in-len1-up : goal.returns-in_err-steps-in-len1-up
returns-in_err-steps-in-len1-up t c = rw (last_term (leaf c.args.first.now) c.args.terms.now c.term-item.result c.in-len1-up.len_at_least c.term-item.is) (search rules)

pub returns-in_err-left-in-len1-up : goal.returns-in_err-left-in-len1-up
returns-in_err-left-in-len1-up t c = rw (last_term (leaf c.args.first.now) c.args.terms.now c.term-item.result c.in-len1-up.len_at_least c.term-item.is) (search rules)

pub returns-in_err-right-in-len1-up : goal.returns-in_err-right-in-len1-up
returns-in_err-right-in-len1-up t c = rw (last_term (leaf c.args.first.now) c.args.terms.now c.term-item.result c.in-len1-up.len_at_least c.term-item.is) (search rules)

pub returns-in_err-combined-in-len1-up : goal.returns-in_err-combined-in-len1-up
returns-in_err-combined-in-len1-up t c = rw (last_term (leaf c.args.first.now) c.args.terms.now c.term-item.result c.in-len1-up.len_at_least c.term-item.is) (search rules)

pub returns-in_ok-combined-in-len1-up : goal.returns-in_ok-combined-in-len1-up
returns-in_ok-combined-in-len1-up t c = rw (last_term (leaf c.args.first.now) c.args.terms.now c.term-item.result c.in-len1-up.len_at_least c.term-item.is) (search rules)
