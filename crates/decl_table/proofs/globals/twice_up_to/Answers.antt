use Rattle.std.proofs.Common.{ap, ◌∙◌}
use Rattle.decl_table.specs.steps.Globals.{kept_by, twice}
use Rattle.decl_table.proofs.GlobalPairs.{keeps_more, twice_more}
use Rattle.decl_table.proofs.globals.twice_up_to.Goals as goal

pub returns-clause-kept : goal.returns-clause-kept
returns-clause-kept c =
    λ before keeps name. keeps_more (kept_by c.args.seen.now) (kept_by c.keep.new.self) before c.args.given.now keeps c.in_ok-keep.ensures name

pub returns-clause-found : goal.returns-clause-found
returns-clause-found c =
    λ before keeps is. twice_more (kept_by c.args.seen.now) before c.args.given.now c.args.found c.earlier.result c.twice.result keeps
    (c.twice.ensures ∙ ap (twice c.args.given.now.at) c.first-first.ensures) is c.earlier.ensures.joined
