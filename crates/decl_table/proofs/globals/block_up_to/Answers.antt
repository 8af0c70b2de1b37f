use Rattle.std.proofs.Common.{None, ap, ◌∙◌, is_some, if◌then◌else◌}
use Rattle.decl_table.specs.steps.Globals.{kept_by, twice_in_turn}
use Rattle.decl_table.proofs.GlobalPairs.{keeps_more, block_more}
use Rattle.decl_table.proofs.globals.block_up_to.Goals as goal

pub returns-clause-kept : goal.returns-clause-kept
returns-clause-kept c =
    λ before keeps name. keeps_more (kept_by c.args.blocks.now) (kept_by c.keep.new.self) before c.args.given.now keeps c.in_ok-keep.ensures name

pub returns-clause-found : goal.returns-clause-found
returns-clause-found c =
    λ all before keeps kept is. block_more (kept_by c.args.units.now) (kept_by c.args.blocks.now) all before c.args.given.now c.args.found c.earlier.result c.block_fault-pair.result keeps kept
    (c.block_fault-pair.ensures
    ∙ ap (λ first. if is_some first then None else twice_in_turn c.args.given.now.at (kept_by c.args.units.now c.args.given.now.name)) c.first-first.ensures)
    is c.earlier.ensures.joined
