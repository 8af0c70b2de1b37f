use Rattle.ftn_tool.proofs.Completing.{found_since, recovers}
use Rattle.ftn_tool.proofs.recovering.recover.Goals as goal

pub returns-in-Ok-found_line : goal.returns-in-Ok-found_line
returns-in-Ok-found_line g c =
    recovers c.plan_texts_stay_apart.ensures _ c.carry_out_found.result c.in-Ok-find_plan.found c.in-Ok-found_line.line c.in-Ok-found_line.ensures c.in-Ok-find_plan.ensures.found c.in-Ok-find_plan.ensures.order
    (found_since c.in-Ok-found_line.line c.in-Ok-find_plan.found _ _ _ _ _ _ _ _ _ _ _ _ c.carry_out_found.result c.find_plan.ensures.same c.find_plan.ensures.later (rw c.bytes.ensures at c.carry_out_found.ensures))
