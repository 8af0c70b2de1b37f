use Rattle.core_sim.proofs.Copying.{copy_calls, reads_take_one}
use Rattle.core_sim.proofs.laws.a_copy_takes_four_steps.Goals as goal

pub returns-clause-reads : goal.returns-clause-reads
returns-clause-reads c = reads_take_one

pub returns-clause-calls : goal.returns-clause-calls
returns-clause-calls c = copy_calls
