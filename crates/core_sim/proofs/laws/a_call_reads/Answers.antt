use Rattle.core_sim.proofs.Reading.{reads_keep}
use Rattle.core_sim.proofs.laws.a_call_reads.Goals as goal

pub returns : goal.returns
returns c = reads_keep
