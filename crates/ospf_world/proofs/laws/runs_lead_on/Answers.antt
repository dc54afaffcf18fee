use Rattle.ospf_world.proofs.RunLemmas.{run_happens}
use Rattle.ospf_world.proofs.laws.runs_lead_on.Goals as goal

pub returns : goal.returns
returns c is_dropped events before after result run = run_happens is_dropped events before after result run
