use Rattle.ospf_plan.proofs.FurtherLemmas.{found_mask, found_mask_steps, found_nobody, takes_no_second}
use Rattle.ospf_plan.proofs.laws.further_faults_keep_apart.Goals as goal

pub returns-clause-mask : goal.returns-clause-mask
returns-clause-mask c = found_mask

pub returns-clause-mask_steps : goal.returns-clause-mask_steps
returns-clause-mask_steps c = found_mask_steps

pub returns-clause-crowd : goal.returns-clause-crowd
returns-clause-crowd c = takes_no_second

pub returns-clause-nobody : goal.returns-clause-nobody
returns-clause-nobody c = found_nobody
