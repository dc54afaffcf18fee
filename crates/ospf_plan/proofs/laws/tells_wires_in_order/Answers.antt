use Rattle.ospf_plan.proofs.WireOrder.{wire_faults_rise}
use Rattle.ospf_plan.proofs.Words.{is_rising}
use Rattle.ospf_plan.specs.Ends.{ends_of}
use Rattle.ospf_plan.specs.Wires.{wire_faults_in, wires_of}
use Rattle.ospf_plan.specs.Laws.{IsWireFindingBefore}
use Rattle.ospf_plan.proofs.laws.tells_wires_in_order.Goals as goal

pub returns : goal.returns
returns c = λ configs. is_rising IsWireFindingBefore (wire_faults_in (ends_of configs) (wires_of configs)) (wire_faults_rise configs)
