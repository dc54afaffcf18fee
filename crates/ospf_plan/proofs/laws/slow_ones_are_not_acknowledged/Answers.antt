use Rattle.ospf_plan.proofs.SlowLemmas.{slow}
use Rattle.ospf_plan.proofs.laws.slow_ones_are_not_acknowledged.Goals as goal

pub returns : goal.returns
returns c = λ e sent copy ticks same aged young over. slow e.transmit_delay sent copy ticks same aged young over
