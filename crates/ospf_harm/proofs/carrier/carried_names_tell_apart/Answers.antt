use Rattle.ospf_harm.proofs.CarrierLemmas.{carried_names_tell_apart}
use Rattle.ospf_harm.proofs.carrier.carried_names_tell_apart.Goals as goal

pub returns : goal.returns
returns c = carried_names_tell_apart
