use Rattle.ospf_adjacency.proofs.CopyLemmas.{updates_are_packed}
use Rattle.ospf_adjacency.proofs.resend_laws.updates_are_packed.Goals as goal

pub returns : goal.returns
returns c = updates_are_packed
