use Rattle.ospf_adjacency.proofs.CopyLemmas.{keys_go_in_order}
use Rattle.ospf_adjacency.proofs.resend_laws.keys_go_in_order.Goals as goal

pub returns : goal.returns
returns c = keys_go_in_order
