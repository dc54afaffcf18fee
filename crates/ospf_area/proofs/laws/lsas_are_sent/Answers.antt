use Rattle.ospf_area.proofs.SendingLemmas.{lsa_out_short}
use Rattle.ospf_area.proofs.laws.lsas_are_sent.Goals as goal

pub returns : goal.returns
returns c = lsa_out_short
