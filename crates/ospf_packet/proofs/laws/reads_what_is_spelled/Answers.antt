use Rattle.ospf_packet.proofs.Spelled.{reads_exactly}
use Rattle.ospf_packet.proofs.laws.reads_what_is_spelled.Goals as goal

pub returns : goal.returns
returns c = reads_exactly
