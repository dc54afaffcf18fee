use Rattle.ospf_packet.proofs.RoundTrip.{read_again}
use Rattle.ospf_packet.proofs.laws.reads_what_was_written.Goals as goal

pub returns : goal.returns
returns c = read_again
