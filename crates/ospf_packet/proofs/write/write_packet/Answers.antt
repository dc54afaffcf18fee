use Rattle.ospf_packet.specs.Said.{meant}
use Rattle.ospf_packet.proofs.RoundTrip.{read_again}
use Rattle.ospf_packet.proofs.write.write_packet.Goals as goal

pub returns-clause-again : goal.returns-clause-again
returns-clause-again c = read_again (meant c.args.value.now) c.push_packet.ensures.fits
