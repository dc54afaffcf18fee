use Rattle.std.proofs.Common.{Some, sym, ap, ◌∙◌}
use Rattle.ospf_packet.proofs.PacketLaws.{packet_of-is, packet_of-not}
use Rattle.ospf_packet.specs.declared.fault.PacketFault.TheVariants as fault
use Rattle.ospf_packet.proofs.packet.Packet.read.Goals as goal

pub valid_packet-requires-clause-long : goal.valid_packet-requires-clause-long
valid_packet-requires-clause-long c = c.in-None.ensures.none fault.Short

pub valid_packet-requires-clause-body : goal.valid_packet-requires-clause-body
valid_packet-requires-clause-body c = c.in-None.ensures.none fault.Body

pub returns-in-Some-clause-none : goal.returns-in-Some-clause-none
returns-in-Some-clause-none c =
    let first = c.in-Some.ensures.fault in
    packet_of-not c.args.bytes.now (λ is. first.broken (is c.in-Some.fault))

pub returns-in-None-clause-ok : goal.returns-in-None-clause-ok
returns-in-None-clause-ok c = packet_of-is c.args.bytes.now c.in-None.ensures.none ∙ ap Some (sym c.valid_packet.ensures)
