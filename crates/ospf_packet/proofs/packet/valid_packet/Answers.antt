use Rattle.std.proofs.Common.{refl}
use Rattle.std.proofs.lemmas.List.{take_rest}
use Rattle.ospf_packet.specs.Packet.{meaning_of}
use Rattle.ospf_packet.proofs.packet.valid_packet.Goals as goal

pub body-requires : goal.body-requires
body-requires c = rw (take_rest c.args.bytes.now 24) c.requires.body

pub returns : goal.returns
returns c =
    let body = rw (take_rest c.args.bytes.now 24) at c.body.ensures in
    rw (c.u32_at.ensures, c.u32_at-2.ensures, body) (refl {a = meaning_of c.args.bytes.now})
