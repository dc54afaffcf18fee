use Rattle.std.proofs.Common.{arith}
use Rattle.ospf_lsa.specs.Attached.{router_bytes}
use Rattle.ospf_packet.proofs.EntryLemmas.{room_more}
use Rattle.ospf_packet.proofs.write.push_neighbours.Goals as goal

pub push_bytes-requires : goal.push_bytes-requires
push_bytes-requires c =
    let routers = c.args.routers.now in
    let i = c.loop-router.router-index in
    let one = room_more router_bytes routers i (record { 0 = 0 }) c.args.out.now.items c.loop-router.out.items c.loop-router-test.true c.loop-router.invariant.bytes in
    record { room = omega (arith, one, c.requires.room, c.loop-router.invariant.capacity, c.loop-router.out.ok, c.args.out.now.ok) }
