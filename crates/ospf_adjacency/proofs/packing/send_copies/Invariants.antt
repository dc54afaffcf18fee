use Rattle.std.proofs.Common.{◌≡◌, ◌-◌, [], map}
use Rattle.ospf_area.specs.Outboxes.{and_packets}
use Rattle.ospf_adjacency.specs.Packing.{bytes_in, packed, copies_of}
use Rattle.ospf_adjacency.proofs.Words.{update_to}
use Rattle.ospf_adjacency.proofs.packing.send_copies.Given as goal

-- what is packed and what is still to be packed go out behind what went out before
abbrev pub invariant-loop-key : goal.invariant-loop-key
invariant-loop-key l = record {
  left : l.left ≡ l.room - bytes_in l.batch.items;
  sent : and_packets l.outbox (map (update_to l.destination) (packed l.room l.batch.items (copies_of l.database l.delay l.key-iterator))) ≡ and_packets l.fn.outbox (map (update_to l.destination) (packed l.room [] (copies_of l.database l.delay l.keys.keys)));
}
