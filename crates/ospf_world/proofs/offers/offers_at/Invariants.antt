use Rattle.std.proofs.Common.{◌≡◌, take}
use Rattle.std.specs.List.{flat_map}
use Rattle.ospf_world.specs.Rounds.{offer_at}
use Rattle.ospf_world.proofs.offers.offers_at.Given as goal

abbrev pub invariant-loop-at : goal.invariant-loop-at
invariant-loop-at l = l.events.items ≡ flat_map (offer_at l.datagram l.from l.sent l.slots) (take l.at-index l.links)
