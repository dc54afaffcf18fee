use Rattle.std.proofs.Common.{refl}
use Rattle.ospf_world.proofs.RoundFacts.{next_none, next_some}
use Rattle.ospf_world.proofs.world.World.next_offers.Goals as goal

pub returns-in_ok-offers_of-in-Some-clause-next : goal.returns-in_ok-offers_of-in-Some-clause-next
returns-in_ok-offers_of-in-Some-clause-next c =
    let found = c.in-Some.ensures.lookup in
    next_some c.args.self.now c.datagrams.result.now c.args.self.now.slots c.offered-place.result c.in-Some.sent.now c.in_ok-offers_of-in-Some.field-0.items
    c.datagrams.ensures refl c.offered-place.ensures found.3.0 found.1 c.in_ok-offers_of-in-Some.ensures

pub returns-in-None-clause-next : goal.returns-in-None-clause-next
returns-in-None-clause-next c =
    let past = c.in-None.ensures.lookup in
    next_none c.args.self.now c.datagrams.result.now c.offered-place.result c.datagrams.ensures c.offered-place.ensures past.3
