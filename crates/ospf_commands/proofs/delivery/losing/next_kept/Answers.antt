use Rattle.ospf_commands.proofs.Deliveries.LossFacts.{kept_none, kept_some}
use Rattle.ospf_commands.proofs.delivery.losing.next_kept.Goals as goal

pub returns-in_ok-kept-in-Some-clause-next : goal.returns-in_ok-kept-in-Some-clause-next
returns-in_ok-kept-in-Some-clause-next c =
    let found = c.in-Some.ensures.lookup in
    kept_some c.args.world.now c.args.losses.now c.kept_from.new.self c.datagrams.result.now c.offered-place.result c.in-Some.sent.now c.source_of.result c.in_ok-offers-in-Some.offers.items c.in_ok-kept-in-Some.kept.items
    c.datagrams.ensures c.offered-place.ensures found.3.0 found.1 c.source_of.ensures c.in_ok-offers-in-Some.ensures c.in_ok-kept-in-Some.ensures.kept

pub returns-in-None-clause-next : goal.returns-in-None-clause-next
returns-in-None-clause-next c =
    let past = c.in-None.ensures.lookup in
    kept_none c.args.world.now c.args.losses.now c.datagrams.result.now c.offered-place.result c.datagrams.ensures c.offered-place.ensures past.3
