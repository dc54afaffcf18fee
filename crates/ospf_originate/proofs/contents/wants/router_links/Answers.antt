use Rattle.std.proofs.Common.{rules}
use borrow.Author.Tests.{tests}
use Rattle.std.proofs.lemmas.Iterator.{YieldsList-from_map, YieldsList-from_slice, items_from_collect}
use Rattle.std.proofs.lemmas.Iterator.Consumers.{YieldsList-from_filter}
use Rattle.ospf_neighbour.specs.Neighbour.{NeighbourValue}
use Rattle.ospf_originate.specs.Wants.Wanted.{is_full, router_link}
use Rattle.ospf_originate.proofs.contents.wants.router_links.Goals as goal

pub returns : goal.returns
returns c =
    items_from_collect _ c.collect.ensures.ran
    (YieldsList-from_map _ (λ (n : NeighbourValue). router_link c.args.stub_router c.args.link.now n)
    (YieldsList-from_filter _ is_full (YieldsList-from_slice c.args.neighbours.now cc) c.filter.ensures.closure (λ x b q k. search (rules, tests)))
    c.map.ensures.closure (λ x r q k. search rules))
