use Rattle.std.proofs.Common.{arith}
use Rattle.ospf_lsa.proofs.ListingLemmas.{is_network, not_network}
use Rattle.ospf_lsa.proofs.listing.last_network.Goals as goal

pub returns-then-is_of_network-clause-found : goal.returns-then-is_of_network-clause-found
returns-then-is_of_network-clause-found c =
    is_network c.args.lsas.now c.requires.listing c.args.id c.count_through-at.result c.count_through-at.ensures c.index-lsas-at.result (omega arith) c.index-lsas-at.is
    (c.is_of_network.ensures.0 c.if-is_of_network.true)

pub returns-else-is_of_network-clause-none : goal.returns-else-is_of_network-clause-none
returns-else-is_of_network-clause-none c =
    not_network c.args.lsas.now c.requires.listing c.args.id c.count_through-at.result c.count_through-at.ensures c.index-lsas-at.result (omega arith) c.index-lsas-at.is
    (λ of. let yes = c.is_of_network.ensures.1 of in cc)
