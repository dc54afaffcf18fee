use Rattle.std.proofs.Common.{◌↔◌, ◌<◌, IsTrue, List, length, subst}
use Rattle.ospf_graph.proofs.EdgeLists.ListedLemmas.{network_of, router_of}
use Rattle.ospf_lsa.specs.declared.link.Link.{Link}
use Rattle.ospf_change.proofs.edit.large.is_large.Goals as goal

pub returns-in-Router : goal.returns-in-Router
returns-in-Router c =
    rw (router_of c.args.lsa.now (c.kind.ensures.router c.in-Router.is))
    (subst (λ (l : List Link). IsTrue c.are_more.result ↔ (1361 < length l)) c.links.ensures c.are_more.ensures)

pub returns-in-Network : goal.returns-in-Network
returns-in-Network c = rw (network_of c.args.lsa.now (c.kind.ensures.network c.in-Network.is)) (λ yes. cc, λ is. absurd is)
