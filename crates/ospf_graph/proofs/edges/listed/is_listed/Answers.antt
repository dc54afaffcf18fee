use Rattle.std.proofs.Common.{refl}
use Rattle.ospf_lsa.specs.Lsa.{links_of}
use Rattle.ospf_graph.proofs.EdgeLists.ListedLemmas.{router_found, router_none}
use Rattle.ospf_graph.proofs.edges.listed.is_listed.Goals as goal

pub returns-in-Some : goal.returns-in-Some
returns-in-Some c =
    let lsa = c.in-Some.field-0.now in
    let found = c.in-Some.ensures.found in
    ((λ yes. (links_of lsa, router_found c.args.listing.now c.router.ensures.listing c.args.router lsa found.0 found.1)), (λ listed. refl))

pub returns-in-None : goal.returns-in-None
returns-in-None c =
    ((λ no. cc), (λ listed. absurd (router_none c.args.listing.now c.router.ensures.listing c.args.router c.in-None.ensures.none listed)))
