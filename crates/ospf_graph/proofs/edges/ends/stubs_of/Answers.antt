use Rattle.std.proofs.Common.{List, subst, sym}
use Rattle.ospf_graph.specs.Advertisements.{router_lsa}
use Rattle.ospf_graph.specs.declared.graph.Vertex.TheVariants.{Router}
use Rattle.ospf_graph.specs.Adds.{Adds}
use Rattle.ospf_graph.specs.EdgeLists.Given.{AreEndsAt, EndsOf}
use Rattle.ospf_graph.specs.EdgeLists.Listed.{advertisements_of}
use Rattle.ospf_graph.specs.declared.edges.end.End.{End}
use Rattle.ospf_graph.proofs.EdgeLists.VertexLemmas.{ends_by_links, no_stubs}
use Rattle.ospf_graph.proofs.edges.ends.stubs_of.Goals as goal

pub returns-in_ok-add_stubs-in-Some : goal.returns-in_ok-add_stubs-in-Some
returns-in_ok-add_stubs-in-Some c =
    let A = advertisements_of c.args.listing.now in
    ends_by_links A c.args.router c.in-Some.links c.in-Some.ensures.found c.add_stubs.new.ends.items
    (subst (λ (old : List End). Adds (EndsOf A (router_lsa c.args.router c.in-Some.links)) old c.add_stubs.new.ends.items) c.new-ends.ensures.items c.in_ok-add_stubs-in-Some.ensures)

pub returns-in-None : goal.returns-in-None
returns-in-None c =
    let A = advertisements_of c.args.listing.now in
    subst (λ (ends : List End). AreEndsAt A (Router c.args.router) ends) (sym c.new-ends.ensures.items) (no_stubs A c.args.router c.in-None.ensures.none)
