use Rattle.ospf_graph.specs.EdgeLists.Listed.{advertisements_of}
use Rattle.ospf_graph.proofs.EdgeLists.HopLinks.{link_to_names, names_to_link}
use Rattle.ospf_graph.proofs.edges.lookups.links_to.Goals as goal

pub returns-in-Some : goal.returns-in-Some
returns-in-Some c =
    let A = advertisements_of c.args.listing.now in
    let links = c.in-Some.links in (
      λ yes. names_to_link A c.args.from links c.args.kind c.args.id c.in-Some.ensures.found.listed (c.has_link.ensures.0 yes),
      λ there. c.has_link.ensures.1 (link_to_names A c.args.from links c.args.kind c.args.id c.in-Some.ensures.found.only there),
    )
