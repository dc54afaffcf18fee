use Rattle.ospf_graph.specs.Adds.{Adds}
use Rattle.ospf_graph.specs.EdgeLists.Listed.{advertisements_of}
use Rattle.ospf_graph.specs.EdgeLists.Near.{LinksSend, SendsEdge}
use Rattle.ospf_graph.proofs.EdgeLists.NearLemmas.{on_ok, sends_as}
use Rattle.ospf_graph.proofs.edges.near.add_sent.Goals as goal

pub returns-in-Some : goal.returns-in-Some
returns-in-Some c =
    let A = advertisements_of c.args.listing.now in
    let old = c.args.edges.now.items in
    let new = c.add_sent_links.new.edges.items in
    on_ok c.add_sent_links.result (Adds (LinksSend c.args.router c.args.to c.in-Some.links) old new) (Adds (SendsEdge c.args.router c.args.to A) old new)
    (sends_as A c.args.router c.args.to c.in-Some.links c.in-Some.ensures.found old new) c.add_sent_links.ensures
