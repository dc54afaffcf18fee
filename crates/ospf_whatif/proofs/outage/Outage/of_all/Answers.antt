use Rattle.ospf_graph.specs.EdgeLists.Listed.{advertisements_of}
use Rattle.ospf_whatif.proofs.outage.Outage.of_all.Goals as goal

pub returns-in-None-clause-outage : goal.returns-in-None-clause-outage
returns-in-None-clause-outage c = c.none.ensures.outage (advertisements_of c.args.listing.now)
