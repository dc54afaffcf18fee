use Rattle.ospf_graph.specs.EdgeLists.Listed.{advertisements_of}
use Rattle.ospf_graph.proofs.EdgeLists.HopLinks.{cost_of, none_of}
use Rattle.ospf_graph.proofs.edges.cost.link_cost.Goals as goal

pub returns-clause-cost : goal.returns-clause-cost
returns-clause-cost c =
    cost_of (advertisements_of c.args.listing.now) c.args.router c.in_ok-links.links c.args.hop.now c.least_of.result c.in_ok-links.ensures.found.listed c.in_ok-links.ensures.found.only c.least_of.ensures

pub returns-clause-none : goal.returns-clause-none
returns-clause-none c =
    none_of (advertisements_of c.args.listing.now) c.args.router c.in_ok-links.links c.args.hop.now c.least_of.result c.in_ok-links.ensures.found.only c.least_of.ensures
