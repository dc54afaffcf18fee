use Rattle.std.proofs.Common.{◌≡◌}
use Rattle.ospf_graph.specs.Advertisements.{transit_address}
use Rattle.ospf_graph.proofs.edges.lookups.transit_link_data.Given as goal

abbrev pub invariant-loop-link : goal.invariant-loop-link
invariant-loop-link l = transit_address l.id l.fn.links ≡ transit_address l.id l.link-iterator
