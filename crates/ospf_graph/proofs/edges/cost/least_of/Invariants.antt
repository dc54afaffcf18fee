use Rattle.std.proofs.Common.{◌≡◌, ◌++◌}
use Rattle.ospf_graph.specs.EdgeLists.Listed.{advertisements_of}
use Rattle.ospf_graph.specs.EdgeLists.Costs.{IsLeastOf, Leads}
use Rattle.ospf_graph.proofs.edges.cost.least_of.Given as goal

abbrev pub invariant-loop-link : goal.invariant-loop-link
invariant-loop-link l = record {
  walked : l.fn.links ≡ l.yielded ++ l.link-iterator;
  least : IsLeastOf (Leads (advertisements_of l.listing) l.router l.hop) l.yielded l.least;
}
