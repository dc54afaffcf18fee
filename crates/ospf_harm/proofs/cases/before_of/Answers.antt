use Rattle.ospf_graph.specs.EdgeLists.Listed.{advertisements_of}
use Rattle.ospf_harm.proofs.cases.before_of.Goals as goal

pub returns-clause-before : goal.returns-clause-before
returns-clause-before c = record {
  table = c.in_ok-table.ensures;
  kept = c.in_ok-kept.ensures.kept (advertisements_of c.args.listing.now) c.requires;
  root_is = c.in_ok-kept.ensures.root;
}
