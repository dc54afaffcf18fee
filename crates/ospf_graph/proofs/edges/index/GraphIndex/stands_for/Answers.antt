use Rattle.ospf_graph.proofs.edges.index.GraphIndex.stands_for.Goals as goal

pub returns : goal.returns
returns c = rw (← c.self.view_is) c.stands_for.ensures
