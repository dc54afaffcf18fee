use Rattle.ospf_graph.proofs.ElsewhereLemmas.{edges_come, edges_elsewhere, edges_stay}
use Rattle.ospf_graph.proofs.laws.edges_elsewhere_stay.Goals as goal

pub returns-clause-elsewhere : goal.returns-clause-elsewhere
returns-clause-elsewhere c = edges_elsewhere

pub returns-clause-stay : goal.returns-clause-stay
returns-clause-stay c = edges_stay

pub returns-clause-come : goal.returns-clause-come
returns-clause-come c = edges_come
