use Rattle.ospf_graph.proofs.SearchState.{fit_sorted}
use Rattle.ospf_spf.proofs.incremental.kept.KeptPaths.of.Goals as goal

pub anew-requires-clause-fit : goal.anew-requires-clause-fit
anew-requires-clause-fit c = fit_sorted c.args.edges.now c.in_ok-sorted.sorted.items c.in_ok-sorted.ensures.same c.requires.fit
