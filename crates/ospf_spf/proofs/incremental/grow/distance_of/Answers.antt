use Rattle.std.proofs.Common.{sym, ◌∙◌}
use Rattle.ospf_graph.proofs.ReachedLemmas.{fresh_at}
use Rattle.ospf_spf.proofs.incremental.grow.distance_of.Goals as goal

pub returns-in-None-clause-none : goal.returns-in-None-clause-none
returns-in-None-clause-none c is = fresh_at _ c.args.found.now.reached.items c.requires c.args.vertex (sym c.place_of.ensures ∙ c.in-None.is)
