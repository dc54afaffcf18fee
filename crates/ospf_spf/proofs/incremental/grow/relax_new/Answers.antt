use Rattle.std.proofs.Common.{subst, ◌∙◌}
use Rattle.ospf_graph.specs.Reached.{starts_of}
use Rattle.ospf_graph.specs.Search.{BringsStarts}
use Rattle.ospf_spf.proofs.IncrementalSpf.GrowthSteps.{improves_new}
use Rattle.ospf_graph.proofs.ReachedLemmas.{fresh_at}
use Rattle.ospf_spf.proofs.incremental.grow.relax_new.Goals as goal

pub returns-clause-improves : goal.returns-clause-improves
returns-clause-improves c =
    improves_new c.args.edge c.args.distance c.args.found.now.reached.items _ c.requires.at _ c.requires.places c.requires.fresh
    (fresh_at _ c.args.found.now.reached.items c.requires.places c.args.edge.to c.requires.fresh)
    (c.in_ok-bring.ensures.settled ∙ c.in_ok-reach.ensures.settled)
    (subst (λ l. BringsStarts c.args.edge l (starts_of c.bring.new.reached.items)) c.in_ok-reach.ensures.starts c.in_ok-bring.ensures.starts)
