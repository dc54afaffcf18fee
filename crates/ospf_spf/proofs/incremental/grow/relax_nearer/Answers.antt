use Rattle.ospf_spf.proofs.IncrementalSpf.GrowthSteps.{improves_nearer}
use Rattle.ospf_spf.proofs.incremental.grow.relax_nearer.Goals as goal

pub returns-clause-improves : goal.returns-clause-improves
returns-clause-improves c =
    improves_nearer c.args.edge c.args.distance c.args.found.now.reached.items _ c.requires.at c.reset_at.new.found.reached.items c.requires.farther
    (c.reset_at.ensures.reset c.args.edge.to c.requires.place) c.in_ok-bring.ensures.settled c.in_ok-bring.ensures.starts
