use Rattle.std.proofs.Common.{inr}
use Rattle.ospf_spf.proofs.IncrementalSpf.GrowthSteps.{improves_level}
use Rattle.ospf_spf.proofs.incremental.grow.relax_level.Goals as goal

pub returns-then-brings_nothing-clause-relaxed : goal.returns-then-brings_nothing-clause-relaxed
returns-then-brings_nothing-clause-relaxed c same =
    inr (c.requires.level, c.brings_nothing.ensures c.if-brings_nothing.true)

pub returns-clause-improves : goal.returns-clause-improves
returns-clause-improves c h =
    improves_level c.args.edge c.args.distance c.args.found.now.reached.items _ c.requires.at _ c.requires.places c.requires.level
    c.in_ok-bring.ensures.settled c.in_ok-bring.ensures.starts
