use Rattle.std.proofs.Common.{refl}
use Rattle.ospf_spf.proofs.IncrementalSpf.GrowthSteps.{pays_nothing}
use Rattle.ospf_spf.proofs.incremental.grow.take_edge.Goals as goal

pub returns-in_default-clause-pays : goal.returns-in_default-clause-pays
returns-in_default-clause-pays c h =
    pays_nothing c.args.edges.now c.args.edge c.args.found.now.reached.items c.args.waits.now.list
    (c.in_default.ensures.none refl)
