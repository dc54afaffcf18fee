use Rattle.std.proofs.Common.{refl}
use Rattle.ospf_spf.proofs.IncrementalSpf.ShrinkSteps.{edge_in, from_all}
use Rattle.ospf_spf.proofs.incremental.shrink.has_in_order.Goals as goal

pub returns : goal.returns
returns c =
    let is = edge_in c.edges_from.result.now c.args.edge c.contains.result c.contains.ensures.cases in (
      λ t. c.edges_from.ensures.part c.args.edge (is.0 t),
      λ m. is.1 (from_all c.args.edge.from c.args.edges.now c.edges_from.result.now c.edges_from.ensures.same c.args.edge m refl),
    )
