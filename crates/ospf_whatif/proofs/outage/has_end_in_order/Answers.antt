use Rattle.std.proofs.Common.{refl}
use Rattle.ospf_whatif.proofs.SameEnds.{end_in}
use Rattle.ospf_whatif.proofs.outage.has_end_in_order.Goals as goal

pub returns : goal.returns
returns c =
    let is = end_in c.ends_to.result.now c.args.end c.contains.result c.contains.ensures.cases in (
      λ t. c.ends_to.ensures.part c.args.end (is.0 t),
      λ m. is.1 (c.ends_to.ensures.all c.args.end m refl),
    )
