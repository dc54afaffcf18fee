use Rattle.std.proofs.Common.{List, sym, subst}
use Rattle.ospf_graph.specs.Advertisements.{Advertisement}
use Rattle.ospf_lsa.specs.declared.link.LinkKind.{LinkKind}
use Rattle.ospf_graph.specs.EdgeLists.Costs.{HasLinkTo}
use Rattle.ospf_graph.proofs.edges.index.GraphIndex.links_to.Goals as goal

pub returns : goal.returns
returns c =
    let here = c.self.invariant.links_are c.args.from c.args.to c.has.ensures.fits in (
      λ yes. subst (λ (A : List Advertisement). HasLinkTo A c.args.from LinkKind.PointToPoint c.args.to.0) c.self.view_is (here.0 (c.has.ensures.value.0 yes)),
      λ is. c.has.ensures.value.1 (here.1 (subst (λ (A : List Advertisement). HasLinkTo A c.args.from LinkKind.PointToPoint c.args.to.0) (sym c.self.view_is) is)),
    )
