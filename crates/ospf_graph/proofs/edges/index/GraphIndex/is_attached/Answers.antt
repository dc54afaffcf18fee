use Rattle.std.proofs.Common.{List, sym, subst}
use Rattle.ospf_graph.specs.Advertisements.{Advertisement, IsAttached}
use Rattle.ospf_graph.proofs.edges.index.GraphIndex.is_attached.Goals as goal

pub returns : goal.returns
returns c =
    let here = c.self.invariant.members_are c.args.id c.args.router c.has.ensures.fits in (
      λ yes. subst (λ (A : List Advertisement). IsAttached A c.args.id c.args.router) c.self.view_is (here.0 (c.has.ensures.value.0 yes)),
      λ is. c.has.ensures.value.1 (here.1 (subst (λ (A : List Advertisement). IsAttached A c.args.id c.args.router) (sym c.self.view_is) is)),
    )
