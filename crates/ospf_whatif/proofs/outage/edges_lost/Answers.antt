use Rattle.std.proofs.Common.{refl, subst}
use Rattle.ospf_graph.specs.EdgeLists.Listed.{advertisements_of}
use Rattle.ospf_whatif.proofs.LostLemmas.{going_are_lost}
use Rattle.ospf_whatif.proofs.outage.edges_lost.Goals as goal

pub returns : goal.returns
returns c =
    let A = advertisements_of c.args.listing.now in
    going_are_lost c.in_ok-inner.inner.items c.args.failure.now A c.args.near.now c.args.near.now c.deref.result.now c.edges_going.result
    c.in_ok-inner.ensures c.deref.ensures.value refl c.requires c.edges_going.ensures
