use Rattle.ospf_graph.specs.EdgeLists.Addresses.{links_by}
use Rattle.ospf_graph.specs.EdgeLists.Listed.{advertisements_of}
use Rattle.ospf_whatif.proofs.SubnetLemmas.{between_as}
use Rattle.ospf_whatif.proofs.subnets.inner_between.Goals as goal

pub returns : goal.returns
returns c =
    let A = advertisements_of c.args.listing.now in
    between_as c.args.subnet c.args.a c.args.b c.in_ok-mine.mine.items (links_by c.args.a A) c.in_ok-theirs.theirs.items (links_by c.args.b A)
    c.deref.result.now c.deref-2.result.now c.inner_among.result c.deref.ensures.value c.deref-2.ensures.value c.in_ok-mine.ensures c.in_ok-theirs.ensures c.inner_among.ensures
