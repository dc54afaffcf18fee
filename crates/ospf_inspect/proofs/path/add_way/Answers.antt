use Rattle.ospf_graph.specs.EdgeLists.Listed.{advertisements_of}
use Rattle.ospf_inspect.proofs.Ways.{fewer_left}
use Rattle.ospf_inspect.proofs.path.add_way.Goals as goal

pub loop-next-smaller : goal.loop-next-smaller
loop-next-smaller c =
    let says = c.in_ok-next.ensures in
    fewer_left (advertisements_of c.args.listing.now) c.args.address.0 c.in-Some.here says.0 c.in_ok-next.next c.loop-next.next says.1 c.in-Some.is
