use Rattle.ospf_graph.specs.EdgeLists.Listed.{advertisements_of}
use Rattle.ospf_whatif.proofs.LostLemmas.{are_stubs}
use Rattle.ospf_whatif.proofs.outage.stubs_of.Goals as goal

pub returns : goal.returns
returns c =
    are_stubs (advertisements_of c.args.listing.now) c.args.a c.args.b c.args.prefix c.in_ok-ends.ends.items c.in_ok-others.others.items c.append.new.self.items
    c.in_ok-ends.ensures c.in_ok-others.ensures c.in_ok-append.ensures.items
