use Rattle.std.proofs.Common.{rules}
use Rattle.ospf_graph.specs.EdgeLists.Given.{AreEndsAt}
use Rattle.ospf_graph.specs.EdgeLists.Listed.{advertisements_of}
use Rattle.ospf_graph.specs.declared.graph.Vertex.TheVariants.{Router}
use Rattle.ospf_whatif.proofs.SingleLemmas.{longest_near}
use Rattle.ospf_whatif.proofs.failures.shared_subnet.Goals as goal

pub returns : goal.returns
returns c =
    let A = advertisements_of c.args.listing.now in
    let a = c.args.a in
    let b = c.args.b in
    let near : AreEndsAt A (Router a) c.deref.result.now = rw c.deref.ensures.value (search (rules, c.in_ok-near.ensures)) in
    let far : AreEndsAt A (Router b) c.deref-2.result.now = rw c.deref-2.ensures.value (search (rules, c.in_ok-far.ensures)) in
    longest_near A c.args.edges.now c.edges_from-back.result.now c.requires.edges a b c.edges_from-back.ensures.same c.edges_from-back.ensures.part
    c.deref.result.now c.deref-2.result.now near far c.args.address c.longest_of.result c.longest_of.ensures
