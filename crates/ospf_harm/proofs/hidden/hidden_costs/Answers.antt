use Rattle.std.proofs.Common.{◌≤◌, List, length, subst, sym, arith}
use Rattle.std.proofs.lemmas.List.{take_all}
use Rattle.ospf_graph.specs.Adds.{Adds}
use Rattle.ospf_graph.specs.declared.graph.Edge.{Edge}
use Rattle.ospf_graph.specs.EdgeLists.Given.{IsEdgesOf}
use Rattle.ospf_graph.specs.EdgeLists.Listed.{advertisements_of}
use Rattle.ospf_harm.specs.Hidden.{HiddenGiven}
use Rattle.ospf_whatif.specs.Single.{GivenBy}
use Rattle.ospf_harm.proofs.HiddenLemmas.{are_hidden}
use Rattle.ospf_whatif.proofs.SingleLemmas.{adds_at, no_edge}
use Rattle.ospf_harm.proofs.hidden.hidden_costs.Goals as goal

pub loop-edge-preserved : goal.loop-edge-preserved
loop-edge-preserved c =
    adds_at (HiddenGiven (advertisements_of c.args.listing.now)) c.deref-edge-items.result.now c.loop-edge.edge-index no_edge c.new-hidden.result.items
    c.loop-edge.hidden.items c.add_hidden.new.hidden.items c.loop-edge-test.true c.loop-edge.invariant c.in_ok-add_hidden.ensures

pub returns : goal.returns
returns c =
    let A = advertisements_of c.args.listing.now in
    let P = HiddenGiven A in
    let edges = c.deref-edge-items.result.now in
    let end : length edges ≤ c.loop-edge.edge-index = omega (arith, c.loop-edge-test.false) in
    are_hidden A edges c.loop-edge.hidden.items (subst (λ (l : List Edge). IsEdgesOf A l) (sym c.deref-edge-items.ensures.value) c.in_ok-edges.ensures.edges)
    (subst (λ old. Adds (GivenBy P edges) old c.loop-edge.hidden.items) c.new-hidden.ensures.items
    (subst (λ l. Adds (GivenBy P l) c.new-hidden.result.items c.loop-edge.hidden.items) (take_all c.loop-edge.edge-index edges end) c.loop-edge.invariant))
