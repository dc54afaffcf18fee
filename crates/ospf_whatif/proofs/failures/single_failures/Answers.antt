use Rattle.std.proofs.Common.{List, [], subst, ◌∙◌}
use Rattle.ospf_graph.specs.declared.graph.Edge.{Edge}
use Rattle.ospf_graph.specs.Adds.{Adds}
use Rattle.ospf_graph.specs.EdgeLists.Listed.{advertisements_of}
use Rattle.ospf_whatif.specs.Single.{EdgeGiven, GivenBy, IsPairOf, WireGiven}
use Rattle.ospf_whatif.specs.declared.failure.AreaFailure.{AreaFailure}
use Rattle.ospf_whatif.proofs.SingleLemmas.{single_complete, single_sound}
use Rattle.ospf_whatif.proofs.failures.single_failures.Goals as goal

pub returns-clause-all : goal.returns-clause-all
returns-clause-all c =
    let A = advertisements_of c.args.listing.now in
    let lsas = c.args.listing.now in
    let edges = c.in_ok-edges.edges.items in
    let wires = c.in_ok-wires.wires.items in
    let wired = c.in_ok-wired.wired in
    let mid = c.add_edges.new.failures.items in
    let all = c.add_routers.new.failures.items in
    let edges_are = c.in_ok-edges.ensures.edges in
    let fit = c.in_ok-edges.ensures.fit in
    let wires_are : Adds (GivenBy (WireGiven A) edges) [] wires =
    subst (λ (l : List Edge). Adds (GivenBy (WireGiven A) l) [] wires) c.deref.ensures.value c.in_ok-wires.ensures in
    let wired_are : Adds (GivenBy IsPairOf wires) [] wired =
    subst (λ (l : List AreaFailure). Adds (GivenBy IsPairOf l) [] wired) c.deref-2.ensures.value c.in_ok-wired.ensures in
    let mid_are : Adds (GivenBy (EdgeGiven wired) edges) wires mid =
    subst (λ (l : List AreaFailure). Adds (GivenBy (EdgeGiven wired) edges) l mid) (c.in_ok-failures.ensures.items ∙ c.deref-3.ensures.value)
    (subst (λ (l : List Edge). Adds (GivenBy (EdgeGiven wired) l) c.in_ok-failures.failures.items mid) c.deref-4.ensures.value c.in_ok-add_edges.ensures) in
    λ f.
    let same = c.put_in_order.ensures.same f in (
      (λ m. single_sound lsas edges edges_are fit wires mid all wires_are wired wired_are mid_are c.in_ok-add_routers.ensures f (same.0 m)),
      (λ is. same.1 (single_complete lsas edges edges_are fit wires mid all wires_are wired wired_are mid_are c.in_ok-add_routers.ensures f is)),
    )
