use Rattle.std.proofs.Common.{OnOk, sym, subst}
use Rattle.ospf_graph.specs.declared.graph.Vertex.{Vertex}
use Rattle.ospf_graph.specs.declared.graph.Vertex.TheVariants.{Router, Network}
use Rattle.ospf_graph.specs.Adds.{Adds}
use Rattle.ospf_graph.specs.EdgeLists.Listed.{advertisements_of}
use Rattle.ospf_graph.specs.EdgeLists.Near.{EdgesNear, NearLinks, NearMembers}
use Rattle.ospf_graph.proofs.EdgeLists.NearLemmas.{on_ok, router_near, network_near, network_not_near}
use Rattle.ospf_graph.proofs.edges.near.add_near.Goals as goal

pub returns-in-Some-clause-added : goal.returns-in-Some-clause-added
returns-in-Some-clause-added c =
    let A = advertisements_of c.args.listing.now in
    let r = c.in-Router.router in
    let old = c.args.edges.now.items in
    let new = c.add_near_links.new.edges.items in
    subst (λ (v : Vertex). OnOk c.add_near_links.result (Adds (EdgesNear v A) old new)) (sym c.in-Router.is)
    (on_ok c.add_near_links.result (Adds (NearLinks r c.in-Some.links A) old new) (Adds (EdgesNear (Router r) A) old new)
    (router_near A r c.in-Some.links c.in-Some.ensures.found old new) c.add_near_links.ensures)

pub returns-in-Some-attached_to-clause-added : goal.returns-in-Some-attached_to-clause-added
returns-in-Some-attached_to-clause-added c =
    let A = advertisements_of c.args.listing.now in
    let n = c.in-Network.id in
    let attached = c.in-Some-attached_to.attached in
    let old = c.args.edges.now.items in
    let new = c.add_near_members.new.edges.items in
    subst (λ (v : Vertex). OnOk c.add_near_members.result (Adds (EdgesNear v A) old new)) (sym c.in-Network.is)
    (on_ok c.add_near_members.result (Adds (NearMembers n attached A) old new) (Adds (EdgesNear (Network n) A) old new)
    (network_near A n attached c.in-Some-attached_to.ensures.found old new) c.add_near_members.ensures)

pub returns-in-None-attached_to-clause-added : goal.returns-in-None-attached_to-clause-added
returns-in-None-attached_to-clause-added c =
    let A = advertisements_of c.args.listing.now in
    let n = c.in-Network.id in
    let old = c.args.edges.now.items in
    subst (λ (v : Vertex). Adds (EdgesNear v A) old old) (sym c.in-Network.is) (network_not_near A n c.in-None-attached_to.ensures.none old)
