use Rattle.std.proofs.Common.{OnOk, sym, subst}
use Rattle.ospf_graph.specs.declared.graph.Vertex.{Vertex}
use Rattle.ospf_graph.specs.EdgeLists.Near.{AddsAt, Returns}
use Rattle.ospf_graph.proofs.edges.near.add_returns.Goals as goal

pub returns-in-Router : goal.returns-in-Router
returns-in-Router c =
    subst (λ (v : Vertex). OnOk c.add_sent.result (AddsAt c.args.listing.now (Returns v c.args.router) c.args.edges.now c.add_sent.new.edges)) (sym c.in-Router.is) c.add_sent.ensures

pub returns-in-Network : goal.returns-in-Network
returns-in-Network c =
    subst (λ (v : Vertex). OnOk c.add_member.result (AddsAt c.args.listing.now (Returns v c.args.router) c.args.edges.now c.add_member.new.edges)) (sym c.in-Network.is) c.add_member.ensures
