-- What `==` says of vertices and of edges.
use Rattle.std.proofs.Common.{◌≡◌, ◌==◌, ◌&&◌, ap, Decides}
use Rattle.std.proofs.lemmas.Bool.Decides.{Decides-and, Decides-eqb, Decides-like}
use Rattle.ospf_base.specs.declared.ids.RouterId.{RouterId}
use Rattle.ospf_graph.specs.declared.graph.Edge.{Edge}
use Rattle.ospf_graph.specs.declared.graph.Vertex.{Vertex}
use Rattle.ospf_graph.specs.declared.graph.Vertex.TheVariants.{Router, Network}
use Rattle.ospf_graph.specs.contracts.graph.EdgePartialEq.TheImpl as edges
use Rattle.ospf_graph.specs.contracts.graph.VertexPartialEq.TheImpl as vertices

router_is : (k l : RouterId) → k.0 ≡ l.0 → k ≡ l
router_is k l e = λ i. record { 0 = e i }

vertices_decide : (v w : Vertex) → Decides (vertices.eq-value.it v w) (v ≡ w)
vertices_decide (Network a) (Network b) = Decides-like (a == b) (λ e. ap (λ x. Network x) e) (λ e. let s : a ≡ b = cc in s) (Decides-eqb a b)
vertices_decide (Network _) (Router _) = ((λ e. cc), λ e. cc)
vertices_decide (Router _) (Network _) = ((λ e. cc), λ e. cc)
vertices_decide (Router a) (Router b) =
    Decides-like (a.0 == b.0) (λ e. ap (λ x. Router x) (router_is a b e)) (λ e. let s : a ≡ b = cc in ap (λ x. x.0) s) (Decides-eqb a.0 b.0)

pub edges_decide : (e f : Edge) → Decides (edges.eq-value.it e f) (e ≡ f)
edges_decide e f =
    let to = vertices.eq-value.it e.to f.to in
    let from = vertices.eq-value.it e.from f.from in
    Decides-like (to && (from && ((e.cost == f.cost) && (e.link_data == f.link_data))))
    (λ p. λ i. record { to = p.0 i; from = p.1.0 i; cost = p.1.1.0 i; link_data = p.1.1.1 i })
    (λ s. (ap (λ x. x.to) s, (ap (λ x. x.from) s, (ap (λ x. x.cost) s, ap (λ x. x.link_data) s))))
    (Decides-and to (from && ((e.cost == f.cost) && (e.link_data == f.link_data))) (vertices_decide e.to f.to)
    (Decides-and from ((e.cost == f.cost) && (e.link_data == f.link_data)) (vertices_decide e.from f.from)
    (Decides-and (e.cost == f.cost) (e.link_data == f.link_data) (Decides-eqb e.cost f.cost) (Decides-eqb e.link_data f.link_data))))
