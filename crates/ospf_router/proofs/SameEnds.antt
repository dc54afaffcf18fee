-- Ends that are equal.
use Rattle.std.proofs.Common.{◌≡◌, ◌==◌, ◌&&◌, Bool, List, true, refl, ap, Decides}
use Rattle.std.specs.List.{Contains, IsAnyAnswer}
use Rattle.std.proofs.lemmas.Bool.Decides.{Decides-and, Decides-eqb, Decides-like}
use Rattle.std.proofs.lemmas.List.Elements.{contains_decides, Decides-contains}
use Rattle.ospf_base.proofs.PrefixLaws.{prefix_same}
use Rattle.ospf_base.specs.contracts.prefix.PrefixPartialEq.TheImpl.{eq-value as prefix-eq}
use Rattle.ospf_base.specs.declared.ids.RouterId.{RouterId}
use Rattle.ospf_base.specs.declared.prefix.Prefix.{Prefix}
use Rattle.ospf_graph.specs.contracts.graph.VertexPartialEq.TheImpl.{eq-value as vertex-eq}
use Rattle.ospf_graph.specs.declared.graph.Vertex.{Vertex}
use Rattle.ospf_graph.specs.declared.graph.Vertex.TheVariants.{Router, Network}
use Rattle.ospf_graph.specs.contracts.edges.end.EndPartialEq.TheImpl.{eq-value}
use Rattle.ospf_graph.specs.declared.edges.end.End.{End}
use Rattle.ospf_spf.proofs.SameRoute.{router_is}

prefix_decides : (p q : Prefix) → Decides (prefix-eq.it p q) (p ≡ q)
prefix_decides p q =
    Decides-like ((p.address.0 == q.address.0) && (p.length == q.length))
    (λ e. prefix_same p q e.0 e.1) (λ e. (ap (λ (x : Prefix). x.address.0) e, ap (λ (x : Prefix). x.length) e))
    (Decides-and (p.address.0 == q.address.0) (p.length == q.length) (Decides-eqb p.address.0 q.address.0) (Decides-eqb p.length q.length))

vertex_decides : (v w : Vertex) → Decides (vertex-eq.it v w) (v ≡ w)
vertex_decides (Router a) (Router b) = Decides-like (a.0 == b.0) (λ e. ap Router (router_is a b e)) (λ e. let same : a ≡ b = cc in ap (λ (x : RouterId). x.0) same) (Decides-eqb a.0 b.0)
vertex_decides (Router a) (Network n) = ((λ e. cc), λ e. cc)
vertex_decides (Network m) (Router b) = ((λ e. cc), λ e. cc)
vertex_decides (Network m) (Network n) = Decides-like (m == n) (λ e. ap Network e) (λ e. cc) (Decides-eqb m n)

-- what `==` says of two ends
pub ends_decide : (e f : End) → Decides (eq-value.it e f) (e ≡ f)
ends_decide e f =
    Decides-like (prefix-eq.it e.prefix f.prefix && (vertex-eq.it e.vertex f.vertex && (e.cost == f.cost)))
    (λ s i. record { prefix = s.0 i; vertex = s.1.0 i; cost = s.1.1 i })
    (λ s. (ap (λ (x : End). x.prefix) s, (ap (λ (x : End). x.vertex) s, ap (λ (x : End). x.cost) s)))
    (Decides-and (prefix-eq.it e.prefix f.prefix) (vertex-eq.it e.vertex f.vertex && (e.cost == f.cost)) (prefix_decides e.prefix f.prefix)
    (Decides-and (vertex-eq.it e.vertex f.vertex) (e.cost == f.cost) (vertex_decides e.vertex f.vertex) (Decides-eqb e.cost f.cost)))

-- what `contains` says of ends
pub end_in : (ends : List End) (end : End) (r : Bool) → IsAnyAnswer (λ y t. eq-value.it y end ≡ t) ends r → Decides r (Contains ends end)
end_in ends end r is = Decides-contains ends end r (contains_decides eq-value.it ends_decide ends end r is)

pub end_there : (ends : List End) (end : End) → IsAnyAnswer (λ y t. eq-value.it y end ≡ t) ends true → Contains ends end
end_there ends end is = (end_in ends end true is).0 refl
