-- The order of interfaces, as `cmp` says it.
use Rattle.std.proofs.Common.{◌≡◌, ◌<◌, ℕ, List, [], ◌∷◌, refl, sym, ap, inl, inr, arith, Ordering, Less, Equal, Greater, nat_cmp}
use Rattle.std.specs.Ordering.{MatchOrdering, ordering_then}
use Rattle.std.proofs.lemmas.Cmp.{ranked}
use Rattle.std.proofs.lemmas.Map.Lookups.{CmpEqualImpliesEq}
use Rattle.ospf_base.specs.declared.ids.RouterId.{RouterId}
use Rattle.ospf_graph.specs.declared.graph.Vertex.{Vertex}
use Rattle.ospf_graph.specs.declared.graph.Vertex.TheVariants.{Network, Router}
use Rattle.ospf_graph.specs.contracts.graph.VertexOrd.TheImpl as vertices
use Rattle.ospf_change.specs.Diff.Costs.{IsInterfaceBefore, IsVertexBefore, interface_cmp}
use Rattle.ospf_change.specs.declared.diff.costs.Interface.{Interface}

-- what the answer o says of two numbers
abbrev Tells : ℕ → ℕ → Ordering → Type 0
Tells a b o = MatchOrdering o (a < b) (a ≡ b) (b < a)

tells : (a b : ℕ) → Tells a b (nat_cmp a b)
tells a b = ranked a b _ refl

abbrev vertex_cmp : Vertex → Vertex → Ordering
vertex_cmp = (vertices.ghosts).cmp

-- of two vertices
abbrev VertexRanks : Vertex → Vertex → Ordering → Type 0
VertexRanks v w o = MatchOrdering o (IsVertexBefore v w) (v ≡ w) (IsVertexBefore w v)

networks_of : (n m : ℕ) (o : Ordering) → Tells n m o → VertexRanks (Network n) (Network m) o
networks_of n m Less t = t
networks_of n m Equal t = ap (λ k. Network k) t
networks_of n m Greater t = t

routers_of : (r s : RouterId) (o : Ordering) → Tells r.0 s.0 o → VertexRanks (Router r) (Router s) o
routers_of r s Less t = t
routers_of r s Equal t = λ i. Router (record { 0 = t i })
routers_of r s Greater t = t

vertices_rank : (v w : Vertex) → VertexRanks v w (vertex_cmp v w)
vertices_rank (Network n) (Network m) = networks_of n m (nat_cmp n m) (tells n m)
vertices_rank (Network n) (Router r) = tt
vertices_rank (Router r) (Network n) = tt
vertices_rank (Router r) (Router s) = routers_of r s (nat_cmp r.0 s.0) (tells r.0 s.0)

-- and of two interfaces
abbrev Ranks : Interface → Interface → Ordering → Type 0
Ranks i j o = MatchOrdering o (IsInterfaceBefore i j) (i ≡ j) (IsInterfaceBefore j i)

by_parts : (i j : Interface) (x y z : Ordering) → Tells i.router.0 j.router.0 x → VertexRanks i.to j.to y → Tells i.link_data j.link_data z
    → Ranks i j (ordering_then x (ordering_then y z))
by_parts i j Less y z s t u = inl s
by_parts i j Greater y z s t u = inl s
by_parts i j Equal Less z s t u = inr (s, inl t)
by_parts i j Equal Greater z s t u = inr (sym s, inl t)
by_parts i j Equal Equal Less s t u = inr (s, inr (t, u))
by_parts i j Equal Equal Equal s t u = λ k. record { router = record { 0 = s k }; to = t k; link_data = u k }
by_parts i j Equal Equal Greater s t u = inr (sym s, inr (sym t, u))

interfaces_rank : (i j : Interface) → Ranks i j (interface_cmp i j)
interfaces_rank i j =
    by_parts i j (nat_cmp i.router.0 j.router.0) (vertex_cmp i.to j.to) (nat_cmp i.link_data j.link_data) (tells i.router.0 j.router.0) (vertices_rank i.to j.to)
    (tells i.link_data j.link_data)

is_before : (i j : Interface) (o : Ordering) → Ranks i j o → o ≡ Less → IsInterfaceBefore i j
is_before i j Less r e = r
is_before i j Equal r e = cc
is_before i j Greater r e = cc

pub before_by_cmp : (i j : Interface) → interface_cmp i j ≡ Less → IsInterfaceBefore i j
before_by_cmp i j e = is_before i j _ (interfaces_rank i j) e

is_same : (i j : Interface) (o : Ordering) → Ranks i j o → o ≡ Equal → i ≡ j
is_same i j Less r e = cc
is_same i j Equal r e = r
is_same i j Greater r e = cc

pub interfaces_exact : CmpEqualImpliesEq interface_cmp
interfaces_exact i j e = is_same i j _ (interfaces_rank i j) e
