-- Two listings whose ways match have one routing table.
use Rattle.std.proofs.Common.{◌≡◌, ◌↔◌, ◌+◌, ◌≤◌, ℕ, List, [], ◌∷◌, map, refl, sym, ◌∙◌, ap, arith}
use Rattle.std.proofs.lemmas.List.Elements.{All-weaker}
use Rattle.ospf_base.specs.declared.ids.RouterId.{RouterId}
use Rattle.ospf_base.specs.declared.prefix.Prefix.{Prefix}
use Rattle.ospf_graph.specs.declared.graph.Edge.{Edge}
use Rattle.ospf_graph.specs.declared.graph.Vertex.{Vertex}
use Rattle.ospf_graph.specs.declared.graph.Vertex.TheVariants.{Network, Router}
use Rattle.ospf_graph.specs.declared.hop.NextHop.{NextHop}
use Rattle.ospf_graph.specs.declared.route.Route.{Route}
use Rattle.ospf_graph.specs.Advertisements.{Advertisement}
use Rattle.ospf_graph.specs.Graph.{path_cost}
use Rattle.ospf_graph.specs.Routes.{hop_of, IsChosen, IsHop, IsLeast, IsRoute, IsTable, Way, way_cost}

-- ---- vertices and paths under new names of networks

abbrev pub moved : (ℕ → ℕ) → Vertex → Vertex
moved name (Router r) = Router r
moved name (Network n) = Network (name n)

abbrev pub moved_edge : (ℕ → ℕ) → Edge → Edge
moved_edge name e = record { from = moved name e.from; to = moved name e.to; cost = e.cost; link_data = e.link_data }

pub cost_same : (name : ℕ → ℕ) (path : List Edge) → path_cost (map (moved_edge name) path) ≡ path_cost path
cost_same name [] = refl
cost_same name (e ∷ rest) = ap (λ c. e.cost + c) (cost_same name rest)

hop_second : (name : ℕ → ℕ) (from : Vertex) (n cost local : ℕ) (from' to : Vertex) (cost' address : ℕ) (rest : List Edge)
    → let path : List Edge = record { from = from; to = Network n; cost = cost; link_data = local } ∷ record { from = from'; to = to; cost = cost'; link_data = address } ∷ rest in
    hop_of (map (moved_edge name) path) ≡ hop_of path
hop_second name from n cost local from' (Router r) cost' address rest = refl
hop_second name from n cost local from' (Network m) cost' address rest = refl

hop_first : (name : ℕ → ℕ) (from to : Vertex) (cost address : ℕ) (rest : List Edge)
    → let path : List Edge = record { from = from; to = to; cost = cost; link_data = address } ∷ rest in
    hop_of (map (moved_edge name) path) ≡ hop_of path
hop_first name from (Router r) cost address rest = refl
hop_first name from (Network n) cost address [] = refl
hop_first name from (Network n) cost address (f ∷ rest) = hop_second name from n cost address f.from f.to f.cost f.link_data rest

pub hop_same : (name : ℕ → ℕ) (path : List Edge) → hop_of (map (moved_edge name) path) ≡ hop_of path
hop_same name [] = refl
hop_same name (e ∷ rest) = hop_first name e.from e.to e.cost e.link_data rest

-- a vertex that is a network under the new names is one under the old
network_is : (name : ℕ → ℕ) (v : Vertex) (k : ℕ) → moved name v ≡ Network k → (n : ℕ) × (v ≡ Network n) × (name n ≡ k)
network_is name (Router r) k e = cc
network_is name (Network n) k e = (n, refl, cc)

-- ---- ways that match

pub record AreSame (name : ℕ → ℕ) {A B : List Advertisement} {root : RouterId} {p : Prefix} (w : Way A root p) (v : Way B root p) : Type 0 where
  pub cost : way_cost w ≡ way_cost v
  pub hop : hop_of w.path ≡ hop_of v.path
  pub ends : moved name w.end ≡ v.end

-- each way has its like, and the networks that ways to one prefix end at keep their order
pub record HaveSameWays (name : ℕ → ℕ) (A B : List Advertisement) (root : RouterId) : Type 0 where
  pub forth : (p : Prefix) (w : Way A root p) → (v : Way B root p) × AreSame name w v
  pub back : (p : Prefix) (v : Way B root p) → (w : Way A root p) × AreSame name w v
  pub order : (p : Prefix) (w x : Way A root p) (m n : ℕ) → w.end ≡ Network m → x.end ≡ Network n → m ≤ n ↔ name m ≤ name n

module _ (name : ℕ → ℕ) (A B : List Advertisement) (root : RouterId) (same : HaveSameWays name A B root) where
  module _ (p : Prefix) where
    least_to : (w : Way A root p) (v : Way B root p) → AreSame name w v → IsLeast w → IsLeast v
    least_to w v s least other =
        let x = same.back p other in
        let le : way_cost w ≤ way_cost x.0 = least x.0 in
        let a : way_cost w ≡ way_cost v = s.cost in
        let b : way_cost x.0 ≡ way_cost other = x.1.cost in
        omega (arith, le, a, b)

    least_from : (w : Way A root p) (v : Way B root p) → AreSame name w v → IsLeast v → IsLeast w
    least_from w v s least other =
        let x = same.forth p other in
        let le : way_cost v ≤ way_cost x.0 = least x.0 in
        let a : way_cost w ≡ way_cost v = s.cost in
        let b : way_cost other ≡ way_cost x.0 = x.1.cost in
        omega (arith, le, a, b)

    chosen_to : (w : Way A root p) (v : Way B root p) → AreSame name w v → IsChosen w → IsChosen v
    chosen_to w v s chosen other m n least at there =
        let x = same.back p other in
        let here = network_is name w.end n (s.ends ∙ at) in
        let far = network_is name x.0.end m (x.1.ends ∙ there) in
        let le : far.0 ≤ here.0 = chosen x.0 far.0 here.0 (least_from x.0 other x.1 least) here.1 far.1 in
        let new : name far.0 ≤ name here.0 = (same.order p x.0 w far.0 here.0 far.1 here.1).0 le in
        let a : name far.0 ≡ m = far.2 in
        let b : name here.0 ≡ n = here.2 in
        omega (arith, new, a, b)

    chosen_from : (w : Way A root p) (v : Way B root p) → AreSame name w v → IsChosen v → IsChosen w
    chosen_from w v s chosen other m n least at there =
        let x = same.forth p other in
        let new : name m ≤ name n =
        chosen x.0 (name m) (name n) (least_to other x.0 x.1 least) (sym s.ends ∙ ap (moved name) at) (sym x.1.ends ∙ ap (moved name) there) in
        (same.order p other w m n there at).1 new

    hop_to : (hop : NextHop) → IsHop A root p hop → IsHop B root p hop
    hop_to hop h =
        let x = same.forth p h.way in
        record { way = x.0; least = least_to h.way x.0 x.1 h.least; chosen = chosen_to h.way x.0 x.1 h.chosen; hop_is = h.hop_is ∙ x.1.hop }

    hop_from : (hop : NextHop) → IsHop B root p hop → IsHop A root p hop
    hop_from hop h =
        let x = same.back p h.way in
        record { way = x.0; least = least_from x.0 h.way x.1 h.least; chosen = chosen_from x.0 h.way x.1 h.chosen; hop_is = h.hop_is ∙ sym x.1.hop }

  route_to : (route : Route) → IsRoute A root route → IsRoute B root route
  route_to route h =
      let x = same.forth route.prefix h.way in
      record {
        way = x.0;
        least = least_to route.prefix h.way x.0 x.1 h.least;
        cost_is = h.cost_is ∙ x.1.cost;
        in_order = h.in_order;
        hops = λ hop. (λ one. hop_to route.prefix hop ((h.hops hop).0 one), λ b. (h.hops hop).1 (hop_from route.prefix hop b));
      }

  route_from : (route : Route) → IsRoute B root route → IsRoute A root route
  route_from route h =
      let x = same.back route.prefix h.way in
      record {
        way = x.0;
        least = least_from route.prefix x.0 h.way x.1 h.least;
        cost_is = h.cost_is ∙ sym x.1.cost;
        in_order = h.in_order;
        hops = λ hop. (λ one. hop_from route.prefix hop ((h.hops hop).0 one), λ a. (h.hops hop).1 (hop_to route.prefix hop a));
      }

  pub same_tables : (table : List Route) → IsTable A root table ↔ IsTable B root table
  same_tables table = (
    λ h. record {
      in_order = h.in_order;
      complete = λ p v. h.complete p (same.back p v).0;
      sound = All-weaker (IsRoute A root) (IsRoute B root) route_to table h.sound;
    },
    λ h. record {
      in_order = h.in_order;
      complete = λ p w. h.complete p (same.forth p w).0;
      sound = All-weaker (IsRoute B root) (IsRoute A root) route_from table h.sound;
    },
  )
