-- A tree's distances are least, and its starts are those of all least paths.
use Rattle.std.proofs.Common.{◌↔◌, ◌≡◌, ◌+◌, ◌≤◌, ℕ, List, [], ◌∷◌, refl, zero-add, arith}
use Rattle.ospf_graph.specs.declared.graph.Edge.{Edge}
use Rattle.ospf_graph.specs.declared.graph.Vertex.{Vertex}
use Rattle.ospf_graph.specs.declared.graph.Vertex.TheVariants.{Router, Network}
use Rattle.ospf_graph.specs.declared.hop.NextHop.{NextHop}
use Rattle.ospf_graph.specs.declared.graph.Start.{Start}
use Rattle.ospf_graph.specs.declared.graph.Start.TheVariants.{Here, OnNetwork, Hop}
use Rattle.ospf_graph.specs.Graph.{IsPath, path_cost}
use Rattle.ospf_graph.specs.Routes.{hop_of}
use Rattle.ospf_graph.specs.Tree.{extend, start_from, hop_of_start, AreLeast, IsLeastPath, IsTree}

start_from_hop : (h : NextHop) (path : List Edge) → start_from (Hop h) path ≡ Hop h
start_from_hop h [] = refl
start_from_hop h (e ∷ rest) = start_from_hop h rest

hop_second : (from : Vertex) (n cost local : ℕ) (from' to : Vertex) (cost' address : ℕ) (rest : List Edge)
    → hop_of_start (start_from (extend (OnNetwork (record { 0 = local })) to address) rest)
    ≡ hop_of (record { from = from; to = Network n; cost = cost; link_data = local } ∷ record { from = from'; to = to; cost = cost'; link_data = address } ∷ rest)
hop_second from n cost local from' (Router r) cost' address rest = rw start_from_hop
hop_second from n cost local from' (Network m) cost' address rest = rw start_from_hop

hop_first : (from to : Vertex) (cost address : ℕ) (rest : List Edge)
    → hop_of_start (start_from (extend Here to address) rest) ≡ hop_of (record { from = from; to = to; cost = cost; link_data = address } ∷ rest)
hop_first from (Router r) cost address rest = rw start_from_hop
hop_first from (Network n) cost address [] = refl
hop_first from (Network n) cost address (f ∷ rest) = hop_second from n cost address f.from f.to f.cost f.link_data rest

pub hop_of_path : (path : List Edge) → hop_of_start (start_from Here path) ≡ hop_of path
hop_of_path [] = refl
hop_of_path (e ∷ rest) = hop_first e.from e.to e.cost e.link_data rest

module _ (is_edge : Edge → Type 0) (root : Vertex) (At : Vertex → ℕ → Type 0) (Starts : Vertex → Start → Type 0) (t : IsTree is_edge root At Starts) where
  -- what a path from a reached vertex leads to is reached as near
  pub at_end : (path : List Edge) (u w : Vertex) (d : ℕ) → IsPath is_edge u path w → At u d → (k : ℕ) × At w k × (k ≤ d + path_cost path)
  at_end [] u w d leads at = (d, rw leads at at, omega arith)
  at_end (e ∷ rest) u w d leads at =
      let near = t.relaxed e d leads.1 (rw leads.0 at) in
      let far = at_end rest e.to w near.0 leads.2 near.1 in
      (far.0, far.1, (let a = near.2 in let b = far.2 in omega arith))

  pub least : (path : List Edge) (v : Vertex) (d : ℕ) → IsPath is_edge root path v → At v d → d ≤ path_cost path
  least path v d leads at =
      let far = at_end path root v 0 leads t.root_at in
      let same : far.0 ≡ d = t.one v far.0 d far.1 at in
      let le = far.2 in omega arith

  pub spread_along : (path : List Edge) (u w : Vertex) (d : ℕ) (x : Start) → IsPath is_edge u path w → At u d → Starts u x → At w (d + path_cost path)
      → Starts w (start_from x path)
  spread_along [] u w d x leads at has end = rw leads at has
  spread_along (e ∷ rest) u w d x leads at has end =
      let from : At e.from d = rw leads.0 at in
      let near = t.relaxed e d leads.1 from in
      let far = at_end rest e.to w near.0 leads.2 near.1 in
      let same : far.0 ≡ d + (e.cost + path_cost rest) = t.one w far.0 _ far.1 end in
      let tight : near.0 ≡ d + e.cost = (let a = near.2 in let b = far.2 in omega arith) in
      let to : At e.to (d + e.cost) = rw tight at near.1 in
      let sums : d + (e.cost + path_cost rest) ≡ d + e.cost + path_cost rest = omega arith in
      spread_along rest e.to w (d + e.cost) (extend x e.to e.link_data) leads.2 to (t.spread e d x leads.1 from to (rw leads.0 has)) (rw sums at end)

  -- every path at a vertex's distance has its start there
  pub start_of_path : (path : List Edge) (v : Vertex) → IsPath is_edge root path v → At v (path_cost path) → Starts v (start_from Here path)
  start_of_path path v leads at = spread_along path root v 0 Here leads t.root_at t.root_start (rw zero-add at)

  -- a least path is as long as its end is far
  at_least : (path : List Edge) (v : Vertex) → IsLeastPath is_edge root path v → At v (path_cost path)
  at_least path v is =
      let near = at_end path root v 0 is.leads t.root_at in
      let shortest = t.path_of v near.0 near.1 in
      let same : near.0 ≡ path_cost path = (let low = near.2 in let up = is.least shortest.0 shortest.1 in let cost = shortest.2 in omega arith) in
      rw same at near.1

  pub are_least : AreLeast is_edge root At Starts
  are_least =
      record {
        distances = λ v d. (
          λ at. let p = t.path_of v d at in (p.0, record { leads = p.1; least = λ other leads. let low = least other v d leads at in let cost = p.2 in omega arith }, p.2),
          λ m. rw m.2 at (at_least m.0 v m.1),
        );
        starts = λ v x. (
          λ has. let p = t.path_with v x has in (p.0, record { leads = p.1; least = λ other leads. least other v (path_cost p.0) leads p.2 }, p.3),
          λ m. let l = m.1 in rw m.2 at (start_of_path m.0 v l.leads (at_least m.0 v m.1)),
        );
      }

-- paths of one relation are paths of another that has its edges
pub IsPath-map : (P Q : Edge → Type 0) → ((e : Edge) → P e → Q e) → (path : List Edge) (a b : Vertex) → IsPath P a path b → IsPath Q a path b
IsPath-map P Q to [] a b leads = leads
IsPath-map P Q to (e ∷ rest) a b leads = (leads.0, to e leads.1, IsPath-map P Q to rest e.to b leads.2)

pub IsTree-map : (P Q : Edge → Type 0) → ((e : Edge) → P e → Q e) → ((e : Edge) → Q e → P e) → (root : Vertex)
    (At : Vertex → ℕ → Type 0) (Starts : Vertex → Start → Type 0) → IsTree P root At Starts → IsTree Q root At Starts
IsTree-map P Q to from root At Starts t =
    record {
      one = t.one;
      root_at = t.root_at;
      root_start = t.root_start;
      path_of = λ v d at. let p = t.path_of v d at in (p.0, IsPath-map P Q to p.0 root v p.1, p.2);
      path_with = λ v x has. let p = t.path_with v x has in (p.0, IsPath-map P Q to p.0 root v p.1, p.2, p.3);
      relaxed = λ e d is at. t.relaxed e d (from e is) at;
      spread = λ e d x is at end has. t.spread e d x (from e is) at end has;
    }

-- what is reached may be told in another way
pub IsTree-same : (is_edge : Edge → Type 0) (root : Vertex) (At At' : Vertex → ℕ → Type 0) (Starts Starts' : Vertex → Start → Type 0)
    → ((v : Vertex) (d : ℕ) → At v d ↔ At' v d) → ((v : Vertex) (x : Start) → Starts v x ↔ Starts' v x)
    → IsTree is_edge root At Starts → IsTree is_edge root At' Starts'
IsTree-same is_edge root At At' Starts Starts' at starts t =
    record {
      one = λ v d k p q. t.one v d k ((at v d).1 p) ((at v k).1 q);
      root_at = (at root 0).0 t.root_at;
      root_start = (starts root Here).0 t.root_start;
      path_of = λ v d p. t.path_of v d ((at v d).1 p);
      path_with = λ v x has. let p = t.path_with v x ((starts v x).1 has) in (p.0, p.1, (at v _).0 p.2, p.3);
      relaxed = λ e d is p. let r = t.relaxed e d is ((at e.from d).1 p) in (r.0, (at e.to r.0).0 r.1, r.2);
      spread = λ e d x is p end has. (starts e.to _).0 (t.spread e d x is ((at e.from d).1 p) ((at e.to _).1 end) ((starts e.from x).1 has));
    }
