-- Of network-LSAs nothing counts but the masks, and the attached routers that link back.
use Rattle.std.proofs.Common.{◌≡◌, ◌↔◌, ℕ, ◌⊎◌, List, [], ◌∷◌, refl, subst, inl, inr}
use Rattle.ospf_base.specs.declared.ids.RouterId.{RouterId}
use Rattle.ospf_base.specs.declared.prefix.Prefix.{Prefix}
use Rattle.ospf_lsa.specs.declared.link.LinkKind.{LinkKind}
use Rattle.ospf_lsa.specs.declared.link.LinkKind.TheVariants as kind
use Rattle.ospf_graph.specs.declared.graph.Edge.{Edge}
use Rattle.ospf_graph.specs.declared.graph.Vertex.{Vertex}
use Rattle.ospf_graph.specs.declared.graph.Vertex.TheVariants as vertex
use Rattle.ospf_graph.specs.declared.route.Route.{Route}
use Rattle.ospf_graph.specs.Advertisements.{Advertisement, HasLink, IsAddressOn, IsListed}
use Rattle.ospf_graph.specs.Graph.{IsEdge, IsEdgeBetween, IsPath}
use Rattle.ospf_graph.specs.Routes.{IsEnd, IsTable, Way}
use Rattle.ospf_graph.proofs.ListLemmas.{transit_found}
use Rattle.ospf_graph.proofs.TreeLemmas.{IsPath-map}
use Rattle.ospf_graph.specs.EdgeLists.Costs.{HasLinkTo}
use Rattle.ospf_whatif.specs.LinksBack.{AreLinkedAlike, IsLinked}
use Rattle.ospf_whatif.proofs.MatchingLemmas.{moved, same_tables}

linked_edge : (A : List Advertisement) (from : Vertex) (n cost address : ℕ) → IsEdgeBetween A from (vertex.Network n) cost address → IsLinked A n
linked_edge A (vertex.Router a) n cost address e = (a, (address, cost, e.0))
linked_edge A (vertex.Network m) n cost address e = absurd e

-- a path to a network is empty, or ends with a link to it
linked_end : (A : List Advertisement) (path : List Edge) (a : Vertex) (n : ℕ) → IsPath (IsEdge A) a path (vertex.Network n) → (a ≡ vertex.Network n) ⊎ IsLinked A n
linked_end A [] a n leads = inl leads
linked_end A (e ∷ rest) a n leads =
    elim (linked_end A rest e.to n leads.2) [
      | inl here ↦ inr (linked_edge A e.from n e.cost e.link_data (subst (λ v. IsEdgeBetween A e.from v e.cost e.link_data) here leads.1))
      | inr linked ↦ inr linked
    ]

moved_same : (v : Vertex) → moved (λ n. n) v ≡ v
moved_same (vertex.Router r) = refl
moved_same (vertex.Network n) = refl

alike_back : (A B : List Advertisement) → AreLinkedAlike A B → AreLinkedAlike B A
alike_back A B is =
    let link : (r : RouterId) (n : ℕ) → HasLinkTo B r kind.Transit n → HasLinkTo A r kind.Transit n =
    λ r n l. let h = l.2 in (l.0, l.1, record { links = h.links; listed = (is.routers r h.links).1 h.listed; link_in = h.link_in }) in
    record {
      routers = λ r links. ((is.routers r links).1, (is.routers r links).0);
      attached = λ r n l. let x = is.attached r n (link r n l) in (x.1, x.0);
      masks = λ n mask l. let x = is.masks n mask (l.0, link l.0 n l.1) in (x.1, x.0);
    }

module _ (A B : List Advertisement) (is : AreLinkedAlike A B) where
  link_to : (r : RouterId) (k : LinkKind) (id address metric : ℕ) → HasLink A r k id address metric → HasLink B r k id address metric
  link_to r k id address metric h = record { links = h.links; listed = (is.routers r h.links).0 h.listed; link_in = h.link_in }

  listed_to : (r : RouterId) → IsListed A r → IsListed B r
  listed_to r h = (h.0, (is.routers r h.0).0 h.1)

  linked_by : (n : ℕ) (r : RouterId) (address : ℕ) → IsAddressOn A n r address → (metric : ℕ) × HasLink A r kind.Transit n address metric
  linked_by n r address h =
      let x = transit_found n h.links address h.first in (x.0, record { links = h.links; listed = h.listed; link_in = x.1 })

  edge_to : (from to : Vertex) (cost address : ℕ) → IsEdgeBetween A from to cost address → IsEdgeBetween B from to cost address
  edge_to (vertex.Router a) (vertex.Router b) cost address e =
      (link_to a kind.PointToPoint b.0 address cost e.0, e.1, e.2, link_to b kind.PointToPoint a.0 e.1 e.2 e.3)
  edge_to (vertex.Router a) (vertex.Network n) cost address e = (link_to a kind.Transit n address cost e.0, (is.attached a n (address, cost, e.0)).0 e.1)
  edge_to (vertex.Network n) (vertex.Router b) cost address e =
      let h = e.1 in
      let x = linked_by n b address h in
      (e.0, record { links = h.links; listed = (is.routers b h.links).0 h.listed; first = h.first }, (is.attached b n (address, x.0, x.1)).0 e.2)
  edge_to (vertex.Network n) (vertex.Network m) cost address e = e

  end_to : (p : Prefix) (v : Vertex) (cost : ℕ) → ((n : ℕ) → v ≡ vertex.Network n → IsLinked A n) → IsEnd A p v cost → IsEnd B p v cost
  end_to p (vertex.Network n) cost linked e =
      let x = (is.masks n e.1 (linked n refl)).0 (e.2, e.3) in
      (e.0, e.1, x.0, x.1, e.4)
  end_to p (vertex.Router r) cost linked e = (e.0, e.1, link_to r kind.Stub e.0 e.1 cost e.2, e.3)

  way_linked : (root : RouterId) (p : Prefix) (w : Way A root p) (n : ℕ) → w.end ≡ vertex.Network n → IsLinked A n
  way_linked root p w n at =
      elim (linked_end A w.path (vertex.Router root) n (subst (λ v. IsPath (IsEdge A) (vertex.Router root) w.path v) at w.leads)) [
        | inl none ↦ absurd (cc)
        | inr linked ↦ linked
      ]

  way_to : (root : RouterId) (p : Prefix) → Way A root p → Way B root p
  way_to root p w =
      record {
        listed = listed_to root w.listed;
        path = w.path;
        end = w.end;
        end_cost = w.end_cost;
        leads = IsPath-map (IsEdge A) (IsEdge B) (λ e one. edge_to e.from e.to e.cost e.link_data one) w.path (vertex.Router root) w.end w.leads;
        ends = end_to p w.end w.end_cost (way_linked root p w) w.ends;
      }

pub only_links_back_count : (A B : List Advertisement) → AreLinkedAlike A B → (root : RouterId) (table : List Route) → IsTable A root table ↔ IsTable B root table
unfolding way_to
only_links_back_count A B is root table =
    same_tables (λ n. n) A B root
    (record {
      forth = λ p w. (way_to A B is root p w, record { cost = refl; hop = refl; ends = moved_same w.end });
      back = λ p v. (way_to B A (alike_back A B is) root p v, record { cost = refl; hop = refl; ends = moved_same v.end });
      order = λ p w x m n at there. (λ le. le, λ le. le);
    })
    table
