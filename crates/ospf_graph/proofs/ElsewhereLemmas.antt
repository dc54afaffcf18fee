-- Edges that do not touch the vertex whose LSAs differ are those of both listings.
use Rattle.std.proofs.Common.{◌⊎◌, ◌≢◌, ℕ, List, inl, inr}
use Rattle.ospf_base.specs.declared.ids.RouterId.{RouterId}
use Rattle.ospf_lsa.specs.declared.link.LinkKind.{LinkKind}
use Rattle.ospf_lsa.specs.declared.link.LinkKind.TheVariants.{PointToPoint, Transit}
use Rattle.ospf_graph.specs.declared.graph.Edge.{Edge}
use Rattle.ospf_graph.specs.declared.graph.Vertex.{Vertex}
use Rattle.ospf_graph.specs.declared.graph.Vertex.TheVariants.{Router, Network}
use Rattle.ospf_graph.specs.Advertisements.{Advertisement, HasLink, IsAddressOn, IsAttached, router_lsa, network_lsa}
use Rattle.ospf_graph.specs.Elsewhere.{AreSameBut, EdgesCome, EdgesStay, ElsewhereLaw, IsElsewhere, Touches}
use Rattle.ospf_graph.specs.Graph.{IsEdge, IsEdgeBetween}
use Rattle.ospf_graph.proofs.CandidateLemmas.{same_or_other}

turned : (v : Vertex) (A B : List Advertisement) → AreSameBut v A B → AreSameBut v B A
turned v A B same a other = ((same a other).1, (same a other).0)

module _ (v : Vertex) (A B : List Advertisement) (same : AreSameBut v A B) where
  link_stays : (r : RouterId) (kind : LinkKind) (id link_data metric : ℕ) → Router r ≢ v → HasLink A r kind id link_data metric → HasLink B r kind id link_data metric
  link_stays r kind id link_data metric other h = record { links = h.links; listed = (same (router_lsa r h.links) other).0 h.listed; link_in = h.link_in }

  address_stays : (n : ℕ) (r : RouterId) (x : ℕ) → Router r ≢ v → IsAddressOn A n r x → IsAddressOn B n r x
  address_stays n r x other h = record { links = h.links; listed = (same (router_lsa r h.links) other).0 h.listed; first = h.first }

  attached_stays : (n : ℕ) (r : RouterId) → Network n ≢ v → IsAttached A n r → IsAttached B n r
  attached_stays n r other a =
      let w = a.network in
      record {
        mask = a.mask;
        attached = a.attached;
        network = record {
          router = w.router;
          listed = (same (network_lsa n w.router a.mask a.attached) other).0 w.listed;
          largest = λ s m others c. w.largest s m others ((same (network_lsa n s m others) other).1 c);
        };
        names = a.names;
      }

  between_stays : (u w : Vertex) (cost link_data : ℕ) → u ≢ v → w ≢ v → IsEdgeBetween A u w cost link_data → IsEdgeBetween B u w cost link_data
  between_stays (Router a) (Router b) cost link_data u w e =
      (link_stays a PointToPoint b.0 link_data cost u e.0, e.1, e.2, link_stays b PointToPoint a.0 e.1 e.2 w e.3)
  between_stays (Router a) (Network n) cost link_data u w e = (link_stays a Transit n link_data cost u e.0, attached_stays n a w e.1)
  between_stays (Network n) (Router b) cost link_data u w e = (e.0, address_stays n b link_data w e.1, attached_stays n b u e.2)
  between_stays (Network n) (Network m) cost link_data u w e = absurd e

  edge_stays : (e : Edge) → IsElsewhere v e → IsEdge A e → IsEdge B e
  edge_stays e away is = between_stays e.from e.to e.cost e.link_data away.0 away.1 is

pub touching_or_not : (v : Vertex) (e : Edge) → Touches v e ⊎ IsElsewhere v e
touching_or_not v e =
    elim (same_or_other e.from v) [
      | inl from ↦ inl (inl from)
      | inr u ↦ elim (same_or_other e.to v) [ inl to ↦ inl (inr to) | inr w ↦ inr (u, w) ]
    ]

pub edges_elsewhere : ElsewhereLaw
edges_elsewhere v A B same e away = (λ is. edge_stays v A B same e away is, λ is. edge_stays v B A (turned v A B same) e away is)

pub edges_stay : EdgesStay
edges_stay v A B same keeps e is =
    elim (touching_or_not v e) [ inl here ↦ keeps e here is | inr away ↦ (edges_elsewhere v A B same e away).0 is ]

pub edges_come : EdgesCome
edges_come v A B same e is =
    elim (touching_or_not v e) [ inl here ↦ inr here | inr away ↦ inl ((edges_elsewhere v A B same e away).1 is) ]
