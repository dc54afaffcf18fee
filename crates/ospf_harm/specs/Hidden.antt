-- Costs that no LSA contains, and that a failure brings about. A stub router advertises a transit
-- network at the largest metric (RFC 6987). Left alone there, it advertises the network as a stub
-- network, at the cost of its interface (RFC 2328, section 12.4.1.2).
use Rattle.std.specs.Prelude.{◌≡◌, ◌⊎◌, ◌↔◌, ℕ, List, All, Contains}
use Rattle.ospf_base.specs.declared.ids.RouterId.{RouterId}
use Rattle.ospf_graph.specs.Advertisements.{Advertisement}
use Rattle.ospf_graph.specs.Graph.{IsEdgeBetween}
use Rattle.ospf_graph.specs.declared.graph.Edge.{Edge}
use Rattle.ospf_graph.specs.declared.graph.Vertex.TheVariants.{Network, Router}
use Rattle.ospf_whatif.specs.Single.{IsOn}
use Rattle.ospf_harm.specs.declared.hidden.HiddenCost.{HiddenCost}

-- of two routers on the network the other one, and no third
pub record IsOneOfTwo (adverts : List Advertisement) (h : HiddenCost) : Type 0 where
  pub on : IsOn adverts h.other h.network
  pub apart : h.other ≡ h.router → ⊥
  pub only : (r : RouterId) → IsOn adverts r h.network → (r ≡ h.router) ⊎ (r ≡ h.other)

-- a router that advertises the network at the largest metric, and one other router there: when the
-- other fails, the cost of the network is that of the first one's interface
pub record IsHidden (adverts : List Advertisement) (h : HiddenCost) : Type 0 where
  pub address : ℕ
  pub edge : IsEdgeBetween adverts (Router h.router) (Network h.network) 65535 address
  pub two : IsOneOfTwo adverts h

-- exactly these are listed
abbrev pub AreHidden : List Advertisement → List HiddenCost → Type 0
AreHidden adverts hidden = (h : HiddenCost) → Contains hidden h ↔ IsHidden adverts h

-- ---- on the way

-- an edge from the router to the network at the largest metric gives this
abbrev pub HiddenGiven : List Advertisement → Edge → HiddenCost → Type 0
HiddenGiven adverts e h =
    (e.from ≡ Router h.router) × (e.to ≡ Network h.network) × (e.cost ≡ 65535)
    × IsOneOfTwo adverts h

-- an edge to the network comes from one of the two routers
abbrev pub IsOfTwo : RouterId → RouterId → ℕ → Edge → Type 0
IsOfTwo router other network e =
    e.to ≡ Network network → (e.from ≡ Router router) ⊎ (e.from ≡ Router other)

-- an edge from the other router to the network gives this
abbrev pub OtherGiven : List Edge → RouterId → ℕ → Edge → HiddenCost → Type 0
OtherGiven near router network e h =
    (h.router ≡ router) × (h.network ≡ network) × (e.from ≡ Router h.other)
    × (e.to ≡ Network network) × (h.other ≡ router → ⊥) × All (IsOfTwo router h.other network) near
