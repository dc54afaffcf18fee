-- What counts of network-LSAs: their masks, and those of their attached routers that link back
-- (RFC 2328, section 16.1, step 2b).
use Rattle.std.specs.Prelude.{◌↔◌, ℕ, List, Contains}
use Rattle.ospf_base.specs.declared.ids.RouterId.{RouterId}
use Rattle.ospf_lsa.specs.declared.link.Link.{Link}
use Rattle.ospf_lsa.specs.declared.link.LinkKind.TheVariants.{Transit}
use Rattle.ospf_graph.specs.Advertisements.{Advertisement, router_lsa, IsAttached, IsNetwork}
use Rattle.ospf_graph.specs.EdgeLists.Costs.{HasLinkTo}
use Rattle.ospf_graph.specs.Routes.{IsTable}
use Rattle.ospf_graph.specs.declared.route.Route.{Route}

-- some router has a type 2 link to the network
abbrev pub IsLinked : List Advertisement → ℕ → Type 0
IsLinked adverts n = (router : RouterId) × HasLinkTo adverts router Transit n

-- the LSA that counts for the network has this mask
abbrev pub IsNetworkMask : List Advertisement → ℕ → ℕ → Type 0
IsNetworkMask adverts n mask = (attached : List RouterId) × IsNetwork adverts n mask attached

-- two listings that say the same of all that is linked
pub record AreLinkedAlike (A B : List Advertisement) : Type 0 where
  -- the same router-LSAs
  pub routers : (router : RouterId) (links : List Link) →
      Contains A (router_lsa router links) ↔ Contains B (router_lsa router links)
  -- a router that links to a network is attached to it in both, or in neither
  pub attached : (router : RouterId) (n : ℕ) → HasLinkTo A router Transit n →
      IsAttached A n router ↔ IsAttached B n router
  -- and the network has the same mask
  pub masks : (n mask : ℕ) → IsLinked A n → IsNetworkMask A n mask ↔ IsNetworkMask B n mask

-- then their routing tables are the same
abbrev pub OnlyLinksBackCount : Type 0
OnlyLinksBackCount =
    (A B : List Advertisement) → AreLinkedAlike A B →
    (root : RouterId) (table : List Route) → IsTable A root table ↔ IsTable B root table
