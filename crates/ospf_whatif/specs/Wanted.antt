-- What routers want after a failure (RFC 2328, section 12.4.1).
use Rattle.std.specs.Prelude.{◌≡◌, ◌≢◌, ◌++◌, ◌∷◌, [], ⊤, ℕ, Bool, true, false, List, map}
use Rattle.std.specs.List.{AllByRecursion, list_any}
use Rattle.ospf_base.specs.Prefixes.{IsPrefixOf}
use Rattle.ospf_base.specs.declared.ids.RouterId.{RouterId}
use Rattle.ospf_base.specs.declared.interface.InterfaceKind.TheVariants as kind
use Rattle.ospf_base.specs.declared.prefix.Prefix.{Prefix}
use Rattle.ospf_base.specs.declared.stub_network.StubNetwork.{StubNetwork}
use Rattle.ospf_lsa.specs.declared.link.Link.{Link}
use Rattle.ospf_area.specs.State.{LinkValue}
use Rattle.ospf_graph.specs.Advertisements.{Advertisement}
use Rattle.ospf_neighbour.specs.Interface.Machine.{is_down}
use Rattle.ospf_originate.specs.Wants.Wanted.{stub_link, interface_links, is_transit, own_links}
use Rattle.ospf_whatif.specs.Failure.{inner_of, kept_after, kept_links, takes, takes_in, without, without_all}
use Rattle.ospf_whatif.specs.Renamed.{renamed_link}
use Rattle.ospf_whatif.specs.Subnets.{is_held}
use Rattle.ospf_whatif.specs.declared.failure.AreaFailure.{AreaFailure}
use Rattle.ospf_whatif.specs.declared.failure.AreaFailure.TheVariants as fails

-- the failure takes none of the links that these interfaces make
abbrev pub AreSpared : List Link → AreaFailure → RouterId → Bool → List LinkValue → Type 0
AreSpared inner f router stub_router links =
    AllByRecursion (λ l. takes inner f router l ≡ false) (interface_links stub_router links)

-- the failure takes none of the links to the stub networks
abbrev pub AreStubsSpared : List Link → AreaFailure → RouterId → List StubNetwork → Type 0
AreStubsSpared inner f router stubs =
    AllByRecursion (λ l. takes inner f router l ≡ false) (map stub_link stubs)

-- the router wants what the failure leaves of what it wanted, where
-- one of its interfaces has changed
abbrev pub IsLeft : List Link → AreaFailure → RouterId → Bool
    → (front : List LinkValue) (before after : LinkValue) (back : List LinkValue) → List StubNetwork
    → Type 0
IsLeft inner f router stub_router front before after back stubs =
    kept_links inner f router (own_links stub_router (front ++ before ∷ back) stubs)
    ≡ own_links stub_router (front ++ after ∷ back) stubs

-- an interface of a point-to-point link that is up, in this subnet,
-- with no neighbour but this router
pub record IsWireUp (l : LinkValue) (other : RouterId) (subnet : Prefix) : Type 0 where
  pub up : is_down l.iface.state ≡ false
  pub kind_is : l.iface.settings.kind ≡ kind.PointToPoint
  pub in_subnet : IsPrefixOf l.iface.settings.address.0 l.iface.settings.mask subnet
  pub alone : AllByRecursion (λ n. n.router ≡ other) l.neighbours

-- the address of the interface lies in none of these subnets
abbrev pub IsInNone : List Link → LinkValue → Type 0
IsInNone inner l = list_any (λ stub. is_held stub l.iface.settings.address.0) inner ≡ false

-- the interface goes down; the subnet of the link is the longest one that holds its address
abbrev pub LinksGoDown : Type 0
LinksGoDown =
    (inner : List Link) (router other : RouterId) (subnet : Prefix) (stub_router : Bool)
    (front back : List LinkValue) (before after : LinkValue) (stubs : List StubNetwork) →
    IsWireUp before other subnet → IsInNone inner before → is_down after.iface.state ≡ true →
    AreSpared inner (fails.Link router other subnet) router stub_router front
    → AreSpared inner (fails.Link router other subnet) router stub_router back
    → AreStubsSpared inner (fails.Link router other subnet) router stubs →
    IsLeft inner (fails.Link router other subnet) router stub_router front before after back stubs

-- the link runs through a switch: the interface goes down, and the one at the other end stays up
abbrev pub EndsGoDown : Type 0
EndsGoDown =
    (inner : List Link) (router other : RouterId) (subnet : Prefix) (stub_router : Bool)
    (front back : List LinkValue) (before after : LinkValue) (stubs : List StubNetwork) →
    IsWireUp before other subnet → IsInNone inner before → is_down after.iface.state ≡ true →
    AreSpared inner (fails.End router other subnet) router stub_router front
    → AreSpared inner (fails.End router other subnet) router stub_router back
    → AreStubsSpared inner (fails.End router other subnet) router stubs →
    IsLeft inner (fails.End router other subnet) router stub_router front before after back stubs

-- the failure of a router's attachment to a network, or of the network
abbrev pub IsNetworkFailure : AreaFailure → RouterId → ℕ → Type 0
IsNetworkFailure (fails.Attachment q n) router network = (q ≡ router) × (n ≡ network)
IsNetworkFailure (fails.Network n) router network = n ≡ network
IsNetworkFailure (fails.Link _ _ _) _ _ = ⊥
IsNetworkFailure (fails.End _ _ _) _ _ = ⊥
IsNetworkFailure (fails.Links _ _) _ _ = ⊥
IsNetworkFailure (fails.Stub _ _) _ _ = ⊥
IsNetworkFailure (fails.Router _) _ _ = ⊥

-- an interface to a transit network goes down
abbrev pub InterfacesGoDown : Type 0
InterfacesGoDown =
    (inner : List Link) (router : RouterId) (stub_router : Bool) (front back : List LinkValue)
    (before after : LinkValue) (stubs : List StubNetwork) →
    is_down before.iface.state ≡ false → before.iface.settings.kind ≡ kind.Broadcast
    → is_transit before ≡ true → is_down after.iface.state ≡ true →
    (f : AreaFailure) → IsNetworkFailure f router before.iface.dr.0 →
    AreSpared inner f router stub_router front → AreSpared inner f router stub_router back
    → IsLeft inner f router stub_router front before after back stubs

-- the neighbour on a point-to-point link is heard no more, and the interface stays up
abbrev pub RoutersStop : Type 0
RoutersStop =
    (inner : List Link) (router gone : RouterId) (subnet : Prefix) (stub_router : Bool)
    (front back : List LinkValue) (before after : LinkValue) (stubs : List StubNetwork) →
    router.0 ≢ gone.0 → IsWireUp before gone subnet → after.iface ≡ before.iface
    → after.settings ≡ before.settings → after.neighbours ≡ [] →
    AreSpared inner (fails.Router gone) router stub_router front
    → AreSpared inner (fails.Router gone) router stub_router back →
    IsLeft inner (fails.Router gone) router stub_router front before after back stubs

-- the link runs through a switch: the interface stays up, and no longer hears the router at the
-- other end, whose interface went down
abbrev pub FarEndsStayUp : Type 0
FarEndsStayUp =
    (inner : List Link) (router gone : RouterId) (subnet : Prefix) (stub_router : Bool)
    (front back : List LinkValue) (before after : LinkValue) (stubs : List StubNetwork) →
    router.0 ≢ gone.0 → IsWireUp before gone subnet → IsInNone inner before
    → after.iface ≡ before.iface → after.settings ≡ before.settings → after.neighbours ≡ [] →
    AreSpared inner (fails.End gone router subnet) router stub_router front
    → AreSpared inner (fails.End gone router subnet) router stub_router back →
    IsLeft inner (fails.End gone router subnet) router stub_router front before after back stubs

-- failures, one after the other, take none of these links of the router
abbrev pub AreSparedBy : List Advertisement → List AreaFailure → RouterId → List Link → Type 0
AreSparedBy adverts [] router links = ⊤
AreSparedBy adverts (f ∷ more) router links =
    AllByRecursion (λ l. takes_in adverts f router l ≡ false) links
    × AreSparedBy (without f adverts) more router links

-- of failures that come together one changes an interface of the router, as the laws have it of
-- that failure alone, and the others take none of its links: the router wants what all leave
abbrev pub FailuresComeTogether : Type 0
FailuresComeTogether =
    (adverts : List Advertisement) (earlier later : List AreaFailure) (f : AreaFailure)
    (router : RouterId) (stub_router : Bool) (front back : List LinkValue)
    (before after : LinkValue) (stubs : List StubNetwork) →
    let was = own_links stub_router (front ++ before ∷ back) stubs in
    let is = own_links stub_router (front ++ after ∷ back) stubs in
    AreSparedBy adverts earlier router was →
    IsLeft (inner_of f (without_all earlier adverts)) f router stub_router front before after back
    stubs
    → AreSparedBy (without f (without_all earlier adverts)) later router is →
    kept_after adverts (earlier ++ f ∷ later) router was ≡ is

-- an interface that is up, on a transit network
pub record IsOnTransit (l : LinkValue) : Type 0 where
  pub up : is_down l.iface.state ≡ false
  pub kind_is : l.iface.settings.kind ≡ kind.Broadcast
  pub transit : is_transit l ≡ true

-- the new names change none of the links that these interfaces make
abbrev pub KeepTheirNames : (ℕ → ℕ) → Bool → List LinkValue → Type 0
KeepTheirNames name stub_router links =
    AllByRecursion (λ l. renamed_link name l ≡ l) (interface_links stub_router links)

-- another router becomes the Designated Router of a network, and the interface stays on the
-- network: the router wants the links of before, under the network's new name
abbrev pub DesignatedRoutersChange : Type 0
DesignatedRoutersChange =
    (name : ℕ → ℕ) (stub_router : Bool) (front back : List LinkValue) (before after : LinkValue)
    (stubs : List StubNetwork) →
    IsOnTransit before → IsOnTransit after →
    after.iface.settings ≡ before.iface.settings → after.settings ≡ before.settings →
    after.iface.dr.0 ≡ name before.iface.dr.0 →
    KeepTheirNames name stub_router front → KeepTheirNames name stub_router back →
    own_links stub_router (front ++ after ∷ back) stubs ≡
    map (renamed_link name) (own_links stub_router (front ++ before ∷ back) stubs)
