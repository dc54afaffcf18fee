-- What routers want after a change (RFC 2328, section 12.4.1; RFC 6987).
use Rattle.std.specs.Prelude.{◌≡◌, ◌≢◌, ◌⊎◌, ◌++◌, ◌∷◌, Bool, true, false, List}
use Rattle.std.specs.List.{AllByRecursion, list_any}
use Rattle.ospf_base.specs.Prefixes.{IsPrefixOf}
use Rattle.ospf_base.specs.declared.ids.RouterId.{RouterId}
use Rattle.ospf_base.specs.declared.interface.InterfaceKind.TheVariants as kind
use Rattle.ospf_base.specs.declared.prefix.Prefix.{Prefix}
use Rattle.ospf_base.specs.declared.stub_network.StubNetwork.{StubNetwork}
use Rattle.ospf_lsa.specs.declared.link.Link.{Link}
use Rattle.ospf_area.specs.State.{LinkValue}
use Rattle.ospf_neighbour.specs.Interface.Machine.{is_down}
use Rattle.ospf_originate.specs.Wants.Wanted.{interface_links, is_full, own_links, stub_link, subnet_link}
use Rattle.ospf_whatif.specs.Subnets.{is_address}
use Rattle.ospf_whatif.specs.Wanted.{IsOnTransit}
use Rattle.ospf_change.specs.Edit.Change.{gets_cost, is_longer_subnet, priced_links}
use Rattle.ospf_change.specs.declared.edit.change.Change.{Change}
use Rattle.ospf_change.specs.declared.edit.change.Change.TheVariants.{Cost, Drain}

-- as a stub router a router wants the drained links of those that it wants otherwise
abbrev pub DrainsAreWanted : Type 0
DrainsAreWanted =
    (router : RouterId) (links : List LinkValue) (stubs : List StubNetwork) →
    own_links true links stubs ≡ priced_links (Drain router) router (own_links false links stubs)

-- the interface is as it was, but for its cost
pub record HasOtherCost (before after : LinkValue) : Type 0 where
  pub iface : after.iface ≡ before.iface
  pub suppressed : after.settings.suppressed ≡ before.settings.suppressed
  pub neighbours : after.neighbours ≡ before.neighbours

-- an interface of a point-to-point link that is up, in this subnet of more than one host, with a
-- neighbour that is fully adjacent
pub record IsWired (l : LinkValue) (subnet : Prefix) : Type 0 where
  pub up : is_down l.iface.state ≡ false
  pub kind_is : l.iface.settings.kind ≡ kind.PointToPoint
  pub adjacent : list_any is_full l.neighbours ≡ true
  pub in_subnet : IsPrefixOf l.iface.settings.address.0 l.iface.settings.mask subnet
  pub no_stub : l.iface.settings.mask ≢ 0xFFFFFFFF
  pub numbered : is_address l.iface.settings.address.0 ≡ true

-- the subnet of the interface is the longest that holds its address, of all in these links of the
-- router
abbrev pub IsLongestSubnet : List Link → LinkValue → Type 0
IsLongestSubnet all l =
    list_any (is_longer_subnet l.iface.settings.address.0 (subnet_link l)) all ≡ false

-- an interface that leads on: on a point-to-point link or on a transit network
abbrev pub LeavesBy : List Link → LinkValue → Type 0
LeavesBy all l = ((subnet : Prefix) × IsWired l subnet × IsLongestSubnet all l) ⊎ IsOnTransit l

-- of all links of a router the change gives none of those that these interfaces make another cost
abbrev pub AreSparedFrom : Change → List Link → List LinkValue → Type 0
AreSparedFrom c all links =
    AllByRecursion (λ l. gets_cost c all l ≡ false) (interface_links false links)

-- of all links of a router the change gives none of those to its stub networks another cost. It
-- never gives one to that of a host; it would to that of another stub network whose prefix is the
-- longest that holds the address of the interface
abbrev pub AreStubsSparedFrom : Change → List Link → List StubNetwork → Type 0
AreStubsSparedFrom c all stubs =
    AllByRecursion
    (λ (n : StubNetwork). n.prefix.length ≢ 32 → gets_cost c all (stub_link n) ≡ false)
    stubs

-- the cost of an interface changes, whose address the router has but once: it wants the links of
-- before at the new cost
abbrev pub CostsAreWanted : Type 0
CostsAreWanted =
    (router : RouterId) (front back : List LinkValue) (before after : LinkValue)
    (stubs : List StubNetwork) → HasOtherCost before after →
    let all = own_links false (front ++ before ∷ back) stubs in
    let change = Cost router before.iface.settings.address after.settings.cost in
    LeavesBy all before → AreSparedFrom change all front → AreSparedFrom change all back →
    AreStubsSparedFrom change all stubs →
    own_links false (front ++ after ∷ back) stubs ≡ priced_links change router all
