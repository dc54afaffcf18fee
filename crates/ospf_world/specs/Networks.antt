-- The interfaces of a world by the numbers of their networks.
use Rattle.std.specs.Prelude.{◌≡◌, ◌==◌, ◌+◌, ◌++◌, ℕ, List, [], ◌∷◌, Option, None, Some, if◌then◌else◌}
use Rattle.std.specs.BTreeMap as tree
use Rattle.std.specs.Global.{Vec}
use Rattle.std.specs.Ordering.{nat_cmp}
use Rattle.ospf_config.specs.Conflicts.{network_part}
use Rattle.ospf_config.specs.declared.config.Config.{Config}
use Rattle.ospf_config.specs.declared.interface.Interface.{Interface}
use Rattle.ospf_world.specs.declared.networks.LinkPlace.{LinkPlace}

-- of the interfaces of the router at this place, whose links are numbered from
-- this one on, those on the network
abbrev pub links_from : (network place link : ℕ) → List Interface → List LinkPlace
links_from network place link [] = []
links_from network place link (i ∷ interfaces) =
    (if network == network_part i.address then record { place = place; link = link } ∷ [] else [])
    ++ links_from network place (link + 1) interfaces

-- of all interfaces of the router at this place
abbrev pub router_links : (network place : ℕ) → Config → List LinkPlace
router_links network place config = links_from network place 0 config.interfaces.items

-- the interfaces on the network of routers that are listed from this place on
abbrev pub links_on : (network place : ℕ) → List Config → List LinkPlace
links_on network place [] = []
links_on network place (config ∷ configs) =
    router_links network place config ++ links_on network (place + 1) configs

-- those that an index has
abbrev pub places_in : Option (Vec LinkPlace) → List LinkPlace
places_in None = []
places_in (Some links) = links.items

-- the interfaces on a network, by the map
abbrev pub places_on_network : tree.BTreeMap ℕ (Vec LinkPlace) → ℕ → List LinkPlace
places_on_network networks network = places_in (tree.get nat_cmp networks network)

-- the index has the interfaces of these routers on each network
abbrev pub AreNetworks : tree.BTreeMap ℕ (Vec LinkPlace) → List Config → Type 0
AreNetworks networks configs =
    (network : ℕ) → places_on_network networks network ≡ links_on network 0 configs
