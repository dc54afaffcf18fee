-- Whom a datagram is offered to.
use Rattle.std.specs.Prelude.{◌==◌, ◌&&◌, ◌||◌, ℕ, Bool, List, Option, map, filter, slice_get, option_map}
use Rattle.std.specs.List.{enumerate_from}
use Rattle.ospf_base.specs.Addresses.{all_d_routers, all_spf_routers}
use Rattle.ospf_base.specs.declared.ids.Addr.{Addr}
use Rattle.ospf_config.specs.Conflicts.{network_part}
use Rattle.ospf_config.specs.declared.address.InterfaceAddress.{InterfaceAddress}
use Rattle.ospf_config.specs.declared.config.Config.{Config}
use Rattle.ospf_base.specs.declared.event.event.WorldEvent.{WorldEvent}
use Rattle.ospf_base.specs.declared.event.event.WorldEvent.TheVariants.{Deliver}

-- the address of the interface of a link
abbrev pub address_at : Config → ℕ → Option InterfaceAddress
address_at config link = option_map (λ i. i.address) (slice_get config.interfaces.items link)

-- two interfaces have one prefix
abbrev pub share_prefix : InterfaceAddress → InterfaceAddress → Bool
share_prefix one other = (one.length == other.length) && (network_part one == network_part other)

-- an interface listens to the destination: all routers, those that a
-- network elects, or its own address
abbrev pub is_for : Addr → InterfaceAddress → Bool
is_for destination to =
    (destination.0 == all_spf_routers.0) || (destination.0 == all_d_routers.0)
    || (destination.0 == to.address.0)

-- what goes out of one interface is offered to another: it has the same prefix
-- and listens to the destination
unfoldable pub is_offered : InterfaceAddress → Addr → InterfaceAddress → Bool
is_offered from destination to = share_prefix from to && is_for destination to

-- the deliveries of a datagram that a router is offered, in the order of its links
unfoldable pub offers_to : ℕ → InterfaceAddress → Addr → Config → List WorldEvent
offers_to datagram from destination config =
    map (λ e. Deliver datagram config.router_id e.0)
    (filter (λ e. is_offered from destination e.1.address)
    (enumerate_from 0 config.interfaces.items))
