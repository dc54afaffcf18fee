-- What an event makes of a neighbour, and where its adjacency begins (RFC 2328,
-- sections 10.3, 10.4 and 10.8).
use Rattle.std.specs.Prelude.{◌==◌, ◌||◌, ◌+◌, ◌%◌, ◌^◌, ℕ, Bool, true, false, if◌then◌else◌}
use Rattle.ospf_base.specs.declared.ids.Addr.{Addr}
use Rattle.ospf_base.specs.declared.interface.InterfaceKind.TheVariants.{PointToPoint, Broadcast}
use Rattle.ospf_neighbour.specs.declared.iface.machine.Iface.{Iface}
use Rattle.ospf_neighbour.specs.declared.machine.Effect.TheVariants.{AdjacencyBegins}
use Rattle.ospf_neighbour.specs.declared.machine.NbrEvent.{NbrEvent}
use Rattle.ospf_neighbour.specs.Machine.{transition}
use Rattle.ospf_neighbour.specs.Neighbour.{NeighbourValue, is_empty}
use Rattle.ospf_exchange.specs.Timers.{begins}
use Rattle.ospf_area.specs.Changes.{after_event}

-- ---- where an adjacency is wanted

-- on the link a DR and a Backup are elected (9.4)
abbrev pub is_broadcast : Iface → Bool
is_broadcast i = elim i.settings.kind [ PointToPoint ↦ false | Broadcast ↦ true ]

-- the address is that of the elected DR or Backup (10.4)
abbrev pub is_chosen : Iface → Addr → Bool
is_chosen i a = (a.0 == i.dr.0) || (a.0 == i.backup.0)

-- an adjacency with the neighbour of this address is wanted: on point-to-point links, and where it
-- or the router is DR or Backup (10.4)
abbrev pub wants_adjacency : Iface → Addr → Bool
wants_adjacency i a =
    if is_broadcast i then is_chosen i i.settings.address || is_chosen i a else true

-- ---- events

-- by the event an adjacency begins, and a first DD packet goes to the neighbour (10.8)
abbrev pub begins_by : NbrEvent → NeighbourValue → Bool
begins_by e n =
    elim (transition n.state e (is_empty n.requests)).effect [ AdjacencyBegins ↦ true | _ ↦ false ]

-- the neighbour after an event: where an adjacency begins it takes `next`, the
-- router's next DD number (10.3, 10.8)
abbrev pub event_taken : NbrEvent → ℕ → ℕ → ℕ → NeighbourValue → NeighbourValue
event_taken e dead next tick n =
    if begins_by e n then record (after_event e dead n) { exchanging = begins next tick }
    else after_event e dead n

-- the router's next DD number after an event: one more where it was taken, wrapping
abbrev pub number_by : NbrEvent → NeighbourValue → ℕ → ℕ
number_by e n next = if begins_by e n then (next + 1) % 2 ^ 32 else next
