-- What is sent again to one neighbour (RFC 2328, sections 10.8, 10.9 and 13.6).
use Rattle.std.specs.Prelude.{◌&&◌, ◌++◌, ◌∷◌, [], ℕ, List, filter, map, if◌then◌else◌}
use Rattle.std.specs.List.{list_any}
use Rattle.ospf_base.specs.Keys.{same_key}
use Rattle.ospf_base.specs.declared.ids.LsaKey.{LsaKey}
use Rattle.ospf_neighbour.specs.declared.iface.machine.Iface.{Iface}
use Rattle.ospf_lsdb.specs.Database.{Held, key_at}
use Rattle.ospf_neighbour.specs.Neighbour.{NeighbourValue}
use Rattle.ospf_neighbour.specs.declared.neighbour.Listed.{Listed}
use Rattle.ospf_exchange.specs.Requests.{asked_next}
use Rattle.ospf_exchange.specs.Timers.{dd_due, request_repeat_due}
use Rattle.ospf_exchange.specs.declared.rule.Local.{Local}
use Rattle.ospf_base.specs.Ticks.{have_passed}
use Rattle.ospf_adjacency.specs.Descriptions.{dd_repeated}
use Rattle.ospf_area.specs.Turns.{Turn}
use Rattle.ospf_area.specs.Packets.{request_packet}
use Rattle.ospf_adjacency.specs.Answers.{copies_turn}

-- the keys of the database of which an entry is due on the neighbour's retransmission list
-- (13.6), in their order: each once
abbrev pub due_keys : ℕ → ℕ → List Held → NeighbourValue → List LsaKey
due_keys retransmit tick db n =
    filter
    (λ key. list_any
    (λ (l : Listed). have_passed retransmit l.sent_at tick && same_key l.instance.key key)
    n.retransmission) (map key_at db)

-- its last DD packet, in ExStart and by the master in Exchange (10.8), then its last Request,
-- filled afresh (10.9), then the copies of what is due on its retransmission list (13.6)
abbrev pub repeats_turn : Iface → Local → ℕ → ℕ → List Held → Turn → Turn
repeats_turn i local retransmit delay db t =
    let u = (if dd_due retransmit local.tick t.neighbour then dd_repeated i local t else t) in
    let asked = asked_next local.mtu local.tick u.neighbour in
    let v =
    (if request_repeat_due retransmit local.tick u.neighbour
    then record u { neighbour = asked; sent = u.sent ++ request_packet i asked ∷ [] }
    else u) in
    copies_turn i local delay db (due_keys retransmit local.tick db t.neighbour) v
