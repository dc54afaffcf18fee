-- Copies of the database that go to one neighbour, and Requests that they answer (RFC
-- 2328, sections 10.7 and 13.6).
use Rattle.std.specs.Prelude.{◌++◌, ℕ, List, [], filter, fold, map, if◌then◌else◌, None, Some}
use Rattle.ospf_base.specs.declared.ids.LsaKey.{LsaKey}
use Rattle.ospf_neighbour.specs.declared.iface.machine.Iface.{Iface}
use Rattle.ospf_lsdb.specs.Database.{Held, entry_of, instance_at, key_at}
use Rattle.ospf_neighbour.specs.Lists.{resent}
use Rattle.ospf_neighbour.specs.Neighbour.{NeighbourValue}
use Rattle.ospf_neighbour.specs.declared.machine.NbrEvent.TheVariants.{BadLsReq}
use Rattle.ospf_packet.specs.declared.entry.RequestEntry.{RequestEntry}
use Rattle.ospf_exchange.specs.Requests.{all_held, is_asked}
use Rattle.ospf_exchange.specs.declared.rule.Local.{Local}
use Rattle.ospf_area.specs.Sending.{to_address}
use Rattle.ospf_adjacency.specs.Descriptions.{event_turn}
use Rattle.ospf_area.specs.Turns.{Turn}
use Rattle.ospf_adjacency.specs.Packing.{updates_of}

-- ---- copies to one neighbour

-- the copies of these keys go to the neighbour, and count as sent to it where they are on its
-- retransmission list (10.7, 13.6)
abbrev pub copies_turn : Iface → Local → ℕ → List Held → List LsaKey → Turn → Turn
copies_turn i local delay db keys t = record {
  neighbour =
      fold
      (λ (n : NeighbourValue) key. (elim (entry_of db key) [
        | None ↦ n
        | Some e ↦ resent (instance_at e) local.tick n
      ])) t.neighbour keys;
  next = t.next;
  sent = t.sent ++ updates_of (to_address i t.neighbour.address) local.mtu delay db keys;
}

-- ---- Requests

-- the keys of the database that a Request asks for, in their order, each once: none where the
-- database has no copy of one (10.7)
abbrev pub answered_keys : List Held → List RequestEntry → List LsaKey
answered_keys db es = if all_held db es then filter (is_asked es) (map key_at db) else []

-- a Request is answered by the copies of the keys that it asks for, or is BadLSReq where the
-- database has no copy of one (10.7)
abbrev pub answer_turn : Iface → Local → ℕ → List Held → List RequestEntry → Turn → Turn
answer_turn i local delay db es t =
    if all_held db es then copies_turn i local delay db (filter (is_asked es) (map key_at db)) t
    else event_turn i local BadLsReq t
