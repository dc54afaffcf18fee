-- What is sent again in a tick, and the marks of what was sent (RFC 2328,
-- sections 10.8, 10.9, 13 and 13.6).
use Rattle.std.specs.Prelude.{ℕ, List, [], fold, map, true}
use Rattle.std.specs.List.{flat_map}
use Rattle.ospf_base.specs.declared.ids.LsaKey.{LsaKey}
use Rattle.ospf_neighbour.specs.declared.iface.machine.Iface.{Iface}
use Rattle.ospf_lsdb.specs.Database.{Held}
use Rattle.ospf_neighbour.specs.Neighbour.{NeighbourValue}
use Rattle.ospf_area.specs.Turns.{Turn}
use Rattle.ospf_area.specs.Numbers.{marked}
use Rattle.ospf_area.specs.Outputs.{SentValue}
use Rattle.ospf_area.specs.State.{LinkValue}
use Rattle.ospf_area.specs.declared.sending.RouterContext.{RouterContext}
use Rattle.ospf_area.specs.declared.state.LinkSettings.{LinkSettings}
use Rattle.ospf_adjacency.specs.Repeats.{repeats_turn}
use Rattle.ospf_area.specs.Outboxes.{local_by, posted_all}

-- copies of these keys went out in Updates in this tick (13, step 8)
abbrev pub marked_all : List LsaKey → List LsaKey → List LsaKey
marked_all keys sent = fold (λ sent key. marked key true sent) sent keys

-- ---- one neighbour

-- what is sent again to a neighbour, and the neighbour then
abbrev pub repeats_for : RouterContext → Iface → LinkSettings → List Held → NeighbourValue → Turn
repeats_for own i settings db n =
    repeats_turn i (local_by own settings) settings.retransmit settings.transmit_delay db
    (record { neighbour = n; next = 0; sent = [] })

-- ---- one link

-- the link's neighbours after what is sent again to each
abbrev pub link_repeated : RouterContext → List Held → LinkValue → LinkValue
link_repeated own db link =
    record link {
      neighbours =
          map (λ n. (repeats_for own link.iface link.settings db n).neighbour) link.neighbours;
    }

-- what is sent again to the neighbours of link l
abbrev pub link_repeats_out : RouterContext → List Held → ℕ → LinkValue → List SentValue
link_repeats_out own db l link =
    flat_map
    (λ n. posted_all own l link.iface (repeats_for own link.iface link.settings db n).sent)
    link.neighbours
