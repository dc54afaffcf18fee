-- Parts of definitions of specs/ by names of their own, for the proofs.
use Rattle.std.specs.List.{flat_map}
use Rattle.std.specs.Prelude.{ℕ, List, Option, None, Some, set, slice_get, false, ◌≡◌, []}
use Rattle.ospf_area.specs.State.{LinkValue, AreaValue}
use Rattle.ospf_adjacency.specs.Heard.{Neighbourhood, put_back, turn_of}
use Rattle.ospf_adjacency.specs.Links.{hello_packet, hello_ticked}
use Rattle.ospf_adjacency.specs.Repeats.{due_keys}
use Rattle.ospf_adjacency.proofs.Words.{elects_by_change}
use Rattle.ospf_area.specs.Outputs.{OutputsValue, SentValue}
use Rattle.ospf_area.specs.declared.sending.RouterContext.{RouterContext}
use Rattle.ospf_adjacency.specs.LinkSteps.Parts.{link_up, with_neighbourhood}
use Rattle.ospf_area.specs.Outboxes.{posted_all}
use Rattle.ospf_base.specs.declared.ids.RouterId.{RouterId}
use Rattle.ospf_neighbour.specs.declared.iface.machine.Iface.{Iface}
use Rattle.ospf_lsa.specs.declared.header.LsaHeader.{LsaHeader}
use Rattle.ospf_lsdb.specs.Database.{Held}
use Rattle.ospf_neighbour.specs.Neighbour.{NeighbourValue}
use Rattle.ospf_packet.specs.declared.body.Description.{Description}
use Rattle.ospf_exchange.specs.declared.rule.Local.{Local}
use Rattle.ospf_adjacency.specs.Descriptions.{description_turn}
use Rattle.ospf_packet.specs.declared.entry.RequestEntry.{RequestEntry}
use Rattle.ospf_adjacency.specs.Answers.{answer_turn, answered_keys}
use Rattle.ospf_base.specs.declared.ids.LsaKey.{LsaKey}
use Rattle.ospf_area.specs.Packets.{PendingPacket, packet_if}
use Rattle.ospf_area.specs.declared.state.LinkSettings.{LinkSettings}
use Rattle.ospf_neighbour.specs.Interface.Machine.{is_down}
use Rattle.ospf_adjacency.specs.LinkSteps.Repeats.{repeats_for}
use Rattle.ospf_area.specs.Sending.{and_sends, context_of}
use Rattle.ospf_adjacency.specs.LinkSteps.Elections.{ElectsIf}

-- the router after a part on a link that may not be there
abbrev pub worked_by : Option LinkValue → (LinkValue → Neighbourhood) → ℕ → AreaValue → AreaValue
worked_by o part l s = elim o [
  | None ↦ s
  | Some link ↦ record s { links = set s.links l (with_neighbourhood (part link) link); next_dd = (part link).next }
]

abbrev pub worked : (LinkValue → Neighbourhood) → ℕ → AreaValue → AreaValue
worked part l s = worked_by (slice_get s.links l) part l s

-- what goes out by it
abbrev pub work_sent_on : Option LinkValue → (LinkValue → Neighbourhood) → RouterContext → ℕ → List SentValue
work_sent_on o part own l = elim o [
  | None ↦ []
  | Some link ↦ posted_all own l link.iface (part link).sent
]

abbrev pub work_sent : (LinkValue → Neighbourhood) → RouterContext → ℕ → List LinkValue → List SentValue
work_sent part own l links = work_sent_on (slice_get links l) part own l

abbrev pub some_changed : Option LinkValue → (LinkValue → LinkValue) → ℕ → AreaValue → AreaValue
some_changed o change l s = elim o [
  | None ↦ s
  | Some link ↦ record s { links = set s.links l (change link) }
]

-- the first Hello of a link that goes up (9.5)
abbrev pub up_packets : LinkValue → List PendingPacket
up_packets link = packet_if (is_down link.iface.state) (hello_packet (link_up link).iface link.neighbours)

-- the Hello timer of a link, a tick later (9.5)
abbrev pub hello_sent : LinkValue → LinkValue
hello_sent link = record link { iface = hello_ticked link.iface }

-- a neighbour after what is sent again to it
abbrev pub neighbour_repeated : RouterContext → Iface → LinkSettings → List Held → NeighbourValue → NeighbourValue
neighbour_repeated own i settings db n = (repeats_for own i settings db n).neighbour

-- what goes out of link l to it
abbrev pub repeats_to : RouterContext → ℕ → Iface → LinkSettings → List Held → NeighbourValue → List SentValue
repeats_to own l i settings db n = posted_all own l i (repeats_for own i settings db n).sent

-- the keys of the LSAs that are sent again on a link
abbrev pub keys_out : RouterContext → List Held → LinkValue → List LsaKey
keys_out own db link = flat_map (due_keys link.settings.retransmit own.tick db) link.neighbours

-- a Database Description of a neighbour that may not be there; in Init it may bring an election about (10.6)
abbrev pub description_by : Option NeighbourValue → Iface → Local → RouterId → Description → List LsaHeader → List Held → Neighbourhood → Neighbourhood
description_by o i local q d headers db x = elim o [
  | None ↦ x
  | Some n ↦ put_back (elects_by_change i.state n (description_turn i local q d headers db (turn_of n x)).neighbour) (description_turn i local q d headers db (turn_of n x)) x
]

-- a Request of a neighbour that may not be there (10.7)
abbrev pub request_by : Option NeighbourValue → Iface → Local → ℕ → List Held → List RequestEntry → Neighbourhood → Neighbourhood
request_by o i local delay db entries x = elim o [
  | None ↦ x
  | Some n ↦ put_back false (answer_turn i local delay db entries (turn_of n x)) x
]

-- the keys whose copies answer a Request of a neighbour that may not be there, and of router f on a link that may not be
-- there (10.7)
abbrev pub answered_by : Option NeighbourValue → List Held → List RequestEntry → List LsaKey
answered_by o db entries = elim o [
  | None ↦ []
  | Some n ↦ answered_keys db entries
]

-- that of link l, which may not be there
abbrev pub ElectsThere : Option LinkValue → ℕ → AreaValue → OutputsValue → AreaValue → OutputsValue → Type 0
ElectsThere o l before out after out' = elim o [
  | None ↦ (after ≡ before) × (out' ≡ out)
  | Some link ↦ (link' : LinkValue) × (next' : ℕ) × (sent : List PendingPacket) × ElectsIf link.elects (context_of before) before.next_dd link link' next' sent × (after ≡ record before { links = set before.links l link'; next_dd = next' }) × (out' ≡ and_sends out (posted_all (context_of before) l link.iface sent))
]
