-- Parts of definitions of specs/ by names of their own, for the proofs.
use Rattle.std.specs.Prelude.{◌≡◌, ◌++◌, ◌∷◌, ℕ, Bool, true, false, Option, None, Some, List, if◌then◌else◌, length, slice_get, []}
use Rattle.std.specs.Ordering.{int_eq}
use Rattle.ospf_flood.specs.Rules.{max_sequence_number}
use Rattle.ospf_neighbour.specs.Lists.{is_listed}
use Rattle.ospf_neighbour.specs.Neighbour.{NeighbourValue}
use Rattle.ospf_area.specs.Numbers.{marked}
use Rattle.ospf_area.specs.declared.sending.Way.{Way}
use Rattle.ospf_area.specs.declared.state.Numbering.{Numbering}
use Rattle.ospf_packet.specs.Meaning as meaning
use Rattle.ospf_flood.specs.Rules.{is_sent_back}
use Rattle.ospf_lsdb.specs.Database.{Entry, header_at, key_in, lsa_of}
use Rattle.ospf_area.specs.Outputs.{SentValue, OutputsValue}
use Rattle.ospf_area.specs.Sending.{and_sends, datagrams, context_of, packet_from, sent_lsa, to_address, update_out, way_out}
use Rattle.ospf_area.specs.State.{AreaValue, LinkValue, database_entry}
use Rattle.ospf_area.specs.declared.flooding.PacketSource.{PacketSource}
use Rattle.ospf_area.specs.Acting.{InTurn}
use Rattle.ospf_area.specs.Updates.Meets.{MeetsLsa, first_dd_on}
use Rattle.ospf_base.specs.declared.ids.Instance.{Instance}
use Rattle.ospf_area.specs.Changes.{changed_at}
use Rattle.ospf_area.specs.declared.changes.AdjacencyChange.TheVariants.{Acknowledges}
use Rattle.ospf_base.specs.Constants.{router_options}
use Rattle.ospf_exchange.specs.Flags.{first_flags}
use Rattle.ospf_packet.specs.declared.body.Description.{Description}
use Rattle.ospf_base.specs.declared.ids.LsaKey.{LsaKey}
use Rattle.ospf_lsa.specs.Header.{header_of}
use Rattle.ospf_lsa.specs.Lsa.{key_of}
use Rattle.ospf_area.specs.Flooding.{flooded_links, flooding_updates, goes_anywhere, released}
use Rattle.ospf_area.specs.Updates.Aging.{copy_flooded, turn_out, turned_area}
use Rattle.ospf_area.specs.Updates.Removal.{RemovesOne, leaving, lowest_number}
use Rattle.ospf_area.specs.Updates.Updates.{TakesSlice}
use Rattle.ospf_lsa.specs.declared.header.LsaHeader.{LsaHeader}
use Rattle.ospf_area.specs.declared.sending.RouterContext.{RouterContext}
use Rattle.ospf_area.specs.Updates.Acks.{acks_out, cut, put_in_order}
use Rattle.std.specs.List.{fold, list_any}
use Rattle.ospf_area.proofs.Words.{is_numbering_of}

-- it is flooded out of all links
abbrev pub flooded_area : List ℕ → Option PacketSource → AreaValue → AreaValue
flooded_area lsa from s = record s { links = flooded_links (key_of lsa) (header_of lsa) from s.tick s.links }

-- the Updates by which it is, where its old copy left all lists before
abbrev pub store_updates : List ℕ → Option PacketSource → AreaValue → List SentValue
store_updates lsa from s = flooding_updates (context_of s) lsa from (released (key_of lsa) s.links)

-- an LSA in an Update to the neighbour
abbrev pub lsa_out_on : RouterContext → PacketSource → List ℕ → Option LinkValue → List SentValue
lsa_out_on own f lsa o = elim o [
  | None ↦ []
  | Some link ↦ update_out own (way_out f.link link.iface (to_address link.iface f.address)) (sent_lsa link.settings.transmit_delay lsa ∷ [])
]

-- an LSA meets its rule, and directly after it come LoadingDone and the next Requests
pub record MeetsAndTurns (f : PacketSource) (lsa : List ℕ) (before : AreaValue) (out out' : OutputsValue) (after : AreaValue) : Type 0 where
  pub mid : AreaValue
  pub so_far : OutputsValue
  pub meets : MeetsLsa f lsa before out so_far mid
  pub state : after ≡ turned_area mid
  pub outputs : out' ≡ and_sends so_far (turn_out mid)

-- it was sent in an Update in this tick, if it was (13, step 8)
abbrev pub noted : LsaKey → Bool → AreaValue → AreaValue
noted key went s = if went then record s { sent = marked key true s.sent } else s

-- the headers of each packet, where this many have room in one
abbrev pub packets : ℕ → List LsaHeader → List (List LsaHeader)
packets room hs = cut (length hs) room hs

-- an Acknowledgment
abbrev pub ack_out : RouterContext → Way → List LsaHeader → List SentValue
ack_out own way hs = datagrams way (packet_from own (meaning.acknowledgment hs))

-- a link on which no acknowledgement waits
abbrev pub undelayed_link : LinkValue → LinkValue
undelayed_link link = record link { delayed = [] }

-- some neighbour of the router has yet to acknowledge the instance
abbrev pub some_awaits : Instance → List LinkValue → Bool
some_awaits i links = list_any (λ (link : LinkValue). list_any (λ (n : NeighbourValue). is_listed i n.retransmission) link.neighbours) links

-- the copy's number is the last one
abbrev pub is_last : Option Entry → Bool
is_last o = elim o [ None ↦ false | Some e ↦ int_eq (header_at e).number max_sequence_number ]

-- the numbering of this key begins anew (12.1.6)
abbrev pub reset_one : LsaKey → Numbering → Numbering
reset_one key n = if is_numbering_of key n then record n { kept = lowest_number } else n

-- it is told that this key has left
abbrev pub and_ends : OutputsValue → LsaKey → OutputsValue
and_ends out key = record out { ended = out.ended ++ key ∷ [] }

-- the copy that goes back: there is none where it was sent in an Update in this tick, or is about to leave (13, step 8)
abbrev pub reply_of : Option Entry → Bool → Option (List ℕ)
reply_of o sent = elim o [
  | None ↦ None
  | Some copy ↦ (if is_sent_back copy sent then Some (lsa_of copy) else None)
]

abbrev pub lsa_out : PacketSource → List ℕ → AreaValue → List SentValue
lsa_out f lsa s = lsa_out_on (context_of s) f lsa (slice_get s.links f.link)

abbrev pub taken_off : PacketSource → Option Instance → AreaValue → AreaValue
taken_off f o s = elim o [
  | None ↦ s
  | Some i ↦ record s { links = changed_at f (Acknowledges i) s.tick s.links }
]

abbrev pub first_dd : PacketSource → AreaValue → List SentValue
first_dd f s = first_dd_on (context_of s) f s.next_dd (slice_get s.links f.link)

-- the first packet of an exchange: I, M and MS, and no headers (10.8)
abbrev pub first_description : ℕ → ℕ → Description
first_description mtu number = record { mtu = mtu; options = router_options; flags = first_flags; number = number }

-- the database's copy of a key is flooded to all neighbours, and stays where it is (14, 14.1)
abbrev pub copy_flooded_by : Option Entry → LsaKey → AreaValue → AreaValue
copy_flooded_by o key s = elim o [
  | None ↦ s
  | Some e ↦ noted key (goes_anywhere (key_of (lsa_of e)) (header_of (lsa_of e)) None s.links) (flooded_area (lsa_of e) None s)
]

abbrev pub copy_flood_out_by : Option Entry → AreaValue → List SentValue
copy_flood_out_by o s = elim o [
  | None ↦ []
  | Some e ↦ flooding_updates (context_of s) (lsa_of e) None s.links
]

-- the Updates that flood the database's copy of a key (13.3)
abbrev pub copy_flood_out : LsaKey → AreaValue → List SentValue
copy_flood_out key s = copy_flood_out_by (database_entry s key) s

-- a copy that went to all, and the Requests that came of it
abbrev pub copy_sent : LsaKey → AreaValue → AreaValue
copy_sent key s = turned_area (copy_flooded key s)

abbrev pub copy_out : LsaKey → AreaValue → List SentValue
copy_out key s = copy_flood_out key s ++ turn_out (copy_flooded key s)

-- the copies of these keys, one after the other
abbrev pub copies_sent : List LsaKey → AreaValue → AreaValue
copies_sent [] s = s
copies_sent (key ∷ keys) s = copies_sent keys (copy_sent key s)

abbrev pub copies_out : List LsaKey → AreaValue → List SentValue
copies_out [] s = []
copies_out (key ∷ keys) s = copy_out key s ++ copies_out keys (copy_sent key s)

-- one after the other
abbrev pub RemovesAll : List LsaKey → AreaValue → OutputsValue → OutputsValue → AreaValue → Type 0
RemovesAll keys before out out' after = InTurn RemovesOne keys before out out' after

-- at the end of a step
abbrev pub Removes : AreaValue → OutputsValue → OutputsValue → AreaValue → Type 0
Removes before out out' after = InTurn RemovesOne (leaving before) before out out' after

-- one after the other
abbrev pub TakesSlices : PacketSource → List (List ℕ) → AreaValue → OutputsValue → OutputsValue → AreaValue → Type 0
TakesSlices f slices before out out' after = InTurn (TakesSlice f) slices before out out' after

abbrev pub direct_out_on : RouterContext → PacketSource → List LsaHeader → Option LinkValue → List SentValue
direct_out_on own f hs None = []
direct_out_on own f hs (Some link) = acks_out own (way_out f.link link.iface (to_address link.iface f.address)) link.settings.mtu hs

-- headers among those that are in order
abbrev pub put_all_in_order : List LsaHeader → List LsaHeader → List LsaHeader
put_all_in_order hs sorted = fold (λ sorted h. put_in_order h sorted) sorted hs

abbrev pub key_of_entry : Entry → LsaKey
key_of_entry e = key_in e.contents
