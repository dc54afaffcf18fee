-- What an LSA of an Update does, and a header of an Acknowledgment
-- (RFC 2328, sections 13 and 13.7).
use Rattle.std.specs.Prelude.{◌≡◌, ◌+◌, ◌%◌, ◌^◌, ◌++◌, ℕ, Bool, true, Option, None, Some, is_some, List, [], ◌∷◌, option_and_then, slice_get, if◌then◌else◌, false}
use Rattle.ospf_base.specs.Constants.{router_options}
use Rattle.ospf_base.specs.declared.ids.Instance.{Instance}
use Rattle.ospf_base.specs.declared.ids.LsaKey.{LsaKey}
use Rattle.ospf_lsa.specs.Header.{key_of_header}
use Rattle.ospf_exchange.specs.Flags.{first_flags}
use Rattle.ospf_flood.specs.Rules.{is_sent_back, lsa_rule}
use Rattle.ospf_lsdb.specs.Database.{header_at, instance_at}
use Rattle.ospf_flood.specs.declared.acknowledgement.AcknowledgementCase.TheVariants.{Expired, FloodedBack, Implied, NotFloodedBack, NotImplied}
use Rattle.ospf_flood.specs.declared.rule.LsaRule.{LsaRule}
use Rattle.ospf_flood.specs.declared.rule.LsaRule.TheVariants.{AcknowledgesExpired, TooSoon, Installs, BadRequest, Duplicate, Stale}
use Rattle.ospf_lsa.specs.Header.{header_of}
use Rattle.ospf_lsa.specs.Lsa.{key_of, instance_of}
use Rattle.ospf_lsa.specs.Recency.{recency}
use Rattle.ospf_lsa.specs.declared.header.LsaHeader.{LsaHeader}
use Rattle.ospf_lsa.specs.declared.recency.Recency.TheVariants.{Same}
use Rattle.ospf_lsdb.specs.Database as lsdb
use Rattle.ospf_lsdb.specs.Database.{Entry, entry_from, entry_of, lsa_of}
use Rattle.ospf_packet.specs.Meaning as meaning
use Rattle.ospf_area.specs.Acting.{Becomes}
use Rattle.ospf_area.specs.Changes.{changed_at}
use Rattle.ospf_area.specs.Flooding.{flooded_back, flooded_links, flooding_updates, goes_anywhere, released}
use Rattle.ospf_area.specs.Numbers.{counts, is_self_originated, marked, is_own}
use Rattle.ospf_area.specs.Outputs.{OutputsValue, SentValue}
use Rattle.ospf_area.specs.Sending.{and_sends, datagrams, context_of, packet_from, sent_lsa, to_address, update_out, way_out}
use Rattle.ospf_area.specs.Standing.{acknowledging, answer_at}
use Rattle.ospf_lsdb.specs.Moments.{among}
use Rattle.ospf_area.specs.State.{AreaValue, LinkValue, database_entry, some_link_loading, neighbour_at, state_in}
use Rattle.ospf_area.specs.declared.changes.AdjacencyChange.TheVariants.{Acknowledges, IsSent, Restarts}
use Rattle.ospf_area.specs.declared.flooding.PacketSource.{PacketSource}
use Rattle.ospf_area.specs.declared.sending.RouterContext.{RouterContext}
use Rattle.ospf_neighbour.specs.Lists.{request_of, is_listed}
use Rattle.ospf_neighbour.specs.Machine.{is_exchanging}
use Rattle.std.specs.Int.{int_max}

-- ---- an LSA is stored and flooded

-- it is put in its key's place (13.2)
pub record InstallsIn (lsa : List ℕ) (by_flooding : Bool) (before after : AreaValue) : Type 0 where
  pub database :
      lsdb.Installs (entry_from lsa before.tick by_flooding) before.database after.database
  pub rest : after ≡ record before { database = after.database }

-- its old copy leaves all retransmission lists, then it is flooded, then it takes the old copy's
-- place (13, steps 5b to 5d). It came from a neighbour, or is the router's own
pub record Stores (lsa : List ℕ) (from : Option PacketSource) (before after : AreaValue)
    : Type 0 where
  pub database :
      lsdb.Installs (entry_from lsa before.tick (is_some from)) before.database after.database
  pub rest : after ≡ record before {
    database = after.database;
    links =
        flooded_links (key_of lsa) (header_of lsa) from before.tick
        (released (key_of lsa) before.links);
    sent =
        marked (key_of lsa)
        (goes_anywhere (key_of lsa) (header_of lsa) from (released (key_of lsa) before.links))
        before.sent;
    numbering = counts (key_of lsa) (header_of lsa).number before;
    max_seq =
        if is_own before.router (key_of lsa) then int_max before.max_seq (header_of lsa).number
        else before.max_seq;
  }

-- ---- the rules of an Update

-- which rule an LSA meets, if its sender is in Exchange or above
abbrev pub rule_met : AreaValue → PacketSource → List ℕ → Option LsaRule
rule_met s f lsa =
    let sender = neighbour_at s.links f.link f.router in
    let copy = database_entry s (key_of lsa) in
    let requested : Bool = elim sender [
      | None ↦ false
      | Some n ↦ is_some (request_of (key_of lsa) n.requests)
    ] in
    if is_exchanging (state_in sender)
    then Some (lsa_rule (header_of lsa) copy (some_link_loading s.links) requested s.tick)
    else None

-- a self-originated LSA must be answered at the end of the step (13.4)
abbrev pub heard_by : LsaKey → AreaValue → AreaValue
heard_by key s =
    if is_self_originated s.router s.links key then record s { heard = s.heard ++ key ∷ [] } else s

-- it is newer than the copy, or there is none: it is stored and flooded, and acknowledged by the
-- table of section 13.5 (13, step 5)
pub record Admits (f : PacketSource) (lsa : List ℕ) (before : AreaValue) (out out' : OutputsValue)
    (after : AreaValue) : Type 0 where
  pub mid : AreaValue
  pub stores : Stores lsa (Some f) before mid
  pub state :
      let links = released (key_of lsa) before.links in
      let back = flooded_back (key_of lsa) (header_of lsa) (Some f) links in
      let answer = answer_at (if back then FloodedBack else NotFloodedBack) f mid.links in
      after ≡ heard_by (key_of lsa) (acknowledging answer f (header_of lsa) mid)
  pub outputs :
      let links = released (key_of lsa) before.links in
      let updates = flooding_updates (context_of before) lsa (Some f) links in
      out' ≡ record out { sent = out.sent ++ updates; taken = out.taken ++ instance_of lsa ∷ [] }

-- ---- the exchange of databases begins again

-- the first packet of an exchange: I, M and MS, and no headers (10.8)
abbrev pub first_dd_on : RouterContext → PacketSource → ℕ → Option LinkValue → List SentValue
first_dd_on own f number None = []
first_dd_on own f number (Some link) =
    datagrams (way_out f.link link.iface (to_address link.iface f.address))
    (packet_from own
    (meaning.description
    (record {
      mtu = link.settings.mtu;
      options = router_options;
      flags = first_flags;
      number = number;
    }) []))

-- the neighbour is back in ExStart, with the next DD sequence number
abbrev pub restarted : PacketSource → AreaValue → AreaValue
restarted f s =
    record s {
      links = changed_at f (Restarts s.next_dd) s.tick s.links;
      next_dd = (s.next_dd + 1) % 2 ^ 32;
    }

-- ---- the same instance as the copy

-- where it was waited for, that ends; it is acknowledged by the table (13, step 7)
abbrev pub duplicated : PacketSource → List ℕ → AreaValue → AreaValue
duplicated f lsa s =
    let awaited : Bool = elim (neighbour_at s.links f.link f.router) [
      | None ↦ false
      | Some n ↦ is_listed (instance_of lsa) n.retransmission
    ] in
    let answer = answer_at (if awaited then Implied else NotImplied) f s.links in
    acknowledging answer f (header_of lsa)
    (record s { links = changed_at f (Acknowledges (instance_of lsa)) s.tick s.links })

-- ---- older than the copy

-- the copy that goes back: there is none where it was sent in an Update in this tick, or
-- is about to leave (13, step 8)
abbrev pub reply_to : AreaValue → LsaKey → Option (List ℕ)
reply_to s key = elim (database_entry s key) [
  | None ↦ None
  | Some copy ↦ (if is_sent_back copy (among s.sent key) then Some (lsa_of copy) else None)
]

-- it goes back in an Update to the neighbour
abbrev pub reply_out : Option (List ℕ) → PacketSource → AreaValue → List SentValue
reply_out None f s = []
reply_out (Some lsa) f s = elim (slice_get s.links f.link) [
  | None ↦ []
  | Some link ↦
      update_out (context_of s) (way_out f.link link.iface (to_address link.iface f.address))
      (sent_lsa link.settings.transmit_delay lsa ∷ [])
]

-- it was sent to the neighbour, and in an Update in this tick
abbrev pub replied : Option (List ℕ) → PacketSource → LsaKey → AreaValue → AreaValue
replied None f key s = s
replied (Some lsa) f key s =
    record s {
      links = changed_at f (IsSent (instance_of lsa)) s.tick s.links;
      sent = marked key true s.sent;
    }

-- ---- the rules together

-- what an LSA does by the rule that it meets (13, steps 4 to 8)
abbrev pub MeetsRule : Option LsaRule → PacketSource → List ℕ → AreaValue → OutputsValue
    → OutputsValue
    → AreaValue → Type 0
-- its sender is below Exchange, as after BadLSReq by an earlier LSA: nothing happens
MeetsRule None f lsa before out out' after = Becomes before out out' after
-- it is at MaxAge and not known, and no neighbour is in Exchange or Loading: it is acknowledged,
-- and not stored (step 4)
MeetsRule (Some AcknowledgesExpired) f lsa before out out' after =
    Becomes (acknowledging (answer_at Expired f before.links) f (header_of lsa) before)
    (record out { taken = out.taken ++ instance_of lsa ∷ [] }) out' after
-- its copy came less than MinLSArrival ago: nothing happens (step 5a)
MeetsRule (Some TooSoon) f lsa before out out' after = Becomes before out out' after
-- it is newer than the copy, or there is none (step 5)
MeetsRule (Some Installs) f lsa before out out' after = Admits f lsa before out out' after
-- it was asked for, and is no newer than the copy: BadLSReq (step 6)
MeetsRule (Some BadRequest) f lsa before out out' after =
    Becomes (restarted f before)
    (and_sends out (first_dd_on (context_of before) f before.next_dd
    (slice_get before.links f.link)))
    out' after
-- it is the same instance as the copy (step 7)
MeetsRule (Some Duplicate) f lsa before out out' after =
    Becomes (duplicated f lsa before) out out' after
-- it is older than the copy, which may go back (step 8)
MeetsRule (Some Stale) f lsa before out out' after =
    Becomes (replied (reply_to before (key_of lsa)) f (key_of lsa) before)
    (and_sends out (reply_out (reply_to before (key_of lsa)) f before)) out' after

-- one LSA of an Update, from the outputs so far to those after it (13)
abbrev pub MeetsLsa : PacketSource → List ℕ → AreaValue → OutputsValue → OutputsValue → AreaValue
    → Type 0
MeetsLsa f lsa before out out' after = MeetsRule (rule_met before f lsa) f lsa before out out' after

-- ---- a header of an Acknowledgment

-- the instance that it names: that of the copy, where this is the same (13.7)
abbrev pub named_by : LsaHeader → Option Entry → Option Instance
named_by h None = None
named_by h (Some copy) =
    elim (recency h (header_at copy)) [ Same ↦ Some (instance_at copy) | _ ↦ None ]

-- the router once the neighbour acknowledged it
abbrev pub header_met : PacketSource → LsaHeader → AreaValue → AreaValue
header_met f h s =
    elim (named_by h (option_and_then (entry_of s.database) (key_of_header h))) [
      | None ↦ s
      | Some i ↦ record s { links = changed_at f (Acknowledges i) s.tick s.links }
    ]
