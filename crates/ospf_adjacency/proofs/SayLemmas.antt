-- What goes out to a neighbour.
use Rattle.std.proofs.Common.{◌≡◌, ◌⊎◌, inl, inr, nat_lt, ℕ, Bool, true, false, List, [], ◌∷◌, ◌++◌, Result, Ok, Err, refl, sym, ap, ◌∙◌, subst, arith, rules}
use Rattle.std.specs.List.{Contains}
use Rattle.std.proofs.lemmas.Grind.{common_steps}
use Rattle.std.proofs.lemmas.List.Elements.{Contains-append_cases}
use Rattle.ospf_base.specs.Constants.{router_options}
use Rattle.ospf_base.specs.declared.ids.RouterId.{RouterId}
use Rattle.ospf_neighbour.specs.declared.iface.machine.Iface.{Iface}
use Rattle.ospf_lsa.specs.declared.header.LsaHeader.{LsaHeader}
use Rattle.ospf_lsdb.specs.Database.{Held}
use Rattle.ospf_neighbour.specs.Neighbour.{NeighbourValue}
use Rattle.ospf_neighbour.specs.declared.machine.NbrEvent.{NbrEvent}
use Rattle.ospf_neighbour.specs.declared.machine.NbrEvent.TheVariants.{TwoWayReceived, SeqNumberMismatch}
use Rattle.ospf_packet.specs.Meaning.{BodyMeaning, hello, description, request, update, acknowledgment}
use Rattle.ospf_packet.specs.declared.body.Description.{Description}
use Rattle.ospf_exchange.specs.Exchange.{after_dd, dd_answer}
use Rattle.ospf_exchange.specs.Laws.{HasHeader}
use Rattle.ospf_exchange.specs.Requests.{request_due, asked_next}
use Rattle.ospf_exchange.specs.declared.description.DdAnswer.{DdAnswer}
use Rattle.ospf_exchange.specs.declared.description.DdAnswer.TheVariants as answer
use Rattle.ospf_exchange.specs.declared.fault.ExchangeFault.{ExchangeFault}
use Rattle.ospf_exchange.specs.declared.fault.ExchangeFault.TheVariants as fault
use Rattle.ospf_exchange.specs.declared.rule.Local.{Local}
use Rattle.ospf_exchange.proofs.LawLemmas.{keeps_dd}
use Rattle.ospf_adjacency.specs.Adjacency.{event_taken, begins_by, wants_adjacency}
use Rattle.ospf_adjacency.specs.Descriptions.{event_turn, dd_repeated, is_init, answered_turn}
use Rattle.ospf_adjacency.proofs.Words.{greeted_turn, exchange_turn}
use Rattle.ospf_area.specs.Turns.{Turn, request_turn}
use Rattle.ospf_adjacency.specs.Laws.{SaysOnly, AllSayOnly, KeepsLists, EventsSayOnly, RequestsSayOnly, DescriptionSaysOnly}
use Rattle.ospf_area.specs.Packets.{PendingPacket, packet_if, dd_packet, request_packet}
use Rattle.ospf_adjacency.proofs.LawLemmas.{bool_cases, event_keeps}
use Rattle.ospf_adjacency.proofs.MemberLemmas.{cons_cases, none_of_nil}
use Rattle.ospf_area.proofs.Words.{loaded}

-- one packet more
more : (db : List Held) (n : NeighbourValue) (sent : List PendingPacket) (p : PendingPacket) → SaysOnly db n p.body → AllSayOnly db n sent (sent ++ p ∷ [])
more db n sent p says q is = elim (Contains-append_cases sent (p ∷ []) q is) [
  | inl old ↦ inl old
  | inr new ↦ elim (cons_cases p [] q new) [ inl same ↦ inr (subst (λ (x : PendingPacket). SaysOnly db n x.body) same says) | inr none ↦ absurd (none_of_nil q none) ]
]

-- or none
more_if : (db : List Held) (n : NeighbourValue) (sent : List PendingPacket) (b : Bool) (p : PendingPacket) → (b ≡ true → SaysOnly db n p.body) → AllSayOnly db n sent (sent ++ packet_if b p)
more_if db n sent true p says q is = more db n sent p (says refl) q is
more_if db n sent false p says q is = elim (Contains-append_cases sent [] q is) [ inl old ↦ inl old | inr none ↦ absurd (none_of_nil q none) ]

-- first these, then those
both : (db : List Held) (n : NeighbourValue) (a b c : List PendingPacket) → AllSayOnly db n a b → AllSayOnly db n b c → AllSayOnly db n a c
both db n a b c p q x is = elim (q x is) [ inl old ↦ p x old | inr new ↦ inr new ]

-- an adjacency that begins has no headers yet
begun_bare : (e : NbrEvent) (dead next tick : ℕ) (n : NeighbourValue) → begins_by e n ≡ true → (event_taken e dead next tick n).last_dd ≡ []
begun_bare e dead next tick n is = first_of (search rules, grind (arith, common_steps))

pub event_says : (i : Iface) (local : Local) (e : NbrEvent) (db : List Held) (t : Turn) → AllSayOnly db t.neighbour t.sent (event_turn i local e t).sent
event_says i local e db t =
    let m = event_taken e i.settings.dead t.next local.tick t.neighbour in
    more_if db t.neighbour t.sent (begins_by e t.neighbour) (dd_packet i local.mtu m)
    (λ is h has. absurd (none_of_nil h (subst (λ (hs : List LsaHeader). Contains hs h) (begun_bare e i.settings.dead t.next local.tick t.neighbour is) has)))

requests_say : (i : Iface) (local : Local) (db : List Held) (n : NeighbourValue) (t : Turn) → AllSayOnly db n t.sent (request_turn i local t).sent
requests_say i local db n t =
    more_if db n t.sent (request_due (loaded t.neighbour)) (request_packet i (asked_next local.mtu local.tick (loaded t.neighbour))) (λ is. tt)

-- a packet that may have gone out is the one that there is
one_if : (b : Bool) (p q : PendingPacket) → Contains (packet_if b p) q → (b ≡ true) × (p ≡ q)
one_if true p q is = elim (cons_cases p [] q is) [ inl same ↦ (refl, same) | inr none ↦ absurd (none_of_nil q none) ]
one_if false p q is = absurd (none_of_nil q is)

pub events_say_only : EventsSayOnly
events_say_only i local e t p is =
    let m = event_taken e i.settings.dead t.next local.tick t.neighbour in
    elim (Contains-append_cases t.sent (packet_if (begins_by e t.neighbour) (dd_packet i local.mtu m)) p is) [
      | inl old ↦ inl old
      | inr new ↦
          let w = one_if (begins_by e t.neighbour) (dd_packet i local.mtu m) p new in
          let fields : Description = record { mtu = local.mtu; options = router_options; flags = m.exchanging.flags; number = m.exchanging.number } in
          inr (fields, sym (ap (λ (x : PendingPacket). x.body) w.1) ∙ ap (λ (hs : List LsaHeader). description fields hs) (begun_bare e i.settings.dead t.next local.tick t.neighbour w.0))
    ]

pub requests_say_only : RequestsSayOnly
requests_say_only i local t p is =
    let n = asked_next local.mtu local.tick (loaded t.neighbour) in
    elim (Contains-append_cases t.sent (packet_if (request_due (loaded t.neighbour)) (request_packet i n)) p is) [
      | inl old ↦ inl old
      | inr new ↦ inr (_, sym (ap (λ (x : PendingPacket). x.body) (one_if (request_due (loaded t.neighbour)) (request_packet i n) p new).1))
    ]

-- what follows an answer
answer_says : (a : Result DdAnswer ExchangeFault) (i : Iface) (local : Local) (db : List Held) (n : NeighbourValue) (t : Turn)
    → ((h : LsaHeader) → Contains t.neighbour.last_dd h → Contains n.last_dd h ⊎ (Contains n.summary h ⊎ HasHeader db h))
    → AllSayOnly db n t.sent (answered_turn a i local t).sent
answer_says (Ok answer.NotTaken) i local db n t known = λ q is. inl is
answer_says (Ok answer.PassedOver) i local db n t known = λ q is. inl is
answer_says (Ok answer.Repeats) i local db n t known = more db n t.sent (dd_packet i local.mtu (dd_repeated i local t).neighbour) known
answer_says (Ok answer.Sends) i local db n t known =
    let u = record t { sent = t.sent ++ dd_packet i local.mtu t.neighbour ∷ [] } in
    both db n t.sent u.sent (request_turn i local u).sent (more db n t.sent (dd_packet i local.mtu t.neighbour) known) (requests_say i local db n u)
answer_says (Ok answer.Ends) i local db n t known = requests_say i local db n t
answer_says (Err fault.Mtu) i local db n t known = λ q is. inl is
answer_says (Err fault.Mismatch) i local db n t known =
    let m = event_taken SeqNumberMismatch i.settings.dead t.next local.tick t.neighbour in
    more_if db n t.sent (begins_by SeqNumberMismatch t.neighbour) (dd_packet i local.mtu m)
    (λ is h has. absurd (none_of_nil h (subst (λ (hs : List LsaHeader). Contains hs h) (begun_bare SeqNumberMismatch i.settings.dead t.next local.tick t.neighbour is) has)))
answer_says (Err fault.BadRequest) i local db n t known = λ q is. inl is
answer_says (Err fault.Memory) i local db n t known = λ q is. inl is

exchange_says : (i : Iface) (local : Local) (sender : RouterId) (d : Description) (headers : List LsaHeader) (db : List Held) (t : Turn)
    → AllSayOnly db t.neighbour t.sent (exchange_turn i local sender d headers db t).sent
exchange_says i local sender d headers db t =
    answer_says (dd_answer local sender d headers t.neighbour) i local db t.neighbour (record t { neighbour = after_dd local sender d headers db t.neighbour })
    (keeps_dd local sender d headers db t.neighbour).copies.last_dd

-- what is said of a neighbour that lost its lists can be said of it as it was
says_before : (db : List Held) (n m : NeighbourValue) (b : BodyMeaning) → KeepsLists n m → SaysOnly db m b → SaysOnly db n b
says_before db n m (hello fields heard) keeps says = tt
says_before db n m (description fields headers) (inl same) says = λ h has. elim (says h has) [
  | inl old ↦ inl (subst (λ (hs : List LsaHeader). Contains hs h) same.last_dd old)
  | inr new ↦ inr (elim new [ inl told ↦ inl (subst (λ (hs : List LsaHeader). Contains hs h) same.summary told) | inr copy ↦ inr copy ])
]
says_before db n m (description fields headers) (inr gone) says = λ h has. elim (says h has) [
  | inl old ↦ absurd (none_of_nil h (subst (λ (hs : List LsaHeader). Contains hs h) gone.0.last_dd old))
  | inr new ↦ inr (elim new [ inl told ↦ absurd (none_of_nil h (subst (λ (hs : List LsaHeader). Contains hs h) gone.0.summary told)) | inr copy ↦ inr copy ])
]
says_before db n m (request entries) keeps says = tt
says_before db n m (update lsas) keeps says = says
says_before db n m (acknowledgment headers) keeps says = says

greeted_says : (i : Iface) (local : Local) (sender : RouterId) (d : Description) (headers : List LsaHeader) (db : List Held) (t : Turn)
    → AllSayOnly db t.neighbour t.sent (exchange_turn i local sender d headers db (greeted_turn i local t)).sent
greeted_says i local sender d headers db t = elim (bool_cases (is_init t.neighbour.state)) [
  | inl init ↦
      let e = TwoWayReceived (wants_adjacency i t.neighbour.address) in
      let g = event_turn i local e t in
      (rw init (both db t.neighbour t.sent g.sent (exchange_turn i local sender d headers db g).sent (event_says i local e db t)
      (λ q is. elim (exchange_says i local sender d headers db g q is) [
        | inl old ↦ inl old
        | inr new ↦ inr (says_before db t.neighbour g.neighbour q.body (event_keeps e i.settings.dead t.next local.tick t.neighbour) new)
      ])))
  | inr other ↦ (rw other (exchange_says i local sender d headers db t))
]

pub description_says_only : DescriptionSaysOnly
description_says_only i local sender d headers db t = elim (bool_cases (nat_lt local.mtu d.mtu)) [
  | inl long ↦ (rw long (λ q is. inl is))
  | inr fits ↦ (rw fits (greeted_says i local sender d headers db t))
]
