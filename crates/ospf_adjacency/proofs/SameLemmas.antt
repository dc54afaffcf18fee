-- A Database Description makes no other neighbour of one.
use Rattle.std.proofs.Common.{ℕ, inl, inr, nat_lt, ◌++◌, ◌∷◌, [], List, Result, Ok, Err, refl, ◌∙◌, arith, rules}
use Rattle.std.proofs.lemmas.Grind.{common_steps}
use Rattle.ospf_base.specs.declared.ids.RouterId.{RouterId}
use Rattle.ospf_neighbour.specs.declared.iface.machine.Iface.{Iface}
use Rattle.ospf_lsa.specs.declared.header.LsaHeader.{LsaHeader}
use Rattle.ospf_lsdb.specs.Database.{Held}
use Rattle.ospf_neighbour.specs.Neighbour.{NeighbourValue}
use Rattle.ospf_neighbour.specs.declared.machine.NbrEvent.{NbrEvent}
use Rattle.ospf_neighbour.specs.declared.machine.NbrEvent.TheVariants.{TwoWayReceived, SeqNumberMismatch}
use Rattle.ospf_packet.specs.declared.body.Description.{Description}
use Rattle.ospf_exchange.specs.Exchange.{after_dd, dd_answer}
use Rattle.ospf_exchange.specs.Laws.{KeepsRouter}
use Rattle.ospf_exchange.specs.declared.description.DdAnswer.{DdAnswer}
use Rattle.ospf_exchange.specs.declared.description.DdAnswer.TheVariants as answer
use Rattle.ospf_exchange.specs.declared.fault.ExchangeFault.{ExchangeFault}
use Rattle.ospf_exchange.specs.declared.fault.ExchangeFault.TheVariants as fault
use Rattle.ospf_exchange.specs.declared.rule.Local.{Local}
use Rattle.ospf_exchange.proofs.RouterLemmas.{keep_routers}
use Rattle.ospf_adjacency.specs.Adjacency.{event_taken, wants_adjacency}
use Rattle.ospf_adjacency.specs.Descriptions.{event_turn, is_init, answered_turn}
use Rattle.ospf_adjacency.proofs.Words.{greeted_turn, exchange_turn}
use Rattle.ospf_area.specs.Packets.{dd_packet}
use Rattle.ospf_area.specs.Turns.{Turn, request_turn}
use Rattle.ospf_adjacency.specs.Laws.{DescriptionKeepsRouter}
use Rattle.ospf_adjacency.proofs.LawLemmas.{bool_cases}

same : (n : NeighbourValue) → KeepsRouter n n
same n = record { router = refl; address = refl }

both : (n m k : NeighbourValue) → KeepsRouter n m → KeepsRouter m k → KeepsRouter n k
both n m k p q = record { router = q.router ∙ p.router; address = q.address ∙ p.address }

event_same : (e : NbrEvent) (dead next tick : ℕ) (n : NeighbourValue) → KeepsRouter n (event_taken e dead next tick n)
event_same e dead next tick n = first_of (search rules, grind (arith, common_steps))

request_same : (i : Iface) (local : Local) (t : Turn) → KeepsRouter t.neighbour (request_turn i local t).neighbour
request_same i local t = first_of (search rules, grind (arith, common_steps))

answer_same : (a : Result DdAnswer ExchangeFault) (i : Iface) (local : Local) (t : Turn) → KeepsRouter t.neighbour (answered_turn a i local t).neighbour
answer_same (Ok answer.NotTaken) i local t = same t.neighbour
answer_same (Ok answer.PassedOver) i local t = same t.neighbour
answer_same (Ok answer.Repeats) i local t = record { router = refl; address = refl }
answer_same (Ok answer.Sends) i local t = request_same i local (record t { sent = t.sent ++ dd_packet i local.mtu t.neighbour ∷ [] })
answer_same (Ok answer.Ends) i local t = request_same i local t
answer_same (Err fault.Mtu) i local t = same t.neighbour
answer_same (Err fault.Mismatch) i local t = event_same SeqNumberMismatch i.settings.dead t.next local.tick t.neighbour
answer_same (Err fault.BadRequest) i local t = same t.neighbour
answer_same (Err fault.Memory) i local t = same t.neighbour

exchange_same : (i : Iface) (local : Local) (sender : RouterId) (d : Description) (headers : List LsaHeader) (db : List Held) (t : Turn) → KeepsRouter t.neighbour (exchange_turn i local sender d headers db t).neighbour
exchange_same i local sender d headers db t =
    let m = after_dd local sender d headers db t.neighbour in
    both t.neighbour m (exchange_turn i local sender d headers db t).neighbour (keep_routers local sender d headers db t.neighbour) (answer_same (dd_answer local sender d headers t.neighbour) i local (record t { neighbour = m }))

greeted_same : (i : Iface) (local : Local) (sender : RouterId) (d : Description) (headers : List LsaHeader) (db : List Held) (t : Turn) → KeepsRouter t.neighbour (exchange_turn i local sender d headers db (greeted_turn i local t)).neighbour
greeted_same i local sender d headers db t = elim (bool_cases (is_init t.neighbour.state)) [
  | inl init ↦
      let e = TwoWayReceived (wants_adjacency i t.neighbour.address) in
      let g = event_turn i local e t in
      (rw init (both t.neighbour g.neighbour (exchange_turn i local sender d headers db g).neighbour (event_same e i.settings.dead t.next local.tick t.neighbour) (exchange_same i local sender d headers db g)))
  | inr other ↦ (rw other (exchange_same i local sender d headers db t))
]

pub description_keeps_router : DescriptionKeepsRouter
description_keeps_router i local sender d headers db t = elim (bool_cases (nat_lt local.mtu d.mtu)) [
  | inl long ↦ (rw long (same t.neighbour))
  | inr fits ↦ (rw fits (greeted_same i local sender d headers db t))
]
