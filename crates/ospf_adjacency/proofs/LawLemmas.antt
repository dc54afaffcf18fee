-- What a Database Description leaves of a neighbour.
use Rattle.std.proofs.Common.{◌≡◌, ◌⊎◌, ◌&&◌, ◌++◌, ◌∷◌, [], not, nat_lt, inl, inr, ℕ, Bool, true, false, List, Result, Ok, Err, refl, sym, ap, subst, ◌∙◌, arith, rules}
use Rattle.std.proofs.lemmas.Grind.{common_steps}
use Rattle.std.specs.List.{Contains}
use Rattle.ospf_base.specs.declared.ids.Instance.{Instance}
use Rattle.ospf_base.specs.declared.ids.RouterId.{RouterId}
use Rattle.ospf_neighbour.specs.declared.iface.machine.Iface.{Iface}
use Rattle.ospf_lsa.specs.declared.header.LsaHeader.{LsaHeader}
use Rattle.ospf_lsdb.specs.Database.{Held}
use Rattle.ospf_neighbour.specs.Laws.{Waits, instances}
use Rattle.ospf_neighbour.specs.Machine.{is_exchanging}
use Rattle.ospf_neighbour.specs.Neighbour.{NeighbourValue}
use Rattle.ospf_neighbour.specs.declared.neighbour.Listed.{Listed}
use Rattle.ospf_neighbour.specs.declared.machine.NbrEvent.{NbrEvent}
use Rattle.ospf_neighbour.specs.declared.machine.NbrEvent.TheVariants.{TwoWayReceived, SeqNumberMismatch}
use Rattle.ospf_packet.specs.declared.body.Description.{Description}
use Rattle.ospf_exchange.specs.Exchange.{after_dd, dd_answer}
use Rattle.ospf_exchange.specs.Laws.{HasHeader, HasInstance, is_not_taken}
use Rattle.ospf_exchange.specs.declared.description.DdAnswer.{DdAnswer}
use Rattle.ospf_exchange.specs.declared.description.DdAnswer.TheVariants as answer
use Rattle.ospf_exchange.specs.declared.fault.ExchangeFault.{ExchangeFault}
use Rattle.ospf_exchange.specs.declared.fault.ExchangeFault.TheVariants as fault
use Rattle.ospf_exchange.specs.declared.rule.Local.{Local}
use Rattle.ospf_exchange.proofs.LawLemmas.{keeps_dd}
use Rattle.ospf_exchange.proofs.NotTakenLemmas.{not_taken}
use Rattle.ospf_adjacency.specs.Adjacency.{event_taken, wants_adjacency}
use Rattle.ospf_adjacency.specs.Descriptions.{event_turn, is_init, answered_turn, description_turn, dd_dropped}
use Rattle.ospf_adjacency.proofs.Words.{greeted_turn, exchange_turn}
use Rattle.ospf_area.specs.Packets.{dd_packet}
use Rattle.ospf_area.specs.Turns.{Turn, request_turn}
use Rattle.ospf_adjacency.specs.Laws.{GoesOn, SameLists, KeepsLists, HasNoneBelow}
use Rattle.ospf_adjacency.proofs.MemberLemmas.{map_has, map_from, none_of_empty, none_of_nil}

-- lists are gained, and none is lost
pub record Gains (db : List Held) (told : List LsaHeader) (n m : NeighbourValue) : Type 0 where
  pub requests : (h : LsaHeader) → Contains m.requests h → Contains n.requests h ⊎ Contains told h
  pub retransmission : (i : Instance) → Waits m i → Waits n i ⊎ HasInstance db i
  pub summary : (h : LsaHeader) → Contains m.summary h → Contains n.summary h ⊎ HasHeader db h
  pub last_dd : (h : LsaHeader) → Contains m.last_dd h → Contains n.last_dd h ⊎ (Contains n.summary h ⊎ HasHeader db h)
  pub waits : (i : Instance) → Waits n i → Waits m i

-- an instance that waits is that of an entry
waits_on : (n : NeighbourValue) (i : Instance) → Waits n i → (l : Listed) × Contains n.retransmission l × (l.instance ≡ i)
waits_on n i is = map_from (λ (l : Listed). l.instance) n.retransmission i is

pub gains_dd : (local : Local) (sender : RouterId) (d : Description) (headers : List LsaHeader) (db : List Held) (n : NeighbourValue) → Gains db headers n (after_dd local sender d headers db n)
gains_dd local sender d headers db n =
    let m = after_dd local sender d headers db n in
    let keeps = keeps_dd local sender d headers db n in
    record {
      requests = keeps.requests;
      retransmission = λ i is. let l = waits_on m i is in elim (keeps.copies.retransmission l.0 l.1) [
        | inl old ↦ inl (subst (λ (j : Instance). Waits n j) l.2 (map_has (λ (x : Listed). x.instance) n.retransmission l.0 old))
        | inr copy ↦ inr (subst (λ (j : Instance). HasInstance db j) l.2 copy)
      ];
      summary = keeps.copies.summary;
      last_dd = keeps.copies.last_dd;
      waits = λ i is. let l = waits_on n i is in subst (λ (j : Instance). Waits m j) l.2 (map_has (λ (x : Listed). x.instance) m.retransmission l.0 (keeps.stays l.0 l.1));
    }

gains_kept : (db : List Held) (told : List LsaHeader) (n m k : NeighbourValue) → Gains db told n m → KeepsLists m k → GoesOn db told n k
gains_kept db told n m k gains (inl same) = record {
  requests = λ h is. gains.requests h (subst (λ (hs : List LsaHeader). Contains hs h) same.requests is);
  retransmission = λ i is. gains.retransmission i (subst (λ (ls : List Listed). Contains (instances ls) i) same.retransmission is);
  summary = λ h is. gains.summary h (subst (λ (hs : List LsaHeader). Contains hs h) same.summary is);
  last_dd = λ h is. gains.last_dd h (subst (λ (hs : List LsaHeader). Contains hs h) same.last_dd is);
  stays = λ i is. inl (subst (λ (ls : List Listed). Contains (instances ls) i) (sym same.retransmission) (gains.waits i is));
}
gains_kept db told n m k gains (inr (none, below)) = record {
  requests = λ h is. absurd (none_of_nil h (subst (λ (hs : List LsaHeader). Contains hs h) none.requests is));
  retransmission = λ i is. absurd (none_of_nil i (subst (λ (ls : List Listed). Contains (instances ls) i) none.retransmission is));
  summary = λ h is. absurd (none_of_nil h (subst (λ (hs : List LsaHeader). Contains hs h) none.summary is));
  last_dd = λ h is. absurd (none_of_nil h (subst (λ (hs : List LsaHeader). Contains hs h) none.last_dd is));
  stays = λ i is. inr below;
}

-- before that the neighbour lost what it did not have
goes_after : (db : List Held) (told : List LsaHeader) (n m k : NeighbourValue) → HasNoneBelow n → is_exchanging n.state ≡ false → KeepsLists n m → GoesOn db told m k → GoesOn db told n k
goes_after db told n m k bare below (inl same) goes = record {
  requests = λ h is. elim (goes.requests h is) [ inl old ↦ inl (subst (λ (hs : List LsaHeader). Contains hs h) same.requests old) | inr new ↦ inr new ];
  retransmission = λ i is. elim (goes.retransmission i is) [ inl old ↦ inl (subst (λ (ls : List Listed). Contains (instances ls) i) same.retransmission old) | inr new ↦ inr new ];
  summary = λ h is. elim (goes.summary h is) [ inl old ↦ inl (subst (λ (hs : List LsaHeader). Contains hs h) same.summary old) | inr new ↦ inr new ];
  last_dd = λ h is. elim (goes.last_dd h is) [
    | inl old ↦ inl (subst (λ (hs : List LsaHeader). Contains hs h) same.last_dd old)
    | inr new ↦ inr (elim new [ inl told_now ↦ inl (subst (λ (hs : List LsaHeader). Contains hs h) same.summary told_now) | inr copy ↦ inr copy ])
  ];
  stays = λ i is. let l = waits_on n i is in absurd (none_of_empty n.retransmission l.0 (bare below) l.1);
}
goes_after db told n m k bare below (inr (none, fell)) goes = record {
  requests = λ h is. elim (goes.requests h is) [ inl old ↦ absurd (none_of_nil h (subst (λ (hs : List LsaHeader). Contains hs h) none.requests old)) | inr new ↦ inr new ];
  retransmission = λ i is. elim (goes.retransmission i is) [ inl old ↦ absurd (none_of_nil i (subst (λ (ls : List Listed). Contains (instances ls) i) none.retransmission old)) | inr new ↦ inr new ];
  summary = λ h is. elim (goes.summary h is) [ inl old ↦ absurd (none_of_nil h (subst (λ (hs : List LsaHeader). Contains hs h) none.summary old)) | inr new ↦ inr new ];
  last_dd = λ h is. elim (goes.last_dd h is) [
    | inl old ↦ absurd (none_of_nil h (subst (λ (hs : List LsaHeader). Contains hs h) none.last_dd old))
    | inr new ↦ inr (elim new [ inl told_now ↦ absurd (none_of_nil h (subst (λ (hs : List LsaHeader). Contains hs h) none.summary told_now)) | inr copy ↦ inr copy ])
  ];
  stays = λ i is. let l = waits_on n i is in absurd (none_of_empty n.retransmission l.0 (bare below) l.1);
}

-- ---- a Database Description

same_lists : (n : NeighbourValue) → SameLists n n
same_lists n = record { summary = refl; last_dd = refl; requests = refl; retransmission = refl }

requests_keep : (i : Iface) (local : Local) (t : Turn) → SameLists t.neighbour (request_turn i local t).neighbour
requests_keep i local t = first_of (search rules, grind (arith, common_steps))

pub event_keeps : (e : NbrEvent) (dead next tick : ℕ) (n : NeighbourValue) → KeepsLists n (event_taken e dead next tick n)
event_keeps e dead next tick n = first_of (search rules, grind (arith, common_steps))

answer_keeps : (a : Result DdAnswer ExchangeFault) (i : Iface) (local : Local) (t : Turn) → KeepsLists t.neighbour (answered_turn a i local t).neighbour
answer_keeps (Ok answer.NotTaken) i local t = inl (same_lists t.neighbour)
answer_keeps (Ok answer.PassedOver) i local t = inl (same_lists t.neighbour)
answer_keeps (Ok answer.Repeats) i local t = inl (record { summary = refl; last_dd = refl; requests = refl; retransmission = refl })
answer_keeps (Ok answer.Sends) i local t = inl (requests_keep i local (record t { sent = t.sent ++ dd_packet i local.mtu t.neighbour ∷ [] }))
answer_keeps (Ok answer.Ends) i local t = inl (requests_keep i local t)
answer_keeps (Err fault.Mtu) i local t = inl (same_lists t.neighbour)
answer_keeps (Err fault.Mismatch) i local t = event_keeps SeqNumberMismatch i.settings.dead t.next local.tick t.neighbour
answer_keeps (Err fault.BadRequest) i local t = inl (same_lists t.neighbour)
answer_keeps (Err fault.Memory) i local t = inl (same_lists t.neighbour)

exchange_goes : (i : Iface) (local : Local) (sender : RouterId) (d : Description) (headers : List LsaHeader) (db : List Held) (t : Turn)
    → GoesOn db headers t.neighbour (exchange_turn i local sender d headers db t).neighbour
exchange_goes i local sender d headers db t =
    let m = after_dd local sender d headers db t.neighbour in
    gains_kept db headers t.neighbour m (exchange_turn i local sender d headers db t).neighbour (gains_dd local sender d headers db t.neighbour)
    (answer_keeps (dd_answer local sender d headers t.neighbour) i local (record t { neighbour = m }))

pub bool_cases : (b : Bool) → (b ≡ true) ⊎ (b ≡ false)
bool_cases true = inl refl
bool_cases false = inr refl

init_below : (n : NeighbourValue) → is_init n.state ≡ true → is_exchanging n.state ≡ false
init_below n is = first_of (search rules, grind (arith, common_steps))

goes_same : (db : List Held) (told : List LsaHeader) (n : NeighbourValue) → GoesOn db told n n
goes_same db told n = record { requests = λ h is. inl is; retransmission = λ i is. inl is; summary = λ h is. inl is; last_dd = λ h is. inl is; stays = λ i is. inl is }

greeted_goes : (i : Iface) (local : Local) (sender : RouterId) (d : Description) (headers : List LsaHeader) (db : List Held) (t : Turn) → HasNoneBelow t.neighbour
    → GoesOn db headers t.neighbour (exchange_turn i local sender d headers db (greeted_turn i local t)).neighbour
greeted_goes i local sender d headers db t bare = elim (bool_cases (is_init t.neighbour.state)) [
  | inl init ↦
      let g = event_turn i local (TwoWayReceived (wants_adjacency i t.neighbour.address)) t in
      (rw init (goes_after db headers t.neighbour g.neighbour (exchange_turn i local sender d headers db g).neighbour bare (init_below t.neighbour init)
      (event_keeps (TwoWayReceived (wants_adjacency i t.neighbour.address)) i.settings.dead t.next local.tick t.neighbour) (exchange_goes i local sender d headers db g)))
  | inr other ↦ (rw other (exchange_goes i local sender d headers db t))
]

pub description_goes : (i : Iface) (local : Local) (sender : RouterId) (d : Description) (headers : List LsaHeader) (db : List Held) (t : Turn) → HasNoneBelow t.neighbour
    → GoesOn db headers t.neighbour (description_turn i local sender d headers db t).neighbour
description_goes i local sender d headers db t bare = elim (bool_cases (nat_lt local.mtu d.mtu)) [
  | inl long ↦ (rw long (goes_same db headers t.neighbour))
  | inr fits ↦ (rw fits (greeted_goes i local sender d headers db t bare))
]

-- ---- what is dropped

not_taken_turn : (a : Result DdAnswer ExchangeFault) (i : Iface) (local : Local) (t : Turn) → is_not_taken a ≡ true → answered_turn a i local t ≡ t
not_taken_turn (Ok answer.NotTaken) i local t is = refl
not_taken_turn (Ok answer.PassedOver) i local t is = refl
not_taken_turn (Ok answer.Repeats) i local t is = absurd cc
not_taken_turn (Ok answer.Sends) i local t is = absurd cc
not_taken_turn (Ok answer.Ends) i local t is = absurd cc
not_taken_turn (Err fault.Mtu) i local t is = refl
not_taken_turn (Err fault.Mismatch) i local t is = absurd cc
not_taken_turn (Err fault.BadRequest) i local t is = refl
not_taken_turn (Err fault.Memory) i local t is = refl

dropped_exchange : (i : Iface) (local : Local) (sender : RouterId) (d : Description) (headers : List LsaHeader) (db : List Held) (t : Turn)
    → is_not_taken (dd_answer local sender d headers t.neighbour) ≡ true → exchange_turn i local sender d headers db t ≡ t
dropped_exchange i local sender d headers db t is =
    not_taken_turn (dd_answer local sender d headers t.neighbour) i local (record t { neighbour = after_dd local sender d headers db t.neighbour }) is
    ∙ ap (λ (n : NeighbourValue). record t { neighbour = n }) (not_taken local sender d headers db t.neighbour is)

split_not : (b c : Bool) → not b && c ≡ true → (b ≡ false) × (c ≡ true)
split_not true c is = absurd cc
split_not false c is = (refl, is)

pub dropped : (i : Iface) (local : Local) (sender : RouterId) (d : Description) (headers : List LsaHeader) (db : List Held) (t : Turn)
    → dd_dropped local sender d headers t.neighbour ≡ true → description_turn i local sender d headers db t ≡ t
dropped i local sender d headers db t is = elim (bool_cases (nat_lt local.mtu d.mtu)) [
  | inl long ↦ (rw long refl)
  | inr fits ↦
      let parts = split_not (is_init t.neighbour.state) (is_not_taken (dd_answer local sender d headers t.neighbour)) (rw fits at is) in
      let other = parts.0 in
      (rw (fits, other) (dropped_exchange i local sender d headers db t parts.1))
]
