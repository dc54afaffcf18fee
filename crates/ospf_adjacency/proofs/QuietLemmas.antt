-- What goes out, and what stays.
use Rattle.std.proofs.Common.{◌≡◌, ◌⊎◌, inl, inr, ℕ, Bool, true, false, List, [], ◌∷◌, ◌++◌, Option, None, Some, map, refl, sym, ap, ◌∙◌, subst, if◌then◌else◌, arith, rules}
use Rattle.std.specs.List.{Contains}
use Rattle.std.proofs.lemmas.Grind.{common_steps}
use Rattle.std.proofs.lemmas.List.Elements.{Contains-append_cases}
use Rattle.ospf_base.specs.declared.ids.Addr.{Addr}
use Rattle.ospf_base.specs.declared.ids.Instance.{Instance}
use Rattle.ospf_base.specs.declared.ids.LsaKey.{LsaKey}
use Rattle.ospf_neighbour.specs.declared.iface.machine.Iface.{Iface}
use Rattle.ospf_lsa.specs.declared.header.LsaHeader.{LsaHeader}
use Rattle.ospf_lsdb.specs.Database.{Entry, Held, entry_of, instance_at, lsa_of}
use Rattle.ospf_neighbour.specs.Laws.{instances}
use Rattle.ospf_base.specs.Instances.{same_instance}
use Rattle.ospf_neighbour.specs.Lists.{sent_again}
use Rattle.ospf_neighbour.specs.Machine.{is_exchanging}
use Rattle.ospf_neighbour.specs.Neighbour.{NeighbourValue}
use Rattle.ospf_neighbour.specs.declared.neighbour.Listed.{Listed}
use Rattle.ospf_neighbour.specs.declared.machine.NbrEvent.TheVariants.{BadLsReq}
use Rattle.ospf_packet.specs.Meaning.{BodyMeaning, hello, description, request, update, acknowledgment}
use Rattle.ospf_exchange.specs.Requests.{all_held, asked_next}
use Rattle.ospf_exchange.specs.Timers.{dd_due, request_repeat_due}
use Rattle.ospf_exchange.specs.declared.rule.Local.{Local}
use Rattle.ospf_area.specs.Sending.{sent_lsa, to_address}
use Rattle.ospf_adjacency.specs.Adjacency.{event_taken}
use Rattle.ospf_adjacency.specs.Descriptions.{event_turn, dd_repeated}
use Rattle.ospf_area.specs.Turns.{Turn}
use Rattle.ospf_adjacency.specs.Laws.{GoesOn, KeepsLists, NeverEnters, SaysOnly}
use Rattle.ospf_exchange.specs.Laws.{KeepsRouter}
use Rattle.ospf_area.specs.Packets.{PendingPacket, dd_packet, request_packet}
use Rattle.ospf_adjacency.proofs.MemberLemmas.{cons_cases, cons_first, cons_rest, map_from, none_of_nil}
use Rattle.ospf_adjacency.proofs.LawLemmas.{event_keeps}
use Rattle.ospf_adjacency.proofs.SayLemmas.{event_says}
use Rattle.ospf_adjacency.specs.Answers.{copies_turn}
use Rattle.ospf_adjacency.proofs.Words.{asked_keys, resent_copy, resent_keys, update_room, update_to, with_copy, last_batch}
use Rattle.ospf_adjacency.specs.Repeats.{due_keys}
use Rattle.ospf_adjacency.specs.ResendLaws.{IsCopy, HasCopiesOnly, IsQuiet, AnswersAreQuiet, RepeatsAreQuiet}
use Rattle.ospf_adjacency.specs.Packing.{copies_of, goes_in, packed, updates_of}

-- ---- copies

copy_from : (db : List Held) (delay : ℕ) (k : LsaKey) (o : Option Entry) (rest : List (List ℕ)) (lsa : List ℕ) → o ≡ entry_of db k → (Contains rest lsa → IsCopy db delay lsa) → Contains (with_copy delay o rest) lsa → IsCopy db delay lsa
copy_from db delay k None rest lsa is more has = more has
copy_from db delay k (Some e) rest lsa is more has = elim (cons_cases (sent_lsa delay (lsa_of e)) rest lsa has) [ inl here ↦ (k, e, sym is, sym here) | inr there ↦ more there ]

copies_from : (db : List Held) (delay : ℕ) (keys : List LsaKey) (lsa : List ℕ) → Contains (copies_of db delay keys) lsa → IsCopy db delay lsa
copies_from db delay [] lsa has = absurd (none_of_nil lsa has)
copies_from db delay (k ∷ ks) lsa has = copy_from db delay k (entry_of db k) (copies_of db delay ks) lsa refl (copies_from db delay ks lsa) has

-- ---- Updates

last_from : (batch b : List (List ℕ)) → Contains (last_batch batch) b → batch ≡ b
last_from [] b has = absurd (none_of_nil b has)
last_from (x ∷ xs) b has = elim (cons_cases (x ∷ xs) [] b has) [ inl same ↦ same | inr none ↦ absurd (none_of_nil b none) ]

push_cases : (xs : List (List ℕ)) (y x : List ℕ) → Contains (xs ++ y ∷ []) x → Contains xs x ⊎ (y ≡ x)
push_cases xs y x has = elim (Contains-append_cases xs (y ∷ []) x has) [
  | inl old ↦ inl old
  | inr new ↦ elim (cons_cases y [] x new) [ inl same ↦ inr same | inr none ↦ absurd (none_of_nil x none) ]
]

first_is : (lsa : List ℕ) (lsas : List (List ℕ)) (x : List ℕ) → lsa ≡ x → Contains (lsa ∷ lsas) x
first_is lsa lsas x same = subst (λ (y : List ℕ). Contains (lsa ∷ lsas) y) same (cons_first lsa lsas)

-- what is in an Update was there, or is one of the LSAs
packed_in : (room : ℕ) (goes : Bool) (batch : List (List ℕ)) (lsa : List ℕ) (lsas b : List (List ℕ)) (x : List ℕ)
    → ((start : List (List ℕ)) → Contains (packed room start lsas) b → Contains start x ⊎ Contains lsas x)
    → Contains (if goes then packed room (batch ++ lsa ∷ []) lsas else batch ∷ packed room (lsa ∷ []) lsas) b → Contains b x → Contains batch x ⊎ Contains (lsa ∷ lsas) x
packed_in room true batch lsa lsas b x more is has = elim (more (batch ++ lsa ∷ []) is) [
  | inl old ↦ elim (push_cases batch lsa x old) [ inl before ↦ inl before | inr same ↦ inr (first_is lsa lsas x same) ]
  | inr new ↦ inr (cons_rest lsa lsas x new)
]
packed_in room false batch lsa lsas b x more is has = elim (cons_cases batch (packed room (lsa ∷ []) lsas) b is) [
  | inl same ↦ inl (subst (λ (y : List (List ℕ)). Contains y x) (sym same) has)
  | inr later ↦ elim (more (lsa ∷ []) later) [
    | inl one ↦ elim (cons_cases lsa [] x one) [ inl same ↦ inr (first_is lsa lsas x same) | inr none ↦ absurd (none_of_nil x none) ]
    | inr new ↦ inr (cons_rest lsa lsas x new)
  ]
]

packed_from : (room : ℕ) (batch lsas b : List (List ℕ)) (x : List ℕ) → Contains (packed room batch lsas) b → Contains b x → Contains batch x ⊎ Contains lsas x
packed_from room batch [] b x is has = inl (subst (λ (y : List (List ℕ)). Contains y x) (sym (last_from batch b is)) has)
packed_from room batch (lsa ∷ lsas) b x is has = packed_in room (goes_in room batch lsa) batch lsa lsas b x (λ start there. packed_from room start lsas b x there has) is has

-- Updates have only copies of the database
updates_have : (to : Addr) (mtu delay : ℕ) (db : List Held) (keys : List LsaKey) (n : NeighbourValue) (p : PendingPacket) → Contains (updates_of to mtu delay db keys) p → HasCopiesOnly db delay n p.body
updates_have to mtu delay db keys n p is =
    let from = map_from (update_to to) (packed (update_room mtu) [] (copies_of db delay keys)) p is in
    subst (λ (x : PendingPacket). HasCopiesOnly db delay n x.body) from.2
    (λ lsa has. elim (packed_from (update_room mtu) [] (copies_of db delay keys) from.0 lsa from.1 has) [ inl none ↦ absurd (none_of_nil lsa none) | inr copy ↦ copies_from db delay keys lsa copy ])

-- ---- one neighbour

-- what is as it was, but for the moments of its last sendings
pub record IsAlike (n m : NeighbourValue) : Type 0 where
  pub router : m.router ≡ n.router
  pub address : m.address ≡ n.address
  pub state : m.state ≡ n.state
  pub summary : m.summary ≡ n.summary
  pub last_dd : m.last_dd ≡ n.last_dd
  pub requests : m.requests ≡ n.requests
  pub waiting : instances m.retransmission ≡ instances n.retransmission

alike_same : (n : NeighbourValue) → IsAlike n n
alike_same n = record { router = refl; address = refl; state = refl; summary = refl; last_dd = refl; requests = refl; waiting = refl }

alike_both : (n m k : NeighbourValue) → IsAlike n m → IsAlike m k → IsAlike n k
alike_both n m k p q = record {
  router = q.router ∙ p.router;
  address = q.address ∙ p.address;
  state = q.state ∙ p.state;
  summary = q.summary ∙ p.summary;
  last_dd = q.last_dd ∙ p.last_dd;
  requests = q.requests ∙ p.requests;
  waiting = q.waiting ∙ p.waiting;
}

alike_resent : (db : List Held) (tick : ℕ) (o : Option Entry) (n : NeighbourValue) → IsAlike n (resent_copy o tick n)
alike_resent db tick None n = alike_same n
alike_resent db tick (Some e) n = record { router = refl; address = refl; state = refl; summary = refl; last_dd = refl; requests = refl; waiting = resent_all (instance_at e) tick n.retransmission }
  where
    same_if : (b : Bool) (l : Listed) (tick : ℕ) → (if b then record l { sent_at = tick } else l).instance ≡ l.instance
    same_if true l tick = refl
    same_if false l tick = refl

    resent_all : (i : Instance) (tick : ℕ) (ls : List Listed) → instances (map (sent_again i tick) ls) ≡ instances ls
    resent_all i tick [] = refl
    resent_all i tick (l ∷ ls) = ap (λ x. x ∷ instances (map (sent_again i tick) ls)) (same_if (same_instance l.instance i) l tick) ∙ ap (λ xs. l.instance ∷ xs) (resent_all i tick ls)

alike_keys : (db : List Held) (tick : ℕ) (keys : List LsaKey) (n : NeighbourValue) → IsAlike n (resent_keys db tick keys n)
alike_keys db tick [] n = alike_same n
alike_keys db tick (k ∷ ks) n =
    let m = resent_copy (entry_of db k) tick n in
    alike_both n m (resent_keys db tick ks m) (alike_resent db tick (entry_of db k) n) (alike_keys db tick ks m)

alike_goes : (db : List Held) (told : List LsaHeader) (n m : NeighbourValue) → IsAlike n m → GoesOn db told n m
alike_goes db told n m same = record {
  requests = λ h is. inl (subst (λ (hs : List LsaHeader). Contains hs h) same.requests is);
  retransmission = λ i is. inl (subst (λ (js : List Instance). Contains js i) same.waiting is);
  summary = λ h is. inl (subst (λ (hs : List LsaHeader). Contains hs h) same.summary is);
  last_dd = λ h is. inl (subst (λ (hs : List LsaHeader). Contains hs h) same.last_dd is);
  stays = λ i is. inl (subst (λ (js : List Instance). Contains js i) (sym same.waiting) is);
}

alike_enters : (n m : NeighbourValue) → IsAlike n m → NeverEnters n m
alike_enters n m same is = ap (λ s. is_exchanging s) (sym same.state) ∙ is

-- a part after which the neighbour is alike
quiet_by : (db : List Held) (delay : ℕ) (t u : Turn) → IsAlike t.neighbour u.neighbour → ((p : PendingPacket) → Contains u.sent p → Contains t.sent p ⊎ HasCopiesOnly db delay t.neighbour p.body) → IsQuiet db delay t u
quiet_by db delay t u same sends = record {
  goes = λ told. alike_goes db told t.neighbour u.neighbour same;
  enters = alike_enters t.neighbour u.neighbour same;
  same = record { router = same.router; address = same.address };
  sends = sends;
}

-- ---- Requests

copies_send : (i : Iface) (local : Local) (delay : ℕ) (db : List Held) (keys : List LsaKey) (n : NeighbourValue) (t : Turn) (p : PendingPacket)
    → Contains (copies_turn i local delay db keys t).sent p → Contains t.sent p ⊎ HasCopiesOnly db delay n p.body
copies_send i local delay db keys n t p is = elim (Contains-append_cases t.sent (updates_of (to_address i t.neighbour.address) local.mtu delay db keys) p is) [
  | inl old ↦ inl old
  | inr new ↦ inr (updates_have (to_address i t.neighbour.address) local.mtu delay db keys n p new)
]

-- what names no copy has none
says_has : (db : List Held) (delay : ℕ) (n : NeighbourValue) (b : BodyMeaning) → SaysOnly db n b → HasCopiesOnly db delay n b
says_has db delay n (hello fields heard) says = tt
says_has db delay n (description fields headers) says = says
says_has db delay n (request entries) says = tt
says_has db delay n (update lsas) says = absurd says
says_has db delay n (acknowledgment headers) says = says

kept_goes : (db : List Held) (told : List LsaHeader) (n m : NeighbourValue) → KeepsLists n m → GoesOn db told n m
kept_goes db told n m keeps = first_of (search rules, grind (arith, common_steps))

bad_enters : (i : Iface) (next tick : ℕ) (n : NeighbourValue) → NeverEnters n (event_taken BadLsReq i.settings.dead next tick n)
bad_enters i next tick n = first_of (search rules, grind (arith, common_steps))

bad_same : (i : Iface) (next tick : ℕ) (n : NeighbourValue) → KeepsRouter n (event_taken BadLsReq i.settings.dead next tick n)
bad_same i next tick n = first_of (search rules, grind (arith, common_steps))

answer_by : (held : Bool) (i : Iface) (local : Local) (delay : ℕ) (db : List Held) (keys : List LsaKey) (t : Turn)
    → IsQuiet db delay t (if held then copies_turn i local delay db keys t else event_turn i local BadLsReq t)
answer_by true i local delay db keys t = quiet_by db delay t (copies_turn i local delay db keys t) (alike_keys db local.tick keys t.neighbour) (copies_send i local delay db keys t.neighbour t)
answer_by false i local delay db keys t = record {
  goes = λ told. kept_goes db told t.neighbour (event_turn i local BadLsReq t).neighbour (event_keeps BadLsReq i.settings.dead t.next local.tick t.neighbour);
  enters = bad_enters i t.next local.tick t.neighbour;
  same = bad_same i t.next local.tick t.neighbour;
  sends = λ p is. elim (event_says i local BadLsReq db t p is) [ inl old ↦ inl old | inr new ↦ inr (says_has db delay t.neighbour p.body new) ];
}

pub answers_are_quiet : AnswersAreQuiet
answers_are_quiet i local delay db es t = answer_by (all_held db es) i local delay db (asked_keys db es) t

-- ---- repeats

one_more : (db : List Held) (delay : ℕ) (n : NeighbourValue) (sent : List PendingPacket) (p q : PendingPacket) → HasCopiesOnly db delay n p.body → Contains (sent ++ p ∷ []) q → Contains sent q ⊎ HasCopiesOnly db delay n q.body
one_more db delay n sent p q has is = elim (Contains-append_cases sent (p ∷ []) q is) [
  | inl old ↦ inl old
  | inr new ↦ elim (cons_cases p [] q new) [ inl same ↦ inr (subst (λ (x : PendingPacket). HasCopiesOnly db delay n x.body) same has) | inr none ↦ absurd (none_of_nil q none) ]
]

dd_quiet : (i : Iface) (local : Local) (delay : ℕ) (db : List Held) (t : Turn) (due : Bool) → IsAlike t.neighbour (if due then dd_repeated i local t else t).neighbour
    × ((p : PendingPacket) → Contains (if due then dd_repeated i local t else t).sent p → Contains t.sent p ⊎ HasCopiesOnly db delay t.neighbour p.body)
dd_quiet i local delay db t true = (
  record { router = refl; address = refl; state = refl; summary = refl; last_dd = refl; requests = refl; waiting = refl },
  (λ p is. one_more db delay t.neighbour t.sent (dd_packet i local.mtu (dd_repeated i local t).neighbour) p (λ h has. inl has) is),
)
dd_quiet i local delay db t false = (alike_same t.neighbour, (λ p is. inl is))

request_quiet : (i : Iface) (local : Local) (delay : ℕ) (db : List Held) (n : NeighbourValue) (t : Turn) (due : Bool)
    → IsAlike t.neighbour (if due then record t { neighbour = asked_next local.mtu local.tick t.neighbour; sent = t.sent ++ request_packet i (asked_next local.mtu local.tick t.neighbour) ∷ [] } else t).neighbour
    × ((p : PendingPacket) → Contains (if due then record t { neighbour = asked_next local.mtu local.tick t.neighbour; sent = t.sent ++ request_packet i (asked_next local.mtu local.tick t.neighbour) ∷ [] } else t).sent p → Contains t.sent p ⊎ HasCopiesOnly db delay n p.body)
request_quiet i local delay db n t true = (
  record { router = refl; address = refl; state = refl; summary = refl; last_dd = refl; requests = refl; waiting = refl },
  (λ p is. one_more db delay n t.sent (request_packet i (asked_next local.mtu local.tick t.neighbour)) p tt is),
)
request_quiet i local delay db n t false = (alike_same t.neighbour, (λ p is. inl is))

pub repeats_are_quiet : RepeatsAreQuiet
repeats_are_quiet i local retransmit delay db t =
    let keys = due_keys retransmit local.tick db t.neighbour in
    let a = (if dd_due retransmit local.tick t.neighbour then dd_repeated i local t else t) in
    let asked = asked_next local.mtu local.tick a.neighbour in
    let b = (if request_repeat_due retransmit local.tick a.neighbour then record a { neighbour = asked; sent = a.sent ++ request_packet i asked ∷ [] } else a) in
    let u = copies_turn i local delay db keys b in
    let p = dd_quiet i local delay db t (dd_due retransmit local.tick t.neighbour) in
    let q = request_quiet i local delay db t.neighbour a (request_repeat_due retransmit local.tick a.neighbour) in
    quiet_by db delay t u
    (alike_both t.neighbour a.neighbour u.neighbour p.0 (alike_both a.neighbour b.neighbour u.neighbour q.0 (alike_keys db local.tick keys b.neighbour)))
    (λ x is. elim (copies_send i local delay db keys t.neighbour b x is) [ inl old ↦ elim (q.1 x old) [ inl before ↦ p.1 x before | inr new ↦ inr new ] | inr new ↦ inr new ])
