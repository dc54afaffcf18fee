-- Which acknowledgements wait after a step, and by what a neighbour comes to Exchange (RFC 2328, sections 10.6 and 13.5).
use Rattle.std.proofs.Common.{◌≡◌, ◌⊎◌, inl, inr, ◌==◌, ◌++◌, ◌∷◌, ℕ, zero, suc, Bool, true, false, List, [], Option, None, Some, map, option_map, is_some, set, slice_get, refl, sym, ap, subst, ◌∙◌}
use Rattle.std.specs.List.{Contains}
use Rattle.std.proofs.lemmas.Bool.{cases_Bool, cond-false, eqb-true, false≢true}
use Rattle.std.proofs.lemmas.List.Elements.{Contains-append_left}
use Rattle.ospf_adjacency.proofs.GoLemmas.{puts_one}
use Rattle.ospf_adjacency.proofs.SameLemmas.{description_keeps_router}
use Rattle.ospf_adjacency.specs.Descriptions.{description_turn}
use Rattle.ospf_adjacency.specs.Heard.{put, turn_of}
use Rattle.ospf_adjacency.specs.LinkSteps.Parts.{description_part, neighbourhood_of, with_neighbourhood}
use Rattle.ospf_adjacency.specs.LinkSteps.Repeats.{link_repeated}
use Rattle.ospf_adjacency.specs.LinkSteps.Works.{WorksOn}
use Rattle.ospf_adjacency.proofs.LinkSteps.Words.{description_by, worked_by}
use Rattle.ospf_area.proofs.Updates.Words.{undelayed_link}
use Rattle.ospf_area.specs.Outboxes.{local_by}
use Rattle.ospf_area.specs.Outputs.{AreReadAsSent, OutputsValue, SentValue, no_outputs}
use Rattle.ospf_area.specs.Sending.{context_of}
use Rattle.ospf_area.specs.State.{AreaValue, LinkValue, neighbour, state_in}
use Rattle.ospf_area.specs.declared.flooding.PacketSource.{PacketSource}
use Rattle.ospf_base.specs.declared.ids.Addr.{Addr}
use Rattle.ospf_base.specs.declared.ids.RouterId.{RouterId}
use Rattle.ospf_lsa.specs.Header.{header_of}
use Rattle.ospf_lsa.specs.declared.header.LsaHeader.{LsaHeader}
use Rattle.ospf_neighbour.specs.Machine.{is_exchanging}
use Rattle.ospf_neighbour.specs.Neighbour.{NeighbourValue}
use Rattle.ospf_neighbour.specs.Neighbours.{neighbour_of}
use Rattle.ospf_packet.specs.Meaning.{BodyMeaning, Meaning, hello, description, request, update, acknowledgment}
use Rattle.ospf_packet.specs.PacketOf.{packet_of}
use Rattle.ospf_packet.specs.declared.body.Description.{Description}
use Rattle.ospf_router.proofs.AreaStep.Accountable.{each_read}
use Rattle.ospf_router.proofs.AreaStep.Elections.{same_or_not, set_at, set_other}
use Rattle.ospf_router.proofs.AreaStep.StateFacts.{Contains-nil, delayed_in, find-some, parts_of_datagram, same_router}
use Rattle.ospf_router.proofs.AreaStep.StepChains.{ends_put}
use Rattle.ospf_router.proofs.StepLaws.Issues.{first, later}
use Rattle.ospf_router.proofs.StepLaws.Neighbours.{AreOf, GoesBy, chain_goes}
use Rattle.ospf_router.proofs.StepLaws.Waiting.{waiting_sent}
use Rattle.ospf_router.specs.AreaStep.Drops.{dropped_by, is_dropped}
use Rattle.ospf_router.specs.AreaStep.Packets.{Received, lsas_of}
use Rattle.ospf_router.specs.AreaStep.Step.{Chain, Event, Part, StepLaws, first_parts, heard_in, last_parts, lsa_parts, parts_of_packet}
use Rattle.ospf_router.specs.AreaStep.Step.Event.{Datagram, Tick, LinkUp, LinkDown}
use Rattle.ospf_router.specs.AreaStep.Step.Part.{HeaderComes, DirectAcknowledgements}
use Rattle.ospf_router.specs.AreaStep.Steps.{StepsArea, Takes}
use Rattle.ospf_router.specs.AreaStep.Takes.{TakesBody, TakesDatagram, TakesEvent, source_of}
use Rattle.ospf_router.specs.AreaStep.Ticks.{TakesTick}
use Rattle.ospf_router.specs.AreaStep.Words.{delayed}
use Rattle.ospf_router.specs.Laws.{AcknowledgementLaw, AdjacencyLaw}
use Rattle.ospf_router.specs.Stepped.{HearsDescription, HearsLsa, IsUp, Stepped, acknowledgments_on}

-- ---- the parts of an event

are_more : (New : LsaHeader → Type 0) (parts : List Part) → AreOf New parts → AreOf New (parts ++ last_parts)
are_more New [] of = (tt, (tt, (tt, tt)))
are_more New (part ∷ parts) (here, rest) = (here, are_more New parts rest)

lsas_of_new : (New : LsaHeader → Type 0) (f : PacketSource) (lsas : List (List ℕ)) → ((lsa : List ℕ) → Contains lsas lsa → New (header_of lsa)) → AreOf New (lsa_parts f lsas ++ DirectAcknowledgements f ∷ [])
lsas_of_new New f [] new = (tt, tt)
lsas_of_new New f (lsa ∷ lsas) new = (new lsa (first lsa lsas), (tt, lsas_of_new New f lsas (λ x c. new x (later lsa lsas x c))))

headers_are : (New : LsaHeader → Type 0) (f : PacketSource) (hs : List LsaHeader) → AreOf New (map (λ h. HeaderComes f h) hs)
headers_are New f [] = tt
headers_are New f (h ∷ hs) = (tt, headers_are New f hs)

abbrev Waits : (LsaHeader → Type 0) → AreaValue → AreaValue → Type 0
Waits New s t = (l : ℕ) (h : LsaHeader) → Contains (delayed t l) h → Contains (delayed s l) h ⊎ New h

-- what a packet brings, and the end of the step
packet_waits : (New : LsaHeader → Type 0) (f : PacketSource) (p : Meaning) (b : BodyMeaning) (s : AreaValue) (out : OutputsValue) (t : AreaValue) → ((lsa : List ℕ) → Contains (lsas_of b) lsa → New (header_of lsa)) → Chain (parts_of_packet f p b ++ last_parts) s out t → Waits New s t
packet_waits New f p (hello fields neighbours) s out t new chain = (chain_goes New (parts_of_packet f p (hello fields neighbours) ++ last_parts) s out t (tt, (tt, (tt, (tt, tt)))) chain).waiting
packet_waits New f p (description fields headers) s out t new chain =
    λ l h c. elim ((chain_goes New last_parts chain.mid chain.next_out t (tt, (tt, (tt, tt))) chain.next).waiting l h c) [ inl there ↦ inl (chain.first.waiting l h there) | inr is ↦ inr is ]
packet_waits New f p (request entries) s out t new chain = (chain_goes New (parts_of_packet f p (request entries) ++ last_parts) s out t (tt, (tt, (tt, (tt, tt)))) chain).waiting
packet_waits New f p (update lsas) s out t new chain = (chain_goes New (parts_of_packet f p (update lsas) ++ last_parts) s out t (are_more New (lsa_parts f lsas ++ DirectAcknowledgements f ∷ []) (lsas_of_new New f lsas new)) chain).waiting
packet_waits New f p (acknowledgment headers) s out t new chain = (chain_goes New (parts_of_packet f p (acknowledgment headers) ++ last_parts) s out t (are_more New (map (λ h. HeaderComes f h) headers) (headers_are New f headers)) chain).waiting

-- a packet that came in with this LSA
abbrev Comes : Event → List ℕ → Type 0
Comes e lsa = (r : Received) × (heard_in e ≡ Some r) × Contains (lsas_of r.packet.body) lsa

datagram_waits : (New : LsaHeader → Type 0) (link : ℕ) (source destination : Addr) (bytes : List ℕ) (o : Option Meaning) (s : AreaValue) (out : OutputsValue) (t : AreaValue) → packet_of bytes ≡ o
    → ((lsa : List ℕ) → Comes (Datagram link source destination bytes) lsa → New (header_of lsa)) → Chain (parts_of_datagram link source o ++ last_parts) s out t → Waits New s t
datagram_waits New link source destination bytes None s out t at new chain = (chain_goes New last_parts s out t (tt, (tt, (tt, tt))) chain).waiting
datagram_waits New link source destination bytes (Some m) s out t at new chain =
    packet_waits New (source_of link source m) m m.body s out t
    (λ lsa c. new lsa (record { link = link; packet = m }, ap (option_map {U = Received} (λ (p : Meaning). record { link = link; packet = p })) at, c)) chain

event_waits : (New : LsaHeader → Type 0) (e : Event) (s : AreaValue) (out : OutputsValue) (t : AreaValue) → ((lsa : List ℕ) → Comes e lsa → New (header_of lsa)) → Chain (first_parts e ++ last_parts) s out t → Waits New s t
event_waits New (Datagram link source destination bytes) s out t new chain = datagram_waits New link source destination bytes (packet_of bytes) s out t refl new chain
event_waits New Tick s out t new chain = (chain_goes New (first_parts Tick ++ last_parts) s out t (tt, (tt, (tt, (tt, (tt, (tt, (tt, (tt, tt)))))))) chain).waiting
event_waits New (LinkUp link) s out t new chain = (chain_goes New (first_parts (LinkUp link) ++ last_parts) s out t (tt, (tt, (tt, (tt, tt)))) chain).waiting
event_waits New (LinkDown link) s out t new chain = (chain_goes New (first_parts (LinkDown link) ++ last_parts) s out t (tt, (tt, (tt, (tt, tt)))) chain).waiting

-- ---- a tick

none_at : (xs : List LinkValue) (l : ℕ) (h : LsaHeader) → Contains (delayed_in (slice_get (map undelayed_link xs) l)) h → ⊥
none_at [] l h c = Contains-nil h c
none_at (x ∷ xs) zero h c = Contains-nil h c
none_at (x ∷ xs) (suc l) h c = none_at xs l h c

kept_at : (change : LinkValue → LinkValue) → ((x : LinkValue) → (change x).delayed ≡ x.delayed) → (xs : List LinkValue) (l : ℕ) → delayed_in (slice_get (map change xs) l) ≡ delayed_in (slice_get xs l)
kept_at change same [] l = refl
kept_at change same (x ∷ xs) zero = same x
kept_at change same (x ∷ xs) (suc l) = kept_at change same xs l

-- after the repeats of a tick no acknowledgement waits
tick_clears : (s : AreaValue) (out out' : OutputsValue) (t : AreaValue) → TakesTick s out out' t → (l : ℕ) (h : LsaHeader) → Contains (delayed t l) h → ⊥
tick_clears s out out' t is l h c =
    let k = is.acknowledged in
    let repeated : t.links ≡ map (link_repeated (context_of k) k.database) k.links = ap (λ (x : AreaValue). x.links) is.repeats.state in
    let cleared : k.links ≡ map undelayed_link is.helloed.links = ap (λ (x : AreaValue). x.links) is.acknowledgements.state in
    none_at is.helloed.links l h
    (subst (λ links. Contains (delayed_in (slice_get links l)) h) cleared
    (subst (λ hs. Contains hs h) (kept_at (link_repeated (context_of k) k.database) (λ x. refl) k.links l)
    (subst (λ links. Contains (delayed_in (slice_get links l)) h) repeated c)))

-- the end of a step goes by this
end_goes : (New : LsaHeader → Type 0) (e : Event) (s : AreaValue) (out : OutputsValue) (t : AreaValue) (is : Takes e s out t) → GoesBy New is.mid t
end_goes New e s out t is =
    let end = is.end in
    let puts = ends_put is.mid end.elected end.issued t is.mid_out end.elected_out end.issued_out out end.database end.issued_database end.read end.elects end.own end.removes in
    chain_goes New last_parts is.mid puts.own t (tt, (tt, (tt, tt))) puts.is

-- what the event sent is among what the step sends
end_sends : (e : Event) (s : AreaValue) (out : OutputsValue) (t : AreaValue) (is : Takes e s out t) (g : SentValue) → Contains is.mid_out.sent g → Contains out.sent g
end_sends e s out t is g c =
    let end = is.end in
    let puts = ends_put is.mid end.elected end.issued t is.mid_out end.elected_out end.issued_out out end.database end.issued_database end.read end.elects end.own end.removes in
    subst (λ (o : OutputsValue). Contains o.sent g) (sym puts.behind) (Contains-append_left is.mid_out.sent puts.own.sent g c)

-- the header is of an LSA of the Update that came in
abbrev HeardBy : Stepped → LsaHeader → Type 0
HeardBy d h = (lsa : List ℕ) × HearsLsa d lsa × (header_of lsa ≡ h)

module _ (d : Stepped) (exact : StepsArea d.event d.before d.dropped d.out d.after) (laws : StepLaws is_dropped d.event d.before d.out d.after) where
  waits : (l : ℕ) (h : LsaHeader) → Contains (delayed d.after l) h → Contains (delayed d.before l) h ⊎ HeardBy d h
  waits = by laws
    where
      by : StepLaws is_dropped d.event d.before d.out d.after → Waits (HeardBy d) d.before d.after
      by (StepLaws.Drops dropped nothing) = λ l h c. inl (subst (λ (s : AreaValue). Contains (delayed s l) h) nothing.state c)
      by (StepLaws.Takes taken read chain) = event_waits (HeardBy d) d.event d.before d.out d.after (λ lsa comes. (lsa, record { received = comes.0; is_heard = comes.1; has = comes.2 }, refl)) chain

  none_dropped : d.event ≡ Tick → d.dropped ≡ None
  none_dropped tick = exact.cause ∙ ap (λ e. dropped_by e d.before) tick

  takes_tick : (tick : d.event ≡ Tick) → TakesTick d.before no_outputs (exact.takes (none_dropped tick)).mid_out (exact.takes (none_dropped tick)).mid
  takes_tick tick =
      let is = exact.takes (none_dropped tick) in
      subst (λ e. TakesEvent e d.before no_outputs is.mid_out is.mid) tick is.event

  goes_out : (tick : d.event ≡ Tick) (l : ℕ) (g : SentValue) → Contains (acknowledgments_on d.before l) g → Contains d.out.sent g
  goes_out tick l g c =
      let is = exact.takes (none_dropped tick) in
      end_sends d.event d.before d.out d.after is g (waiting_sent d.before is.mid_out is.mid (takes_tick tick) l g c)

  clears : d.event ≡ Tick → (l : ℕ) (h : LsaHeader) → Contains (delayed d.after l) h → ⊥
  clears tick l h c =
      let is = exact.takes (none_dropped tick) in
      let takes : TakesTick d.before no_outputs is.mid_out is.mid = takes_tick tick in
      elim ((end_goes (λ h. ⊥) d.event d.before d.out d.after is).waiting l h c) [
        | inl there ↦ tick_clears d.before no_outputs is.mid_out is.mid takes l h there
        | inr never ↦ never
      ]

  pub acknowledgement_law : AcknowledgementLaw d
  acknowledgement_law = (waits, (λ tick l. (goes_out tick l, clears tick l)))

-- ---- a Database Description

-- the neighbour of a Router ID on a link is in Exchange or above
abbrev UpIn : List NeighbourValue → RouterId → Type 0
UpIn ns q = is_exchanging (state_in (neighbour_of ns q)) ≡ true

id_of : (ns : List NeighbourValue) (q : RouterId) (n : NeighbourValue) → neighbour_of ns q ≡ Some n → n.router ≡ q
id_of ns q n at = same_router n.router q (eqb-true n.router.0 q.0 (find-some (λ n. n.router.0 == q.0) ns n at).1)

-- a neighbour that is put back is the one of its Router ID, and the others are as they were
put_up : (m : NeighbourValue) (r : RouterId) (ns : List NeighbourValue) → m.router ≡ r → (q : RouterId) → UpIn (put m ns) q → UpIn ns q ⊎ (q ≡ r)
put_up m r ns is q up = elim (cases_Bool (m.router.0 == q.0)) [
  | inl same ↦ inr (sym (same_router m.router q (eqb-true m.router.0 q.0 same)) ∙ is)
  | inr other ↦ inl (subst (λ o. is_exchanging (state_in o) ≡ true) (puts_one m ns q ∙ cond-false _ _ _ other) up)
]

description_up : (s : AreaValue) (f : PacketSource) (d : Description) (headers : List LsaHeader) (a : LinkValue) (q : RouterId) → UpIn (description_part (context_of s) f d headers s.database s.next_dd a).neighbours q → UpIn a.neighbours q ⊎ (q ≡ f.router)
description_up s f d headers a q up = by (neighbour_of a.neighbours f.router) refl up
  where
    by : (o : Option NeighbourValue) → neighbour_of a.neighbours f.router ≡ o → UpIn (description_by o a.iface (local_by (context_of s) a.settings) f.router d headers s.database (neighbourhood_of a s.next_dd)).neighbours q → UpIn a.neighbours q ⊎ (q ≡ f.router)
    by None found up = inl up
    by (Some n) found up =
        let turn = turn_of n (neighbourhood_of a s.next_dd) in
        let local = local_by (context_of s) a.settings in
        let u = description_turn a.iface local f.router d headers s.database turn in
        put_up u.neighbour f.router a.neighbours ((description_keeps_router a.iface local f.router d headers s.database turn).router ∙ id_of a.neighbours f.router n found) q up

-- the link of the packet alone changes, and on it its sender alone
work_up : (s : AreaValue) (f : PacketSource) (d : Description) (headers : List LsaHeader) (out out' : OutputsValue) (t : AreaValue) → WorksOn (description_part (context_of s) f d headers s.database s.next_dd) f.link s out out' t
    → (l : ℕ) (q : RouterId) → IsUp t l q → IsUp s l q ⊎ ((l ≡ f.link) × (q ≡ f.router))
work_up s f d headers out out' t is l q up = by (slice_get s.links f.link) refl (subst (λ (x : AreaValue). IsUp x l q) is.state up)
  where
    by : (o : Option LinkValue) → slice_get s.links f.link ≡ o → IsUp (worked_by o (description_part (context_of s) f d headers s.database s.next_dd) f.link s) l q → IsUp s l q ⊎ ((l ≡ f.link) × (q ≡ f.router))
    by None at up = inl up
    by (Some a) at up = elim (same_or_not l f.link) [
      | inl here ↦ (
          let there : slice_get (set s.links f.link (with_neighbourhood (description_part (context_of s) f d headers s.database s.next_dd a) a)) l ≡ Some (with_neighbourhood (description_part (context_of s) f d headers s.database s.next_dd a) a) =
          ap (slice_get (set s.links f.link (with_neighbourhood (description_part (context_of s) f d headers s.database s.next_dd a) a))) here ∙ set_at s.links f.link (with_neighbourhood (description_part (context_of s) f d headers s.database s.next_dd a) a) a at in
          elim (description_up s f d headers a q (subst (λ o. is_exchanging (state_in (neighbour_of (elim o [ None ↦ [] | Some link ↦ link.neighbours ]) q)) ≡ true) there up)) [
            | inl before ↦ inl (subst (λ o. is_exchanging (state_in (neighbour_of (elim o [ None ↦ [] | Some link ↦ link.neighbours ]) q)) ≡ true) (sym (ap (slice_get s.links) here ∙ at)) before)
            | inr same ↦ inr (here, same)
          ])
      | inr other ↦ inl (subst (λ o. is_exchanging (state_in (neighbour_of (elim o [ None ↦ [] | Some link ↦ link.neighbours ]) q)) ≡ true) (set_other s.links f.link l _ other) up)
    ]

-- ---- by which event a neighbour comes to Exchange

-- the event is a Database Description of q on link l
record IsDescription (e : Event) (l : ℕ) (q : RouterId) : Type 0 where
  received : Received
  is_heard : heard_in e ≡ Some received
  link : received.link ≡ l
  from : received.packet.router ≡ q
  fields : Description
  headers : List LsaHeader
  says : received.packet.body ≡ description fields headers

-- nothing is new of acknowledgements that is asked here
abbrev AnyHeader : LsaHeader → Type 0
AnyHeader h = Unit {0}

abbrev Enters : Event → AreaValue → AreaValue → Type 0
Enters e s t = (l : ℕ) (q : RouterId) → IsUp t l q → IsUp s l q ⊎ IsDescription e l q

no_others : (e : Event) (s t : AreaValue) → GoesBy AnyHeader s t → Enters e s t
no_others e s t goes = λ l q up. inl (goes.enters l q up)

datagram_enters : (link : ℕ) (source destination : Addr) (bytes : List ℕ) (o : Option Meaning) (s : AreaValue) (out : OutputsValue) (t : AreaValue) → packet_of bytes ≡ o
    → Takes (Datagram link source destination bytes) s out t → Chain (parts_of_datagram link source o ++ last_parts) s out t → Enters (Datagram link source destination bytes) s t
datagram_enters link source destination bytes None s out t at is chain = no_others (Datagram link source destination bytes) s t (chain_goes AnyHeader last_parts s out t (tt, (tt, (tt, tt))) chain)
datagram_enters link source destination bytes (Some m) s out t at is chain = by m.body refl chain
  where
    by : (b : BodyMeaning) → m.body ≡ b → Chain (parts_of_packet (source_of link source m) m b ++ last_parts) s out t → Enters (Datagram link source destination bytes) s t
    by (hello fields neighbours) says chain = no_others (Datagram link source destination bytes) s t (chain_goes AnyHeader (parts_of_packet (source_of link source m) m (hello fields neighbours) ++ last_parts) s out t (tt, (tt, (tt, (tt, tt)))) chain)
    by (request entries) says chain = no_others (Datagram link source destination bytes) s t (chain_goes AnyHeader (parts_of_packet (source_of link source m) m (request entries) ++ last_parts) s out t (tt, (tt, (tt, (tt, tt)))) chain)
    by (update lsas) says chain = no_others (Datagram link source destination bytes) s t (chain_goes AnyHeader (parts_of_packet (source_of link source m) m (update lsas) ++ last_parts) s out t (are_more AnyHeader (lsa_parts (source_of link source m) lsas ++ DirectAcknowledgements (source_of link source m) ∷ []) (lsas_of_new AnyHeader (source_of link source m) lsas (λ lsa c. tt))) chain)
    by (acknowledgment headers) says chain = no_others (Datagram link source destination bytes) s t (chain_goes AnyHeader (parts_of_packet (source_of link source m) m (acknowledgment headers) ++ last_parts) s out t (are_more AnyHeader (map (λ h. HeaderComes (source_of link source m) h) headers) (headers_are AnyHeader (source_of link source m) headers)) chain)
    by (description fields headers) says chain = λ l q up.
        let event : WorksOn (description_part (context_of s) (source_of link source m) fields headers s.database s.next_dd) link s no_outputs is.mid_out is.mid = takes_body in
        elim (work_up s (source_of link source m) fields headers no_outputs is.mid_out is.mid event l q ((end_goes AnyHeader (Datagram link source destination bytes) s out t is).enters l q up)) [
          | inl before ↦ inl before
          | inr here ↦ inr (record {
            received = record { link = link; packet = m };
            is_heard = ap (option_map {U = Received} (λ (p : Meaning). record { link = link; packet = p })) at;
            link = sym here.0;
            from = sym here.1;
            fields = fields;
            headers = headers;
            says = says;
          })
        ]
      where
        takes_body : WorksOn (description_part (context_of s) (source_of link source m) fields headers s.database s.next_dd) link s no_outputs is.mid_out is.mid
        takes_body =
            subst (λ b. TakesBody b (source_of link source m) s no_outputs is.mid_out is.mid) says
            (subst (λ o. TakesDatagram link source o s no_outputs is.mid_out is.mid) at is.event)

event_enters : (e : Event) (s : AreaValue) (out : OutputsValue) (t : AreaValue) → Takes e s out t → Chain (first_parts e ++ last_parts) s out t → Enters e s t
event_enters (Datagram link source destination bytes) s out t is chain = datagram_enters link source destination bytes (packet_of bytes) s out t refl is chain
event_enters Tick s out t is chain = no_others Tick s t (chain_goes AnyHeader (first_parts Tick ++ last_parts) s out t (tt, (tt, (tt, (tt, (tt, (tt, (tt, (tt, tt)))))))) chain)
event_enters (LinkUp link) s out t is chain = no_others (LinkUp link) s t (chain_goes AnyHeader (first_parts (LinkUp link) ++ last_parts) s out t (tt, (tt, (tt, (tt, tt)))) chain)
event_enters (LinkDown link) s out t is chain = no_others (LinkDown link) s t (chain_goes AnyHeader (first_parts (LinkDown link) ++ last_parts) s out t (tt, (tt, (tt, (tt, tt)))) chain)

module _ (d : Stepped) (exact : StepsArea d.event d.before d.dropped d.out d.after) where
  comes : StepLaws is_dropped d.event d.before d.out d.after → (l : ℕ) (q : RouterId) → IsUp d.after l q → IsUp d.before l q ⊎ HearsDescription d l q
  comes (StepLaws.Drops dropped nothing) l q up = inl (subst (λ (s : AreaValue). IsUp s l q) nothing.state up)
  comes (StepLaws.Takes taken read chain) l q up =
      let none : d.dropped ≡ None = exact.cause ∙ none_of (dropped_by d.event d.before) taken in
      elim (event_enters d.event d.before d.out d.after (exact.takes none) chain l q up) [
        | inl before ↦ inl before
        | inr is ↦ inr (record { received = is.received; is_heard = is.is_heard; link = is.link; from = is.from; fields = is.fields; headers = is.headers; says = is.says })
      ]
    where
      none_of : {X : Type 0} (o : Option X) → is_some o ≡ false → o ≡ None
      none_of None is = refl
      none_of (Some x) is = absurd (false≢true (sym is))

  reads : StepLaws is_dropped d.event d.before d.out d.after → AreReadAsSent d.out.sent
  reads (StepLaws.Drops dropped nothing) = subst (λ (o : OutputsValue). AreReadAsSent o.sent) (sym nothing.outputs) (each_read [] (λ g c. absurd (Contains-nil g c)))
  reads (StepLaws.Takes taken read chain) = read

  pub adjacency_law : StepLaws is_dropped d.event d.before d.out d.after → AdjacencyLaw d
  adjacency_law laws = (comes laws, reads laws)
