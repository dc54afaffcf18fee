-- What parts of a step that hold no LSA send and know.
use Rattle.std.proofs.Common.{◌≡◌, ◌⊎◌, ◌++◌, inl, inr, ℕ, suc, List, [], ◌∷◌, Some, slice_get, refl, sym, subst, Bool, true, false, arith, rules, map, Option, None, ◌∙◌}
use Rattle.std.specs.List.{Contains}
use Rattle.std.proofs.lemmas.List.Elements.{Contains-append_cases}
use Rattle.ospf_base.specs.Sums.{contents}
use Rattle.ospf_base.specs.declared.ids.Instance.{Instance}
use Rattle.ospf_base.specs.declared.ids.RouterId.{RouterId}
use Rattle.ospf_neighbour.specs.declared.iface.machine.Iface.{Iface}
use Rattle.ospf_lsa.specs.declared.header.LsaHeader.{LsaHeader}
use Rattle.ospf_lsdb.specs.Database.{IsDatabase}
use Rattle.ospf_neighbour.specs.Neighbour.{NeighbourValue}
use Rattle.ospf_packet.specs.Meaning.{BodyMeaning, hello, description, request, update, acknowledgment}
use Rattle.ospf_exchange.specs.Laws.{HasHeader}
use Rattle.ospf_adjacency.specs.Laws.{SaysOnly, KeepsLists}
use Rattle.ospf_area.specs.Packets.{PendingPacket, dd_packet, packet_if}
use Rattle.ospf_area.specs.Outputs.{SentValue}
use Rattle.ospf_area.specs.Places.{flat_from}
use Rattle.ospf_area.specs.Sending.{context_of, packet_from, way_out}
use Rattle.ospf_area.specs.State.{AreaValue, LinkValue, neighbour}
use Rattle.ospf_router.specs.AreaStep.Accounts.{WasHeld}
use Rattle.ospf_router.specs.AreaStep.Headers.{IsOfInstance, Lists}
use Rattle.ospf_router.specs.AreaStep.Links.{AreKnown, IsKnownPacket, EntersNot, LinkQuiet}
use Rattle.ospf_router.specs.AreaStep.Packets.{lsas_of, headers_in_body}
use Rattle.ospf_router.specs.AreaStep.Words.{CanName, HoldsInstance}
use Rattle.ospf_router.proofs.AreaStep.SentFacts.{flat_map-members, datagrams-packet}
use Rattle.ospf_router.proofs.AreaStep.StateFacts.{HasHeader-held, Contains-nil, HasInstance-held, list_in}
use Rattle.ospf_area.specs.Outboxes.{posted_all}
use Rattle.ospf_area.proofs.Words.{posted}
use Rattle.std.proofs.lemmas.Grind.{common_steps}
use Rattle.ospf_neighbour.specs.declared.machine.NbrEvent.{NbrEvent}
use Rattle.ospf_exchange.specs.declared.rule.Local.{Local}
use Rattle.ospf_adjacency.specs.Adjacency.{begins_by, event_taken, number_by}
use Rattle.ospf_adjacency.specs.Descriptions.{event_turn}
use Rattle.ospf_area.specs.Turns.{Turn}
use Rattle.ospf_adjacency.specs.Elections.{first_dds}
use Rattle.ospf_adjacency.proofs.Words.{adj_ok_for}
use Rattle.ospf_adjacency.proofs.MemberLemmas.{cons_cases}
use Rattle.std.proofs.lemmas.Bool.{false≢true}
use Rattle.ospf_neighbour.specs.Neighbours.{neighbour_of}
use Rattle.ospf_router.specs.AreaStep.Neighbours.{NeighbourGoes, NeighbourGoesOn}
use Rattle.ospf_adjacency.specs.Laws as adjacency
use Rattle.ospf_adjacency.specs.HelloLaws as hellos

-- a link of the area
abbrev pub IsLinkIn : AreaValue → LinkValue → Type 0
IsLinkIn s link = (l : ℕ) × (slice_get s.links l ≡ Some link)

-- Packets that have copies of the database, and name what the router can name.
-- what a packet says is known
pub record SaysKnown (s : AreaValue) (b : BodyMeaning) : Type 0 where
  pub lsas : (lsa : List ℕ) → Contains (lsas_of b) lsa → WasHeld s (contents lsa)
  pub names : (i : Instance) → Lists (headers_in_body b) i → CanName s i

-- a packet without headers and LSAs
pub says_nothing : (s : AreaValue) (b : BodyMeaning) → lsas_of b ≡ [] → headers_in_body b ≡ [] → SaysKnown s b
says_nothing s b no_lsas no_headers = record {
  lsas = λ lsa c. absurd (Contains-nil lsa (subst (λ ls. Contains ls lsa) no_lsas c));
  names = λ i lists. absurd (Contains-nil lists.0 (subst (λ hs. Contains hs lists.0) no_headers lists.1));
}

-- the datagrams of known packets
pub posted_known : (s : AreaValue) (l : ℕ) (i : Iface) (ps : List PendingPacket) → ((p : PendingPacket) → Contains ps p → SaysKnown s p.body) → AreKnown s (posted_all (context_of s) l i ps)
posted_known s l i ps known d c =
    let (p, inside, sent) = flat_map-members (posted (context_of s) l i) ps d c in
    let is : d.packet ≡ packet_from (context_of s) p.body = datagrams-packet (way_out l i p.destination) (packet_from (context_of s) p.body) d sent in
    let says = known p inside in
    subst (λ m. IsKnownPacket s m) (sym is) (record { router = refl; lsas = says.lsas; names = says.names })

-- ---- lists of datagrams

pub none_known : (s : AreaValue) → AreKnown s []
none_known s d c = absurd (Contains-nil d c)

pub both_known : (s : AreaValue) (a b : List SentValue) → AreKnown s a → AreKnown s b → AreKnown s (a ++ b)
both_known s a b of_a of_b d c = elim (Contains-append_cases a b d c) [ inl here ↦ of_a d here | inr later ↦ of_b d later ]

-- those of all links
flat_known : (s : AreaValue) (g : ℕ → LinkValue → List SentValue) → ((k : ℕ) (link : LinkValue) → IsLinkIn s link → AreKnown s (g k link)) → (k : ℕ) (links : List LinkValue) → ((l : ℕ) (link : LinkValue) → slice_get links l ≡ Some link → IsLinkIn s link) → AreKnown s (flat_from g k links)
flat_known s g one k [] within = none_known s
flat_known s g one k (link ∷ links) within =
    both_known s (g k link) (flat_from g (suc k) links) (one k link (within 0 link refl)) (flat_known s g one (suc k) links (λ l link at. within (suc l) link at))

pub links_known : (s : AreaValue) (g : ℕ → LinkValue → List SentValue) → ((k : ℕ) (link : LinkValue) → IsLinkIn s link → AreKnown s (g k link)) → AreKnown s (flat_from g 0 s.links)
links_known s g one = flat_known s g one 0 s.links (λ l link at. (l, at))

-- ---- what is said of a neighbour

-- headers that stood on its lists, or are held
abbrev IsOnLists : AreaValue → NeighbourValue → LsaHeader → Type 0
IsOnLists s n h = Contains n.last_dd h ⊎ (Contains n.summary h ⊎ ((i : Instance) → IsOfInstance h i → HoldsInstance s i))

lists_named : (s : AreaValue) (l : ℕ) (q : RouterId) (n : NeighbourValue) → neighbour s l q ≡ Some n → (h : LsaHeader) (i : Instance) → IsOfInstance h i → IsOnLists s n h → CanName s i
lists_named s l q n at h i is (inl old) = CanName.InLastDd l q (h, subst (λ o. Contains (list_in (λ (n : NeighbourValue). n.last_dd) o) h) (sym at) old, is)
lists_named s l q n at h i is (inr (inl told)) = CanName.OnSummaryList l q (h, subst (λ o. Contains (list_in (λ (n : NeighbourValue). n.summary) o) h) (sym at) told, is)
lists_named s l q n at h i is (inr (inr held)) = CanName.InDatabase (held i is)

-- a packet of the neighbour's says what is known
pub says_known : (s : AreaValue) (l : ℕ) (q : RouterId) (n : NeighbourValue) → neighbour s l q ≡ Some n → IsDatabase s.database → (b : BodyMeaning) → SaysOnly s.database n b → SaysKnown s b
says_known s l q n at is (hello fields heard) says = says_nothing s (hello fields heard) refl refl
says_known s l q n at is (request entries) says = says_nothing s (request entries) refl refl
says_known s l q n at is (update lsas) says = absurd says
says_known s l q n at is (acknowledgment headers) says = absurd says
says_known s l q n at is (description fields headers) says = record {
  lsas = λ lsa c. absurd (Contains-nil lsa c);
  names = λ i lists. let (h, c, of) = lists in lists_named s l q n at h i of (go h (says h c));
}
  where
    go : (h : LsaHeader) → Contains n.last_dd h ⊎ (Contains n.summary h ⊎ HasHeader s.database h) → IsOnLists s n h
    go h (inl old) = inl old
    go h (inr (inl told)) = inr (inl told)
    go h (inr (inr has)) = inr (inr (HasHeader-held s h is has))

-- Packets without headers and LSAs: Hellos, and the first DD packets.
abbrev pub IsBare : BodyMeaning → Type 0
IsBare b = (lsas_of b ≡ []) × (headers_in_body b ≡ [])

abbrev pub AreBare : List PendingPacket → Type 0
AreBare ps = (p : PendingPacket) → Contains ps p → IsBare p.body

-- bare packets are known
pub bare_known : (s : AreaValue) (l : ℕ) (i : Iface) (ps : List PendingPacket) → AreBare ps → AreKnown s (posted_all (context_of s) l i ps)
bare_known s l i ps bare = posted_known s l i ps (λ p inside. says_nothing s p.body (bare p inside).0 (bare p inside).1)

pub bare_if : (b : Bool) (p : PendingPacket) → (b ≡ true → IsBare p.body) → AreBare (packet_if b p)
bare_if true p bare q c = elim (cons_cases p [] q c) [ inl is ↦ subst (λ (x : PendingPacket). IsBare x.body) is (bare refl) | inr none ↦ absurd (Contains-nil q none) ]
bare_if false p bare q c = absurd (Contains-nil q c)

-- an adjacency that begins has no headers yet
begun_bare : (e : NbrEvent) (dead next tick : ℕ) (n : NeighbourValue) → begins_by e n ≡ true → (event_taken e dead next tick n).last_dd ≡ []
begun_bare e dead next tick n is = first_of (search rules, grind (arith, common_steps))

-- by an event there goes out a bare packet at most
pub event_bare : (i : Iface) (local : Local) (e : NbrEvent) (t : Turn) → (p : PendingPacket) → Contains (event_turn i local e t).sent p → Contains t.sent p ⊎ IsBare p.body
event_bare i local e t p c =
    let m = event_taken e i.settings.dead t.next local.tick t.neighbour in
    elim (Contains-append_cases t.sent (packet_if (begins_by e t.neighbour) (dd_packet i local.mtu m)) p c) [
      | inl old ↦ inl old
      | inr new ↦ inr (bare_if (begins_by e t.neighbour) (dd_packet i local.mtu m) (λ is. (refl, begun_bare e i.settings.dead t.next local.tick t.neighbour is)) p new)
    ]

-- and by AdjOK?
pub first_bare : (i : Iface) (mtu tick next : ℕ) (ns : List NeighbourValue) → AreBare (first_dds i mtu tick next ns)
first_bare i mtu tick next [] p c = absurd (Contains-nil p c)
first_bare i mtu tick next (n ∷ ns) p c =
    let e = adj_ok_for i n in
    let m = event_taken e i.settings.dead next tick n in
    elim (Contains-append_cases (packet_if (begins_by e n) (dd_packet i mtu m)) (first_dds i mtu tick (number_by e n next) ns) p c) [
      | inl here ↦ bare_if (begins_by e n) (dd_packet i mtu m) (λ is. (refl, begun_bare e i.settings.dead next tick n is)) p here
      | inr later ↦ first_bare i mtu tick (number_by e n next) ns p later
    ]

-- Neighbours that go on by the words of the layers below do so by those of the area.
-- what keeps its lists, or has lost them, goes on
pub keeps_goes : (s : AreaValue) (told : List LsaHeader) (n m : NeighbourValue) → KeepsLists n m → NeighbourGoesOn s told n m
keeps_goes s told n m (inl k) = record {
  requests = λ h c. inl (subst (λ hs. Contains hs h) k.requests c);
  retransmission = λ i w. inl (subst (λ ls. Contains (map (λ l. l.instance) ls) i) k.retransmission w);
  summary = λ h c. inl (subst (λ hs. Contains hs h) k.summary c);
  last_dd = λ h c. inl (subst (λ hs. Contains hs h) k.last_dd c);
  stays = λ i w. inl (subst (λ ls. Contains (map (λ l. l.instance) ls) i) (sym k.retransmission) w);
}
keeps_goes s told n m (inr (gone, low)) = record {
  requests = λ h c. absurd (Contains-nil h (subst (λ hs. Contains hs h) gone.requests c));
  retransmission = λ i w. absurd (Contains-nil i (subst (λ ls. Contains (map (λ l. l.instance) ls) i) gone.retransmission w));
  summary = λ h c. absurd (Contains-nil h (subst (λ hs. Contains hs h) gone.summary c));
  last_dd = λ h c. absurd (Contains-nil h (subst (λ hs. Contains hs h) gone.last_dd c));
  stays = λ i w. inr low;
}

-- what goes on by the words of the layers below does so by those of the area
pub goes_on : (s : AreaValue) (told : List LsaHeader) (n m : NeighbourValue) → IsDatabase s.database → adjacency.GoesOn s.database told n m → NeighbourGoesOn s told n m
goes_on s told n m is g = record {
  requests = g.requests;
  retransmission = λ i w. elim (g.retransmission i w) [ inl old ↦ inl old | inr has ↦ inr (HasInstance-held s i is has) ];
  summary = λ h c. elim (g.summary h c) [ inl old ↦ inl old | inr has ↦ inr (HasHeader-held s h is has) ];
  last_dd = λ h c. elim (g.last_dd h c) [ inl old ↦ inl old | inr new ↦ inr (elim new [ inl listed ↦ inl listed | inr has ↦ inr (HasHeader-held s h is has) ]) ];
  stays = g.stays;
}

goes_by : (s : AreaValue) (told : List LsaHeader) (o o' : Option NeighbourValue) → hellos.KeepsOrLosesLists o o' → NeighbourGoes s told o o'
goes_by s told None None g = tt
goes_by s told None (Some m) g = record { requests = g.0.requests; retransmission = g.0.retransmission; summary = g.0.summary; last_dd = g.0.last_dd }
goes_by s told (Some n) None g = tt
goes_by s told (Some n) (Some m) g = keeps_goes s told n m g.0

enters_by : (o o' : Option NeighbourValue) → hellos.KeepsOrLosesLists o o' → EntersNot o o'
enters_by None None g up = up
enters_by None (Some m) g up = absurd (false≢true (sym g.1 ∙ up))
enters_by (Some n) None g up = absurd (false≢true up)
enters_by (Some n) (Some m) g up = g.1 up

-- the neighbours of a link go by Hellos, timers and the like
pub link_quiet : (s : AreaValue) (b a : LinkValue) → ((q : RouterId) → hellos.KeepsOrLosesLists (neighbour_of b.neighbours q) (neighbour_of a.neighbours q)) → ((h : LsaHeader) → Contains a.delayed h → Contains b.delayed h) → LinkQuiet s b a
link_quiet s b a goes waiting = record {
  link = record { goes = λ q. goes_by s [] (neighbour_of b.neighbours q) (neighbour_of a.neighbours q) (goes q); waiting = waiting };
  enters = λ q. enters_by (neighbour_of b.neighbours q) (neighbour_of a.neighbours q) (goes q);
}

pub same_goes : (o : Option NeighbourValue) → hellos.KeepsOrLosesLists o o
same_goes None = tt
same_goes (Some n) = (inl (record { summary = refl; last_dd = refl; requests = refl; retransmission = refl }), λ up. up)
