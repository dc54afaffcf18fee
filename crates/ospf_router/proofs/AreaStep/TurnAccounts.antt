-- LoadingDone and the next Requests of all neighbours are a quiet part (RFC 2328, sections 10.3 and 10.9).
use Rattle.std.proofs.Common.{◌≡◌, inl, inr, ◌==◌, ℕ, zero, suc, Bool, true, false, cond, List, [], ◌∷◌, map, Option, None, Some, refl, sym, ap, subst, ◌∙◌}
use Rattle.std.specs.List.{Contains, slice_get}
use Rattle.std.specs.Option.{option_map}
use Rattle.std.proofs.lemmas.Bool.{false≢true}
use Rattle.std.proofs.lemmas.List.Elements.{Contains-append_cases}
use Rattle.ospf_base.specs.declared.ids.RouterId.{RouterId}
use Rattle.ospf_exchange.specs.Requests.{asked_next, request_due}
use Rattle.ospf_neighbour.specs.Machine.{is_exchanging, transition}
use Rattle.ospf_neighbour.specs.Neighbour.{NeighbourValue, effected, is_empty}
use Rattle.ospf_neighbour.specs.Neighbours.{neighbour_of}
use Rattle.ospf_neighbour.specs.declared.machine.Effect.TheVariants as effect
use Rattle.ospf_neighbour.specs.declared.machine.NbrEvent.TheVariants as event
use Rattle.ospf_neighbour.specs.declared.machine.NeighbourState.{NeighbourState}
use Rattle.ospf_neighbour.specs.declared.machine.NeighbourState.TheVariants as state
use Rattle.ospf_area.specs.Updates.Aging.{turned_area, turn_out}
use Rattle.ospf_area.specs.Asking.{turned_to_next, turned_link, request_body, turn_requests_on}
use Rattle.ospf_area.specs.Sending.{context_of, datagrams, packet_from, to_address, way_out}
use Rattle.ospf_area.specs.Outputs.{SentValue, no_outputs, sends, AreReadAsSent}
use Rattle.ospf_area.specs.Places.{flat_from}
use Rattle.ospf_area.specs.State.{AreaValue, LinkValue, neighbour, state_in}
use Rattle.ospf_area.proofs.Words.{turn_request, neighbours_in, loaded}
use Rattle.ospf_area.specs.declared.sending.RouterContext.{RouterContext}
use Rattle.ospf_area.specs.declared.sending.Way.{Way}
use Rattle.ospf_router.specs.AreaStep.Neighbours.{NeighbourGoes, NeighbourGoesOn, Quiet}
use Rattle.ospf_router.proofs.AreaStep.SentFacts.{flat_map-members, datagrams-packet}
use Rattle.ospf_router.proofs.AreaStep.StateFacts.{Contains-nil, find-map, delayed_in}
use Rattle.ospf_router.specs.AreaStep.Links.{IsKnownPacket}
use Rattle.ospf_router.proofs.AreaStep.MeetAccounts.{sends_known, sends_nothing}

-- ---- one neighbour

-- its lists are as they were, and it does not come into Exchange
record KeepsAll (n m : NeighbourValue) : Type 0 where
  router : m.router ≡ n.router
  requests : m.requests ≡ n.requests
  summary : m.summary ≡ n.summary
  last_dd : m.last_dd ≡ n.last_dd
  retransmission : m.retransmission ≡ n.retransmission
  enters : is_exchanging m.state ≡ true → is_exchanging n.state ≡ true

loaded-keeps : (n : NeighbourValue) → KeepsAll n (loaded n)
loaded-keeps n = by n.state refl
  where
    stays : (s : NeighbourState) → n.state ≡ s → KeepsAll n (record n { state = s })
    stays s at = record { router = refl; requests = refl; summary = refl; last_dd = refl; retransmission = refl; enters = λ up. ap is_exchanging at ∙ up }

    described_by : (b : Bool) → n.state ≡ state.Loading → KeepsAll n (effected (cond b (record { state = state.Full; effect = effect.Nothing }) (record { state = state.Loading; effect = effect.Nothing })) 0 n)
    described_by true at = record { router = refl; requests = refl; summary = refl; last_dd = refl; retransmission = refl; enters = λ up. ap is_exchanging at }
    described_by false at = record { router = refl; requests = refl; summary = refl; last_dd = refl; retransmission = refl; enters = λ up. ap is_exchanging at }

    by : (s : NeighbourState) → n.state ≡ s → KeepsAll n (effected (transition s event.LoadingDone (is_empty n.requests)) 0 n)
    by state.Down at = stays state.Down at
    by state.Init at = stays state.Init at
    by state.TwoWay at = stays state.TwoWay at
    by state.ExStart at = stays state.ExStart at
    by state.Exchange at = stays state.Exchange at
    by state.Loading at = described_by (is_empty n.requests) at
    by state.Full at = stays state.Full at

turned-keeps : (mtu tick : ℕ) (n : NeighbourValue) → KeepsAll n (turned_to_next mtu tick n)
turned-keeps mtu tick n = go (request_due (loaded n)) (loaded-keeps n)
  where
    go : (b : Bool) → KeepsAll n (loaded n) → KeepsAll n (cond b (asked_next mtu tick (loaded n)) (loaded n))
    go true k = record { router = k.router; requests = k.requests; summary = k.summary; last_dd = k.last_dd; retransmission = k.retransmission; enters = k.enters }
    go false k = k

keeps-goes : (s : AreaValue) (n m : NeighbourValue) → KeepsAll n m → NeighbourGoesOn s [] n m
keeps-goes s n m k = record {
  requests = λ h c. inl (subst (λ hs. Contains hs h) k.requests c);
  retransmission = λ i w. inl (subst (λ ls. Contains (map (λ l. l.instance) ls) i) k.retransmission w);
  summary = λ h c. inl (subst (λ hs. Contains hs h) k.summary c);
  last_dd = λ h c. inl (subst (λ hs. Contains hs h) k.last_dd c);
  stays = λ i w. inl (subst (λ ls. Contains (map (λ l. l.instance) ls) i) (sym k.retransmission) w);
}

-- nothing happens
same-keeps : (n : NeighbourValue) → KeepsAll n n
same-keeps n = record { router = refl; requests = refl; summary = refl; last_dd = refl; retransmission = refl; enters = λ up. up }

pub nothing-quiet : (s : AreaValue) → Quiet s no_outputs s
nothing-quiet s =
    let none = sends_nothing s in
    record {
      neighbours = record {
        goes = λ l q. go (neighbour s l q);
        waiting = λ l h c. c;
        same_direct = refl;
        same_router = refl;
        database = λ key. refl;
        numbering = λ key. refl;
        bears = none.bears;
        updates = none.updates;
        named = none.named;
        taken = refl;
        issued = refl;
        ended = refl;
      };
      none_enters = λ l q up. up;
    }
  where
    go : (o : Option NeighbourValue) → NeighbourGoes s [] o o
    go None = tt
    go (Some n) = keeps-goes s n n (same-keeps n)

-- ---- all of them

link_turned : (own : RouterContext) (links : List LinkValue) (l : ℕ) → slice_get (map (turned_link own) links) l ≡ option_map (turned_link own) (slice_get links l)
link_turned own [] l = refl
link_turned own (link ∷ links) zero = refl
link_turned own (link ∷ links) (suc l) = link_turned own links l

neighbour_turned : (own : RouterContext) (o : Option LinkValue) (q : RouterId) → (mtu : ℕ) × (neighbour_of (neighbours_in (option_map (turned_link own) o)) q ≡ option_map (turned_to_next mtu own.tick) (neighbour_of (neighbours_in o) q))
neighbour_turned own None q = (0, refl)
neighbour_turned own (Some link) q = (link.settings.mtu, find-map (λ n. n.router.0 == q.0) (turned_to_next link.settings.mtu own.tick) link.neighbours (λ n. ap (λ r. r.0 == q.0) (turned-keeps link.settings.mtu own.tick n).router))

module _ (s : AreaValue) where
  after : AreaValue
  after = turned_area s

  there : (l : ℕ) (q : RouterId) → (mtu : ℕ) × (neighbour after l q ≡ option_map (turned_to_next mtu s.tick) (neighbour s l q))
  unfolding after
  there l q =
      let (mtu, is) = neighbour_turned (context_of s) (slice_get s.links l) q in
      (mtu, ap (λ o. neighbour_of (neighbours_in o) q) (link_turned (context_of s) s.links l) ∙ is)

  goes_by : (mtu : ℕ) (o : Option NeighbourValue) → NeighbourGoes s [] o (option_map (turned_to_next mtu s.tick) o)
  goes_by mtu None = tt
  goes_by mtu (Some n) = keeps-goes s n (turned_to_next mtu s.tick n) (turned-keeps mtu s.tick n)

  enters_by : (mtu : ℕ) (o : Option NeighbourValue) → is_exchanging (state_in (option_map (turned_to_next mtu s.tick) o)) ≡ true → is_exchanging (state_in o) ≡ true
  enters_by mtu None up = absurd (false≢true up)
  enters_by mtu (Some n) up = (turned-keeps mtu s.tick n).enters up

  same_delayed : (o : Option LinkValue) → delayed_in (option_map (turned_link (context_of s)) o) ≡ delayed_in o
  same_delayed None = refl
  same_delayed (Some link) = refl

  a_request : (d : SentValue) (n : NeighbourValue) → d.packet ≡ packet_from (context_of s) (request_body n) → IsKnownPacket s d.packet
  a_request d n is = subst (λ m. IsKnownPacket s m) (sym is) (record { router = refl; lsas = λ lsa c. absurd (Contains-nil lsa c); names = λ i lists. absurd (Contains-nil lists.0 lists.1) })

  one_sends : (l mtu : ℕ) (way : NeighbourValue → Way) (n : NeighbourValue) (b : Bool) (d : SentValue) → Contains (cond b (datagrams (way n) (packet_from (context_of s) (request_body (asked_next mtu s.tick (loaded n))))) []) d → IsKnownPacket s d.packet
  one_sends l mtu way n true d c = a_request d (asked_next mtu s.tick (loaded n)) (datagrams-packet (way n) (packet_from (context_of s) (request_body (asked_next mtu s.tick (loaded n)))) d c)
  one_sends l mtu way n false d c = absurd (Contains-nil d c)

  all_send : (k : ℕ) (links : List LinkValue) (d : SentValue) → Contains (flat_from (turn_requests_on (context_of s)) k links) d → IsKnownPacket s d.packet
  all_send k [] d c = absurd (Contains-nil d c)
  all_send k (link ∷ links) d c = elim (Contains-append_cases (turn_requests_on (context_of s) k link) (flat_from (turn_requests_on (context_of s)) (suc k) links) d c) [
    | inl here ↦ (let (n, inside, sent) = flat_map-members (turn_request (context_of s) k link.iface link.settings.mtu) link.neighbours d here in one_sends k link.settings.mtu (λ n. way_out k link.iface (to_address link.iface (asked_next link.settings.mtu s.tick (loaded n)).address)) n (request_due (loaded n)) d sent)
    | inr rest ↦ all_send (suc k) links d rest
  ]

  pub turned-quiet : AreReadAsSent (turn_out s) → Quiet s (sends (turn_out s)) (turned_area s)
  unfolding after
  turned-quiet read =
      let known = sends_known s (turn_out s) read (λ d c. all_send 0 s.links d c) in
      record {
        neighbours = record {
          goes = λ l q. let (mtu, is) = there l q in subst (λ o. NeighbourGoes s [] (neighbour s l q) o) (sym is) (goes_by mtu (neighbour s l q));
          waiting = λ l h c. subst (λ hs. Contains hs h) (ap delayed_in (link_turned (context_of s) s.links l) ∙ same_delayed (slice_get s.links l)) c;
          same_direct = refl;
          same_router = refl;
          database = λ key. refl;
          numbering = λ key. refl;
          bears = known.bears;
          updates = known.updates;
          named = known.named;
          taken = refl;
          issued = refl;
          ended = refl;
        };
        none_enters = λ l q up. (let (mtu, is) = there l q in enters_by mtu (neighbour s l q) (sym (ap (λ o. is_exchanging (state_in o)) is) ∙ up));
      }
