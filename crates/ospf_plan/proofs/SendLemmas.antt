-- What a router sends out of a link has the settings of the link.
use Rattle.std.proofs.Common.{◌≡◌, ◌&&◌, ◌++◌, ◌+◌, ◌-◌, ℕ, zero, suc, Bool, true, false, not, nat_le, nat_lt, cond, List, [], ◌∷◌, length, filter, map, Option, None, Some, unwrap_or, slice_get, Result, Ok, Err, if◌then◌else◌, inl, inr, refl, sym, ap, subst, ◌∙◌, arith}
use Rattle.std.proofs.lemmas.Option.{same_Some}
use Rattle.std.proofs.lemmas.List.Elements.{Contains-append_cases}
use Rattle.std.specs.List.{Contains, flat_map}
use Rattle.ospf_base.specs.Constants.{ip_header, largest_packet, packet_header}
use Rattle.ospf_base.specs.declared.ids.Addr.{Addr}
use Rattle.ospf_base.specs.declared.ids.LsaKey.{LsaKey}
use Rattle.ospf_base.specs.declared.ids.RouterId.{RouterId}
use Rattle.ospf_lsa.specs.Header.{header_of}
use Rattle.ospf_lsa.specs.Lsa.{key_of}
use Rattle.ospf_lsa.specs.declared.header.LsaHeader.{LsaHeader}
use Rattle.ospf_packet.specs.Meaning.{BodyMeaning, Meaning, hello, request, update, acknowledgment, packet_bytes}
use Rattle.ospf_packet.specs.declared.body.Description.{Description}
use Rattle.ospf_packet.specs.declared.body.Hello.{Hello}
use Rattle.ospf_packet.specs.declared.entry.RequestEntry.{RequestEntry}
use Rattle.ospf_neighbour.specs.Interface.Hello.{own_hello}
use Rattle.ospf_neighbour.specs.Interface.Machine.{is_down}
use Rattle.ospf_neighbour.specs.declared.iface.machine.Iface.{Iface}
use Rattle.ospf_neighbour.specs.declared.iface.settings.IfaceSettings.{IfaceSettings}
use Rattle.ospf_neighbour.specs.Neighbour.{NeighbourValue, new_neighbour}
use Rattle.ospf_neighbour.specs.Neighbours.{neighbour_of}
use Rattle.ospf_neighbour.specs.declared.machine.NbrEvent.{NbrEvent}
use Rattle.ospf_neighbour.specs.declared.machine.NbrEvent.TheVariants as event
use Rattle.ospf_neighbour.specs.declared.machine.NbrEvent.TheVariants.{BadLsReq, SeqNumberMismatch, TwoWayReceived}
use Rattle.ospf_lsdb.specs.Database.{Held, key_at}
use Rattle.ospf_exchange.specs.Exchange.{after_dd, dd_answer}
use Rattle.ospf_exchange.specs.Flags.{first_flags}
use Rattle.ospf_exchange.specs.Requests.{all_held, asked_next, is_asked, request_due}
use Rattle.ospf_exchange.specs.Timers.{dd_due, request_repeat_due}
use Rattle.ospf_exchange.specs.declared.description.DdAnswer.{DdAnswer}
use Rattle.ospf_exchange.specs.declared.description.DdAnswer.TheVariants as answer
use Rattle.ospf_exchange.specs.declared.fault.ExchangeFault.{ExchangeFault}
use Rattle.ospf_exchange.specs.declared.fault.ExchangeFault.TheVariants as fault
use Rattle.ospf_flood.specs.Links.{flooding_address}
use Rattle.ospf_area.specs.Asking.{request_body, turn_requests_on}
use Rattle.ospf_area.specs.Changes.{after_event}
use Rattle.ospf_area.specs.Flooding.{flooding_updates, goes_out}
use Rattle.ospf_area.specs.Outputs.{SentValue}
use Rattle.ospf_area.specs.Packets.{PendingPacket, dd_packet, packet_if, request_packet}
use Rattle.ospf_area.specs.Places.{flat_from}
use Rattle.ospf_area.specs.Outboxes.{local_by, posted_all}
use Rattle.ospf_area.specs.Sending.{datagrams, packet_from, sent_lsa, to_address, update_out, way_out}
use Rattle.ospf_area.specs.State.{AreaValue, LinkValue}
use Rattle.ospf_area.specs.Turns.{Turn, request_turn}
use Rattle.ospf_area.specs.declared.flooding.PacketSource.{PacketSource}
use Rattle.ospf_area.specs.declared.sending.RouterContext.{RouterContext}
use Rattle.ospf_area.specs.declared.sending.Way.{Way}
use Rattle.ospf_area.specs.declared.state.LinkSettings.{LinkSettings}
use Rattle.ospf_area.proofs.Words.{flooding_update, posted}
use Rattle.ospf_area.specs.Updates.Acks.{ack_room, acks_out, in_order}
use Rattle.ospf_area.specs.Updates.Meets.{first_dd_on}
use Rattle.ospf_area.proofs.Updates.Words.{ack_out, packets}
use Rattle.ospf_adjacency.specs.Adjacency.{begins_by, event_taken, is_broadcast, number_by, wants_adjacency}
use Rattle.ospf_adjacency.specs.Answers.{answer_turn, copies_turn}
use Rattle.ospf_adjacency.specs.Descriptions.{answered_turn, dd_repeated, description_turn, event_turn, is_init}
use Rattle.ospf_adjacency.specs.Elections.{first_dds}
use Rattle.ospf_adjacency.specs.Heard.{Neighbourhood, receive_hello, hello_effect}
use Rattle.ospf_adjacency.specs.Links.{hello_packet, hello_ticked}
use Rattle.ospf_adjacency.specs.Packing.{copies_of, packed, update_count, updates_of}
use Rattle.ospf_adjacency.specs.Repeats.{due_keys}
use Rattle.ospf_adjacency.proofs.Words.{adj_ok_for}
use Rattle.ospf_adjacency.specs.LinkSteps.Parts.{description_on, hello_out, request_on}
use Rattle.ospf_adjacency.proofs.LinkSteps.Words.{description_by, repeats_to, request_by}
use Rattle.ospf_adjacency.specs.LinkSteps.Repeats.{link_repeats_out, repeats_for}
use Rattle.ospf_router.proofs.AreaStep.SentFacts.{flat_map-members}
use Rattle.ospf_router.proofs.AreaStep.StateFacts.{Contains-nil}
use Rattle.ospf_plan.proofs.Members.{in_cases}
use Rattle.ospf_plan.proofs.Order.{map_from}
use Rattle.ospf_plan.proofs.SettingsLemmas.{all_fixed, fixed}

-- ---- what a packet says of its interface

-- a Hello has the settings of the interface, a Database Description the MTU of the link
pub data IsBodyOf (i : IfaceSettings) (k : LinkSettings) : BodyMeaning → Type 0 where
  said_hello : (j : Iface) (heard : List RouterId) → j.settings ≡ i → IsBodyOf i k (hello (own_hello j) heard)
  said_description : (j : Iface) (n : NeighbourValue) → IsBodyOf i k (dd_packet j k.mtu n).body
  said_request : (entries : List RequestEntry) → IsBodyOf i k (request entries)
  said_update : (lsas : List (List ℕ)) → IsBodyOf i k (update lsas)
  said_acknowledgment : (headers : List LsaHeader) → IsBodyOf i k (acknowledgment headers)

-- all of these do
abbrev pub AllOf : IfaceSettings → LinkSettings → List PendingPacket → Type 0
AllOf i k ps = (p : PendingPacket) → Contains ps p → IsBodyOf i k p.body

one_of : {X : Type 0} (x y : X) → Contains (x ∷ []) y → x ≡ y
one_of x y at = elim (in_cases x [] y at) [ inl is ↦ is | inr none ↦ absurd (Contains-nil y none) ]

module _ (i : Iface) (k : LinkSettings) (own : RouterContext) where
  pub none_of : AllOf i.settings k []
  none_of p at = absurd (Contains-nil p at)

  both_of : (ps qs : List PendingPacket) → AllOf i.settings k ps → AllOf i.settings k qs → AllOf i.settings k (ps ++ qs)
  both_of ps qs of_ps of_qs p at = elim (Contains-append_cases ps qs p at) [ inl here ↦ of_ps p here | inr there ↦ of_qs p there ]

  single_of : (p : PendingPacket) → IsBodyOf i.settings k p.body → AllOf i.settings k (p ∷ [])
  single_of p is q at = subst (λ (x : PendingPacket). IsBodyOf i.settings k x.body) (one_of p q at) is

  pub if_of : (b : Bool) (p : PendingPacket) → IsBodyOf i.settings k p.body → AllOf i.settings k (packet_if b p)
  if_of true p is = single_of p is
  if_of false p is = none_of

  event_of : (e : NbrEvent) (t : Turn) → AllOf i.settings k t.sent → AllOf i.settings k (event_turn i (local_by own k) e t).sent
  event_of e t of =
      let m = event_taken e i.settings.dead t.next own.tick t.neighbour in
      both_of t.sent (packet_if (begins_by e t.neighbour) (dd_packet i k.mtu m)) of (if_of (begins_by e t.neighbour) (dd_packet i k.mtu m) (said_description i m))

  hello_of : (h : Hello) (named : Bool) (t : Turn) → AllOf i.settings k t.sent → AllOf i.settings k (hello_effect i (local_by own k) h named t).sent
  hello_of h named t of =
      let m : NeighbourValue = after_event event.HelloReceived i.settings.dead t.neighbour in
      let n : NeighbourValue = (if is_broadcast i then record m { declared = record { priority = h.priority; dr = h.designated; backup = h.backup } } else m) in
      let e : NbrEvent = (if named then TwoWayReceived (wants_adjacency i t.neighbour.address) else event.OneWayReceived) in
      event_of e (record t { neighbour = n }) of

  pub hello_on_of : (q : RouterId) (source : Addr) (h : Hello) (named : Bool) (x : Neighbourhood) → AllOf i.settings k x.sent → AllOf i.settings k (receive_hello i (local_by own k) q source h named x).sent
  hello_on_of q source h named x of =
      hello_of h named (record { neighbour = unwrap_or (neighbour_of x.neighbours q) (new_neighbour q source); next = x.next; sent = x.sent }) of

  request_of : (t : Turn) → AllOf i.settings k t.sent → AllOf i.settings k (request_turn i (local_by own k) t).sent
  request_of t of =
      let m = after_event event.LoadingDone 0 t.neighbour in
      let p = request_packet i (asked_next k.mtu own.tick m) in
      both_of t.sent (packet_if (request_due m) p) of (if_of (request_due m) p (said_request _))

  again_of : (t : Turn) → AllOf i.settings k t.sent → AllOf i.settings k (dd_repeated i (local_by own k) t).sent
  again_of t of =
      let m : NeighbourValue = record t.neighbour { exchanging = record t.neighbour.exchanging { sent_at = own.tick } } in
      both_of t.sent (dd_packet i k.mtu m ∷ []) of (single_of (dd_packet i k.mtu m) (said_description i m))

  answered_of : (r : Result DdAnswer ExchangeFault) (t : Turn) → AllOf i.settings k t.sent → AllOf i.settings k (answered_turn r i (local_by own k) t).sent
  answered_of (Ok answer.NotTaken) t of = of
  answered_of (Ok answer.PassedOver) t of = of
  answered_of (Ok answer.Repeats) t of = again_of t of
  answered_of (Ok answer.Sends) t of =
      request_of (record t { sent = t.sent ++ dd_packet i k.mtu t.neighbour ∷ [] }) (both_of t.sent (dd_packet i k.mtu t.neighbour ∷ []) of (single_of (dd_packet i k.mtu t.neighbour) (said_description i t.neighbour)))
  answered_of (Ok answer.Ends) t of = request_of t of
  answered_of (Err fault.Mtu) t of = of
  answered_of (Err fault.Mismatch) t of = event_of SeqNumberMismatch t of
  answered_of (Err fault.BadRequest) t of = of
  answered_of (Err fault.Memory) t of = of

  description_of : (q : RouterId) (d : Description) (headers : List LsaHeader) (db : List Held) (t : Turn) → AllOf i.settings k t.sent → AllOf i.settings k (description_turn i (local_by own k) q d headers db t).sent
  description_of q d headers db t of = by_length (nat_lt k.mtu d.mtu)
    where
      greets : NbrEvent
      greets = TwoWayReceived (wants_adjacency i t.neighbour.address)

      after : Turn → Turn
      after u = answered_turn (dd_answer (local_by own k) q d headers u.neighbour) i (local_by own k) (record u { neighbour = after_dd (local_by own k) q d headers db u.neighbour })

      after_of : (u : Turn) → AllOf i.settings k u.sent → AllOf i.settings k (after u).sent
      after_of u of_u = answered_of (dd_answer (local_by own k) q d headers u.neighbour) (record u { neighbour = after_dd (local_by own k) q d headers db u.neighbour }) of_u

      by_state : (b : Bool) → AllOf i.settings k (after (if b then event_turn i (local_by own k) greets t else t)).sent
      by_state true = after_of (event_turn i (local_by own k) greets t) (event_of greets t of)
      by_state false = after_of t of

      by_length : (b : Bool) → AllOf i.settings k (if b then t else after (if is_init t.neighbour.state then event_turn i (local_by own k) greets t else t)).sent
      by_length true = of
      by_length false = by_state (is_init t.neighbour.state)

  pub description_on_of : (q : RouterId) (d : Description) (headers : List LsaHeader) (db : List Held) (x : Neighbourhood) → AllOf i.settings k x.sent → AllOf i.settings k (description_on i (local_by own k) q d headers db x).sent
  description_on_of q d headers db x of = by_neighbour (neighbour_of x.neighbours q)
    where
      by_neighbour : (o : Option NeighbourValue) → AllOf i.settings k (description_by o i (local_by own k) q d headers db x).sent
      by_neighbour None = of
      by_neighbour (Some n) = description_of q d headers db (record { neighbour = n; next = x.next; sent = x.sent }) of

  updates_of_these : (destination : Addr) (batches : List (List (List ℕ))) → AllOf i.settings k (map (λ (lsas : List (List ℕ)). record { destination = destination; body = update lsas }) batches)
  updates_of_these destination batches p at =
      let make : List (List ℕ) → PendingPacket = λ lsas. record { destination = destination; body = update lsas } in
      let (lsas, among, is) = map_from make batches p at in
      subst (λ (x : PendingPacket). IsBodyOf i.settings k x.body) is (said_update lsas)

  copies_out_of : (delay : ℕ) (db : List Held) (keys : List LsaKey) (t : Turn) → AllOf i.settings k t.sent → AllOf i.settings k (copies_turn i (local_by own k) delay db keys t).sent
  copies_out_of delay db keys t of =
      let to : Addr = to_address i t.neighbour.address in
      both_of t.sent (updates_of to k.mtu delay db keys) of (updates_of_these to (packed (k.mtu - (ip_header + packet_header + update_count)) [] (copies_of db delay keys)))

  answer_of : (delay : ℕ) (db : List Held) (entries : List RequestEntry) (t : Turn) → AllOf i.settings k t.sent → AllOf i.settings k (answer_turn i (local_by own k) delay db entries t).sent
  answer_of delay db entries t of = by_test (all_held db entries)
    where
      by_test : (b : Bool) → AllOf i.settings k (if b then copies_turn i (local_by own k) delay db (filter (is_asked entries) (map key_at db)) t else event_turn i (local_by own k) BadLsReq t).sent
      by_test true = copies_out_of delay db (filter (is_asked entries) (map key_at db)) t of
      by_test false = event_of BadLsReq t of

  pub request_on_of : (q : RouterId) (delay : ℕ) (db : List Held) (entries : List RequestEntry) (x : Neighbourhood) → AllOf i.settings k x.sent → AllOf i.settings k (request_on i (local_by own k) q delay db entries x).sent
  request_on_of q delay db entries x of = by_neighbour (neighbour_of x.neighbours q)
    where
      by_neighbour : (o : Option NeighbourValue) → AllOf i.settings k (request_by o i (local_by own k) delay db entries x).sent
      by_neighbour None = of
      by_neighbour (Some n) = answer_of delay db entries (record { neighbour = n; next = x.next; sent = x.sent }) of

  pub repeats_of : (db : List Held) (n : NeighbourValue) → AllOf i.settings k (repeats_for own i k db n).sent
  repeats_of db n = by_description (dd_due k.retransmit own.tick n)
    where
      begun : Turn
      begun = record { neighbour = n; next = 0; sent = [] }

      keys : List LsaKey
      keys = due_keys k.retransmit own.tick db n

      asking : Turn → Turn
      asking u = record u { neighbour = asked_next k.mtu own.tick u.neighbour; sent = u.sent ++ request_packet i (asked_next k.mtu own.tick u.neighbour) ∷ [] }

      by_request : (u : Turn) → AllOf i.settings k u.sent → (b : Bool) → AllOf i.settings k (copies_turn i (local_by own k) k.transmit_delay db keys (if b then asking u else u)).sent
      by_request u of true = copies_out_of k.transmit_delay db keys (asking u) (both_of u.sent (request_packet i (asked_next k.mtu own.tick u.neighbour) ∷ []) of (single_of (request_packet i (asked_next k.mtu own.tick u.neighbour)) (said_request _)))
      by_request u of false = copies_out_of k.transmit_delay db keys u of

      asked_of : (u : Turn) → AllOf i.settings k u.sent → AllOf i.settings k (copies_turn i (local_by own k) k.transmit_delay db keys (if request_repeat_due k.retransmit own.tick u.neighbour then asking u else u)).sent
      asked_of u of = by_request u of (request_repeat_due k.retransmit own.tick u.neighbour)

      again : Bool → Turn
      again b = if b then dd_repeated i (local_by own k) begun else begun

      by_description : (b : Bool) → AllOf i.settings k (copies_turn i (local_by own k) k.transmit_delay db keys (if request_repeat_due k.retransmit own.tick (again b).neighbour then asking (again b) else again b)).sent
      by_description true = asked_of (dd_repeated i (local_by own k) begun) (again_of begun none_of)
      by_description false = asked_of begun none_of

  pub first_of : (tick next : ℕ) (ns : List NeighbourValue) → AllOf i.settings k (first_dds i k.mtu tick next ns)
  first_of tick next [] = none_of
  first_of tick next (n ∷ ns) =
      let e = adj_ok_for i n in
      let m = event_taken e i.settings.dead next tick n in
      both_of (packet_if (begins_by e n) (dd_packet i k.mtu m)) (first_dds i k.mtu tick (number_by e n next) ns) (if_of (begins_by e n) (dd_packet i k.mtu m) (said_description i m)) (first_of tick (number_by e n next) ns)

-- ---- datagrams

-- a datagram of the router a: out of one of its links, as its interface is set
pub record IsOut (a : AreaValue) (x : SentValue) : Type 0 where
  pub iface : IfaceSettings
  pub link : LinkSettings
  pub at : slice_get (all_fixed a.links) x.link ≡ Some (iface, link)
  pub router : x.packet.router ≡ a.router
  pub area : x.packet.area ≡ a.area
  pub source : x.source ≡ iface.address
  pub body : IsBodyOf iface link x.packet.body

abbrev pub AllOut : AreaValue → List SentValue → Type 0
AllOut a ds = (x : SentValue) → Contains ds x → IsOut a x

pub fixed_at : (xs : List LinkValue) (l : ℕ) (x : LinkValue) → slice_get xs l ≡ Some x → slice_get (all_fixed xs) l ≡ Some (fixed x)
fixed_at [] l x at = absurd (cc)
fixed_at (y ∷ ys) zero x at = ap (λ (z : LinkValue). Some (fixed z)) (same_Some y x at)
fixed_at (y ∷ ys) (suc l) x at = fixed_at ys l x at

it_is : (way : Way) (m : Meaning) (d : SentValue) → Contains (datagrams way m) d → record { link = way.link; source = way.source; destination = way.destination; bytes = packet_bytes m; packet = m } ≡ d
unfolding datagrams
it_is way m d c = go (nat_lt largest_packet (length (packet_bytes m))) c
  where
    it : SentValue
    it = record { link = way.link; source = way.source; destination = way.destination; bytes = packet_bytes m; packet = m }

    go : (b : Bool) → Contains (cond b [] (it ∷ [])) d → it ≡ d
    go true c = absurd (Contains-nil d c)
    go false c = one_of it d c

module _ (a : AreaValue) where
  pub none_out : AllOut a []
  none_out x at = absurd (Contains-nil x at)

  pub both_out : (xs ys : List SentValue) → AllOut a xs → AllOut a ys → AllOut a (xs ++ ys)
  both_out xs ys of_xs of_ys x at = elim (Contains-append_cases xs ys x at) [ inl here ↦ of_xs x here | inr there ↦ of_ys x there ]

  each_out : {X : Type 0} (f : X → List SentValue) (xs : List X) → ((x : X) → AllOut a (f x)) → AllOut a (flat_map f xs)
  each_out f xs of d at = let (x, among, there) = flat_map-members f xs d at in of x d there

  placed_out : (g : ℕ → LinkValue → List SentValue) (xs : List LinkValue) (k : ℕ) (links : List LinkValue) → ((l : ℕ) (x : LinkValue) → slice_get xs l ≡ Some x → slice_get links (l + k) ≡ Some x)
      → ((l : ℕ) (x : LinkValue) → slice_get links l ≡ Some x → AllOut a (g l x)) → AllOut a (flat_from g k xs)
  placed_out g [] k links within of = none_out
  placed_out g (x ∷ xs) k links within of =
      let first : 0 + k ≡ k = omega arith in
      let next : (l : ℕ) → suc l + k ≡ l + suc k = λ l. omega arith in
      both_out (g k x) (flat_from g (suc k) xs) (of k x (subst (λ (n : ℕ). slice_get links n ≡ Some x) first (within 0 x refl)))
      (placed_out g xs (suc k) links (λ l y at. subst (λ (n : ℕ). slice_get links n ≡ Some y) (next l) (within (suc l) y at)) of)

  pub links_out : (g : ℕ → LinkValue → List SentValue) (links : List LinkValue) → ((l : ℕ) (x : LinkValue) → slice_get links l ≡ Some x → AllOut a (g l x)) → AllOut a (flat_from g 0 links)
  links_out g links of =
      let same : (l : ℕ) → l ≡ l + 0 = λ l. omega arith in
      placed_out g links 0 links (λ l x at. subst (λ (n : ℕ). slice_get links n ≡ Some x) (same l) at) of

  -- what is sent of the router in a state of which all this is the same
  module _ (own : RouterContext) (own_is : own.router ≡ a.router) (area_is : own.area ≡ a.area) (links : List LinkValue) (same : all_fixed links ≡ all_fixed a.links) where
    pub one_out : (l : ℕ) (x : LinkValue) (i : Iface) (to : Addr) (body : BodyMeaning) → slice_get links l ≡ Some x → i.settings ≡ x.iface.settings → IsBodyOf x.iface.settings x.settings body → AllOut a (datagrams (way_out l i to) (packet_from own body))
    one_out l x i to body at set is d sent =
        subst (λ (y : SentValue). IsOut a y) (it_is (way_out l i to) (packet_from own body) d sent)
        (record {
          iface = x.iface.settings;
          link = x.settings;
          at = ap (λ (fs : List (IfaceSettings × LinkSettings)). slice_get fs l) (sym same) ∙ fixed_at links l x at;
          router = own_is;
          area = area_is;
          source = ap (λ (k : IfaceSettings). k.address) set;
          body = is;
        })

    pub posted_out : (l : ℕ) (x : LinkValue) (i : Iface) (ps : List PendingPacket) → slice_get links l ≡ Some x → i.settings ≡ x.iface.settings → AllOf x.iface.settings x.settings ps → AllOut a (posted_all own l i ps)
    posted_out l x i ps at set of d sent =
        let (p, among, there) = flat_map-members (posted own l i) ps d sent in
        one_out l x i p.destination p.body at set (of p among) d there

    pub flood_out : (lsa : List ℕ) (from : Option PacketSource) → AllOut a (flooding_updates own lsa from links)
    flood_out lsa from = links_out (flooding_update own lsa from) links (λ l x at. by_test l x at (goes_out (key_of lsa) (header_of lsa) from l x))
      where
        by_test : (l : ℕ) (x : LinkValue) → slice_get links l ≡ Some x → (b : Bool) → AllOut a (if b then update_out own (way_out l x.iface (flooding_address x.iface)) (sent_lsa x.settings.transmit_delay lsa ∷ []) else [])
        by_test l x at true = one_out l x x.iface (flooding_address x.iface) (update (sent_lsa x.settings.transmit_delay lsa ∷ [])) at refl (said_update _)
        by_test l x at false = none_out

    pub turns_out : AllOut a (flat_from (turn_requests_on own) 0 links)
    turns_out = links_out (turn_requests_on own) links (λ l x at. each_out (asks l x) x.neighbours (λ n. by_test l x n at (request_due (after_event event.LoadingDone 0 n))))
      where
        asks : ℕ → LinkValue → NeighbourValue → List SentValue
        asks l x n =
            if request_due (after_event event.LoadingDone 0 n)
            then datagrams (way_out l x.iface (to_address x.iface (after_event event.LoadingDone 0 n).address)) (packet_from own (request_body (asked_next x.settings.mtu own.tick (after_event event.LoadingDone 0 n))))
            else []

        by_test : (l : ℕ) (x : LinkValue) (n : NeighbourValue) → slice_get links l ≡ Some x → (b : Bool)
            → AllOut a (if b then datagrams (way_out l x.iface (to_address x.iface (after_event event.LoadingDone 0 n).address)) (packet_from own (request_body (asked_next x.settings.mtu own.tick (after_event event.LoadingDone 0 n)))) else [])
        by_test l x n at true = one_out l x x.iface (to_address x.iface (after_event event.LoadingDone 0 n).address) (request_body (asked_next x.settings.mtu own.tick (after_event event.LoadingDone 0 n))) at refl (said_request _)
        by_test l x n at false = none_out

    pub acknowledged_out : (l : ℕ) (x : LinkValue) (to : Addr) (hs : List LsaHeader) → slice_get links l ≡ Some x → AllOut a (acks_out own (way_out l x.iface to) x.settings.mtu hs)
    acknowledged_out l x to hs at = each_out (ack_out own (way_out l x.iface to)) (packets (ack_room x.settings.mtu) (in_order hs)) (λ chunk. one_out l x x.iface to (acknowledgment chunk) at refl (said_acknowledgment chunk))

    pub first_out : (f : PacketSource) (number : ℕ) (o : Option LinkValue) → slice_get links f.link ≡ o → AllOut a (first_dd_on own f number o)
    first_out f number None at = none_out
    first_out f number (Some x) at =
        let unknown : NeighbourValue = new_neighbour f.router f.address in
        let n : NeighbourValue = record unknown { exchanging = record unknown.exchanging { flags = first_flags; number = number } } in
        one_out f.link x x.iface (to_address x.iface f.address) (dd_packet x.iface x.settings.mtu n).body at refl (said_description x.iface n)

    pub hellos_out : (l : ℕ) (x : LinkValue) → slice_get links l ≡ Some x → AllOut a (hello_out own l x)
    hellos_out l x at =
        posted_out l x (hello_ticked x.iface) (packet_if (not (is_down x.iface.state) && nat_le x.iface.hello_in 1) (hello_packet x.iface x.neighbours)) at (by_state (is_down x.iface.state))
        (if_of x.iface x.settings own (not (is_down x.iface.state) && nat_le x.iface.hello_in 1) (hello_packet x.iface x.neighbours) (said_hello x.iface _ refl))
      where
        by_state : (b : Bool) → (if b then x.iface else record x.iface { hello_in = (if nat_le x.iface.hello_in 1 then x.iface.settings.hello else x.iface.hello_in - 1) }).settings ≡ x.iface.settings
        by_state true = refl
        by_state false = refl

    pub repeated_out : (db : List Held) (l : ℕ) (x : LinkValue) → slice_get links l ≡ Some x → AllOut a (link_repeats_out own db l x)
    repeated_out db l x at = each_out (repeats_to own l x.iface x.settings db) x.neighbours (λ n. posted_out l x x.iface (repeats_for own x.iface x.settings db n).sent at refl (repeats_of x.iface x.settings own db n))
