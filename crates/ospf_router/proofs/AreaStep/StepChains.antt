-- That a tick, an event and the end of a step are the chains of their parts.
use Rattle.std.proofs.Common.{◌≡◌, ◌++◌, List, ◌∷◌, refl, subst, length, ℕ, Bool, true, false, Some, sym, ap, slice_get, ◌∙◌, []}
use Rattle.ospf_base.specs.declared.ids.LsaKey.{LsaKey}
use Rattle.ospf_lsdb.specs.Database.{IsDatabase}
use Rattle.ospf_area.specs.Outputs.{AreReadAsSent, OutputsValue}
use Rattle.ospf_area.specs.Sending.{and_sends, context_of}
use Rattle.ospf_area.specs.State.{AreaValue}
use Rattle.ospf_router.specs.AreaStep.Begins.{BeginsChain, BeginsWork, IsArrival}
use Rattle.ospf_router.specs.AreaStep.Puts.{PutsOut, headers_met}
use Rattle.ospf_router.specs.AreaStep.Step.{Chain, Event, IsPart, Part, first_parts, parts_of_packet, last_parts}
use Rattle.ospf_router.proofs.AreaStep.StateFacts.{parts_of_datagram}
use Rattle.ospf_router.specs.AreaStep.Step.Part.{Acknowledgements, Ages, Hellos, Repeats, Timers, DdComes, HelloComes, LinkChanges, RequestComes}
use Rattle.ospf_router.proofs.AreaStep.Accountable.{AreRead-left}
use Rattle.ospf_router.proofs.AreaStep.Chains.{puts_more, update_puts, puts_none}
use Rattle.ospf_router.proofs.AreaStep.PutParts.{acknowledgements_put, ages_put, headers_put, removals_put}
use Rattle.ospf_router.specs.AreaStep.Invariants.{AreRising, NoneWaitsBelow}
use Rattle.ospf_router.specs.AreaStep.Ticks.{TakesTick}
use Rattle.ospf_router.proofs.AreaStep.Works.{acknowledged_is}
use Rattle.ospf_router.proofs.AreaStep.Parts.{due_hellos_put, timers_put, down_puts, hello_puts, up_puts}
use Rattle.ospf_router.proofs.AreaStep.Turns.{repeats_put, description_told, request_puts}
use Rattle.ospf_base.specs.declared.ids.Addr.{Addr}
use Rattle.ospf_base.specs.declared.ids.RouterId.{RouterId}
use Rattle.ospf_lsa.specs.declared.header.LsaHeader.{LsaHeader}
use Rattle.ospf_packet.specs.Meaning.{BodyMeaning, Meaning, hello, description, request, update, acknowledgment}
use Rattle.ospf_packet.specs.PacketOf.{packet_of}
use Rattle.ospf_packet.specs.declared.body.Description.{Description}
use Rattle.ospf_packet.specs.declared.body.Hello.{Hello}
use Rattle.ospf_packet.specs.declared.entry.RequestEntry.{RequestEntry}
use Rattle.ospf_area.specs.Updates.Updates.{TakesUpdate}
use Rattle.ospf_router.specs.AreaStep.Packets.{dd_headers_of}
use Rattle.ospf_adjacency.specs.LinkSteps.Parts.{description_part, hello_part, link_down, link_up, request_part}
use Rattle.ospf_adjacency.specs.LinkSteps.Works.{WorksOn, link_changed, up_out_on}
use Rattle.ospf_router.specs.AreaStep.Takes.{source_of}
use Rattle.ospf_area.proofs.Updates.Words.{Removes}
use Rattle.ospf_adjacency.specs.LinkSteps.Elections.{ElectsFrom}
use Rattle.ospf_originate.specs.Steps.{OwnLsas}
use Rattle.ospf_router.proofs.AreaStep.Elections.{elects_database, elects_put}
use Rattle.ospf_router.proofs.AreaStep.OwnParts.{own_put}

-- A tick is the chain of its parts.
-- what is read in the end was read before a part
pub read_before : (R : OutputsValue → Type 0) (out out' : OutputsValue) → PutsOut R out out' → AreReadAsSent out'.sent → AreReadAsSent out.sent
read_before R out out' p read = AreRead-left out p.own (subst (λ o. AreReadAsSent o.sent) p.behind read)

pub tick_puts : (rest : List Part) (s t u : AreaValue) (out mid_out out' : OutputsValue) (is : TakesTick s out mid_out t) → IsDatabase is.aged.database → AreRising is.aged.links → AreRising is.acknowledged.links → AreReadAsSent out'.sent
    → PutsOut (λ o. Chain rest t o u) mid_out out' → PutsOut (λ o. Chain (first_parts Event.Tick ++ rest) s o u) out out'
tick_puts rest s t u out mid_out out' is db aged_rise ticked_rise read next =
    let aged = is.aged in
    let timed = is.timed in
    let helloed = is.helloed in
    let ticked = is.acknowledged in
    let aged_out = is.aged_out in
    let helloed_out = is.helloed_out in
    let ticked_out = is.acknowledged_out in
    let ticked_db : IsDatabase ticked.database = subst IsDatabase (sym (ap (λ (x : AreaValue). x.database) (acknowledged_is s out mid_out t is))) db in
    let repeats : PutsOut (λ o. IsPart Repeats ticked o t) ticked_out mid_out =
    repeats_put ticked t _ ticked_out mid_out ticked_db ticked_rise (read_before (λ o. Chain rest t o u) mid_out out' next read) is.repeats in
    let from_repeats = puts_more Repeats rest ticked t u ticked_out mid_out out' repeats next in
    let read_ticked = read_before (λ o. Chain (Repeats ∷ rest) ticked o u) ticked_out out' from_repeats read in
    let acknowledgements : PutsOut (λ o. IsPart Acknowledgements helloed o ticked) helloed_out ticked_out =
    acknowledgements_put helloed ticked helloed_out ticked_out read_ticked is.acknowledgements in
    let from_acknowledgements = puts_more Acknowledgements (Repeats ∷ rest) helloed ticked u helloed_out ticked_out out' acknowledgements from_repeats in
    let read_helloed = read_before (λ o. Chain (Acknowledgements ∷ Repeats ∷ rest) helloed o u) helloed_out out' from_acknowledgements read in
    let hellos : PutsOut (λ o. IsPart Hellos timed o helloed) aged_out helloed_out = due_hellos_put timed helloed aged_out helloed_out read_helloed is.hellos in
    let from_hellos = puts_more Hellos (Acknowledgements ∷ Repeats ∷ rest) timed helloed u aged_out helloed_out out' hellos from_acknowledgements in
    let read_aged = read_before (λ o. Chain (Hellos ∷ Acknowledgements ∷ Repeats ∷ rest) timed o u) aged_out out' from_hellos read in
    let timers : PutsOut (λ o. IsPart Timers aged o timed) aged_out aged_out = timers_put aged timed aged_out aged_rise is.timers in
    let from_timers = puts_more Timers (Hellos ∷ Acknowledgements ∷ Repeats ∷ rest) aged timed u aged_out aged_out out' timers from_hellos in
    puts_more Ages (Timers ∷ Hellos ∷ Acknowledgements ∷ Repeats ∷ rest) s aged u out aged_out out' (ages_put s aged out aged_out db read_aged is.ages) from_timers

-- What an event brings is the chain of its parts, in front of what follows.
-- ---- datagrams

module _ (link : ℕ) (source destination : Addr) (bytes : List ℕ) (p : Meaning) (at : packet_of bytes ≡ Some p) (rest : List Part) (s t u : AreaValue) (out mid_out out' : OutputsValue) where
  -- the parts of a packet that says this are those of the datagram
  of_packet : (body : BodyMeaning) → p.body ≡ body → PutsOut (λ o. Chain (parts_of_packet (source_of link source p) p body ++ rest) s o u) out out' → PutsOut (λ o. Chain (first_parts (Event.Datagram link source destination bytes) ++ rest) s o u) out out'
  of_packet body says puts =
      let is : first_parts (Event.Datagram link source destination bytes) ≡ parts_of_packet (source_of link source p) p body = ap (parts_of_datagram link source) at ∙ ap (parts_of_packet (source_of link source p) p) says in
      subst (λ parts. PutsOut (λ o. Chain (parts ++ rest) s o u) out out') (sym is) puts

  module _ (read : AreReadAsSent out'.sent) (next : PutsOut (λ o. Chain rest t o u) mid_out out') where
    read_mid : AreReadAsSent mid_out.sent
    read_mid = read_before (λ o. Chain rest t o u) mid_out out' next read

    pub hello_chain : (h : Hello) (heard : List RouterId) (named : Bool) → p.body ≡ hello h heard → WorksOn (hello_part (context_of s) (source_of link source p) h named s.next_dd) link s out mid_out t → PutsOut (λ o. Chain (first_parts (Event.Datagram link source destination bytes) ++ rest) s o u) out out'
    hello_chain h heard named says works =
        of_packet (hello h heard) says (puts_more (HelloComes (source_of link source p) p) rest s t u out mid_out out' (hello_puts (source_of link source p) h named s t out mid_out read_mid works) next)

    pub description_chain : (d : Description) (headers : List LsaHeader) → IsDatabase s.database → NoneWaitsBelow s link p.router → p.body ≡ description d headers → WorksOn (description_part (context_of s) (source_of link source p) d headers s.database s.next_dd) link s out mid_out t → PutsOut (λ o. Chain (first_parts (Event.Datagram link source destination bytes) ++ rest) s o u) out out'
    description_chain d headers is below says works =
        of_packet (description d headers) says
        (puts_more (DdComes (source_of link source p) p) rest s t u out mid_out out' (description_told (source_of link source p) p d headers s t out mid_out is below refl (sym (ap dd_headers_of says)) read_mid works) next)

    pub request_chain : (entries : List RequestEntry) (marks : List LsaKey) → IsDatabase s.database → p.body ≡ request entries → WorksOn (request_part (context_of s) (source_of link source p) s.database entries s.next_dd) link (record s { sent = marks }) out mid_out t → PutsOut (λ o. Chain (first_parts (Event.Datagram link source destination bytes) ++ rest) s o u) out out'
    request_chain entries marks is says works =
        of_packet (request entries) says (puts_more (RequestComes (source_of link source p) p) rest s t u out mid_out out' (request_puts (source_of link source p) entries marks s t out mid_out is read_mid works) next)

    pub update_chain : (lsas : List (List ℕ)) → p.body ≡ update lsas → TakesUpdate (source_of link source p) lsas s out mid_out t → PutsOut (λ o. Chain (first_parts (Event.Datagram link source destination bytes) ++ rest) s o u) out out'
    update_chain lsas says takes = of_packet (update lsas) says (update_puts (source_of link source p) lsas rest s t u out mid_out out' read takes next)

    pub acknowledgment_chain : (headers : List LsaHeader) → p.body ≡ acknowledgment headers → t ≡ headers_met (source_of link source p) headers s → mid_out ≡ out → PutsOut (λ o. Chain (first_parts (Event.Datagram link source destination bytes) ++ rest) s o u) out out'
    acknowledgment_chain headers says state same =
        of_packet (acknowledgment headers) says (headers_put (source_of link source p) headers rest s t u out out' state (subst (λ o. PutsOut (λ x. Chain rest t x u) o out') same next))

-- ---- what comes in on a link

module _ (e : Event) (link : ℕ) (source : Addr) (p : Meaning) (is : IsArrival e link source p) where
  -- of the datagram that it is
  as_datagram : (s : AreaValue) (out : OutputsValue) (t : AreaValue) (mid_out : OutputsValue)
      → BeginsChain (Event.Datagram link source is.0 is.1) s out t mid_out → BeginsChain e s out t mid_out
  as_datagram s out t mid_out begins = subst (λ (x : Event). BeginsChain x s out t mid_out) (sym is.2) begins

  pub arrival_hello : (h : Hello) (heard : List RouterId) (named : Bool) → p.body ≡ hello h heard → (s : AreaValue) (out : OutputsValue)
      → BeginsWork e (hello_part (context_of s) (source_of link source p) h named s.next_dd) link s out
  arrival_hello h heard named says s out t mid_out works =
      as_datagram s out t mid_out (λ rest u out' read next. hello_chain link source is.0 is.1 p is.3 rest s t u out mid_out out' read next h heard named says works)

  pub arrival_description : (d : Description) (headers : List LsaHeader) → p.body ≡ description d headers → (s : AreaValue) (out : OutputsValue)
      → IsDatabase s.database → NoneWaitsBelow s link p.router
      → BeginsWork e (description_part (context_of s) (source_of link source p) d headers s.database s.next_dd) link s out
  arrival_description d headers says s out db below t mid_out works =
      as_datagram s out t mid_out (λ rest u out' read next. description_chain link source is.0 is.1 p is.3 rest s t u out mid_out out' read next d headers db below says works)

  pub arrival_request : (entries : List RequestEntry) (marks : List LsaKey) → p.body ≡ request entries → (s : AreaValue) (out : OutputsValue) → IsDatabase s.database
      → let part = request_part (context_of s) (source_of link source p) s.database entries s.next_dd in
      (t : AreaValue) (mid_out : OutputsValue) → WorksOn part link (record s { sent = marks }) out mid_out t → BeginsChain e s out t mid_out
  arrival_request entries marks says s out db t mid_out works =
      as_datagram s out t mid_out (λ rest u out' read next. request_chain link source is.0 is.1 p is.3 rest s t u out mid_out out' read next entries marks db says works)

  pub arrival_update : (lsas : List (List ℕ)) → p.body ≡ update lsas → (s t : AreaValue) (out mid_out : OutputsValue) → TakesUpdate (source_of link source p) lsas s out mid_out t
      → BeginsChain e s out t mid_out
  arrival_update lsas says s t out mid_out takes =
      as_datagram s out t mid_out (λ rest u out' read next. update_chain link source is.0 is.1 p is.3 rest s t u out mid_out out' read next lsas says takes)

  pub arrival_acknowledgment : (headers : List LsaHeader) → p.body ≡ acknowledgment headers → (s : AreaValue) (out : OutputsValue)
      → BeginsChain e s out (headers_met (source_of link source p) headers s) out
  arrival_acknowledgment headers says s out =
      as_datagram s out _ out (λ rest u out' read next. acknowledgment_chain link source is.0 is.1 p is.3 rest s _ u out out out' read next headers says refl refl)

-- ---- links that go up and down

module _ (l : ℕ) (rest : List Part) (s t u : AreaValue) (out mid_out out' : OutputsValue) (next : PutsOut (λ o. Chain rest t o u) mid_out out') where
  pub up_chain : AreReadAsSent out'.sent → t ≡ link_changed link_up l s → mid_out ≡ and_sends out (up_out_on (slice_get s.links l) (context_of s) l) → PutsOut (λ o. Chain (first_parts (Event.LinkUp l) ++ rest) s o u) out out'
  up_chain read state outputs = puts_more (LinkChanges l true) rest s t u out mid_out out' (up_puts l s t out mid_out (read_before (λ o. Chain rest t o u) mid_out out' next read) state outputs) next

  pub down_chain : t ≡ link_changed link_down l s → mid_out ≡ out → PutsOut (λ o. Chain (first_parts (Event.LinkDown l) ++ rest) s o u) out out'
  down_chain state same = puts_more (LinkChanges l false) rest s t u out out out' (down_puts l s t out state) (subst (λ o. PutsOut (λ x. Chain rest t x u) o out') same next)

-- The end of a step is the chain of its last parts.
pub ends_put : (s t u v : AreaValue) (out out1 out2 out' : OutputsValue) → IsDatabase s.database → IsDatabase u.database → AreReadAsSent out'.sent → ElectsFrom (length s.links) s out out1 t → OwnLsas t out1 out2 u → Removes u out2 out' v → PutsOut (λ o. Chain last_parts s o v) out out'
ends_put s t u v out out1 out2 out' is_s is_u read elects own r =
    let removals = removals_put u v out2 out' is_u r in
    let read2 = read_before (λ o. IsPart Part.Removals u o v) out2 out' removals read in
    let is_t : IsDatabase t.database = subst IsDatabase (sym (elects_database s t out out1 elects)) is_s in
    let owns = own_put t u out1 out2 is_t read2 own in
    let read1 = read_before (λ o. IsPart Part.OwnLsas t o u) out1 out2 owns read2 in
    puts_more Part.Elections (Part.OwnLsas ∷ Part.Removals ∷ []) s t v out out1 out' (elects_put s t out out1 read1 elects)
    (puts_more Part.OwnLsas (Part.Removals ∷ []) t u v out1 out2 out' owns
    (puts_more Part.Removals [] u v v out2 out' out' removals (puts_none v v out' out' refl refl)))
