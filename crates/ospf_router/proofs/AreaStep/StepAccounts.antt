-- A step accounts for all, and keeps what holds of each state.
use Rattle.std.proofs.Common.{◌≡◌, ◌++◌, ℕ, zero, suc, Bool, true, false, List, [], ◌∷◌, map, Option, None, Some, refl, sym, ap, subst, arith, ◌∙◌}
use Rattle.std.specs.Prelude.{⊤}
use Rattle.std.specs.List.{Contains}
use Rattle.std.specs.Option.{option_map}
use Rattle.ospf_base.specs.declared.ids.Addr.{Addr}
use Rattle.ospf_lsa.specs.declared.header.LsaHeader.{LsaHeader}
use Rattle.ospf_packet.specs.Meaning.{BodyMeaning, hello, description, request, update, acknowledgment, Meaning}
use Rattle.ospf_packet.specs.PacketOf.{packet_of}
use Rattle.ospf_area.specs.Outputs.{OutputsValue, then_outputs, AreReadAsSent}
use Rattle.ospf_area.specs.State.{AreaValue}
use Rattle.ospf_area.specs.declared.flooding.PacketSource.{PacketSource}
use Rattle.ospf_router.specs.AreaStep.Accounts.{Accounts, NoneEntersExchange}
use Rattle.ospf_router.specs.AreaStep.Neighbours.{Quiet}
use Rattle.ospf_router.specs.AreaStep.Packets.{Received, lsas_of, acknowledging_headers_of}
use Rattle.ospf_router.specs.AreaStep.Parts.{AgesPart, IssuePart, ExpiryPart}
use Rattle.ospf_router.specs.AreaStep.Step.{Event, Part, Then, Times, AndRequests, OwnStep, ExpiryStep, IsPart, Chain, lsa_parts, first_parts, last_parts, parts_of_packet, heard_in, StepLaws}
use Rattle.ospf_router.proofs.AreaStep.StateFacts.{parts_of_datagram, AnswersAll}
use Rattle.ospf_router.specs.AreaStep.Step.Part.{HelloComes, DdComes, RequestComes, LsaComes, HeaderComes, DirectAcknowledgements, LinkChanges, Ages, Timers, Hellos, Acknowledgements, Repeats, Requests, Elections, OwnLsas, Removals}
use Rattle.ospf_router.specs.AreaStep.Words.{IsSoundState}
use Rattle.ospf_router.proofs.AreaStep.Accountable.{IsAccountable, Adjusts-accountable, Unchanged-accountable, both-accountable, then_nothing, AreRead-left, AreRead-right}
use Rattle.ospf_router.proofs.AreaStep.Compose.{Accounts-then}
use Rattle.ospf_router.proofs.AreaStep.MeetAccounts.{LsaPart-accountable, HeaderPart-accountable}
use Rattle.ospf_router.proofs.AreaStep.NeighbourAccounts.{NeighboursGo-adjusts, copy_back}
use Rattle.ospf_router.proofs.AreaStep.PartAccounts.{DirectPart-accountable, IssuePart-accountable, ExpiryPart-accountable, AgesPart-accountable, AnswersAll-accountable, RemovalPart-adjusts}
use Rattle.ospf_router.proofs.AreaStep.QuietAccounts.{Adjusts-accounts, Adjusts-sound, Adjusts-with_packet, Unchanged-adjusts, Adjusts}

Then-accountable : (heard : Option Received) (before : AreaValue) (First : OutputsValue → AreaValue → Type 0) (Next : AreaValue → OutputsValue → AreaValue → Type 0) (out : OutputsValue) (after : AreaValue) → IsSoundState before → AreReadAsSent out.sent → ((o : OutputsValue) (mid : AreaValue) → AreReadAsSent o.sent → First o mid → IsAccountable heard before o mid) → ((mid : AreaValue) (o : OutputsValue) (after : AreaValue) → IsSoundState mid → AreReadAsSent o.sent → Next mid o after → IsAccountable heard mid o after) → Then First Next out after → IsAccountable heard before out after
Then-accountable heard before First Next out after sound read first next t =
    subst (λ o. IsAccountable heard before o after) (sym t.both) (both-accountable heard before t.mid after t.first_out t.next_out one two)
  where
    all_read : AreReadAsSent (then_outputs t.first_out t.next_out).sent
    all_read = subst (λ o. AreReadAsSent o.sent) t.both read

    one : IsAccountable heard before t.first_out t.mid
    one = first t.first_out t.mid (AreRead-left t.first_out t.next_out all_read) t.first

    two : IsAccountable heard t.mid t.next_out after
    two = next t.mid t.next_out after (one.sound sound) (AreRead-right t.first_out t.next_out all_read) t.next

Times-accountable : (heard : Option Received) (n : ℕ) (R : AreaValue → OutputsValue → AreaValue → Type 0) → ((before : AreaValue) (out : OutputsValue) (after : AreaValue) → IsSoundState before → AreReadAsSent out.sent → R before out after → IsAccountable heard before out after) → (before : AreaValue) (out : OutputsValue) (after : AreaValue) → IsSoundState before → AreReadAsSent out.sent → Times n R before out after → IsAccountable heard before out after
Times-accountable heard zero R each before out after sound read u = Unchanged-accountable heard before out after u
Times-accountable heard (suc n) R each before out after sound read t =
    Then-accountable heard before (R before) (Times n R) out after sound read (λ o mid r x. each before o mid sound r x) (Times-accountable heard n R each) t

Quiet-accountable : (heard : Option Received) (before : AreaValue) (out : OutputsValue) (after : AreaValue) → Quiet before out after → IsAccountable heard before out after
Quiet-accountable heard before out after q =
    Adjusts-accountable heard before out after (Adjusts-with_packet heard before out after (copy_back None before out after q.neighbours) (NeighboursGo-adjusts None before out after q.neighbours)) q.none_enters q.neighbours.ended

AndRequests-accountable : (heard : Option Received) (R : AreaValue → OutputsValue → AreaValue → Type 0) (before : AreaValue) (out : OutputsValue) (after : AreaValue) → IsSoundState before → AreReadAsSent out.sent → ((o : OutputsValue) (mid : AreaValue) → AreReadAsSent o.sent → R before o mid → IsAccountable heard before o mid) → AndRequests R before out after → IsAccountable heard before out after
AndRequests-accountable heard R before out after sound read each t =
    Then-accountable heard before (R before) Quiet out after sound read each (λ mid o after s r q. Quiet-accountable heard mid o after q) t

OwnStep-accountable : (heard : Option Received) (before : AreaValue) (out : OutputsValue) (after : AreaValue) → IsSoundState before → AreReadAsSent out.sent → OwnStep before out after → IsAccountable heard before out after
OwnStep-accountable heard before out after sound read (OwnStep.Issue lsa i) = AndRequests-accountable heard (IssuePart lsa) before out after sound read (λ o mid r x. IssuePart-accountable heard lsa before o mid sound r x) i
OwnStep-accountable heard before out after sound read (OwnStep.Flush key copy x) = AndRequests-accountable heard (ExpiryPart key copy) before out after sound read (λ o mid r x. ExpiryPart-accountable heard key copy before o mid sound r x) x

ExpiryStep-accountable : (heard : Option Received) (before : AreaValue) (out : OutputsValue) (after : AreaValue) → IsSoundState before → AreReadAsSent out.sent → ExpiryStep before out after → IsAccountable heard before out after
ExpiryStep-accountable heard before out after sound read x = AndRequests-accountable heard (ExpiryPart x.key x.copy) before out after sound read (λ o mid r y. ExpiryPart-accountable heard x.key x.copy before o mid sound r y) x.expires

-- the parts that stand between the first DD packet and the removals, with what they are of
abbrev Between : Option Received → Part → Type 0
Between heard (LsaComes f lsa) = (p : Meaning) × (heard ≡ Some (record { link = f.link; packet = p })) × (p.router ≡ f.router) × Contains (lsas_of p.body) lsa
Between heard (HeaderComes f h) = (p : Meaning) × (heard ≡ Some (record { link = f.link; packet = p })) × (p.router ≡ f.router) × Contains (acknowledging_headers_of p.body) h
Between heard (DdComes f p) = ⊥
Between heard Removals = ⊥
Between heard (HelloComes f p) = ⊤
Between heard (RequestComes f p) = ⊤
Between heard (DirectAcknowledgements f) = ⊤
Between heard (LinkChanges link up) = ⊤
Between heard Ages = heard ≡ None
Between heard Timers = ⊤
Between heard Hellos = ⊤
Between heard Acknowledgements = ⊤
Between heard Repeats = ⊤
Between heard Requests = ⊤
Between heard Elections = ⊤
Between heard OwnLsas = ⊤

part-accountable : (heard : Option Received) (part : Part) (before : AreaValue) (out : OutputsValue) (after : AreaValue) → IsSoundState before → AreReadAsSent out.sent → Between heard part → IsPart part before out after → IsAccountable heard before out after
part-accountable heard (LsaComes f lsa) before out after sound read (p, h, from, c) is = LsaPart-accountable heard p f lsa before out after sound h from c read is
part-accountable heard (HeaderComes f x) before out after sound read (p, h, from, c) is = HeaderPart-accountable heard p f x before out after sound h from c is
part-accountable heard (DdComes f p) before out after sound read b is = absurd b
part-accountable heard Removals before out after sound read b is = absurd b
part-accountable heard (HelloComes f p) before out after sound read b is = Quiet-accountable heard before out after is
part-accountable heard (RequestComes f p) before out after sound read b is = Quiet-accountable heard before out after is
part-accountable heard (DirectAcknowledgements f) before out after sound read b is = DirectPart-accountable heard f before out after read is
part-accountable heard (LinkChanges link up) before out after sound read b is = Quiet-accountable heard before out after is
part-accountable heard Ages before out after sound read silent (n, t) =
    Then-accountable heard before (AgesPart before) (Times n ExpiryStep) out after sound read (λ o mid r a. AgesPart-accountable heard before o mid silent a) (Times-accountable heard n ExpiryStep (ExpiryStep-accountable heard)) t
part-accountable heard Timers before out after sound read b is = Quiet-accountable heard before out after is
part-accountable heard Hellos before out after sound read b is = Quiet-accountable heard before out after is
part-accountable heard Acknowledgements before out after sound read b is = Quiet-accountable heard before out after is
part-accountable heard Repeats before out after sound read b is = Quiet-accountable heard before out after is
part-accountable heard Requests before out after sound read b is = Quiet-accountable heard before out after is
part-accountable heard Elections before out after sound read b is = Quiet-accountable heard before out after is
part-accountable heard OwnLsas before out after sound read b (n, t) =
    Then-accountable heard before (Times n OwnStep before) AnswersAll out after sound read (λ o mid r x. Times-accountable heard n OwnStep (OwnStep-accountable heard) before o mid sound r x) (λ mid o after s r a. AnswersAll-accountable heard mid o after a) t

-- a chain that ends with the removals, which may end runs
record EndsWell (heard : Option Received) (before : AreaValue) (out : OutputsValue) (after : AreaValue) : Type 0 where
  accounts : Accounts heard before out after
  sound : IsSoundState after
  none_enters : NoneEntersExchange before after

removals_end : (heard : Option Received) (before : AreaValue) (out : OutputsValue) (after : AreaValue) → IsSoundState before → Chain (Removals ∷ []) before out after → EndsWell heard before out after
removals_end heard before out after sound t =
    subst (λ s. EndsWell heard before out s) (sym t.next.state)
    (subst (λ o. EndsWell heard before o t.mid) (sym same) (record {
      accounts = Adjusts-accounts heard before t.first_out t.mid gone.0;
      sound = Adjusts-sound heard before t.first_out t.mid gone.0 sound;
      none_enters = gone.1;
    }))
  where
    gone : Adjusts heard before t.first_out t.mid × NoneEntersExchange before t.mid
    gone = RemovalPart-adjusts heard before t.first_out t.mid t.first

    same : out ≡ t.first_out
    same = t.both ∙ (ap (λ o. then_outputs t.first_out o) t.next.outputs ∙ then_nothing t.first_out)

one_more : (heard : Option Received) (part : Part) (parts : List Part) (before : AreaValue) (out : OutputsValue) (after : AreaValue) → IsSoundState before → AreReadAsSent out.sent → Between heard part → ((mid : AreaValue) (o : OutputsValue) → IsSoundState mid → AreReadAsSent o.sent → Chain parts mid o after → EndsWell heard mid o after) → Chain (part ∷ parts) before out after → EndsWell heard before out after
one_more heard part parts before out after sound read b rest t = record {
  accounts = subst (λ out. Accounts heard before out after) (sym t.both) (Accounts-then heard before t.mid after t.first_out t.next_out (one.accounts sound) two.accounts two.none_enters one.none_ended);
  sound = two.sound;
  none_enters = λ l q up. one.none_enters l q (two.none_enters l q up);
}
  where
    all_read : AreReadAsSent (then_outputs t.first_out t.next_out).sent
    all_read = subst (λ o. AreReadAsSent o.sent) t.both read

    one : IsAccountable heard before t.first_out t.mid
    one = part-accountable heard part before t.first_out t.mid sound (AreRead-left t.first_out t.next_out all_read) b t.first

    two : EndsWell heard t.mid t.next_out after
    two = rest t.mid t.next_out (one.sound sound) (AreRead-right t.first_out t.next_out all_read) t.next

last_end : (heard : Option Received) (before : AreaValue) (out : OutputsValue) (after : AreaValue) → IsSoundState before → AreReadAsSent out.sent → Chain last_parts before out after → EndsWell heard before out after
last_end heard before out after sound read t =
    one_more heard Elections (OwnLsas ∷ Removals ∷ []) before out after sound read tt (λ s o sound read.
    one_more heard OwnLsas (Removals ∷ []) s o after sound read tt (λ s o sound read. removals_end heard s o after sound)) t

abbrev AllBetween : Option Received → List Part → Type 0
AllBetween heard [] = ⊤
AllBetween heard (part ∷ parts) = Between heard part × AllBetween heard parts

chain_ends : (heard : Option Received) (parts : List Part) (before : AreaValue) (out : OutputsValue) (after : AreaValue) → IsSoundState before → AreReadAsSent out.sent → AllBetween heard parts → Chain (parts ++ last_parts) before out after → EndsWell heard before out after
chain_ends heard [] before out after sound read b t = last_end heard before out after sound read t
chain_ends heard (part ∷ parts) before out after sound read (b, bs) t = one_more heard part (parts ++ last_parts) before out after sound read b (λ mid o sound read rest. chain_ends heard parts mid o after sound read bs rest) t

between_lsas : (heard : Option Received) (f : PacketSource) (p : Meaning) (lsas : List (List ℕ)) → heard ≡ Some (record { link = f.link; packet = p }) → p.router ≡ f.router → ((lsa : List ℕ) → Contains lsas lsa → Contains (lsas_of p.body) lsa) → AllBetween heard (lsa_parts f lsas ++ DirectAcknowledgements f ∷ [])
between_lsas heard f p [] h from within = (tt, tt)
between_lsas heard f p (lsa ∷ lsas) h from within = ((p, h, from, within lsa (0, omega arith, refl)), (tt, between_lsas heard f p lsas h from (λ x c. let (k, inside, is) = c in within x (suc k, omega arith, is))))

between_headers : (heard : Option Received) (f : PacketSource) (p : Meaning) (hs : List LsaHeader) → heard ≡ Some (record { link = f.link; packet = p }) → p.router ≡ f.router → ((h : LsaHeader) → Contains hs h → Contains (acknowledging_headers_of p.body) h) → AllBetween heard (map (λ h. HeaderComes f h) hs)
between_headers heard f p [] h from within = tt
between_headers heard f p (x ∷ xs) h from within = ((p, h, from, within x (0, omega arith, refl)), between_headers heard f p xs h from (λ y c. let (k, inside, is) = c in within y (suc k, omega arith, is)))

-- what a whole step answers for
pub record IsAnswered (heard : Option Received) (before : AreaValue) (out : OutputsValue) (after : AreaValue) : Type 0 where
  pub accounts : Accounts heard before out after
  pub sound : IsSoundState after

answered : (heard : Option Received) (before : AreaValue) (out : OutputsValue) (after : AreaValue) → EndsWell heard before out after → IsAnswered heard before out after
answered heard before out after e = record { accounts = e.accounts; sound = e.sound }

packet_ends : (heard : Option Received) (f : PacketSource) (p : Meaning) (before : AreaValue) (out : OutputsValue) (after : AreaValue) → IsSoundState before → AreReadAsSent out.sent → heard ≡ Some (record { link = f.link; packet = p }) → p.router ≡ f.router → (b : BodyMeaning) → p.body ≡ b → Chain (parts_of_packet f p b ++ last_parts) before out after → IsAnswered heard before out after
packet_ends heard f p before out after sound read h from (hello fields neighbours) is t = answered heard before out after (chain_ends heard (HelloComes f p ∷ []) before out after sound read (tt, tt) t)
packet_ends heard f p before out after sound read h from (description fields headers) is t = record {
  accounts = subst (λ out. Accounts heard before out after) (sym t.both) (Accounts-then heard before t.mid after t.first_out t.next_out (Adjusts-accounts heard before t.first_out t.mid first) rest.accounts rest.none_enters t.first.ended);
  sound = rest.sound;
}
  where
    first : Adjusts heard before t.first_out t.mid
    first = subst (λ heard. Adjusts heard before t.first_out t.mid) (sym h) (NeighboursGo-adjusts (Some (record { link = f.link; packet = p })) before t.first_out t.mid t.first)

    rest : EndsWell heard t.mid t.next_out after
    rest = last_end heard t.mid t.next_out after (Adjusts-sound heard before t.first_out t.mid first sound) (AreRead-right t.first_out t.next_out (subst (λ o. AreReadAsSent o.sent) t.both read)) t.next
packet_ends heard f p before out after sound read h from (request entries) is t = answered heard before out after (chain_ends heard (RequestComes f p ∷ []) before out after sound read (tt, tt) t)
packet_ends heard f p before out after sound read h from (update lsas) is t =
    answered heard before out after (chain_ends heard (lsa_parts f lsas ++ DirectAcknowledgements f ∷ []) before out after sound read (between_lsas heard f p lsas h from (λ lsa c. subst (λ b. Contains (lsas_of b) lsa) (sym is) c)) t)
packet_ends heard f p before out after sound read h from (acknowledgment hs) is t =
    answered heard before out after (chain_ends heard (map (λ h. HeaderComes f h) hs) before out after sound read (between_headers heard f p hs h from (λ x c. subst (λ b. Contains (acknowledging_headers_of b) x) (sym is) c)) t)

pub step_answers : (is_dropped : Event → AreaValue → Bool) (event : Event) (before : AreaValue) (out : OutputsValue) (after : AreaValue) → IsSoundState before → StepLaws is_dropped event before out after → IsAnswered (heard_in event) before out after
step_answers is_dropped event before out after sound (StepLaws.Drops dropped u) = record {
  accounts = Adjusts-accounts (heard_in event) before out after (Unchanged-adjusts (heard_in event) before out after u);
  sound = Adjusts-sound (heard_in event) before out after (Unchanged-adjusts (heard_in event) before out after u) sound;
}
step_answers is_dropped event before out after sound (StepLaws.Takes taken read t) = by event t
  where
    datagram : (link : ℕ) (source : Addr) (o : Option Meaning) → Chain (parts_of_datagram link source o ++ last_parts) before out after → IsAnswered (option_map {U = Received} (λ p. record { link = link; packet = p }) o) before out after
    datagram link source None t = answered None before out after (last_end None before out after sound read t)
    datagram link source (Some p) t = packet_ends (Some (record { link = link; packet = p })) (record { link = link; router = p.router; address = source }) p before out after sound read refl refl p.body refl t

    by : (event : Event) → Chain (first_parts event ++ last_parts) before out after → IsAnswered (heard_in event) before out after
    by (Event.Datagram link source destination bytes) t = datagram link source (packet_of bytes) t
    by Event.Tick t = answered None before out after (chain_ends None (Ages ∷ Timers ∷ Hellos ∷ Acknowledgements ∷ Repeats ∷ []) before out after sound read (refl, (tt, (tt, (tt, (tt, tt))))) t)
    by (Event.LinkUp link) t = answered None before out after (chain_ends None (LinkChanges link true ∷ []) before out after sound read (tt, tt) t)
    by (Event.LinkDown link) t = answered None before out after (chain_ends None (LinkChanges link false ∷ []) before out after sound read (tt, tt) t)

pub StepLaws-accounts : (is_dropped : Event → AreaValue → Bool) (event : Event) (before : AreaValue) (out : OutputsValue) (after : AreaValue) → IsSoundState before → StepLaws is_dropped event before out after → Accounts (heard_in event) before out after
StepLaws-accounts is_dropped event before out after sound laws = (step_answers is_dropped event before out after sound laws).accounts

pub StepLaws-sound : (is_dropped : Event → AreaValue → Bool) (event : Event) (before : AreaValue) (out : OutputsValue) (after : AreaValue) → IsSoundState before → StepLaws is_dropped event before out after → IsSoundState after
StepLaws-sound is_dropped event before out after sound laws = (step_answers is_dropped event before out after sound laws).sound
