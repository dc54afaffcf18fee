-- An LSA stays in the database unless another of its key is taken or issued, or it may leave (RFC 2328, section 14).
use Rattle.std.proofs.Common.{◌≡◌, ◌++◌, ◌∷◌, ◌⊎◌, inl, inr, ℕ, zero, suc, Bool, true, false, cond, List, [], Option, None, Some, map, option_map, ◌&&◌, refl, sym, ap, subst, ◌∙◌, arith}
use Rattle.std.specs.Prelude.{not}
use Rattle.std.specs.List.{Contains}
use Rattle.std.proofs.lemmas.Bool.{false≢true}
use Rattle.std.proofs.lemmas.List.Elements.{Contains-append_left, Contains-append_right}
use Rattle.std.proofs.lemmas.Option.{none-some, same_Some}
use Rattle.ospf_base.proofs.SameKeys.{same_key-eq}
use Rattle.ospf_base.specs.Keys.{same_key}
use Rattle.ospf_base.specs.declared.ids.Addr.{Addr}
use Rattle.ospf_packet.specs.Meaning.{BodyMeaning, Meaning, hello, description, request, update, acknowledgment}
use Rattle.ospf_packet.specs.PacketOf.{packet_of}
use Rattle.ospf_router.specs.AreaStep.Drops.{is_dropped}
use Rattle.ospf_base.specs.Sums.{contents}
use Rattle.ospf_base.specs.declared.ids.Instance.{Instance}
use Rattle.ospf_base.specs.declared.ids.LsaKey.{LsaKey}
use Rattle.ospf_flood.specs.declared.acknowledgement.Acknowledgement.{Acknowledgement}
use Rattle.ospf_flood.specs.declared.acknowledgement.Acknowledgement.TheVariants as answer
use Rattle.ospf_flood.specs.declared.rule.LsaRule.{LsaRule}
use Rattle.ospf_flood.specs.declared.rule.LsaRule.TheVariants as rule
use Rattle.ospf_lsa.specs.Lsa.{instance_of, key_of}
use Rattle.ospf_lsa.specs.declared.header.LsaHeader.{LsaHeader}
use Rattle.ospf_lsdb.proofs.EntryLemmas.{key-entry_from}
use Rattle.ospf_lsdb.proofs.MapLaws.{ages, installs}
use Rattle.ospf_lsdb.specs.Database.{Entry, Held, Installs, aged, entry_from, is_fresh, key_in, lsa_of}
use Rattle.ospf_area.proofs.Updates.PassLemmas.{passed}
use Rattle.ospf_area.proofs.Updates.Words.{taken_off}
use Rattle.ospf_area.specs.Numbers.{is_self_originated}
use Rattle.ospf_area.specs.Outputs.{OutputsValue, no_outputs, then_outputs}
use Rattle.ospf_area.specs.Standing.{acknowledging}
use Rattle.ospf_area.specs.State.{AreaValue, LinkValue, database_entry, some_link_loading}
use Rattle.ospf_area.specs.Updates.Meets.{MeetsRule, heard_by, replied, rule_met}
use Rattle.ospf_area.specs.Updates.Removal.{is_leaving}
use Rattle.ospf_area.specs.declared.flooding.PacketSource.{PacketSource}
use Rattle.ospf_router.proofs.AreaStep.StateFacts.{AnswersAll, copy_of-has, parts_of_datagram}
use Rattle.ospf_router.specs.AreaStep.Parts.{AgesPart, ExpiryPart, IssuePart, LsaPart, RemovalPart, at_max_age, leaves_if}
use Rattle.ospf_router.specs.AreaStep.Step.{AndRequests, Chain, Event, ExpiryStep, IsPart, OwnStep, Part, StepLaws, Then, Times, first_parts, last_parts, lsa_parts, parts_of_packet}
use Rattle.ospf_router.specs.AreaStep.Step.Part.{HelloComes, DdComes, RequestComes, LsaComes, HeaderComes, DirectAcknowledgements, LinkChanges, Ages, Timers, Hellos, Acknowledgements, Repeats, Requests, Elections, OwnLsas, Removals}
use Rattle.ospf_router.specs.AreaStep.Words.{Brings, HasCopy}
use Rattle.ospf_router.specs.Laws.{ListingLaw}
use Rattle.ospf_router.specs.Stepped.{HasLeft, StillHolds, Stepped}
use Rattle.ospf_router.specs.Touched.{TouchesKey}

-- what is held of a key is held still, with the same contents, or the key is taken or issued
abbrev pub HoldsOn : OutputsValue → AreaValue → AreaValue → Type 0
HoldsOn out s t = (key : LsaKey) (e : Entry) → database_entry s key ≡ Some e
    → ((d : Entry) × (database_entry t key ≡ Some d) × (d.contents ≡ e.contents)) ⊎ TouchesKey out key

by_entries : (out : OutputsValue) (s t : AreaValue) → ((key : LsaKey) → database_entry t key ≡ database_entry s key) → HoldsOn out s t
by_entries out s t same key e at = inl (e, same key ∙ at, refl)

by_database : (out : OutputsValue) (s t : AreaValue) → t.database ≡ s.database → HoldsOn out s t
by_database out s t same = by_entries out s t (λ key. ap (λ db. database_entry (record s { database = db }) key) same)

by_state : (out : OutputsValue) (s t : AreaValue) → t ≡ s → HoldsOn out s t
by_state out s t same = by_database out s t (ap (λ (x : AreaValue). x.database) same)

-- ---- one after the other

first_brings : (a b : OutputsValue) (i : Instance) → Brings a i → Brings (then_outputs a b) i
first_brings a b i (Brings.Takes c) = Brings.Takes (Contains-append_left a.taken b.taken i c)
first_brings a b i (Brings.Issues lsa c e) = Brings.Issues lsa (Contains-append_left a.issued b.issued lsa c) e

next_brings : (a b : OutputsValue) (i : Instance) → Brings b i → Brings (then_outputs a b) i
next_brings a b i (Brings.Takes c) = Brings.Takes (Contains-append_right a.taken b.taken i c)
next_brings a b i (Brings.Issues lsa c e) = Brings.Issues lsa (Contains-append_right a.issued b.issued lsa c) e

module _ (out a b : OutputsValue) (both : out ≡ then_outputs a b) where
  first_touches : (key : LsaKey) → TouchesKey a key → TouchesKey out key
  first_touches key (i, brings, of) = (i, subst (λ (o : OutputsValue). Brings o i) (sym both) (first_brings a b i brings), of)

  next_touches : (key : LsaKey) → TouchesKey b key → TouchesKey out key
  next_touches key (i, brings, of) = (i, subst (λ (o : OutputsValue). Brings o i) (sym both) (next_brings a b i brings), of)

  holds_then : (s t u : AreaValue) → HoldsOn a s t → HoldsOn b t u → HoldsOn out s u
  holds_then s t u first next key e at = elim (first key e at) [
    | inr touched ↦ inr (first_touches key touched)
    | inl m ↦ elim (next key m.0 m.1) [
      | inr touched ↦ inr (next_touches key touched)
      | inl d ↦ inl (d.0, d.1, d.2 ∙ m.2)
    ]
  ]

then_holds : (First : OutputsValue → AreaValue → Type 0) (Next : AreaValue → OutputsValue → AreaValue → Type 0) (s : AreaValue) (out : OutputsValue) (t : AreaValue)
    → ((o : OutputsValue) (m : AreaValue) → First o m → HoldsOn o s m)
    → ((m : AreaValue) (o : OutputsValue) → Next m o t → HoldsOn o m t) → Then First Next out t → HoldsOn out s t
then_holds First Next s out t first next both =
    holds_then out both.first_out both.next_out both.both s both.mid t (first both.first_out both.mid both.first) (next both.mid both.next_out both.next)

requests_hold : (R : AreaValue → OutputsValue → AreaValue → Type 0) (s : AreaValue) (out : OutputsValue) (t : AreaValue)
    → ((o : OutputsValue) (m : AreaValue) → R s o m → HoldsOn o s m) → AndRequests R s out t → HoldsOn out s t
requests_hold R s out t first both =
    holds_then out both.first_out both.next_out both.both s both.mid t (first both.first_out both.mid both.first)
    (by_entries both.next_out both.mid t both.next.neighbours.database)

times_hold : (n : ℕ) (R : AreaValue → OutputsValue → AreaValue → Type 0) (s : AreaValue) (out : OutputsValue) (t : AreaValue)
    → ((a : AreaValue) (o : OutputsValue) (b : AreaValue) → R a o b → HoldsOn o a b) → Times n R s out t → HoldsOn out s t
times_hold zero R s out t each none_left = by_state out s t none_left.state
times_hold (suc n) R s out t each both =
    holds_then out both.first_out both.next_out both.both s both.mid t (each s both.first_out both.mid both.first)
    (times_hold n R both.mid both.next_out t each both.next)

-- ---- parts

pub acknowledging_keeps : (a : Acknowledgement) (f : PacketSource) (h : LsaHeader) (s : AreaValue) → (acknowledging a f h s).database ≡ s.database
acknowledging_keeps answer.None f h s = refl
acknowledging_keeps answer.Delayed f h s = refl
acknowledging_keeps answer.Direct f h s = refl

replied_keeps : (o : Option (List ℕ)) (f : PacketSource) (key : LsaKey) (s : AreaValue) → (replied o f key s).database ≡ s.database
replied_keeps None f key s = refl
replied_keeps (Some lsa) f key s = refl

taken_off_keeps : (o : Option Instance) (f : PacketSource) (s : AreaValue) → (taken_off f o s).database ≡ s.database
taken_off_keeps None f s = refl
taken_off_keeps (Some i) f s = refl

pub heard_keeps : (key : LsaKey) (s : AreaValue) → (heard_by key s).database ≡ s.database
heard_keeps key s = by (is_self_originated s.router s.links key) refl
  where
    by : (b : Bool) → is_self_originated s.router s.links key ≡ b → (heard_by key s).database ≡ s.database
    by true own = rw own refl
    by false other = rw other refl

database_of : AreaValue → List Held
database_of s = s.database

last_of : {A : Type 0} (xs : List A) (x : A) → Contains (xs ++ x ∷ []) x
last_of xs x = Contains-append_right xs (x ∷ []) x (zero, omega arith, refl)

-- an LSA takes the place of its key's, and is brought
stores_hold : (lsa : List ℕ) (tick : ℕ) (by_flooding : Bool) (out : OutputsValue) (s t : AreaValue) → Installs (entry_from lsa tick by_flooding) s.database t.database
    → Brings out (instance_of lsa) → HoldsOn out s t
stores_hold lsa tick by_flooding out s t stores brings key e at = by (same_key (key_in (entry_from lsa tick by_flooding).contents) key) refl
  where
    is : database_entry t key ≡ cond (same_key (key_in (entry_from lsa tick by_flooding).contents) key) (Some (entry_from lsa tick by_flooding)) (database_entry s key)
    is = installs (entry_from lsa tick by_flooding) s.database t.database stores key

    by : (b : Bool) → same_key (key_in (entry_from lsa tick by_flooding).contents) key ≡ b
        → ((d : Entry) × (database_entry t key ≡ Some d) × (d.contents ≡ e.contents)) ⊎ TouchesKey out key
    by true one = inr (instance_of lsa, brings, key-entry_from lsa tick by_flooding ∙ same_key-eq _ key one)
    by false two = let there : database_entry t key ≡ database_entry s key = simp two at is in inl (e, there ∙ at, refl)

takes_it : (out : OutputsValue) (before : List Instance) (i : Instance) → out.taken ≡ before ++ i ∷ [] → Brings out i
takes_it out before i is = Brings.Takes (subst (λ (is : List Instance). Contains is i) (sym is) (last_of before i))

rule_holds : (r : Option LsaRule) (f : PacketSource) (lsa : List ℕ) (s : AreaValue) (out : OutputsValue) (t : AreaValue) → MeetsRule r f lsa s no_outputs out t → HoldsOn out s t
unfolding database_of
rule_holds None f lsa s out t is = by_state out s t is.state
rule_holds (Some rule.AcknowledgesExpired) f lsa s out t is = by_database out s t (ap database_of is.state ∙ acknowledging_keeps _ f _ s)
rule_holds (Some rule.TooSoon) f lsa s out t is = by_state out s t is.state
rule_holds (Some rule.Installs) f lsa s out t is =
    let same : t.database ≡ is.mid.database = ap database_of is.state ∙ heard_keeps (key_of lsa) _ ∙ acknowledging_keeps _ f _ is.mid in
    stores_hold lsa s.tick true out s t (subst (λ (db : List Held). Installs (entry_from lsa s.tick true) s.database db) (sym same) is.stores.database)
    (takes_it out no_outputs.taken (instance_of lsa) (ap (λ (o : OutputsValue). o.taken) is.outputs))
rule_holds (Some rule.BadRequest) f lsa s out t is = by_database out s t (ap database_of is.state)
rule_holds (Some rule.Duplicate) f lsa s out t is = by_database out s t (ap database_of is.state ∙ acknowledging_keeps _ f _ _)
rule_holds (Some rule.Stale) f lsa s out t is = by_database out s t (ap database_of is.state ∙ replied_keeps _ f _ s)

lsa_holds : (f : PacketSource) (lsa : List ℕ) (s : AreaValue) (out : OutputsValue) (t : AreaValue) → LsaPart f lsa s out t → HoldsOn out s t
lsa_holds f lsa s out t (LsaPart.Meets is_lsa meets) = rule_holds (rule_met s f lsa) f lsa s out t meets
lsa_holds f lsa s out t (LsaPart.PassedOver other passes outputs) = by_database out s t (ap (λ (x : AreaValue). x.database) (passed s.passes_over f lsa s t passes).state)

aged_same : (e : Entry) → (aged e).contents ≡ e.contents
unfolding aged
aged_same e = by (is_fresh e) refl
  where
    by : (b : Bool) → is_fresh e ≡ b → (aged e).contents ≡ e.contents
    by true young = rw young refl
    by false old = rw old refl

ages_hold : (s : AreaValue) (out : OutputsValue) (t : AreaValue) → AgesPart s out t → HoldsOn out s t
ages_hold s out t part key e at = inl (aged e, ages s.database t.database part.database key ∙ ap (option_map aged) at, aged_same e)

expiry_holds : (key : LsaKey) (copy : Entry) (s : AreaValue) (out : OutputsValue) (t : AreaValue) → ExpiryPart key copy s out t → HoldsOn out s t
expiry_holds key copy s out t part k e at = inl (by (same_key key k) refl)
  where
    by : (b : Bool) → same_key key k ≡ b → (d : Entry) × (database_entry t k ≡ Some d) × (d.contents ≡ e.contents)
    by true one =
        let here : database_entry t k ≡ Some (at_max_age copy) = simp one at (part.database k) in
        let there : database_entry s k ≡ Some copy = ap (database_entry s) (sym (same_key-eq key k one)) ∙ part.at in
        (at_max_age copy, here, ap (λ (x : Entry). x.contents) (same_Some copy e (sym there ∙ at)))
    by false two = let there : database_entry t k ≡ database_entry s k = simp two at (part.database k) in (e, there ∙ at, refl)

expiry_step_holds : (s : AreaValue) (out : OutputsValue) (t : AreaValue) → ExpiryStep s out t → HoldsOn out s t
expiry_step_holds s out t step = requests_hold (ExpiryPart step.key step.copy) s out t (expiry_holds step.key step.copy s) step.expires

issue_holds : (lsa : List ℕ) (s : AreaValue) (out : OutputsValue) (t : AreaValue) → IssuePart lsa s out t → HoldsOn out s t
issue_holds lsa s out t is =
    stores_hold lsa s.tick false out s t is.database
    (Brings.Issues lsa (subst (λ (ls : List (List ℕ)). Contains ls lsa) (sym is.issued) (last_of [] lsa)) refl)

own_holds : (s : AreaValue) (out : OutputsValue) (t : AreaValue) → OwnStep s out t → HoldsOn out s t
own_holds s out t (OwnStep.Issue lsa is) = requests_hold (IssuePart lsa) s out t (issue_holds lsa s) is
own_holds s out t (OwnStep.Flush key copy is) = requests_hold (ExpiryPart key copy) s out t (expiry_holds key copy s) is

-- the parts of an event, and of the end of a step before the removals
abbrev IsBefore : Part → Type 0
IsBefore Removals = ⊥
IsBefore part = Unit {0}

part_holds : (part : Part) (s : AreaValue) (out : OutputsValue) (t : AreaValue) → IsBefore part → IsPart part s out t → HoldsOn out s t
unfolding database_of
part_holds (HelloComes f p) s out t b is = by_entries out s t is.neighbours.database
part_holds (DdComes f p) s out t b is = by_entries out s t is.database
part_holds (RequestComes f p) s out t b is = by_entries out s t is.neighbours.database
part_holds (LsaComes f lsa) s out t b is = lsa_holds f lsa s out t is
part_holds (HeaderComes f h) s out t b is = by_database out s t (ap database_of is.state ∙ taken_off_keeps _ f s)
part_holds (DirectAcknowledgements f) s out t b is = by_database out s t (ap database_of is.state)
part_holds (LinkChanges link up) s out t b is = by_entries out s t is.neighbours.database
part_holds Ages s out t b (n, is) = then_holds (AgesPart s) (Times n ExpiryStep) s out t (ages_hold s) (λ m o each. times_hold n ExpiryStep m o t expiry_step_holds each) is
part_holds Timers s out t b is = by_entries out s t is.neighbours.database
part_holds Hellos s out t b is = by_entries out s t is.neighbours.database
part_holds Acknowledgements s out t b is = by_entries out s t is.neighbours.database
part_holds Repeats s out t b is = by_entries out s t is.neighbours.database
part_holds Requests s out t b is = by_entries out s t is.neighbours.database
part_holds Elections s out t b is = by_entries out s t is.neighbours.database
part_holds OwnLsas s out t b (n, is) = then_holds (Times n OwnStep s) AnswersAll s out t (λ o m each. times_hold n OwnStep s o m own_holds each) (λ m o all. by_database o m t (ap database_of all.state)) is
part_holds Removals s out t b is = absurd b

-- ---- a whole step: all its parts, and then the removals

-- what the removals find, and leave
record Ends (s : AreaValue) (out : OutputsValue) (t : AreaValue) : Type 0 where
  mid : AreaValue
  holds : HoldsOn out s mid
  last_out : OutputsValue
  removals : RemovalPart mid last_out t

abbrev AreBefore : List Part → Type 0
AreBefore [] = Unit {0}
AreBefore (part ∷ parts) = IsBefore part × AreBefore parts

-- a part, and what ends the step
one_more : (s m : AreaValue) (out a b : OutputsValue) (t : AreaValue) → out ≡ then_outputs a b → HoldsOn a s m → Ends m b t → Ends s out t
one_more s m out a b t both first rest = record {
  mid = rest.mid;
  holds = holds_then out a b both s m rest.mid first rest.holds;
  last_out = rest.last_out;
  removals = rest.removals;
}

removals_end : (s : AreaValue) (out : OutputsValue) (t : AreaValue) → Chain (Removals ∷ []) s out t → Ends s out t
removals_end s out t both = record {
  mid = s;
  holds = by_state out s s refl;
  last_out = both.first_out;
  removals = subst (λ (x : AreaValue). RemovalPart s both.first_out x) (sym both.next.state) both.first;
}

last_end : (s : AreaValue) (out : OutputsValue) (t : AreaValue) → Chain last_parts s out t → Ends s out t
last_end s out t both =
    let own = both.next in
    one_more s both.mid out both.first_out both.next_out t both.both (part_holds Elections s both.first_out both.mid tt both.first)
    (one_more both.mid own.mid both.next_out own.first_out own.next_out t own.both (part_holds OwnLsas both.mid own.first_out own.mid tt own.first)
    (removals_end own.mid own.next_out t own.next))

chain_ends : (parts : List Part) (s : AreaValue) (out : OutputsValue) (t : AreaValue) → AreBefore parts → Chain (parts ++ last_parts) s out t → Ends s out t
chain_ends [] s out t b is = last_end s out t is
chain_ends (part ∷ parts) s out t (here, rest) is =
    one_more s is.mid out is.first_out is.next_out t is.both (part_holds part s is.first_out is.mid here is.first) (chain_ends parts is.mid is.next_out t rest is.next)

-- no event has removals of its own
lsas_before : (f : PacketSource) (lsas : List (List ℕ)) → AreBefore (lsa_parts f lsas ++ DirectAcknowledgements f ∷ [])
lsas_before f [] = (tt, tt)
lsas_before f (lsa ∷ lsas) = (tt, (tt, lsas_before f lsas))

headers_before : (f : PacketSource) (hs : List LsaHeader) → AreBefore (map (λ h. HeaderComes f h) hs)
headers_before f [] = tt
headers_before f (h ∷ hs) = (tt, headers_before f hs)

packet_before : (f : PacketSource) (p : Meaning) (b : BodyMeaning) → AreBefore (parts_of_packet f p b)
packet_before f p (hello fields neighbours) = (tt, tt)
packet_before f p (description fields headers) = (tt, tt)
packet_before f p (request entries) = (tt, tt)
packet_before f p (update lsas) = lsas_before f lsas
packet_before f p (acknowledgment headers) = headers_before f headers

datagram_before : (link : ℕ) (source : Addr) (o : Option Meaning) → AreBefore (parts_of_datagram link source o)
datagram_before link source None = tt
datagram_before link source (Some p) = packet_before (record { link = link; router = p.router; address = source }) p p.body

first_before : (e : Event) → AreBefore (first_parts e)
first_before (Event.Datagram link source destination bytes) = datagram_before link source (packet_of bytes)
first_before Event.Tick = (tt, (tt, (tt, (tt, (tt, tt)))))
first_before (Event.LinkUp link) = (tt, tt)
first_before (Event.LinkDown link) = (tt, tt)

-- ---- the law

entry_for : (o : Option Entry) (lsa : List ℕ) → option_map lsa_of o ≡ Some lsa → (e : Entry) × (o ≡ Some e) × (lsa_of e ≡ lsa)
entry_for None lsa is = absurd (none-some lsa is)
entry_for (Some e) lsa is = (e, refl, same_Some (lsa_of e) lsa is)

-- an entry of these contents is held
holds_entry : (t : AreaValue) (lsa : List ℕ) (e d : Entry) → lsa_of e ≡ lsa → database_entry t (key_of lsa) ≡ Some d → d.contents ≡ e.contents → StillHolds t lsa
holds_entry t lsa e d is at same = record {
  now = lsa_of d;
  copy = copy_of-has t (key_of lsa) (lsa_of d) (ap (option_map lsa_of) at);
  same = same ∙ ap contents is;
}

-- whether an entry may leave is a matter of the links
leaves_on : (s t : AreaValue) → t.links ≡ s.links → (o : Option Entry) → leaves_if t o ≡ leaves_if s o
leaves_on s t same None = refl
leaves_on s t same (Some e) = ap (λ (links : List LinkValue). not (some_link_loading links) && is_leaving links e) same

module _ (d : Stepped) (ends : Ends d.before d.out d.after) where
  removed : (lsa : List ℕ) (e m : Entry) → lsa_of e ≡ lsa → database_entry ends.mid (key_of lsa) ≡ Some m → m.contents ≡ e.contents → StillHolds d.after lsa ⊎ (TouchesKey d.out (key_of lsa) ⊎ HasLeft d lsa)
  removed lsa e m is at same = by (leaves_if ends.mid (database_entry ends.mid (key_of lsa))) refl
    where
      left : (b : Bool) → leaves_if ends.mid (database_entry ends.mid (key_of lsa)) ≡ b → database_entry d.after (key_of lsa) ≡ cond b None (database_entry ends.mid (key_of lsa))
      left b of = ends.removals.database (key_of lsa) ∙ ap (λ b. cond b None (database_entry ends.mid (key_of lsa))) of

      by : (b : Bool) → leaves_if ends.mid (database_entry ends.mid (key_of lsa)) ≡ b → StillHolds d.after lsa ⊎ (TouchesKey d.out (key_of lsa) ⊎ HasLeft d lsa)
      by true goes = inr (inr (record {
        last = m;
        same = same ∙ ap contents is;
        leaves = leaves_on ends.mid d.after ends.removals.same_links (Some m) ∙ (ap (leaves_if ends.mid) (sym at) ∙ goes);
        gone = left true goes;
      }))
      by false stays = inl (holds_entry d.after lsa e m is (left false stays ∙ at) same)

  was_held : (lsa : List ℕ) → HasCopy d.before lsa → StillHolds d.after lsa ⊎ (TouchesKey d.out (key_of lsa) ⊎ HasLeft d lsa)
  was_held lsa copy =
      let (e, at, is) = entry_for (database_entry d.before (key_of lsa)) lsa copy in
      elim (ends.holds (key_of lsa) e at) [
        | inl m ↦ removed lsa e m.0 is m.1 m.2
        | inr touched ↦ inr (inl touched)
      ]

  none_may_leave : (key : LsaKey) → leaves_if d.after (database_entry d.after key) ≡ false
  none_may_leave key = by (leaves_if ends.mid (database_entry ends.mid key)) refl
    where
      left : (b : Bool) → leaves_if ends.mid (database_entry ends.mid key) ≡ b → database_entry d.after key ≡ cond b None (database_entry ends.mid key)
      left b of = ends.removals.database key ∙ ap (λ b. cond b None (database_entry ends.mid key)) of

      by : (b : Bool) → leaves_if ends.mid (database_entry ends.mid key) ≡ b → leaves_if d.after (database_entry d.after key) ≡ false
      by true goes = ap (leaves_if d.after) (left true goes)
      by false stays = ap (leaves_if d.after) (left false stays) ∙ (leaves_on ends.mid d.after ends.removals.same_links (database_entry ends.mid key) ∙ stays)

pub listing_law : (d : Stepped) → (d.dropped ≡ None → is_dropped d.event d.before ≡ false) → StepLaws is_dropped d.event d.before d.out d.after → ListingLaw d
listing_law d taken (StepLaws.Drops dropped nothing) = (
  (λ lsa copy. inl (record { now = lsa; copy = subst (λ (s : AreaValue). HasCopy s lsa) (sym nothing.state) copy; same = refl })),
  (λ none. absurd (false≢true (sym (taken none) ∙ dropped))),
)
listing_law d taken (StepLaws.Takes not_dropped read chain) =
    let ends : Ends d.before d.out d.after = chain_ends (first_parts d.event) d.before d.out d.after (first_before d.event) chain in
    (was_held d ends, (λ none. none_may_leave d ends))
