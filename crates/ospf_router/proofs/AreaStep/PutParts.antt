-- Parts behind the outputs so far, from contracts that speak of these.
use Rattle.std.proofs.Common.{◌≡◌, ◌++◌, inl, inr, ℕ, suc, Bool, true, false, List, [], ◌∷◌, map, Some, slice_get, refl, sym, ap, subst, ◌∙◌, append-nil, append_assoc}
use Rattle.std.specs.Prelude.{if◌then◌else◌}
use Rattle.std.specs.List.{Contains}
use Rattle.std.proofs.lemmas.List.Elements.{Contains-append_cases}
use Rattle.ospf_base.specs.Constants.{max_age}
use Rattle.ospf_base.specs.declared.ids.Instance.{Instance}
use Rattle.ospf_base.specs.declared.ids.LsaKey.{LsaKey}
use Rattle.ospf_lsa.specs.declared.header.LsaHeader.{LsaHeader}
use Rattle.ospf_lsdb.specs.Database.{Entry, IsDatabase, reached_at}
use Rattle.ospf_area.specs.Acting.{OnEachLink}
use Rattle.ospf_area.specs.Outputs.{AreReadAsSent, OutputsValue, SentValue, no_outputs, sends, then_outputs}
use Rattle.ospf_area.specs.Places.{flat_from}
use Rattle.ospf_area.specs.Sending.{and_sends, context_of}
use Rattle.ospf_area.specs.State.{AreaValue, LinkValue, database_entry}
use Rattle.ospf_area.specs.declared.flooding.PacketSource.{PacketSource}
use Rattle.ospf_area.specs.Updates.Acks.{delayed_out_on}
use Rattle.ospf_area.specs.Updates.Aging.{Flushes, TickAges}
use Rattle.ospf_area.specs.Updates.Meets.{header_met}
use Rattle.ospf_area.specs.Updates.Removal.{ends_run, leaving}
use Rattle.ospf_area.proofs.Updates.Words.{RemovesAll, Removes, copies_out, copies_sent, copy_out, copy_sent, undelayed_link, and_ends}
use Rattle.ospf_router.specs.AreaStep.Links.{AllEach, AreKnown, ChangesLinks, IsKnownPacket, LinkQuiet}
use Rattle.ospf_router.specs.AreaStep.Neighbours.{Quiet}
use Rattle.ospf_router.specs.AreaStep.Parts.{ExpiryPart, RemovalPart}
use Rattle.ospf_router.specs.AreaStep.Puts.{PutsOut, headers_met}
use Rattle.ospf_router.specs.AreaStep.Step.{AndRequests, Chain, IsPart, OwnStep, Part, Times}
use Rattle.ospf_router.specs.AreaStep.Step.Part.{HeaderComes}
use Rattle.ospf_router.specs.AreaStep.Words.{CanName}
use Rattle.ospf_router.proofs.AreaStep.Accountable.{AreRead-right, then_nothing}
use Rattle.ospf_router.proofs.AreaStep.SentFacts.{acks-packets}
use Rattle.ospf_router.proofs.AreaStep.AgingChains.{Flushes-is_part, TickAges-is_part, same_database}
use Rattle.ospf_router.proofs.AreaStep.Chains.{puts_more, then_assoc, then_sends}
use Rattle.ospf_router.proofs.AreaStep.LinkParts.{goes_same, map_each, part_quiet}
use Rattle.ospf_router.proofs.AreaStep.StateFacts.{Contains-nil, delayed_in}
use Rattle.ospf_router.proofs.AreaStep.RemovalChains.{Removes-is_part}
use Rattle.ospf_area.proofs.Updates.CopyLemmas.{copies_become}
use Rattle.ospf_router.proofs.AreaStep.Known.{IsLinkIn}

-- a part that sends alone
pub puts_sent : (R : OutputsValue → Type 0) (out out' : OutputsValue) (ds : List SentValue) → R (sends ds) → out' ≡ and_sends out ds → PutsOut R out out'
puts_sent R out out' ds is outputs = record { own = sends ds; is = is; behind = outputs ∙ then_sends out ds }

-- what it sent is read
read_own : (out out' : OutputsValue) (ds : List SentValue) → out' ≡ and_sends out ds → AreReadAsSent out'.sent → AreReadAsSent ds
read_own out out' ds outputs read = AreRead-right out (sends ds) (subst (λ o. AreReadAsSent o.sent) (outputs ∙ then_sends out ds) read)

-- ---- headers of an Acknowledgment

pub headers_put : (f : PacketSource) (hs : List LsaHeader) (rest : List Part) (s t u : AreaValue) (out out' : OutputsValue) → t ≡ headers_met f hs s → PutsOut (λ o. Chain rest t o u) out out' → PutsOut (λ o. Chain (map (λ h. HeaderComes f h) hs ++ rest) s o u) out out'
headers_put f [] rest s t u out out' state next = subst (λ t. PutsOut (λ o. Chain rest t o u) out out') state next
headers_put f (h ∷ hs) rest s t u out out' state next =
    puts_more (HeaderComes f h) (map (λ h. HeaderComes f h) hs ++ rest) s (header_met f h s) u out out out'
    (record { own = no_outputs; is = record { state = refl; outputs = refl }; behind = sym (then_nothing out) })
    (headers_put f hs rest (header_met f h s) t u out out' state next)

-- ---- ages and flushes

same_databases : (keys : List LsaKey) (s : AreaValue) → (copies_sent keys s).database ≡ s.database
same_databases [] s = refl
same_databases (key ∷ keys) s = same_databases keys (copy_sent key s) ∙ same_database key s

-- copies that have come to MaxAge are flooded, and the database is as it was once ages rose
pub mid_is_database : (s t : AreaValue) (out out' : OutputsValue) → (a : TickAges s out out' t) → IsDatabase t.database → IsDatabase a.mid.database
mid_is_database s t out out' a is =
    let keys = reached_at max_age a.mid.database in
    subst IsDatabase (ap (λ s. s.database) (copies_become keys a.mid t out out' a.sends).state ∙ same_databases keys a.mid) is

pub ages_put : (s t : AreaValue) (out out' : OutputsValue) → IsDatabase t.database → AreReadAsSent out'.sent → TickAges s out out' t → PutsOut (λ o. IsPart Part.Ages s o t) out out'
ages_put s t out out' is read ages =
    let keys = reached_at max_age ages.mid.database in
    let sent = copies_out keys ages.mid in
    let outputs : out' ≡ and_sends out sent = (copies_become keys ages.mid t out out' ages.sends).outputs in
    puts_sent (λ o. IsPart Part.Ages s o t) out out' sent (TickAges-is_part s t out out' ages (mid_is_database s t out out' ages is) (read_own out out' sent outputs read)) outputs

pub flushes_put : (key : LsaKey) (copy : Entry) (s t : AreaValue) (out out' : OutputsValue) → IsDatabase s.database → database_entry s key ≡ Some copy → AreReadAsSent out'.sent → Flushes key s out out' t → PutsOut (λ o. AndRequests (ExpiryPart key copy) s o t) out out'
flushes_put key copy s t out out' is at read flushes =
    let sent = copy_out key flushes.mid in
    puts_sent (λ o. AndRequests (ExpiryPart key copy) s o t) out out' sent (Flushes-is_part key copy s t out out' is at flushes (read_own out out' sent flushes.sends.outputs read)) flushes.sends.outputs

-- ---- delayed acknowledgements

undelayed_quiet : (s : AreaValue) (link : LinkValue) → LinkQuiet s link (undelayed_link link)
undelayed_quiet s link = record {
  link = record { goes = λ q. goes_same s [] _; waiting = λ h c. absurd (Contains-nil h c) };
  enters = λ q up. up;
}

acks_known : (s : AreaValue) (link : LinkValue) → IsLinkIn s link → (k : ℕ) → AreKnown s (delayed_out_on (context_of s) k link)
acks_known s link (l, at) k d c =
    let is = acks-packets (context_of s) _ link.settings.mtu link.delayed d c in
    subst (λ m. IsKnownPacket s m) (sym is.packet) (record {
      router = refl;
      lsas = λ lsa none. absurd (Contains-nil lsa none);
      names = λ i lists. let (h, inside, of) = lists in CanName.ToAcknowledge l (h, subst (λ o. Contains (delayed_in o) h) (sym at) (is.within h inside), of);
    })

all_acks_known : (s : AreaValue) (k : ℕ) (links : List LinkValue) → ((l : ℕ) (link : LinkValue) → slice_get links l ≡ Some link → IsLinkIn s link) → AreKnown s (flat_from (delayed_out_on (context_of s)) k links)
all_acks_known s k [] within d c = absurd (Contains-nil d c)
all_acks_known s k (link ∷ links) within d c = elim (Contains-append_cases (delayed_out_on (context_of s) k link) (flat_from (delayed_out_on (context_of s)) (suc k) links) d c) [
  | inl here ↦ acks_known s link (within 0 link refl) k d here
  | inr later ↦ all_acks_known s (suc k) links (λ l link at. within (suc l) link at) d later
]

pub acknowledgements_put : (s t : AreaValue) (out out' : OutputsValue) → AreReadAsSent out'.sent → OnEachLink undelayed_link (delayed_out_on (context_of s)) s out out' t → PutsOut (λ o. Quiet s o t) out out'
acknowledgements_put s t out out' read is =
    let ds = flat_from (delayed_out_on (context_of s)) 0 s.links in
    let links : t.links ≡ map undelayed_link s.links = ap (λ s. s.links) is.state in
    let rest : ChangesLinks s t = subst (λ a. ChangesLinks s a) (sym is.state) refl in
    puts_sent (λ o. Quiet s o t) out out' ds
    (part_quiet s t (sends ds) ds rest refl (read_own out out' ds is.outputs read)
    (subst (λ cs. AllEach (LinkQuiet s) s.links cs) (sym links) (map_each (LinkQuiet s) undelayed_link s.links (λ l link at. undelayed_quiet s link)))
    (all_acks_known s 0 s.links (λ l link at. (l, at)))) is.outputs

-- ---- what leaves the database

abbrev and_ended : OutputsValue → List LsaKey → OutputsValue
and_ended out keys = record out { ended = out.ended ++ keys }

outputs_from : List SentValue → List Instance → List (List ℕ) → List LsaKey → OutputsValue
outputs_from sent taken issued ended = record { sent = sent; taken = taken; issued = issued; ended = ended }

ended_none : (out : OutputsValue) → out ≡ and_ended out []
unfolding outputs_from
ended_none out = ap (λ keys. outputs_from out.sent out.taken out.issued keys) (sym (append-nil out.ended))

ended_more : (out : OutputsValue) (a b : List LsaKey) → and_ended (and_ended out a) b ≡ and_ended out (a ++ b)
unfolding outputs_from
ended_more out a b = ap (λ keys. outputs_from out.sent out.taken out.issued keys) (append_assoc out.ended a b)

then_ended : (out : OutputsValue) (keys : List LsaKey) → and_ended out keys ≡ then_outputs out (and_ended no_outputs keys)
unfolding outputs_from
then_ended out keys =
    ap (λ xs. outputs_from xs out.taken out.issued (out.ended ++ keys)) (sym (append-nil out.sent))
    ∙ (ap (λ xs. outputs_from (out.sent ++ []) xs out.issued (out.ended ++ keys)) (sym (append-nil out.taken))
    ∙ ap (λ xs. outputs_from (out.sent ++ []) (out.taken ++ []) xs (out.ended ++ keys)) (sym (append-nil out.issued)))

-- what ends is the same, whatever was put out before
record Anywhere (keys : List LsaKey) (s : AreaValue) (out out' : OutputsValue) (t : AreaValue) : Type 0 where
  ends : List LsaKey
  here : out' ≡ and_ended out ends
  from : (o : OutputsValue) → RemovesAll keys s o (and_ended o ends) t

one_ended : Bool → LsaKey → List LsaKey
one_ended b key = if b then key ∷ [] else []

ends_one : (b : Bool) (key : LsaKey) (out : OutputsValue) → (if b then and_ends out key else out) ≡ and_ended out (one_ended b key)
unfolding one_ended
ends_one true key out = refl
ends_one false key out = ended_none out

anywhere : (keys : List LsaKey) (s : AreaValue) (out out' : OutputsValue) (t : AreaValue) → RemovesAll keys s out out' t → Anywhere keys s out out' t
anywhere [] s out out' t same = record { ends = []; here = same.outputs ∙ ended_none out; from = λ o. record { state = same.state; outputs = sym (ended_none o) } }
anywhere (key ∷ keys) s out out' t (mid, so_far, one, rest) =
    let later = anywhere keys mid so_far out' t rest in
    let first = one_ended (ends_run s key) key in
    record {
      ends = first ++ later.ends;
      here = later.here ∙ (ap (λ o. and_ended o later.ends) (one.outputs ∙ ends_one (ends_run s key) key out) ∙ ended_more out first later.ends);
      from = λ o. (
        mid,
        and_ended o first,
        record { database = one.database; rest = one.rest; outputs = sym (ends_one (ends_run s key) key o) },
        subst (λ x. RemovesAll keys mid (and_ended o first) x t) (ended_more o first later.ends) (later.from (and_ended o first)),
      );
    }

pub removals_put : (s t : AreaValue) (out out' : OutputsValue) → IsDatabase s.database → Removes s out out' t → PutsOut (λ o. RemovalPart s o t) out out'
removals_put s t out out' is r =
    let a = anywhere (leaving s) s out out' t r in
    let o = and_ended no_outputs a.ends in
    record { own = o; is = Removes-is_part s t o is (a.from no_outputs); behind = a.here ∙ then_ended out a.ends }

-- ---- own LSAs

pub own_none : (s : AreaValue) (out : OutputsValue) → PutsOut (λ o. Times 0 OwnStep s o s) out out
own_none s out = record { own = no_outputs; is = record { state = refl; outputs = refl }; behind = sym (then_nothing out) }

pub own_more : (n : ℕ) (s t u : AreaValue) (out mid_out out' : OutputsValue) → PutsOut (λ o. OwnStep s o t) out mid_out → PutsOut (λ o. Times n OwnStep t o u) mid_out out' → PutsOut (λ o. Times (suc n) OwnStep s o u) out out'
own_more n s t u out mid_out out' first next = record {
  own = then_outputs first.own next.own;
  is = record { mid = t; first_out = first.own; next_out = next.own; first = first.is; next = next.is; both = refl };
  behind = next.behind ∙ (ap (λ o. then_outputs o next.own) first.behind ∙ then_assoc out first.own next.own);
}

pub own_end : (n : ℕ) (s t u : AreaValue) (out out' : OutputsValue) → PutsOut (λ o. Times n OwnStep s o t) out out' → u ≡ record t { heard = [] } → PutsOut (λ o. IsPart Part.OwnLsas s o u) out out'
own_end n s t u out out' steps state = record {
  own = then_outputs steps.own no_outputs;
  is = (n, record { mid = t; first_out = steps.own; next_out = no_outputs; first = steps.is; next = record { state = state; outputs = refl }; both = refl });
  behind = steps.behind ∙ ap (then_outputs out) (sym (then_nothing steps.own));
}
