-- What the parts of a step do to acknowledgements that wait, and which neighbours come to Exchange by them (RFC 2328, sections 10.3 and 13.5).
use Rattle.std.proofs.Common.{◌≡◌, ◌⊎◌, inl, inr, ◌==◌, ℕ, zero, suc, Bool, true, false, cond, List, [], ◌∷◌, Option, None, Some, map, option_and_then, option_map, slice_get, refl, sym, ap, subst, ◌∙◌}
use Rattle.std.specs.List.{Contains}
use Rattle.std.proofs.lemmas.Bool.{false≢true}
use Rattle.ospf_area.proofs.Updates.PassLemmas.{passed}
use Rattle.ospf_area.proofs.Updates.Words.{taken_off}
use Rattle.ospf_area.proofs.Words.{changed_if, changed_link, changed_on, delayed_on, flooded_link, flooded_neighbour, released_link}
use Rattle.ospf_area.specs.Changes.{changed_at, neighbour_changed}
use Rattle.ospf_area.specs.Flooding.{came_from, flooded_links, on_link, released}
use Rattle.ospf_area.specs.Numbers.{is_self_originated}
use Rattle.ospf_area.specs.Outputs.{OutputsValue, no_outputs}
use Rattle.ospf_area.specs.Places.{map_from}
use Rattle.ospf_area.specs.Standing.{acknowledging}
use Rattle.ospf_area.specs.State.{AreaValue, LinkValue, neighbour, neighbour_at, state_in}
use Rattle.ospf_area.specs.Updates.Meets.{MeetsRule, heard_by, named_by, replied, reply_to, rule_met}
use Rattle.ospf_area.specs.declared.changes.AdjacencyChange.{AdjacencyChange}
use Rattle.ospf_area.specs.declared.changes.AdjacencyChange.TheVariants.{Acknowledges, IsSent, Restarts}
use Rattle.ospf_area.specs.declared.flooding.PacketSource.{PacketSource}
use Rattle.ospf_base.specs.declared.ids.Instance.{Instance}
use Rattle.ospf_base.specs.declared.ids.LsaKey.{LsaKey}
use Rattle.ospf_flood.specs.Offers.{offer_to}
use Rattle.ospf_flood.specs.declared.acknowledgement.Acknowledgement.{Acknowledgement}
use Rattle.ospf_flood.specs.declared.acknowledgement.Acknowledgement.TheVariants as answer
use Rattle.ospf_flood.specs.declared.rule.LsaRule.{LsaRule}
use Rattle.ospf_flood.specs.declared.rule.LsaRule.TheVariants as rule
use Rattle.ospf_lsa.specs.Header.{header_of, key_of_header}
use Rattle.ospf_lsa.specs.Lsa.{instance_of, key_of}
use Rattle.ospf_lsa.specs.declared.header.LsaHeader.{LsaHeader}
use Rattle.ospf_lsdb.specs.Database.{entry_of, lsa_of}
use Rattle.ospf_neighbour.specs.Lists.{key_unlisted}
use Rattle.ospf_neighbour.specs.Machine.{is_exchanging}
use Rattle.ospf_neighbour.specs.Neighbour.{NeighbourValue}
use Rattle.ospf_router.proofs.AreaStep.OfferFacts.{after-router, after-state}
use Rattle.ospf_router.proofs.AreaStep.ShrinkAccounts.{change-waiting, changed-shrinks, delay-each, delay-waiting, map-id}
use Rattle.ospf_router.proofs.AreaStep.StateFacts.{AnswersAll, delayed_in, link-changed, neighbour-changed}
use Rattle.ospf_router.proofs.AreaStep.StoreAccounts.{map-map, map_from-map}
use Rattle.ospf_router.specs.AreaStep.Accounts.{NoneEntersExchange}
use Rattle.ospf_router.specs.AreaStep.Neighbours.{Quiet}
use Rattle.ospf_router.specs.AreaStep.Parts.{AgesPart, ExpiryPart, IssuePart, LsaPart, at_max_age}
use Rattle.ospf_router.specs.AreaStep.Step.{AndRequests, Chain, ExpiryStep, IsPart, OwnStep, Part, Then, Times}
use Rattle.ospf_router.specs.AreaStep.Step.Part.{HelloComes, DdComes, RequestComes, LsaComes, HeaderComes, DirectAcknowledgements, LinkChanges, Ages, Timers, Hellos, Acknowledgements, Repeats, Requests, Elections, OwnLsas, Removals}
use Rattle.ospf_router.specs.AreaStep.Words.{delayed}

-- an acknowledgement that waits then waited before, or is of one of these headers; and no neighbour comes to Exchange
pub record GoesBy (New : LsaHeader → Type 0) (s t : AreaValue) : Type 0 where
  pub waiting : (l : ℕ) (h : LsaHeader) → Contains (delayed t l) h → Contains (delayed s l) h ⊎ New h
  pub enters : NoneEntersExchange s t

-- ---- one after the other

goes_then : (New : LsaHeader → Type 0) (s t u : AreaValue) → GoesBy New s t → GoesBy New t u → GoesBy New s u
goes_then New s t u first next = record {
  waiting = λ l h c. elim (next.waiting l h c) [ inl there ↦ first.waiting l h there | inr new ↦ inr new ];
  enters = λ l q up. first.enters l q (next.enters l q up);
}

by_links : (New : LsaHeader → Type 0) (s t : AreaValue) → t.links ≡ s.links → GoesBy New s t
by_links New s t same = record {
  waiting = λ l h c. inl (subst (λ (links : List LinkValue). Contains (delayed_in (slice_get links l)) h) same c);
  enters = λ l q up. subst (λ (links : List LinkValue). is_exchanging (state_in (neighbour_at links l q)) ≡ true) same up;
}

by_state : (New : LsaHeader → Type 0) (s t : AreaValue) → t ≡ s → GoesBy New s t
by_state New s t same = by_links New s t (ap (λ (x : AreaValue). x.links) same)

quiet_goes : (New : LsaHeader → Type 0) (s : AreaValue) (out : OutputsValue) (t : AreaValue) → Quiet s out t → GoesBy New s t
quiet_goes New s out t is = record { waiting = λ l h c. inl (is.neighbours.waiting l h c); enters = is.none_enters }

then_goes : (New : LsaHeader → Type 0) (First : OutputsValue → AreaValue → Type 0) (Next : AreaValue → OutputsValue → AreaValue → Type 0) (s : AreaValue) (out : OutputsValue) (t : AreaValue)
    → ((o : OutputsValue) (m : AreaValue) → First o m → GoesBy New s m)
    → ((m : AreaValue) (o : OutputsValue) → Next m o t → GoesBy New m t) → Then First Next out t → GoesBy New s t
then_goes New First Next s out t first next both = goes_then New s both.mid t (first both.first_out both.mid both.first) (next both.mid both.next_out both.next)

requests_go : (New : LsaHeader → Type 0) (R : AreaValue → OutputsValue → AreaValue → Type 0) (s : AreaValue) (out : OutputsValue) (t : AreaValue)
    → ((o : OutputsValue) (m : AreaValue) → R s o m → GoesBy New s m) → AndRequests R s out t → GoesBy New s t
requests_go New R s out t first both = goes_then New s both.mid t (first both.first_out both.mid both.first) (quiet_goes New both.mid both.next_out t both.next)

times_go : (New : LsaHeader → Type 0) (n : ℕ) (R : AreaValue → OutputsValue → AreaValue → Type 0) (s : AreaValue) (out : OutputsValue) (t : AreaValue)
    → ((a : AreaValue) (o : OutputsValue) (b : AreaValue) → R a o b → GoesBy New a b) → Times n R s out t → GoesBy New s t
times_go New zero R s out t each none_left = by_state New s t none_left.state
times_go New (suc n) R s out t each both = goes_then New s both.mid t (each s both.first_out both.mid both.first) (times_go New n R both.mid both.next_out t each both.next)

-- ---- a change of each link, which knows its number

record ChangesBy (New : LsaHeader → Type 0) (f : ℕ → LinkValue → LinkValue) (g : ℕ → NeighbourValue → NeighbourValue) : Type 0 where
  each : (l : ℕ) (link : LinkValue) → (f l link).neighbours ≡ map (g l) link.neighbours
  router : (l : ℕ) (n : NeighbourValue) → (g l n).router ≡ n.router
  enters : (l : ℕ) (n : NeighbourValue) → is_exchanging (g l n).state ≡ true → is_exchanging n.state ≡ true
  waiting : (l : ℕ) (link : LinkValue) (h : LsaHeader) → Contains (f l link).delayed h → Contains link.delayed h ⊎ New h

by_change : (New : LsaHeader → Type 0) (f : ℕ → LinkValue → LinkValue) (g : ℕ → NeighbourValue → NeighbourValue) (s t : AreaValue) → ChangesBy New f g → t.links ≡ map_from f 0 s.links → GoesBy New s t
by_change New f g s t by links = record {
  waiting = λ l h c. waits l h (slice_get s.links l) (subst (λ o. Contains (delayed_in o) h) (link-changed f s t l links) c);
  enters = λ l q up. comes l (neighbour s l q) (subst (λ o. is_exchanging (state_in o) ≡ true) (neighbour-changed f g s t links by.each by.router l q) up);
}
  where
    waits : (l : ℕ) (h : LsaHeader) (o : Option LinkValue) → Contains (delayed_in (option_map (f l) o)) h → Contains (delayed_in o) h ⊎ New h
    waits l h None c = inl c
    waits l h (Some link) c = by.waiting l link h c

    comes : (l : ℕ) (o : Option NeighbourValue) → is_exchanging (state_in (option_map (g l) o)) ≡ true → is_exchanging (state_in o) ≡ true
    comes l None up = absurd (false≢true up)
    comes l (Some n) up = by.enters l n up

-- ---- floods

offered_state : (key : LsaKey) (h : LsaHeader) (here : Option PacketSource) (tick : ℕ) (n : NeighbourValue) → ((flooded_neighbour key h here tick n).router ≡ n.router) × ((flooded_neighbour key h here tick n).state ≡ n.state)
offered_state key h here tick n = (after-router (offer_to key h (came_from here n) n) key h tick n, after-state (offer_to key h (came_from here n) n) key h tick n)

flood_changes : (New : LsaHeader → Type 0) (key : LsaKey) (h : LsaHeader) (from : Option PacketSource) (tick : ℕ) → ChangesBy New (flooded_link key h from tick) (λ l n. flooded_neighbour key h (on_link from l) tick n)
flood_changes New key h from tick = record {
  each = λ l link. refl;
  router = λ l n. (offered_state key h (on_link from l) tick n).0;
  enters = λ l n up. subst (λ x. is_exchanging x ≡ true) (offered_state key h (on_link from l) tick n).1 up;
  waiting = λ l link x c. inl c;
}

store_changes : (New : LsaHeader → Type 0) (key : LsaKey) (h : LsaHeader) (from : Option PacketSource) (tick : ℕ)
    → ChangesBy New (λ l link. flooded_link key h from tick l (released_link key link)) (λ l n. flooded_neighbour key h (on_link from l) tick (key_unlisted key n))
store_changes New key h from tick = record {
  each = λ l link. map-map (flooded_neighbour key h (on_link from l) tick) (key_unlisted key) link.neighbours;
  router = λ l n. (offered_state key h (on_link from l) tick (key_unlisted key n)).0;
  enters = λ l n up. subst (λ x. is_exchanging x ≡ true) (offered_state key h (on_link from l) tick (key_unlisted key n)).1 up;
  waiting = λ l link x c. inl c;
}

flood_goes : (New : LsaHeader → Type 0) (key : LsaKey) (h : LsaHeader) (from : Option PacketSource) (tick : ℕ) (s t : AreaValue) → t.links ≡ flooded_links key h from tick s.links → GoesBy New s t
flood_goes New key h from tick s t links = by_change New (flooded_link key h from tick) (λ l n. flooded_neighbour key h (on_link from l) tick n) s t (flood_changes New key h from tick) links

store_goes : (New : LsaHeader → Type 0) (key : LsaKey) (h : LsaHeader) (from : Option PacketSource) (tick : ℕ) (s t : AreaValue) → t.links ≡ flooded_links key h from tick (released key s.links) → GoesBy New s t
store_goes New key h from tick s t links =
    by_change New (λ l link. flooded_link key h from tick l (released_link key link)) (λ l n. flooded_neighbour key h (on_link from l) tick (key_unlisted key n)) s t (store_changes New key h from tick)
    (links ∙ map_from-map (flooded_link key h from tick) (released_link key) 0 s.links)

-- ---- changes of one neighbour

-- the change of the origin's neighbour
abbrev changes : PacketSource → AdjacencyChange → ℕ → ℕ → NeighbourValue → NeighbourValue
changes f change tick l n = cond (l == f.link) (changed_if f.router change tick n) n

changes_each : (f : PacketSource) (change : AdjacencyChange) (tick l : ℕ) (link : LinkValue) → (changed_on f change tick l link).neighbours ≡ map (changes f change tick l) link.neighbours
changes_each f change tick l link = go (l == f.link)
  where
    go : (b : Bool) → (cond b (changed_link f.router change tick link) link).neighbours ≡ map (λ n. cond b (changed_if f.router change tick n) n) link.neighbours
    go true = refl
    go false = map-id link.neighbours

changed_router : (change : AdjacencyChange) (tick : ℕ) (n : NeighbourValue) → (neighbour_changed change tick n).router ≡ n.router
changed_router (Acknowledges i) tick n = refl
changed_router (IsSent i) tick n = refl
changed_router (Restarts number) tick n = (changed-shrinks None 0 (Restarts number) tick n tt).router

changed_enters : (change : AdjacencyChange) (tick : ℕ) (n : NeighbourValue) → is_exchanging (neighbour_changed change tick n).state ≡ true → is_exchanging n.state ≡ true
changed_enters (Acknowledges i) tick n up = up
changed_enters (IsSent i) tick n up = up
changed_enters (Restarts number) tick n up = (changed-shrinks None 0 (Restarts number) tick n tt).enters up

cond_router : (b : Bool) (m n : NeighbourValue) → m.router ≡ n.router → (cond b m n).router ≡ n.router
cond_router true m n same = same
cond_router false m n same = refl

cond_enters : (b : Bool) (m n : NeighbourValue) → (is_exchanging m.state ≡ true → is_exchanging n.state ≡ true) → is_exchanging (cond b m n).state ≡ true → is_exchanging n.state ≡ true
cond_enters true m n enters up = enters up
cond_enters false m n enters up = up

change_goes : (New : LsaHeader → Type 0) (f : PacketSource) (change : AdjacencyChange) (tick : ℕ) (s t : AreaValue) → t.links ≡ changed_at f change tick s.links → GoesBy New s t
change_goes New f change tick s t links =
    by_change New (changed_on f change tick) (changes f change tick) s t
    (record {
      each = λ l link. changes_each f change tick l link;
      router = λ l n. cond_router (l == f.link) _ n (cond_router (n.router.0 == f.router.0) _ n (changed_router change tick n));
      enters = λ l n up. cond_enters (l == f.link) _ n (cond_enters (n.router.0 == f.router.0) _ n (changed_enters change tick n)) up;
      waiting = λ l link h c. inl (subst (λ hs. Contains hs h) (change-waiting f change tick l link) c);
    })
    links

-- ---- acknowledgements

acknowledging_goes : (New : LsaHeader → Type 0) (a : Acknowledgement) (f : PacketSource) (h : LsaHeader) (s : AreaValue) → New h → GoesBy New s (acknowledging a f h s)
acknowledging_goes New answer.None f h s new = by_links New s s refl
acknowledging_goes New answer.Direct f h s new = by_links New s (acknowledging answer.Direct f h s) refl
acknowledging_goes New answer.Delayed f h s new =
    by_change New (delayed_on f.link h) (λ l n. n) s (acknowledging answer.Delayed f h s)
    (record {
      each = λ l link. delay-each f.link h l link;
      router = λ l n. refl;
      enters = λ l n up. up;
      waiting = λ l link x c. elim (delay-waiting f.link h l link x c) [ inl there ↦ inl there | inr same ↦ inr (subst New (sym same) new) ];
    })
    refl

heard_links : (key : LsaKey) (s : AreaValue) → (heard_by key s).links ≡ s.links
heard_links key s = by (is_self_originated s.router s.links key) refl
  where
    by : (b : Bool) → is_self_originated s.router s.links key ≡ b → (heard_by key s).links ≡ s.links
    by true own = rw own refl
    by false other = rw other refl

-- ---- an LSA of an Update

replied_goes : (New : LsaHeader → Type 0) (o : Option (List ℕ)) (f : PacketSource) (key : LsaKey) (s : AreaValue) → GoesBy New s (replied o f key s)
replied_goes New None f key s = by_links New s s refl
replied_goes New (Some lsa) f key s = change_goes New f (IsSent (instance_of lsa)) s.tick s (replied (Some lsa) f key s) refl

moved : (New : LsaHeader → Type 0) (s t u : AreaValue) → u ≡ t → GoesBy New s t → GoesBy New s u
moved New s t u same goes = subst (λ (x : AreaValue). GoesBy New s x) (sym same) goes

admitted_goes : (New : LsaHeader → Type 0) (a : Acknowledgement) (f : PacketSource) (lsa : List ℕ) (s m t : AreaValue) → New (header_of lsa) → GoesBy New s m → t ≡ heard_by (key_of lsa) (acknowledging a f (header_of lsa) m) → GoesBy New s t
admitted_goes New a f lsa s m t new stored state =
    let told = acknowledging a f (header_of lsa) m in
    moved New s (heard_by (key_of lsa) told) t state
    (goes_then New s m (heard_by (key_of lsa) told) stored
    (goes_then New m told (heard_by (key_of lsa) told) (acknowledging_goes New a f (header_of lsa) m new) (by_links New told (heard_by (key_of lsa) told) (heard_links (key_of lsa) told))))

rule_goes : (New : LsaHeader → Type 0) (r : Option LsaRule) (f : PacketSource) (lsa : List ℕ) (s : AreaValue) (out : OutputsValue) (t : AreaValue) → New (header_of lsa) → MeetsRule r f lsa s no_outputs out t → GoesBy New s t
rule_goes New None f lsa s out t new is = by_state New s t is.state
rule_goes New (Some rule.AcknowledgesExpired) f lsa s out t new is = moved New s _ t is.state (acknowledging_goes New _ f (header_of lsa) s new)
rule_goes New (Some rule.TooSoon) f lsa s out t new is = by_state New s t is.state
rule_goes New (Some rule.Installs) f lsa s out t new is =
    admitted_goes New _ f lsa s is.mid t new (store_goes New (key_of lsa) (header_of lsa) (Some f) s.tick s is.mid (ap (λ (x : AreaValue). x.links) is.stores.rest)) is.state
rule_goes New (Some rule.BadRequest) f lsa s out t new is = change_goes New f (Restarts s.next_dd) s.tick s t (ap (λ (x : AreaValue). x.links) is.state)
rule_goes New (Some rule.Duplicate) f lsa s out t new is =
    let m : AreaValue = record s { links = changed_at f (Acknowledges (instance_of lsa)) s.tick s.links } in
    moved New s _ t is.state (goes_then New s m _ (change_goes New f (Acknowledges (instance_of lsa)) s.tick s m refl) (acknowledging_goes New _ f (header_of lsa) m new))
rule_goes New (Some rule.Stale) f lsa s out t new is = moved New s _ t is.state (replied_goes New (reply_to s (key_of lsa)) f (key_of lsa) s)

lsa_goes : (New : LsaHeader → Type 0) (f : PacketSource) (lsa : List ℕ) (s : AreaValue) (out : OutputsValue) (t : AreaValue) → New (header_of lsa) → LsaPart f lsa s out t → GoesBy New s t
lsa_goes New f lsa s out t new (LsaPart.Meets is_lsa meets) = rule_goes New (rule_met s f lsa) f lsa s out t new meets
lsa_goes New f lsa s out t new (LsaPart.PassedOver other passes outputs) = by_links New s t (ap (λ (x : AreaValue). x.links) (passed s.passes_over f lsa s t passes).state)

-- ---- parts

taken_off_goes : (New : LsaHeader → Type 0) (o : Option Instance) (f : PacketSource) (s : AreaValue) → GoesBy New s (taken_off f o s)
taken_off_goes New None f s = by_links New s s refl
taken_off_goes New (Some i) f s = change_goes New f (Acknowledges i) s.tick s (taken_off f (Some i) s) refl

issue_goes : (New : LsaHeader → Type 0) (lsa : List ℕ) (s : AreaValue) (out : OutputsValue) (t : AreaValue) → IssuePart lsa s out t → GoesBy New s t
issue_goes New lsa s out t is = store_goes New (key_of lsa) (header_of lsa) None s.tick s t is.links

expiry_goes : (New : LsaHeader → Type 0) (s : AreaValue) (out : OutputsValue) (t : AreaValue) → ExpiryStep s out t → GoesBy New s t
expiry_goes New s out t step =
    requests_go New (ExpiryPart step.key step.copy) s out t (λ o m is. flood_goes New step.key (header_of (lsa_of (at_max_age step.copy))) None s.tick s m is.links) step.expires

own_goes : (New : LsaHeader → Type 0) (s : AreaValue) (out : OutputsValue) (t : AreaValue) → OwnStep s out t → GoesBy New s t
own_goes New s out t (OwnStep.Issue lsa is) = requests_go New (IssuePart lsa) s out t (λ o m is. issue_goes New lsa s o m is) is
own_goes New s out t (OwnStep.Flush key copy is) = requests_go New (ExpiryPart key copy) s out t (λ o m is. flood_goes New key (header_of (lsa_of (at_max_age copy))) None s.tick s m is.links) is

-- all parts but a Database Description: an LSA is one of those headers
abbrev pub IsOf : (LsaHeader → Type 0) → Part → Type 0
IsOf New (DdComes f p) = ⊥
IsOf New (LsaComes f lsa) = New (header_of lsa)
IsOf New part = Unit {0}

part_goes : (New : LsaHeader → Type 0) (part : Part) (s : AreaValue) (out : OutputsValue) (t : AreaValue) → IsOf New part → IsPart part s out t → GoesBy New s t
part_goes New (HelloComes f p) s out t of is = quiet_goes New s out t is
part_goes New (DdComes f p) s out t of is = absurd of
part_goes New (RequestComes f p) s out t of is = quiet_goes New s out t is
part_goes New (LsaComes f lsa) s out t of is = lsa_goes New f lsa s out t of is
part_goes New (HeaderComes f h) s out t of is = moved New s _ t is.state (taken_off_goes New (named_by h (option_and_then (entry_of s.database) (key_of_header h))) f s)
part_goes New (DirectAcknowledgements f) s out t of is = by_links New s t (ap (λ (x : AreaValue). x.links) is.state)
part_goes New (LinkChanges link up) s out t of is = quiet_goes New s out t is
part_goes New Ages s out t of (n, is) =
    then_goes New (AgesPart s) (Times n ExpiryStep) s out t (λ o m a. by_links New s m (ap (λ (x : AreaValue). x.links) a.rest)) (λ m o each. times_go New n ExpiryStep m o t (expiry_goes New) each) is
part_goes New Timers s out t of is = quiet_goes New s out t is
part_goes New Hellos s out t of is = quiet_goes New s out t is
part_goes New Acknowledgements s out t of is = quiet_goes New s out t is
part_goes New Repeats s out t of is = quiet_goes New s out t is
part_goes New Requests s out t of is = quiet_goes New s out t is
part_goes New Elections s out t of is = quiet_goes New s out t is
part_goes New OwnLsas s out t of (n, is) =
    then_goes New (Times n OwnStep s) AnswersAll s out t (λ o m each. times_go New n OwnStep s o m (own_goes New) each) (λ m o all. by_links New m t (ap (λ (x : AreaValue). x.links) all.state)) is
part_goes New Removals s out t of is = by_links New s t is.same_links

-- parts one after the other
abbrev pub AreOf : (LsaHeader → Type 0) → List Part → Type 0
AreOf New [] = Unit {0}
AreOf New (part ∷ parts) = IsOf New part × AreOf New parts

pub chain_goes : (New : LsaHeader → Type 0) (parts : List Part) (s : AreaValue) (out : OutputsValue) (t : AreaValue) → AreOf New parts → Chain parts s out t → GoesBy New s t
chain_goes New [] s out t of nothing = by_state New s t nothing.state
chain_goes New (part ∷ parts) s out t (here, rest) both =
    goes_then New s both.mid t (part_goes New part s both.first_out both.mid here both.first) (chain_goes New parts both.mid both.next_out t rest both.next)
