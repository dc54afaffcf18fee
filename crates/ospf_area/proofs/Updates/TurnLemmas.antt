-- Where no neighbour waits for a turn, and which rules leave it so.
use Rattle.std.proofs.Common.{◌≡◌, ◌==◌, ◌++◌, ℕ, suc, Bool, true, false, if◌then◌else◌, Option, None, Some, Result, Ok, Err, IfOk, OnOk, List, [], ◌∷◌, map, refl, sym, ap, subst, ◌∙◌}
use Rattle.std.specs.List.{flat_map}
use Rattle.ospf_base.specs.declared.ids.Instance.{Instance}
use Rattle.ospf_base.specs.declared.ids.LsaKey.{LsaKey}
use Rattle.ospf_base.specs.declared.ids.RouterId.{RouterId}
use Rattle.ospf_exchange.specs.Requests.{asked_next, request_due}
use Rattle.ospf_flood.proofs.Words.{case_of_same}
use Rattle.ospf_flood.specs.declared.acknowledgement.Acknowledgement.{Acknowledgement}
use Rattle.ospf_flood.specs.declared.acknowledgement.Acknowledgement.TheVariants as answer
use Rattle.ospf_flood.specs.declared.acknowledgement.AcknowledgementCase.TheVariants.{Expired}
use Rattle.ospf_flood.specs.declared.rule.LsaRule.{LsaRule}
use Rattle.ospf_flood.specs.declared.rule.LsaRule.TheVariants.{AcknowledgesExpired, TooSoon, Installs, BadRequest, Duplicate, Stale}
use Rattle.ospf_neighbour.specs.declared.iface.machine.Iface.{Iface}
use Rattle.ospf_lsa.specs.Header.{header_of}
use Rattle.ospf_lsa.specs.Lsa.{instance_of, key_of}
use Rattle.ospf_lsa.specs.declared.header.LsaHeader.{LsaHeader}
use Rattle.ospf_neighbour.specs.Lists.{sent_again, without_instance}
use Rattle.ospf_neighbour.specs.Machine.{transition}
use Rattle.ospf_neighbour.specs.Neighbour.{NeighbourValue, effected, is_empty}
use Rattle.ospf_neighbour.specs.declared.machine.NbrEvent.TheVariants.{LoadingDone}
use Rattle.ospf_neighbour.specs.declared.machine.NeighbourState.{NeighbourState}
use Rattle.ospf_neighbour.specs.declared.machine.NeighbourState.TheVariants.{Down, Init, TwoWay, ExStart, Exchange, Loading, Full}
use Rattle.ospf_neighbour.specs.declared.neighbour.Listed.{Listed}
use Rattle.ospf_area.proofs.NeighbourLemmas.{turned-router}
use Rattle.ospf_area.proofs.SendingLemmas.{sends_none}
use Rattle.ospf_area.specs.Asking.{turn_requests_on, turned_to_next, turned_link}
use Rattle.ospf_area.proofs.Words.{request_to, turn_request, delayed_on, loaded, is_awaited_of}
use Rattle.ospf_area.specs.Changes.{changed_at}
use Rattle.ospf_area.specs.Outputs.{OutputsValue, SentValue}
use Rattle.ospf_area.specs.Places.{flat_from, map_from}
use Rattle.ospf_area.specs.Sending.{and_sends, context_of}
use Rattle.ospf_area.specs.Standing.{acknowledging, answer_at}
use Rattle.ospf_area.specs.State.{AreaValue, LinkValue, neighbour_at}
use Rattle.ospf_area.specs.declared.changes.AdjacencyChange.TheVariants.{Acknowledges, IsSent}
use Rattle.ospf_area.specs.declared.flooding.PacketSource.{PacketSource}
use Rattle.ospf_area.specs.declared.sending.RouterContext.{RouterContext}
use Rattle.ospf_area.specs.Updates.Aging.{turn_out, turned_area}
use Rattle.ospf_area.specs.Updates.Meets.{MeetsRule, replied, reply_to, rule_met}
use Rattle.ospf_area.specs.Updates.Updates.{AreTurned, IsTurned, leaves_turned}
use Rattle.ospf_area.proofs.Updates.Words.{MeetsAndTurns}

-- ---- lists

same_either : {X : Type 0} (b : Bool) (x : X) → (if b then x else x) ≡ x
same_either true x = refl
same_either false x = refl

-- where all of two lists is none, each is
none_before : {X : Type 0} (xs ys : List X) → xs ++ ys ≡ [] → xs ≡ []
none_before [] ys none = refl
none_before (x ∷ xs) ys none = absurd (cc)

none_behind : {X : Type 0} (xs ys : List X) → xs ++ ys ≡ [] → ys ≡ []
none_behind [] ys none = none
none_behind (x ∷ xs) ys none = absurd (cc)

map_again : {X : Type 0} (f : X → X) → ((x : X) → f (f x) ≡ f x) → (xs : List X) → map f (map f xs) ≡ map f xs
map_again f again [] = refl
map_again f again (x ∷ xs) = ap (λ y. y ∷ map f (map f xs)) (again x) ∙ ap (λ ys. f x ∷ ys) (map_again f again xs)

map_commutes : {X : Type 0} (f g : X → X) → ((x : X) → f (g x) ≡ g (f x)) → (xs : List X) → map f (map g xs) ≡ map g (map f xs)
map_commutes f g commutes [] = refl
map_commutes f g commutes (x ∷ xs) = ap (λ y. y ∷ map f (map g xs)) (commutes x) ∙ ap (λ ys. g (f x) ∷ ys) (map_commutes f g commutes xs)

map_from_commutes : {X : Type 0} (f : X → X) (g : ℕ → X → X) → ((k : ℕ) (x : X) → f (g k x) ≡ g k (f x)) → (k : ℕ) (xs : List X) → map f (map_from g k xs) ≡ map_from g k (map f xs)
map_from_commutes f g commutes k [] = refl
map_from_commutes f g commutes k (x ∷ xs) =
    ap (λ y. y ∷ map f (map_from g (suc k) xs)) (commutes k x) ∙ ap (λ ys. g k (f x) ∷ ys) (map_from_commutes f g commutes (suc k) xs)

flat_map_same : {X Y : Type 0} (h : X → List Y) (g : X → X) → ((x : X) → h (g x) ≡ h x) → (xs : List X) → flat_map h (map g xs) ≡ flat_map h xs
flat_map_same h g same [] = refl
flat_map_same h g same (x ∷ xs) = ap (λ l. l ++ flat_map h (map g xs)) (same x) ∙ ap (λ l. h x ++ l) (flat_map_same h g same xs)

flat_from_same : {X Y : Type 0} (h : ℕ → X → List Y) (g : ℕ → X → X) → ((k : ℕ) (x : X) → h k (g k x) ≡ h k x) → (k : ℕ) (xs : List X)
    → flat_from h k (map_from g k xs) ≡ flat_from h k xs
flat_from_same h g same k [] = refl
flat_from_same h g same k (x ∷ xs) = ap (λ l. l ++ flat_from h (suc k) (map_from g (suc k) xs)) (same k x) ∙ ap (λ l. h k x ++ l) (flat_from_same h g same (suc k) xs)

flat_map_none : {X Y : Type 0} (h : X → List Y) (g : X → X) → ((x : X) → h x ≡ [] → h (g x) ≡ []) → (xs : List X) → flat_map h xs ≡ [] → flat_map h (map g xs) ≡ []
flat_map_none h g stays [] none = refl
flat_map_none h g stays (x ∷ xs) none =
    ap (λ l. l ++ flat_map h (map g xs)) (stays x (none_before (h x) (flat_map h xs) none)) ∙ flat_map_none h g stays xs (none_behind (h x) (flat_map h xs) none)

flat_from_none : {X Y : Type 0} (h : ℕ → X → List Y) (g : X → X) → ((k : ℕ) (x : X) → h k x ≡ [] → h k (g x) ≡ []) → (k : ℕ) (xs : List X)
    → flat_from h k xs ≡ [] → flat_from h k (map g xs) ≡ []
flat_from_none h g stays k [] none = refl
flat_from_none h g stays k (x ∷ xs) none =
    ap (λ l. l ++ flat_from h (suc k) (map g xs)) (stays k x (none_before (h k x) (flat_from h (suc k) xs) none))
    ∙ flat_from_none h g stays (suc k) xs (none_behind (h k x) (flat_from h (suc k) xs) none)

-- ---- LoadingDone

-- the state that it leaves
abbrev state_after : NeighbourState → Bool → NeighbourState
state_after s b = (transition s LoadingDone b).state

-- it changes nothing but the state
loaded_state : (n : NeighbourValue) → loaded n ≡ record n { state = state_after n.state (is_empty n.requests) }
loaded_state n = by_state n.state (is_empty n.requests)
  where
    by_state : (s : NeighbourState) (b : Bool) → effected (transition s LoadingDone b) 0 n ≡ record n { state = state_after s b }
    by_state Down b = refl
    by_state Init b = refl
    by_state TwoWay b = refl
    by_state ExStart b = refl
    by_state Exchange b = refl
    by_state Loading true = refl
    by_state Loading false = refl
    by_state Full b = refl

-- a neighbour whose retransmission list is another
abbrev relists : (List Listed → List Listed) → NeighbourValue → NeighbourValue
relists g n = record n { retransmission = g n.retransmission }

loaded_relists : (g : List Listed → List Listed) (n : NeighbourValue) → loaded (relists g n) ≡ relists g (loaded n)
loaded_relists g n = loaded_state (relists g n) ∙ ap (relists g) (sym (loaded_state n))

loaded_asked : (mtu tick : ℕ) (n : NeighbourValue) → loaded (asked_next mtu tick n) ≡ asked_next mtu tick (loaded n)
loaded_asked mtu tick n = loaded_state (asked_next mtu tick n) ∙ ap (asked_next mtu tick) (sym (loaded_state n))

-- a second one leaves all as it is
loaded_again : (n : NeighbourValue) → loaded (loaded n) ≡ loaded n
loaded_again n =
    ap loaded (loaded_state n)
    ∙ loaded_state (record n { state = state_after n.state (is_empty n.requests) })
    ∙ ap (λ (s : NeighbourState). record n { state = s }) (by_state n.state (is_empty n.requests))
    ∙ sym (loaded_state n)
  where
    by_state : (s : NeighbourState) (b : Bool) → state_after (state_after s b) b ≡ state_after s b
    by_state Down b = refl
    by_state Init b = refl
    by_state TwoWay b = refl
    by_state ExStart b = refl
    by_state Exchange b = refl
    by_state Loading true = refl
    by_state Loading false = refl
    by_state Full b = refl

-- ---- a turn of one neighbour

-- the next Request, where it is due
abbrev asks_if : Bool → ℕ → ℕ → NeighbourValue → NeighbourValue
asks_if b mtu tick n = if b then asked_next mtu tick n else n

abbrev sends_if : Bool → RouterContext → ℕ → Iface → ℕ → NeighbourValue → List SentValue
sends_if b own l i mtu n = if b then request_to own l i (asked_next mtu own.tick n) else []

-- behind a turn no LoadingDone is left
loaded_turned : (mtu tick : ℕ) (n : NeighbourValue) → loaded (turned_to_next mtu tick n) ≡ turned_to_next mtu tick n
loaded_turned mtu tick n = by_test (request_due (loaded n))
  where
    by_test : (b : Bool) → loaded (asks_if b mtu tick (loaded n)) ≡ asks_if b mtu tick (loaded n)
    by_test true = loaded_asked mtu tick (loaded n) ∙ ap (asked_next mtu tick) (loaded_again n)
    by_test false = loaded_again n

turned_again : (mtu tick : ℕ) (n : NeighbourValue) → turned_to_next mtu tick (turned_to_next mtu tick n) ≡ turned_to_next mtu tick n
turned_again mtu tick n = ap (λ m. asks_if (request_due m) mtu tick m) (loaded_turned mtu tick n) ∙ by_test (request_due (loaded n)) refl
  where
    by_test : (b : Bool) → request_due (loaded n) ≡ b → asks_if (request_due (asks_if b mtu tick (loaded n))) mtu tick (asks_if b mtu tick (loaded n)) ≡ asks_if b mtu tick (loaded n)
    by_test true is = same_either (request_due (asked_next mtu tick (loaded n))) (asked_next mtu tick (loaded n))
    by_test false is = ap (λ b. asks_if b mtu tick (loaded n)) is

-- where a turn sends nothing, nor does the next
quiet_again : (own : RouterContext) (l : ℕ) (i : Iface) (mtu : ℕ) (n : NeighbourValue) → turn_request own l i mtu n ≡ [] → turn_request own l i mtu (turned_to_next mtu own.tick n) ≡ []
quiet_again own l i mtu n quiet = ap (λ m. sends_if (request_due m) own l i mtu m) (loaded_turned mtu own.tick n) ∙ by_test (request_due (loaded n)) refl quiet
  where
    by_due : (b : Bool) → request_to own l i (asked_next mtu own.tick (loaded n)) ≡ [] → sends_if b own l i mtu (asked_next mtu own.tick (loaded n)) ≡ []
    by_due true none = none
    by_due false none = refl

    by_test : (b : Bool) → request_due (loaded n) ≡ b → sends_if b own l i mtu (loaded n) ≡ []
        → sends_if (request_due (asks_if b mtu own.tick (loaded n))) own l i mtu (asks_if b mtu own.tick (loaded n)) ≡ []
    by_test true is none = by_due (request_due (asked_next mtu own.tick (loaded n))) none
    by_test false is none = ap (λ b. sends_if b own l i mtu (loaded n)) is

-- ---- a turn of all

link_again : (own : RouterContext) (link : LinkValue) → turned_link own (turned_link own link) ≡ turned_link own link
link_again own link =
    ap (λ (ns : List NeighbourValue). record link { neighbours = ns }) (map_again (turned_to_next link.settings.mtu own.tick) (turned_again link.settings.mtu own.tick) link.neighbours)

link_quiet : (own : RouterContext) (l : ℕ) (link : LinkValue) → turn_requests_on own l link ≡ [] → turn_requests_on own l (turned_link own link) ≡ []
link_quiet own l link quiet =
    flat_map_none (turn_request own l link.iface link.settings.mtu) (turned_to_next link.settings.mtu own.tick) (quiet_again own l link.iface link.settings.mtu) link.neighbours quiet

-- behind a turn that sent nothing none waits
pub turned_rests : (own : RouterContext) (links : List LinkValue) → flat_from (turn_requests_on own) 0 links ≡ [] → AreTurned own (map (turned_link own) links)
turned_rests own links quiet = record {
  still = map_again (turned_link own) (link_again own) links;
  quiet = flat_from_none (turn_requests_on own) (turned_link own) (link_quiet own) 0 links quiet;
}

-- ---- changes that no turn sees

-- a change of links by which no turn becomes due
record IsUnseen (own : RouterContext) (c : ℕ → LinkValue → LinkValue) : Type 0 where
  commutes : (l : ℕ) (link : LinkValue) → turned_link own (c l link) ≡ c l (turned_link own link)
  same : (l : ℕ) (link : LinkValue) → turn_requests_on own l (c l link) ≡ turn_requests_on own l link

unseen_rests : (own : RouterContext) (c : ℕ → LinkValue → LinkValue) (links : List LinkValue) → IsUnseen own c → AreTurned own links → AreTurned own (map_from c 0 links)
unseen_rests own c links unseen turned_to_next = record {
  still = map_from_commutes (turned_link own) c unseen.commutes 0 links ∙ ap (map_from c 0) turned_to_next.still;
  quiet = flat_from_same (turn_requests_on own) c unseen.same 0 links ∙ turned_to_next.quiet;
}

delayed_unseen : (own : RouterContext) (number : ℕ) (h : LsaHeader) → IsUnseen own (delayed_on number h)
delayed_unseen own number h = record { commutes = λ l link. commutes link (l == number); same = λ l link. same l link (l == number) }
  where
    commutes : (link : LinkValue) (b : Bool)
        → turned_link own (if b then record link { delayed = link.delayed ++ h ∷ [] } else link) ≡ (if b then record (turned_link own link) { delayed = link.delayed ++ h ∷ [] } else turned_link own link)
    commutes link true = refl
    commutes link false = refl

    same : (l : ℕ) (link : LinkValue) (b : Bool) → turn_requests_on own l (if b then record link { delayed = link.delayed ++ h ∷ [] } else link) ≡ turn_requests_on own l link
    same l link true = refl
    same l link false = refl

-- of the neighbours, the one of this Router ID
abbrev relists_if : RouterId → (List Listed → List Listed) → NeighbourValue → NeighbourValue
relists_if q g n = if n.router.0 == q.0 then relists g n else n

relists_commutes : (q : RouterId) (g : List Listed → List Listed) (mtu tick : ℕ) (n : NeighbourValue) → turned_to_next mtu tick (relists_if q g n) ≡ relists_if q g (turned_to_next mtu tick n)
relists_commutes q g mtu tick n =
    by_test (n.router.0 == q.0) ∙ ap (λ (r : RouterId). if r.0 == q.0 then relists g (turned_to_next mtu tick n) else turned_to_next mtu tick n) (sym (turned-router mtu tick n))
  where
    by_due : (b : Bool) → asks_if b mtu tick (relists g (loaded n)) ≡ relists g (asks_if b mtu tick (loaded n))
    by_due true = refl
    by_due false = refl

    by_test : (b : Bool) → turned_to_next mtu tick (if b then relists g n else n) ≡ (if b then relists g (turned_to_next mtu tick n) else turned_to_next mtu tick n)
    by_test true = ap (λ m. asks_if (request_due m) mtu tick m) (loaded_relists g n) ∙ by_due (request_due (loaded n))
    by_test false = refl

relists_same : (q : RouterId) (g : List Listed → List Listed) (own : RouterContext) (l : ℕ) (i : Iface) (mtu : ℕ) (n : NeighbourValue)
    → turn_request own l i mtu (relists_if q g n) ≡ turn_request own l i mtu n
relists_same q g own l i mtu n = by_test (n.router.0 == q.0)
  where
    by_test : (b : Bool) → turn_request own l i mtu (if b then relists g n else n) ≡ turn_request own l i mtu n
    by_test true = ap (λ m. sends_if (request_due m) own l i mtu m) (loaded_relists g n)
    by_test false = refl

abbrev relists_link : RouterId → (List Listed → List Listed) → LinkValue → LinkValue
relists_link q g link = record link { neighbours = map (relists_if q g) link.neighbours }

abbrev relists_on : PacketSource → (List Listed → List Listed) → ℕ → LinkValue → LinkValue
relists_on f g l link = if l == f.link then relists_link f.router g link else link

relists_unseen : (own : RouterContext) (f : PacketSource) (g : List Listed → List Listed) → IsUnseen own (relists_on f g)
relists_unseen own f g = record { commutes = λ l link. commutes link (l == f.link); same = λ l link. same l link (l == f.link) }
  where
    commutes : (link : LinkValue) (b : Bool) → turned_link own (if b then relists_link f.router g link else link) ≡ (if b then relists_link f.router g (turned_link own link) else turned_link own link)
    commutes link true =
        ap (λ (ns : List NeighbourValue). record link { neighbours = ns })
        (map_commutes (turned_to_next link.settings.mtu own.tick) (relists_if f.router g) (relists_commutes f.router g link.settings.mtu own.tick) link.neighbours)
    commutes link false = refl

    same : (l : ℕ) (link : LinkValue) (b : Bool) → turn_requests_on own l (if b then relists_link f.router g link else link) ≡ turn_requests_on own l link
    same l link true =
        flat_map_same (turn_request own l link.iface link.settings.mtu) (relists_if f.router g) (relists_same f.router g own l link.iface link.settings.mtu) link.neighbours
    same l link false = refl

-- an instance that is acknowledged, or sent, is one
acknowledged_rests : (own : RouterContext) (f : PacketSource) (i : Instance) (tick : ℕ) (links : List LinkValue) → AreTurned own links → AreTurned own (changed_at f (Acknowledges i) tick links)
acknowledged_rests own f i tick links turned_to_next = unseen_rests own (relists_on f (without_instance i)) links (relists_unseen own f (without_instance i)) turned_to_next

sent_rests : (own : RouterContext) (f : PacketSource) (i : Instance) (tick : ℕ) (links : List LinkValue) → AreTurned own links → AreTurned own (changed_at f (IsSent i) tick links)
sent_rests own f i tick links turned_to_next = unseen_rests own (relists_on f (map (sent_again i tick))) links (relists_unseen own f (map (sent_again i tick))) turned_to_next

acknowledging_rests : (a : Acknowledgement) (f : PacketSource) (h : LsaHeader) (s : AreaValue) → IsTurned s → IsTurned (acknowledging a f h s)
acknowledging_rests answer.None f h s turned_to_next = turned_to_next
acknowledging_rests answer.Delayed f h s turned_to_next = unseen_rests (context_of s) (delayed_on f.link h) s.links (delayed_unseen (context_of s) f.link h) turned_to_next
acknowledging_rests answer.Direct f h s turned_to_next = turned_to_next

replied_rests : (o : Option (List ℕ)) (f : PacketSource) (key : LsaKey) (s : AreaValue) → IsTurned s → IsTurned (replied o f key s)
replied_rests None f key s turned_to_next = turned_to_next
replied_rests (Some lsa) f key s turned_to_next = sent_rests (context_of s) f (instance_of lsa) s.tick s.links turned_to_next

-- ---- the rules of an Update

-- all rules but two leave none to wait
pub rule_rests : (r : Option LsaRule) (f : PacketSource) (lsa : List ℕ) (s : AreaValue) (o o' : OutputsValue) (t : AreaValue) → leaves_turned r ≡ true → MeetsRule r f lsa s o o' t → IsTurned s → IsTurned t
rule_rests None f lsa s o o' t leaves is turned_to_next = subst IsTurned (sym is.state) turned_to_next
rule_rests (Some AcknowledgesExpired) f lsa s o o' t leaves is turned_to_next = subst IsTurned (sym is.state) (acknowledging_rests (answer_at Expired f s.links) f (header_of lsa) s turned_to_next)
rule_rests (Some TooSoon) f lsa s o o' t leaves is turned_to_next = subst IsTurned (sym is.state) turned_to_next
rule_rests (Some Installs) f lsa s o o' t leaves is turned_to_next = absurd (cc)
rule_rests (Some BadRequest) f lsa s o o' t leaves is turned_to_next = absurd (cc)
rule_rests (Some Duplicate) f lsa s o o' t leaves is turned_to_next =
    let i = instance_of lsa in
    subst IsTurned (sym is.state)
    (acknowledging_rests (answer_at (case_of_same (is_awaited_of i (neighbour_at s.links f.link f.router))) f s.links) f (header_of lsa) (record s { links = changed_at f (Acknowledges i) s.tick s.links })
    (acknowledged_rests (context_of s) f i s.tick s.links turned_to_next))
rule_rests (Some Stale) f lsa s o o' t leaves is turned_to_next = subst IsTurned (sym is.state) (replied_rests (reply_to s (key_of lsa)) f (key_of lsa) s turned_to_next)

-- where none waits, a turn is the same as none
pub turns_none : (r : Option LsaRule) (f : PacketSource) (lsa : List ℕ) (s : AreaValue) (o o' : OutputsValue) (t : AreaValue) → r ≡ rule_met s f lsa → MeetsRule r f lsa s o o' t → IsTurned t → MeetsAndTurns f lsa s o o' t
turns_none r f lsa s o o' t met is turned_to_next = record {
  mid = t;
  so_far = o';
  meets = subst (λ (rule : Option LsaRule). MeetsRule rule f lsa s o o' t) met is;
  state = ap (λ (links : List LinkValue). record t { links = links }) (sym turned_to_next.still);
  outputs = sends_none o' ∙ ap (and_sends o') (sym turned_to_next.quiet);
}

empty_is_none : {X : Type 0} (xs : List X) → is_empty xs ≡ true → xs ≡ []
empty_is_none [] is = refl
empty_is_none (x ∷ xs) is = absurd (cc)

-- and a turn that sent nothing leaves none to wait
pub turn_rests : {E : Type 0} (r : Result Bool E) (s t : AreaValue) → OnOk r (t ≡ turned_area s) → IfOk r (λ quiet. quiet ≡ is_empty (turn_out s)) → IfOk r (λ turned_to_next. turned_to_next ≡ true → IsTurned t)
turn_rests (Ok quiet) s t after told = λ is. subst IsTurned (sym after) (turned_rests (context_of s) s.links (empty_is_none (turn_out s) (sym told ∙ is)))
turn_rests (Err e) s t after told = tt
