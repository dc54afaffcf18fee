-- What waits on, and whom an LSA reaches that is flooded.
use Rattle.std.proofs.Common.{◌≡◌, ◌||◌, ◌⊎◌, ◌↔◌, inl, inr, ℕ, Bool, true, false, not, if◌then◌else◌, Option, None, Some, List, [], ◌∷◌, Contains, refl, sym, ap, subst, ◌∙◌}
use Rattle.std.proofs.lemmas.Option.{none-some, same_Some}
use Rattle.std.specs.Option.{option_map}
use Rattle.ospf_base.specs.declared.ids.Instance.{Instance}
use Rattle.ospf_base.specs.declared.ids.LsaKey.{LsaKey}
use Rattle.ospf_flood.proofs.LawLemmas.{flood_takes, flooded_is_put}
use Rattle.ospf_flood.specs.Offers.{instance_with, looked_at}
use Rattle.ospf_flood.proofs.Words.{offer_by, offer_over}
use Rattle.ospf_flood.specs.declared.offer.Offer.TheVariants.{PassesOver, Lists}
use Rattle.ospf_lsa.specs.Recency.{recency}
use Rattle.ospf_lsa.specs.declared.header.LsaHeader.{LsaHeader}
use Rattle.ospf_lsa.specs.declared.recency.Recency.{Recency}
use Rattle.ospf_lsa.specs.declared.recency.Recency.TheVariants.{Newer, Older, Same}
use Rattle.ospf_neighbour.proofs.LawLemmas.{takes_key}
use Rattle.ospf_neighbour.specs.Laws.{Waits, instances}
use Rattle.ospf_neighbour.specs.Lists.{is_key_listed, key_unlisted, request_of, without_key}
use Rattle.ospf_neighbour.specs.Machine.{is_exchanging, transition}
use Rattle.ospf_neighbour.specs.Neighbour.{NeighbourValue, effected, is_empty}
use Rattle.ospf_neighbour.specs.declared.machine.NbrEvent.TheVariants.{LoadingDone}
use Rattle.ospf_neighbour.specs.declared.neighbour.Listed.{Listed}
use Rattle.ospf_base.specs.Keys.{same_key}
use Rattle.ospf_exchange.specs.Requests.{asked_next, request_due}
use Rattle.ospf_area.specs.Asking.{turned_to_next}
use Rattle.ospf_neighbour.specs.declared.machine.NeighbourState.{NeighbourState}
use Rattle.ospf_neighbour.specs.declared.machine.NeighbourState.TheVariants.{Down, Init, TwoWay, ExStart, Exchange, Loading, Full}
use Rattle.ospf_area.specs.Flooding.{came_from}
use Rattle.ospf_area.specs.Laws.{IsSpared, turned_there}
use Rattle.ospf_area.specs.Laws.IsSpared.{Came, Described}
use Rattle.ospf_area.specs.State.{LinkValue, WaitsIn}
use Rattle.ospf_area.specs.declared.flooding.PacketSource.{PacketSource}
use Rattle.ospf_area.specs.declared.sending.RouterContext.{RouterContext}
use Rattle.ospf_area.proofs.Words.{loaded, flooded_neighbour}

-- the old copy leaves
pub release_waits : (key : LsaKey) (o : Option NeighbourValue) (j : Instance) → WaitsIn o j → WaitsIn (option_map (key_unlisted key) o) j ⊎ (j.key ≡ key)
release_waits key None j waits = absurd waits
release_waits key (Some n) j waits = takes_key key j n waits

-- an LSA is flooded
pub flood_waits : (key : LsaKey) (h : LsaHeader) (here : Option PacketSource) (tick : ℕ) (o : Option NeighbourValue) (j : Instance)
    → WaitsIn o j → WaitsIn (option_map (flooded_neighbour key h here tick) o) j ⊎ (j.key ≡ key)
flood_waits key h here tick None j waits = absurd waits
flood_waits key h here tick (Some n) j waits = flood_takes key h (came_from here n) tick n j waits

-- no instance of the key is left
none_left : (key : LsaKey) (ls : List Listed) → is_key_listed key (without_key key ls) ≡ false
none_left key [] = refl
none_left key (x ∷ xs) = by_test (same_key x.instance.key key) refl (none_left key xs)
  where
    by_test : (b : Bool) → same_key x.instance.key key ≡ b → is_key_listed key (without_key key xs) ≡ false → is_key_listed key (if not b then x ∷ without_key key xs else without_key key xs) ≡ false
    by_test true e rest = rest
    by_test false e rest = ap (λ (b : Bool). b || is_key_listed key (without_key key xs)) e ∙ rest

pub none_after : (key : LsaKey) (o : Option NeighbourValue) (n : NeighbourValue) → option_map (key_unlisted key) o ≡ Some n → is_key_listed key n.retransmission ≡ false
none_after key None n e = absurd (none-some n e)
none_after key (Some m) n e = subst (λ (x : NeighbourValue). is_key_listed key x.retransmission ≡ false) (same_Some (key_unlisted key m) n e) (none_left key m.retransmission)

-- LoadingDone and Requests
turned_list : (mtu tick : ℕ) (n : NeighbourValue) → (turned_to_next mtu tick n).retransmission ≡ n.retransmission
turned_list mtu tick n = by_test (request_due (loaded n))
  where
    same : (loaded n).retransmission ≡ n.retransmission
    same = by_state n.state (is_empty n.requests)
      where
        by_state : (s : NeighbourState) (b : Bool) → (effected (transition s LoadingDone b) 0 n).retransmission ≡ n.retransmission
        by_state Down b = refl
        by_state Init b = refl
        by_state TwoWay b = refl
        by_state ExStart b = refl
        by_state Exchange b = refl
        by_state Loading true = refl
        by_state Loading false = refl
        by_state Full b = refl

    by_test : (b : Bool) → (if b then asked_next mtu tick (loaded n) else loaded n).retransmission ≡ n.retransmission
    by_test true = same
    by_test false = same

pub turn_waits : (own : RouterContext) (link : Option LinkValue) (o : Option NeighbourValue) (j : Instance) → WaitsIn (option_map (turned_there own link) o) j ↔ WaitsIn o j
turn_waits own link None j = (λ w. w, λ w. w)
turn_waits own None (Some n) j = (λ w. w, λ w. w)
turn_waits own (Some link) (Some n) j =
    let same = turned_list link.settings.mtu own.tick n in
    (λ w. subst (λ (ls : List Listed). Contains (instances ls) j) same w, λ w. subst (λ (ls : List Listed). Contains (instances ls) j) (sym same) w)

looked_is : (s : NeighbourState) (entry : Option LsaHeader) (e : LsaHeader) → looked_at s entry ≡ Some e → entry ≡ Some e
looked_is Down entry e is = absurd (cc)
looked_is Init entry e is = absurd (cc)
looked_is TwoWay entry e is = absurd (cc)
looked_is ExStart entry e is = absurd (cc)
looked_is Exchange entry e is = is
looked_is Loading entry e is = is
looked_is Full entry e is = absurd (cc)

-- why an offer is not listed
pub data Spares (h : LsaHeader) (seen : Option LsaHeader) (came : Bool) : Type 0 where
  FromIt : came ≡ true → Spares h seen came
  NotOlder : (entry : LsaHeader) → seen ≡ Some entry → (recency h entry ≡ Newer → ⊥) → Spares h seen came

offered : (h : LsaHeader) (seen : Option LsaHeader) (came : Bool) → offer_by h seen came ≡ Lists ⊎ Spares h seen came
offered h None true = inr (Spares.FromIt refl)
offered h None false = inl refl
offered h (Some e) came = by_recency (recency h e) refl came
  where
    by_recency : (r : Recency) → recency h e ≡ r → (b : Bool) → offer_by h (Some e) b ≡ Lists ⊎ Spares h (Some e) b
    by_recency Older is b = inr (Spares.NotOlder e refl (λ newer. absurd (cc)))
    by_recency Same is b = inr (Spares.NotOlder e refl (λ newer. absurd (cc)))
    by_recency Newer is true = inr (Spares.FromIt refl)
    by_recency Newer is false = inl (ap (λ (r : Recency). offer_over r false) is)

spared : (key : LsaKey) (h : LsaHeader) (here : Option PacketSource) (n : NeighbourValue) → Spares h (looked_at n.state (request_of key n.requests)) (came_from here n) → IsSpared key h here n
spared key h here n (Spares.FromIt is) = Came is
spared key h here n (Spares.NotOlder entry is not) = Described entry (looked_is n.state (request_of key n.requests) entry is) not

-- a neighbour in Exchange or above waits for it, or is spared
pub reaches : (key : LsaKey) (h : LsaHeader) (here : Option PacketSource) (tick : ℕ) (n : NeighbourValue) → is_exchanging n.state ≡ true
    → Waits (flooded_neighbour key h here tick n) (instance_with key h) ⊎ IsSpared key h here n
reaches key h here tick n up = elim (offered h (looked_at n.state (request_of key n.requests)) (came_from here n)) [
  | inl is ↦ inl (flooded_is_put key h (came_from here n) tick n (ap (λ (b : Bool). if b then offer_by h (looked_at n.state (request_of key n.requests)) (came_from here n) else PassesOver) up ∙ is))
  | inr why ↦ inr (spared key h here n why)
]
