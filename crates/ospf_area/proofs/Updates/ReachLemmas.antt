-- Whom copies reach that go to all one after the other.
use Rattle.std.proofs.Common.{◌≡◌, ◌||◌, ◌⊎◌, inl, inr, if◌then◌else◌, not, ℕ, Bool, true, false, Option, None, Some, List, [], ◌∷◌, refl, sym, ap, subst, arith, ◌∙◌}
use Rattle.std.specs.List.{slice_get}
use Rattle.std.specs.Option.{option_map}
use Rattle.std.proofs.lemmas.Bool.{false≢true}
use Rattle.std.proofs.lemmas.Option.{none-some}
use Rattle.ospf_base.proofs.SameKeys.{same_key-eq}
use Rattle.ospf_base.specs.Keys.{same_key}
use Rattle.ospf_base.specs.declared.ids.LsaKey.{LsaKey}
use Rattle.ospf_base.specs.declared.ids.RouterId.{RouterId}
use Rattle.ospf_exchange.specs.Requests.{asked_next, request_due}
use Rattle.ospf_flood.specs.Offers.{instance_with, offer_to}
use Rattle.ospf_flood.proofs.Words.{after_offer}
use Rattle.ospf_flood.specs.declared.offer.Offer.{Offer}
use Rattle.ospf_flood.specs.declared.offer.Offer.TheVariants.{PassesOver, Satisfies, Lists}
use Rattle.ospf_lsa.specs.declared.header.LsaHeader.{LsaHeader}
use Rattle.ospf_lsdb.specs.Database as lsdb
use Rattle.ospf_lsdb.specs.Database.{Entry, header_at}
use Rattle.ospf_lsdb.specs.Moments.{among}
use Rattle.ospf_neighbour.specs.Lists.{is_header_of, request_of, requests_without}
use Rattle.ospf_neighbour.specs.Machine.{is_exchanging, transition}
use Rattle.ospf_neighbour.specs.Neighbour.{NeighbourValue, effected, is_empty}
use Rattle.ospf_neighbour.specs.declared.machine.NbrEvent.TheVariants.{LoadingDone}
use Rattle.ospf_neighbour.specs.declared.machine.NeighbourState.{NeighbourState}
use Rattle.ospf_neighbour.specs.declared.machine.NeighbourState.TheVariants.{Down, Init, TwoWay, ExStart, Exchange, Loading, Full}
use Rattle.ospf_area.proofs.LawLemmas.{turns_there}
use Rattle.ospf_area.specs.Laws.{IsSpared, turned_there}
use Rattle.ospf_area.specs.Laws.IsSpared.{Came, Described}
use Rattle.ospf_area.specs.Sending.{context_of}
use Rattle.ospf_area.specs.State.{AreaValue, Awaits, LinkValue, database_entry, neighbour}
use Rattle.ospf_area.specs.declared.sending.RouterContext.{RouterContext}
use Rattle.ospf_area.specs.Updates.Aging.{copy_flooded}
use Rattle.ospf_area.proofs.Updates.Words.{copies_sent, copy_flooded_by, copy_sent}
use Rattle.ospf_area.proofs.Updates.CopyLemmas.{copies_wait, copy_keeps, copy_reaches, flooded_copy}
use Rattle.ospf_area.proofs.Words.{loaded, flooded_neighbour}

-- a neighbour that is in Exchange or above still, and has no other request of the key than before
record IsStill (key : LsaKey) (n m : NeighbourValue) : Type 0 where
  up : is_exchanging m.state ≡ true
  requests : (e : LsaHeader) → request_of key m.requests ≡ Some e → request_of key n.requests ≡ Some e

still_both : (key : LsaKey) (a b c : NeighbourValue) → IsStill key a b → IsStill key b c → IsStill key a c
still_both key a b c one next = record { up = next.up; requests = λ e is. one.requests e (next.requests e is) }

-- ---- a flood

-- a header is of one key
one_key : (k key : LsaKey) (h : LsaHeader) → is_header_of k h ≡ true → is_header_of key h ≡ true → same_key k key ≡ true
unfolding is_header_of same_key
one_key k key h one two = grind arith

none_left : (key : LsaKey) (hs : List LsaHeader) → request_of key (requests_without key hs) ≡ None
none_left key [] = refl
none_left key (h ∷ hs) = by_test (is_header_of key h) refl (none_left key hs)
  where
    by_test : (b : Bool) → is_header_of key h ≡ b → request_of key (requests_without key hs) ≡ None → request_of key (if not b then h ∷ requests_without key hs else requests_without key hs) ≡ None
    by_test true e rest = rest
    by_test false e rest = ap (λ (b : Bool). if b then Some h else request_of key (requests_without key hs)) e ∙ rest

others_left : (k key : LsaKey) → same_key k key ≡ false → (hs : List LsaHeader) → request_of key (requests_without k hs) ≡ request_of key hs
others_left k key apart [] = refl
others_left k key apart (h ∷ hs) = by_test (is_header_of k h) refl (is_header_of key h) refl (others_left k key apart hs)
  where
    by_test : (b : Bool) → is_header_of k h ≡ b → (d : Bool) → is_header_of key h ≡ d → request_of key (requests_without k hs) ≡ request_of key hs
        → request_of key (if not b then h ∷ requests_without k hs else requests_without k hs) ≡ (if d then Some h else request_of key hs)
    by_test true e true f rest = absurd (false≢true (sym apart ∙ one_key k key h e f))
    by_test true e false f rest = rest
    by_test false e d f rest = ap (λ (b : Bool). if b then Some h else request_of key (requests_without k hs)) f ∙ ap (λ (o : Option LsaHeader). if d then Some h else o) rest

fewer : (k key : LsaKey) (hs : List LsaHeader) (e : LsaHeader) → request_of key (requests_without k hs) ≡ Some e → request_of key hs ≡ Some e
fewer k key hs e is = by_test (same_key k key) refl
  where
    by_test : (b : Bool) → same_key k key ≡ b → request_of key hs ≡ Some e
    by_test true same =
        absurd (none-some e (sym (none_left key hs) ∙ ap (λ (j : LsaKey). request_of key (requests_without j hs)) (sym (same_key-eq k key same)) ∙ is))
    by_test false apart = sym (others_left k key apart hs) ∙ is

offered_still : (o : Offer) (k key : LsaKey) (h : LsaHeader) (tick : ℕ) (n : NeighbourValue) → is_exchanging n.state ≡ true → IsStill key n (after_offer o k h tick n)
offered_still PassesOver k key h tick n up = record { up = up; requests = λ e is. is }
offered_still Satisfies k key h tick n up = record { up = up; requests = λ e is. fewer k key n.requests e is }
offered_still Lists k key h tick n up = record { up = up; requests = λ e is. fewer k key n.requests e is }

-- ---- LoadingDone and Requests

turned_still : (own : RouterContext) (link : Option LinkValue) (key : LsaKey) (n : NeighbourValue) → is_exchanging n.state ≡ true → IsStill key n (turned_there own link n)
turned_still own None key n up = record { up = up; requests = λ e is. is }
turned_still own (Some link) key n up = by_due (request_due (loaded n))
  where
    by_state : (s : NeighbourState) (b : Bool) → is_exchanging s ≡ true → IsStill key n (effected (transition s LoadingDone b) 0 n)
    by_state Down b e = absurd (false≢true e)
    by_state Init b e = absurd (false≢true e)
    by_state TwoWay b e = absurd (false≢true e)
    by_state ExStart b e = absurd (false≢true e)
    by_state Exchange b e = record { up = refl; requests = λ e is. is }
    by_state Loading true e = record { up = refl; requests = λ e is. is }
    by_state Loading false e = record { up = refl; requests = λ e is. is }
    by_state Full b e = record { up = refl; requests = λ e is. is }

    done : IsStill key n (loaded n)
    done = by_state n.state (is_empty n.requests) up

    by_due : (b : Bool) → IsStill key n (if b then asked_next link.settings.mtu own.tick (loaded n) else loaded n)
    by_due true = record { up = done.up; requests = done.requests }
    by_due false = done

-- ---- a copy that goes to all, and those after it

-- a neighbour after a copy went to all
record IsAfter (k key : LsaKey) (s : AreaValue) (l : ℕ) (q : RouterId) (n : NeighbourValue) : Type 0 where
  next : NeighbourValue
  is : neighbour (copy_sent k s) l q ≡ Some next
  still : IsStill key n next

copy_after : (k key : LsaKey) (s : AreaValue) (l : ℕ) (q : RouterId) (n : NeighbourValue) → neighbour s l q ≡ Some n → is_exchanging n.state ≡ true → IsAfter k key s l q n
copy_after k key s l q n is up = by_copy (database_entry s k) refl
  where
    then_turned : (m : NeighbourValue) → neighbour (copy_flooded k s) l q ≡ Some m → IsStill key n m → IsAfter k key s l q n
    then_turned m at still =
        let t = copy_flooded k s in
        record {
          next = turned_there (context_of t) (slice_get t.links l) m;
          is = turns_there (context_of t) t.links l q ∙ ap (option_map (turned_there (context_of t) (slice_get t.links l))) at;
          still = still_both key n m (turned_there (context_of t) (slice_get t.links l) m) still (turned_still (context_of t) (slice_get t.links l) key m still.up);
        }

    by_copy : (o : Option Entry) → database_entry s k ≡ o → IsAfter k key s l q n
    by_copy None at = then_turned n (ap (λ (o : Option Entry). neighbour (copy_flooded_by o k s) l q) at ∙ is) (record { up = up; requests = λ e is'. is' })
    by_copy (Some e) at =
        then_turned (flooded_neighbour k (header_at e) None s.tick n) (flooded_copy k e s at l q ∙ ap (option_map (flooded_neighbour k (header_at e) None s.tick)) is)
        (offered_still (offer_to k (header_at e) false n) k key (header_at e) s.tick n up)

-- spared after it for the same reason
still_spared : (key : LsaKey) (h : LsaHeader) (n m : NeighbourValue) → IsStill key n m → IsSpared key h None m → IsSpared key h None n
still_spared key h n m still (Came is) = Came is
still_spared key h n m still (Described entry is not_newer) = Described entry (still.requests entry is) not_newer

pub copies_reach : (keys : List LsaKey) (s : AreaValue) (key : LsaKey) → among keys key ≡ true → (e : Entry) → database_entry s key ≡ Some e
    → (l : ℕ) (q : RouterId) (n : NeighbourValue) → neighbour s l q ≡ Some n → is_exchanging n.state ≡ true
    → Awaits (copies_sent keys s) l q (instance_with key (header_at e)) ⊎ IsSpared key (header_at e) None n
copies_reach [] s key has e at l q n is up = absurd (false≢true has)
copies_reach (k ∷ keys) s key has e at l q n is up =
    let next = copy_after k key s l q n is up in
    by_test (among keys key) refl has
    (λ later. elim (copies_reach keys (copy_sent k s) key later e (ap (λ db. lsdb.entry_of db key) (copy_keeps k s).database ∙ at) l q next.next next.is next.still.up) [
      | inl waits ↦ inl waits
      | inr why ↦ inr (still_spared key (header_at e) n next.next next.still why)
    ])
  where
    here : same_key k key ≡ true → among keys key ≡ false → Awaits (copies_sent keys (copy_sent k s)) l q (instance_with key (header_at e)) ⊎ IsSpared key (header_at e) None n
    here same none = elim (copy_reaches key e s at l q n is up) [
      | inl waits ↦
          elim (copies_wait keys (copy_sent k s) l q (instance_with key (header_at e)) (subst (λ (j : LsaKey). Awaits (copy_sent j s) l q (instance_with key (header_at e))) (sym (same_key-eq k key same)) waits)) [
            | inl still ↦ inl still
            | inr again ↦ absurd (false≢true (sym none ∙ again))
          ]
      | inr why ↦ inr why
    ]

    or_else : (a b : Bool) → (a || b) ≡ true → b ≡ false → a ≡ true
    or_else true b one none = refl
    or_else false b one none = absurd (false≢true (sym none ∙ one))

    by_test : (b : Bool) → among keys key ≡ b → (same_key k key || among keys key) ≡ true
        → (among keys key ≡ true → Awaits (copies_sent keys (copy_sent k s)) l q (instance_with key (header_at e)) ⊎ IsSpared key (header_at e) None n)
        → Awaits (copies_sent keys (copy_sent k s)) l q (instance_with key (header_at e)) ⊎ IsSpared key (header_at e) None n
    by_test true later some rest = rest later
    by_test false none some rest = here (or_else (same_key k key) (among keys key) some none) none
