-- The neighbours of a link stay in their order while their lists change.
use Rattle.std.proofs.Common.{◌≡◌, ℕ, ◌==◌, Bool, true, false, if◌then◌else◌, refl}
use Rattle.ospf_base.specs.declared.ids.LsaKey.{LsaKey}
use Rattle.ospf_base.specs.declared.ids.RouterId.{RouterId}
use Rattle.ospf_flood.specs.Offers.{flooded, offer_to}
use Rattle.ospf_flood.proofs.Words.{after_offer}
use Rattle.ospf_flood.specs.declared.offer.Offer.{Offer}
use Rattle.ospf_flood.specs.declared.offer.Offer.TheVariants.{PassesOver, Satisfies, Lists}
use Rattle.ospf_lsa.specs.declared.header.LsaHeader.{LsaHeader}
use Rattle.ospf_neighbour.specs.Machine.{transition}
use Rattle.ospf_neighbour.specs.Neighbour.{NeighbourValue, is_empty, with_effect}
use Rattle.ospf_neighbour.specs.declared.machine.Effect.{Effect}
use Rattle.ospf_neighbour.specs.declared.machine.Effect.TheVariants.{Nothing, TimerRestarts, AdjacencyBegins, ExchangeBegins, ListsEmptied, Removed}
use Rattle.ospf_neighbour.specs.declared.machine.NbrEvent.{NbrEvent}
use Rattle.ospf_neighbour.specs.declared.machine.NbrEvent.TheVariants.{BadLsReq, LoadingDone}
use Rattle.ospf_exchange.specs.Requests.{asked_next, request_due}
use Rattle.ospf_area.specs.Asking.{turned_to_next}
use Rattle.ospf_area.specs.Changes.{after_event, neighbour_changed}
use Rattle.ospf_area.specs.declared.changes.AdjacencyChange.{AdjacencyChange}
use Rattle.ospf_area.specs.declared.changes.AdjacencyChange.TheVariants.{Acknowledges, IsSent, Restarts}
use Rattle.ospf_area.proofs.Words.{loaded, changed_if}

after_offer-router : (o : Offer) (key : LsaKey) (h : LsaHeader) (tick : ℕ) (n : NeighbourValue) → (after_offer o key h tick n).router ≡ n.router
after_offer-router PassesOver key h tick n = refl
after_offer-router Satisfies key h tick n = refl
after_offer-router Lists key h tick n = refl

pub flooded-router : (key : LsaKey) (h : LsaHeader) (from_it : Bool) (tick : ℕ) (n : NeighbourValue) → (flooded key h from_it tick n).router ≡ n.router
flooded-router key h from_it tick n = after_offer-router (offer_to key h from_it n) key h tick n

-- ---- one neighbour changes

with_effect-router : (e : Effect) (dead : ℕ) (n : NeighbourValue) → (with_effect e dead n).router ≡ n.router
with_effect-router Nothing dead n = refl
with_effect-router TimerRestarts dead n = refl
with_effect-router AdjacencyBegins dead n = refl
with_effect-router ExchangeBegins dead n = refl
with_effect-router ListsEmptied dead n = refl
with_effect-router Removed dead n = refl

pub after_event-router : (e : NbrEvent) (dead : ℕ) (n : NeighbourValue) → (after_event e dead n).router ≡ n.router
after_event-router e dead n = with_effect-router (transition n.state e (is_empty n.requests)).effect dead n

pub changed-router : (change : AdjacencyChange) (tick : ℕ) (n : NeighbourValue) → (neighbour_changed change tick n).router ≡ n.router
changed-router (Acknowledges i) tick n = refl
changed-router (IsSent i) tick n = refl
changed-router (Restarts number) tick n = after_event-router BadLsReq 0 n

pub changed_if-router : (q : RouterId) (change : AdjacencyChange) (tick : ℕ) (n : NeighbourValue) → (changed_if q change tick n).router ≡ n.router
changed_if-router q change tick n = by_test (n.router.0 == q.0)
  where
    by_test : (b : Bool) → (if b then neighbour_changed change tick n else n).router ≡ n.router
    by_test true = changed-router change tick n
    by_test false = refl

-- ---- a neighbour that is asked

pub turned-router : (mtu tick : ℕ) (n : NeighbourValue) → (turned_to_next mtu tick n).router ≡ n.router
turned-router mtu tick n = by_test (request_due (loaded n))
  where
    by_test : (b : Bool) → (if b then asked_next mtu tick (loaded n) else loaded n).router ≡ n.router
    by_test true = after_event-router LoadingDone 0 n
    by_test false = after_event-router LoadingDone 0 n
