-- Rounds: a tick of each router that runs, and then the datagrams that no round has offered.
use Rattle.std.specs.Prelude.{◌≡◌, ◌≢◌, ◌==◌, ◌+◌, ◌&&◌, ℕ, zero, suc, Bool, true, false, not, List, [], ◌∷◌, Option, None, Some, Result, Ok, Err, find, is_some, option_and_then, slice_get, if◌then◌else◌}
use Rattle.std.specs.List.{flat_map}
use Rattle.ospf_world.specs.Offers.{address_at, is_offered, offers_to}
use Rattle.ospf_config.specs.declared.address.InterfaceAddress.{InterfaceAddress}
use Rattle.ospf_world.specs.Runs.{IsRun}
use Rattle.ospf_base.specs.declared.event.event.WorldEvent.{WorldEvent}
use Rattle.ospf_base.specs.declared.event.event.WorldEvent.TheVariants.{Deliver, Tick}
use Rattle.ospf_base.specs.declared.event.event.WorldFault.{WorldFault}
use Rattle.ospf_base.specs.declared.event.event.WorldFault.TheVariants as fault
use Rattle.ospf_world.specs.declared.logs.Datagram.{Datagram}
use Rattle.ospf_world.specs.Slots.{SlotValue}
use Rattle.ospf_world.specs.Does.{Does}
use Rattle.ospf_world.specs.Worlds.{WorldValue}
use Rattle.ospf_world.specs.declared.networks.LinkPlace.{LinkPlace}

-- ---- which events

-- the tick of a router that runs
unfoldable pub slot_ticks : SlotValue → List WorldEvent
slot_ticks s = if is_some s.running then Tick s.config.router_id ∷ [] else []

-- the ticks of a round, in the order of the configurations
abbrev pub ticks : List SlotValue → List WorldEvent
ticks slots = flat_map slot_ticks slots

-- the router sent the datagram
abbrev pub is_sender : Datagram → SlotValue → Bool
is_sender g s = s.config.router_id.0 == g.router.0

-- the address of the interface that a datagram went out of
unfoldable pub sending_address : List SlotValue → Datagram → Option InterfaceAddress
sending_address slots g =
    option_and_then (λ s. address_at s.config g.sent.link) (find (is_sender g) slots)

-- what a router is offered of a datagram that another one sent, where it runs
unfoldable pub offers_at : ℕ → InterfaceAddress → Datagram → SlotValue → List WorldEvent
offers_at d from g s =
    if is_some s.running && not (is_sender g s) then offers_to d from g.sent.destination s.config
    else []

-- the deliveries that offer a datagram to the links of its network
abbrev pub offers_by : ℕ → Datagram → List SlotValue → Option InterfaceAddress → List WorldEvent
offers_by d g slots None = []
offers_by d g slots (Some from) = flat_map (offers_at d from g) slots

-- it is offered to an interface of this address of a router: another one sent it, and this one runs
abbrev pub is_offered_to : InterfaceAddress → Datagram → SlotValue → InterfaceAddress → Bool
is_offered_to from g s to =
    is_some s.running && not (is_sender g s) && is_offered from g.sent.destination to

-- what is offered of it to an interface of this address, if there is that, of a router on this link
abbrev pub offered_to : ℕ → InterfaceAddress → Datagram → SlotValue → ℕ → Option InterfaceAddress
    → List WorldEvent
offered_to d from g s link None = []
offered_to d from g s link (Some to) =
    if is_offered_to from g s to then Deliver d s.config.router_id link ∷ [] else []

-- on this link of a router, if there is that
abbrev pub offer_on : ℕ → InterfaceAddress → Datagram → ℕ → Option SlotValue → List WorldEvent
offer_on d from g link None = []
offer_on d from g link (Some s) = offered_to d from g s link (address_at s.config link)

-- at a place
abbrev pub offer_at : ℕ → InterfaceAddress → Datagram → List SlotValue → LinkPlace → List WorldEvent
offer_at d from g slots at = offer_on d from g at.link (slice_get slots at.place)

-- the offers of datagram d, in the order of the configurations
abbrev pub offers_of : List SlotValue → ℕ → Datagram → List WorldEvent
offers_of slots d g = offers_by d g slots (sending_address slots g)

-- there is a datagram that no round has offered
abbrev pub HasNext : WorldValue → Type 0
HasNext w = (g : Datagram) × (slice_get w.logs.datagrams w.offered ≡ Some g)

-- the offers of the next datagram, if there is one
pub data AreNextOffers (w : WorldValue) (next : Option (List WorldEvent)) : Type 0 where
  NoneNext : slice_get w.logs.datagrams w.offered ≡ None → next ≡ None → AreNextOffers w next
  Next : (g : Datagram) → slice_get w.logs.datagrams w.offered ≡ Some g
      → next ≡ Some (offers_of w.slots w.offered g) → AreNextOffers w next

-- ---- what comes of them

-- one more datagram counts as offered
abbrev pub passed : WorldValue → WorldValue
passed w = record { slots = w.slots; logs = w.logs; ticks = w.ticks; offered = w.offered + 1 }

-- the next datagram that no round has offered is offered, if there is one: refusals are skipped,
-- and memory that runs out ends it. The datagram then counts as offered, except where there was
-- no memory for the list of its offers
pub data OffersNext (before : WorldValue) (answer : Result Bool WorldFault) (after : WorldValue)
    : Type 0 where
  NoneLeft : slice_get before.logs.datagrams before.offered ≡ None → answer ≡ Ok false
      → after ≡ before → OffersNext before answer after
  NoRoom : HasNext before → answer ≡ Err (fault.Memory false) → after ≡ before
      → OffersNext before answer after
  Offers : (g : Datagram) (refused : ℕ) → slice_get before.logs.datagrams before.offered ≡ Some g
      → IsRun Does (offers_of before.slots before.offered g) (passed before) (Ok refused) after
      → answer ≡ Ok true → OffersNext before answer after
  Ends : (g : Datagram) (f : WorldFault) → slice_get before.logs.datagrams before.offered ≡ Some g
      → IsRun Does (offers_of before.slots before.offered g) (passed before) (Err f) after
      → answer ≡ Err f → OffersNext before answer after

-- it continues with the rest as long as there is a next one
pub data OffersMore (Next : Result Bool WorldFault → WorldValue → Type 0)
    (Rest : WorldValue → Result (Unit {0}) WorldFault → WorldValue → Type 0)
    (result : Result (Unit {0}) WorldFault) (after : WorldValue) : Type 0 where
  Last : Next (Ok false) after → result ≡ Ok tt → OffersMore Next Rest result after
  More : (mid : WorldValue) → Next (Ok true) mid → Rest mid result after
      → OffersMore Next Rest result after
  Ended : (f : WorldFault) → Next (Err f) after → result ≡ Err f → OffersMore Next Rest result after

-- at most this many datagrams
abbrev pub AreOffered : ℕ → WorldValue → Result (Unit {0}) WorldFault → WorldValue → Type 0
AreOffered zero before result after = (after ≡ before) × (result ≡ Ok tt)
AreOffered (suc most) before result after =
    OffersMore (OffersNext before) (AreOffered most) result after

-- a round of at most this many datagrams: the ticks, and then the datagrams that no round has
-- offered, with those that are sent meanwhile. Refusals are skipped, and memory that runs out
-- ends it, that for the list of ticks, where there are some, before anything is done
pub data IsRoundOf (most : ℕ) (before : WorldValue) (result : Result (Unit {0}) WorldFault)
    (after : WorldValue) : Type 0 where
  NoRoom : ticks before.slots ≢ [] → result ≡ Err (fault.Memory false) → after ≡ before
      → IsRoundOf most before result after
  TicksEnd : (f : WorldFault) → IsRun Does (ticks before.slots) before (Err f) after
      → result ≡ Err f → IsRoundOf most before result after
  Goes : (refused : ℕ) (mid : WorldValue) → IsRun Does (ticks before.slots) before (Ok refused) mid
      → AreOffered most mid result after → IsRoundOf most before result after

-- how many datagrams a round offers at most, where nothing else is asked for
unfoldable pub most_offers : ℕ
most_offers = 10000

-- a round: one of as many
abbrev pub IsRound : (before : WorldValue) → Result (Unit {0}) WorldFault → (after : WorldValue)
    → Type 0
IsRound before result after = IsRoundOf most_offers before result after
