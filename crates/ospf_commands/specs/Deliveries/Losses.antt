-- Deliveries that are lost at random, and rounds with losses.
use Rattle.std.specs.Prelude.{◌≡◌, ◌≢◌, ◌==◌, ◌%◌, ℕ, zero, suc, Bool, true, false, List, [], ◌∷◌, Option, None, Some, Result, Ok, Err, bit_and, nat_lt, slice_get, if◌then◌else◌}
use Rattle.std.specs.List.{list_any}
use Rattle.rand_pcg.specs.Lcg.{Lcg, increment_of, started}
use Rattle.rand_pcg.specs.Pcg.{multiplier_64, pcg32}
use Rattle.ospf_base.specs.Masks.{mask_of}
use Rattle.ospf_base.specs.declared.ids.Addr.{Addr}
use Rattle.ospf_config.specs.Conflicts.{network_part}
use Rattle.ospf_config.specs.declared.address.InterfaceAddress.{InterfaceAddress}
use Rattle.ospf_world.specs.Runs.{IsRun}
use Rattle.ospf_base.specs.declared.event.event.WorldEvent.{WorldEvent}
use Rattle.ospf_base.specs.declared.event.event.WorldFault.{WorldFault}
use Rattle.ospf_base.specs.declared.event.event.WorldFault.TheVariants as fault
use Rattle.ospf_world.specs.declared.logs.Datagram.{Datagram}
use Rattle.ospf_world.specs.Slots.{SlotValue}
use Rattle.ospf_world.specs.Does.{Does}
use Rattle.ospf_world.specs.Rounds.{HasNext, offers_of, passed, sending_address, ticks}
use Rattle.ospf_world.specs.Worlds.{WorldValue}
use Rattle.ospf_commands.specs.declared.delivery.losses.Losses.{Losses}

-- ---- which deliveries

-- losses of this percentage, drawn by the generator of this number
abbrev pub losses_of : (percent number : ℕ) → Option Addr → Losses
losses_of percent number network =
    record {
      percent = percent;
      generator = started 64 multiplier_64 number (increment_of 64 0);
      network = network;
    }

-- whether a delivery is lost, by the word drawn for it
abbrev pub is_lost : (percent word : ℕ) → Bool
is_lost percent word = nat_lt (word % 100) percent

-- the deliveries with this one, unless it is lost
abbrev pub kept_offer : (percent word : ℕ) → WorldEvent → List WorldEvent → List WorldEvent
kept_offer percent word offer offers = if is_lost percent word then offers else offer ∷ offers

-- the deliveries that are not lost, each by the next word of the generator, and the generator after
-- these words
unfoldable pub kept_offers : (percent : ℕ) → List WorldEvent → Lcg → List WorldEvent × Lcg
kept_offers percent [] g = ([], g)
kept_offers percent (offer ∷ offers) g = (
  kept_offer percent (pcg32 g).0 offer (kept_offers percent offers (pcg32 g).1).0,
  (kept_offers percent offers (pcg32 g).1).1,
)

-- the network of an interface, which may be missing, contains an address
abbrev pub is_network_of : Addr → Option InterfaceAddress → Bool
is_network_of a None = false
is_network_of a (Some from) = bit_and a.0 (mask_of from.length) == network_part from

-- there are losses on the network that an interface sends to: on any network, or on the one with
-- the address
abbrev pub loses_on : Option Addr → Option InterfaceAddress → Bool
loses_on None from = true
loses_on (Some a) from = is_network_of a from

-- there are losses on the network of an interface of this router
abbrev pub loses_at : Option Addr → SlotValue → Bool
loses_at network s = list_any (λ i. loses_on network (Some i.address)) s.config.interfaces.items

-- there are losses on the network of an interface of some router
abbrev pub lose_somewhere : Option Addr → List SlotValue → Bool
lose_somewhere network slots = list_any (loses_at network) slots

-- the deliveries that are not lost, and the losses from then on
unfoldable pub judged : Losses → List WorldEvent → List WorldEvent × Losses
judged losses offers = (
  (kept_offers losses.percent offers losses.generator).0,
  record losses { generator = (kept_offers losses.percent offers losses.generator).1 },
)

-- the same for deliveries of what an interface with this address sent
abbrev pub kept_from : Losses → Option InterfaceAddress → List WorldEvent → List WorldEvent × Losses
kept_from losses from offers =
    if loses_on losses.network from then judged losses offers else (offers, losses)

-- the offers of datagram d that are not lost, and the losses from then on
unfoldable pub offers_kept : List SlotValue → ℕ → Datagram → Losses → List WorldEvent × Losses
offers_kept slots d g losses = kept_from losses (sending_address slots g) (offers_of slots d g)

-- ---- what they do

-- the offers of the next datagram that are not lost, if there is one, and the losses from then on
pub data AreNextKept (w : WorldValue) (losses : Losses) (next : Option (List WorldEvent))
    (losses' : Losses) : Type 0 where
  NoneNext : slice_get w.logs.datagrams w.offered ≡ None → next ≡ None → losses' ≡ losses
      → AreNextKept w losses next losses'
  Next : (g : Datagram) → slice_get w.logs.datagrams w.offered ≡ Some g
      → next ≡ Some (offers_kept w.slots w.offered g losses).0
      → losses' ≡ (offers_kept w.slots w.offered g losses).1 → AreNextKept w losses next losses'

-- the next datagram that no round has offered is offered, as without losses, but only to those for
-- which it is not lost. It counts as offered even if it is lost for all
pub data LosesNext (losses : Losses) (before : WorldValue) (answer : Result Bool WorldFault)
    (after : WorldValue) (losses' : Losses) : Type 0 where
  NoneLeft : slice_get before.logs.datagrams before.offered ≡ None → answer ≡ Ok false
      → after ≡ before → losses' ≡ losses → LosesNext losses before answer after losses'
  NoRoom : HasNext before → answer ≡ Err (fault.Memory false) → after ≡ before → losses' ≡ losses
      → LosesNext losses before answer after losses'
  Offers : (g : Datagram) (refused : ℕ) → slice_get before.logs.datagrams before.offered ≡ Some g
      → IsRun Does (offers_kept before.slots before.offered g losses).0 (passed before) (Ok refused)
      after → answer ≡ Ok true → losses' ≡ (offers_kept before.slots before.offered g losses).1
      → LosesNext losses before answer after losses'
  Ends : (g : Datagram) (f : WorldFault) → slice_get before.logs.datagrams before.offered ≡ Some g
      → IsRun Does (offers_kept before.slots before.offered g losses).0 (passed before) (Err f)
      after → answer ≡ Err f → losses' ≡ (offers_kept before.slots before.offered g losses).1
      → LosesNext losses before answer after losses'

-- it continues with the rest as long as there is a next one
pub data LosesMore (Next : Result Bool WorldFault → WorldValue → Losses → Type 0)
    (Rest : WorldValue → Losses → Result (Unit {0}) WorldFault → WorldValue → Losses → Type 0)
    (result : Result (Unit {0}) WorldFault) (after : WorldValue) (losses' : Losses) : Type 0 where
  Last : Next (Ok false) after losses' → result ≡ Ok tt → LosesMore Next Rest result after losses'
  More : (mid : WorldValue) (between : Losses) → Next (Ok true) mid between
      → Rest mid between result after losses' → LosesMore Next Rest result after losses'
  Ended : (f : WorldFault) → Next (Err f) after losses' → result ≡ Err f
      → LosesMore Next Rest result after losses'

-- at most this many datagrams
abbrev pub AreOfferedBut : ℕ → WorldValue → Losses → Result (Unit {0}) WorldFault → WorldValue
    → Losses → Type 0
AreOfferedBut zero before losses result after losses' =
    (after ≡ before) × (losses' ≡ losses) × (result ≡ Ok tt)
AreOfferedBut (suc most) before losses result after losses' =
    LosesMore (LosesNext losses before) (AreOfferedBut most) result after losses'

-- a round with losses and at most this many datagrams: the ticks, and then the datagrams that no
-- round has offered, only to those for which they are not lost, with those that are sent meanwhile
pub data IsLosingRound (most : ℕ) (losses : Losses) (before : WorldValue)
    (result : Result (Unit {0}) WorldFault) (after : WorldValue) (losses' : Losses) : Type 0 where
  NoRoom : ticks before.slots ≢ [] → result ≡ Err (fault.Memory false) → after ≡ before
      → losses' ≡ losses → IsLosingRound most losses before result after losses'
  TicksEnd : (f : WorldFault) → IsRun Does (ticks before.slots) before (Err f) after
      → result ≡ Err f → losses' ≡ losses → IsLosingRound most losses before result after losses'
  Goes : (refused : ℕ) (mid : WorldValue) → IsRun Does (ticks before.slots) before (Ok refused) mid
      → AreOfferedBut most mid losses result after losses'
      → IsLosingRound most losses before result after losses'
