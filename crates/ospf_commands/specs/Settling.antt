-- What is seen of a simulation, and rounds until it no longer changes.
use Rattle.std.specs.Prelude.{◌≡◌, ◌<◌, ◌≤◌, ◌+◌, ◌-◌, ⊤, ℕ, zero, suc, List, [], ◌∷◌, ◌++◌, Result, Ok, Err, Option, None, Some, codes, decimal, flat_map, fold, length, max, option_map, slice_get, true, false}
use Rattle.ospf_base.specs.Text.{number_text}
use Rattle.ospf_config.specs.Conflicts.{network_part}
use Rattle.ospf_config.specs.declared.address.InterfaceAddress.{InterfaceAddress}
use Rattle.ospf_config.specs.declared.interface.Interface.{Interface}
use Rattle.ospf_base.specs.declared.event.event.WorldFault.{WorldFault}
use Rattle.ospf_base.specs.declared.event.event.WorldFault.TheVariants as fault
use Rattle.ospf_originate.specs.Numbers.{min_ls_interval}
use Rattle.ospf_script.specs.Words.{Text}
use Rattle.ospf_views.specs.Sight.{slot_sight}
use Rattle.ospf_world.specs.Rounds.{sending_address}
use Rattle.ospf_commands.specs.Rounds.{IsOneRound}
use Rattle.ospf_commands.specs.Simulations.{Answer}
use Rattle.ospf_commands.specs.Worlds.{SlotValue, WorldValue}
use Rattle.ospf_commands.specs.declared.settle.Outcome.{Outcome}
use Rattle.ospf_commands.specs.declared.settle.Outcome.TheVariants as outcome
use Rattle.ospf_commands.specs.declared.simulation.Simulation.{Simulation}

-- ---- what is seen

-- what is seen of all routers, in the order of the configurations
abbrev pub sight : Simulation → List ℕ
sight s = flat_map slot_sight s.world.slots

-- ---- how long it is watched

-- the maximum of some seconds and the RouterDeadInterval and RxmtInterval of an interface (section
-- C.3)
abbrev pub longer : ℕ → Interface → ℕ
longer longest i = max (max longest i.dead) i.retransmit

-- or of all interfaces of a router
abbrev pub longer_in : ℕ → SlotValue → ℕ
longer_in longest s = fold longer longest s.config.interfaces.items

-- of all routers, and MinLSInterval (section 12.4)
abbrev pub longest_wait : Simulation → ℕ
longest_wait s = fold longer_in min_ls_interval s.world.slots

-- how many rounds in a row must change nothing: as many as a router waits at most, and one more,
-- because the first of them delivers what waited before it, and each wait may begin there
abbrev pub rounds_to_stay : Simulation → ℕ
rounds_to_stay s = longest_wait s + 1

-- ---- until nothing changes

-- the most datagrams that such a round offers: the default of `round`
abbrev pub settling_offers : ℕ
settling_offers = 10000

-- what a round leaves over: the address of the interface that sent the first datagram that waits
-- for the next round, if one waits
abbrev pub left_over : WorldValue → Option (Option InterfaceAddress)
left_over w =
    option_map (λ g. sending_address w.slots g) (slice_get w.logs.datagrams w.offered)

-- simulations, the latest first: the last is this one, and each follows from the one before it by a
-- round that leaves nothing over
abbrev pub ArePassed : Simulation → List Simulation → Type 0
ArePassed s [] = ⊥
ArePassed s (now ∷ []) = now ≡ s
ArePassed s (now ∷ before ∷ passed) =
    IsOneRound settling_offers before (Ok tt) now × (left_over now.world ≡ None)
    × ArePassed s (before ∷ passed)

-- simulations, the latest first: nothing that is seen has changed in the last `rounds` rounds
abbrev pub IsStillFor : ℕ → List Simulation → Type 0
IsStillFor zero passed = ⊤
IsStillFor (suc rounds) (now ∷ before ∷ passed) =
    (sight now ≡ sight before) × IsStillFor rounds (before ∷ passed)
IsStillFor (suc rounds) _ = ⊥

-- that was not so after any of them
abbrev pub NeverStillFor : ℕ → List Simulation → Type 0
NeverStillFor rounds [] = ⊤
NeverStillFor rounds (now ∷ passed) =
    (IsStillFor rounds (now ∷ passed) → ⊥) × NeverStillFor rounds passed

-- what is printed: the round of the last change, and how many more changed nothing
abbrev pub settled_line : (rounds still : ℕ) → Text
settled_line rounds still =
    codes "settled in round " ++ decimal rounds
    ++ (codes ", unchanged for " ++ decimal still ++ codes " more\n")

-- what is printed if it did not settle: up to which round, and how many in a row must change
-- nothing
abbrev pub unsettled_line : (rounds still : ℕ) → Text
unsettled_line rounds still =
    codes "not settled by round " ++ decimal rounds
    ++ (codes ": " ++ decimal still ++ codes " rounds in a row must change nothing\n")

-- the network of an interface, if it is known
abbrev pub network_text : Option InterfaceAddress → Text
network_text None = []
network_text (Some from) =
    codes ", at " ++ number_text (network_part from) ++ codes "/" ++ decimal from.length

-- what is printed if a round left datagrams over, the first of which this interface sent
abbrev pub storm_line : Option InterfaceAddress → Text
storm_line from =
    codes "not settled: 10,000 datagrams in one round" ++ network_text from ++ codes "\n"

-- rounds, at most `most`, up to the first after which nothing has changed for `still` rounds; or
-- there is no such round; or a round is refused, or leaves something over; or memory runs out for
-- what is seen
pub data Passes (most still : ℕ) (s : Simulation) (result : Result Outcome WorldFault)
    (s' : Simulation) : Type 0 where
  settles : (passed : List Simulation) → ArePassed s (s' ∷ passed) → IsStillFor still (s' ∷ passed)
      → NeverStillFor still passed
      → length passed ≤ most → result ≡ Ok (outcome.Settled (length passed))
      → Passes most still s result s'
  does_not_settle : (passed : List Simulation) → ArePassed s (s' ∷ passed)
      → NeverStillFor still (s' ∷ passed) → length passed ≡ most
      → result ≡ Ok outcome.Unsettled → Passes most still s result s'
  round_ends_it : (now : Simulation) (passed : List Simulation) (f : WorldFault)
      → ArePassed s (now ∷ passed) → NeverStillFor still (now ∷ passed)
      → length passed < most → IsOneRound settling_offers now (Err f) s' → result ≡ Err f
      → Passes most still s result s'
  round_leaves_some : (now : Simulation) (passed : List Simulation)
      (from : Option InterfaceAddress) → ArePassed s (now ∷ passed)
      → NeverStillFor still (now ∷ passed) → length passed < most
      → IsOneRound settling_offers now (Ok tt) s' → left_over s'.world ≡ Some from
      → result ≡ Ok (outcome.Storms from) → Passes most still s result s'
  no_room_ends_it : (passed : List Simulation) → ArePassed s (s' ∷ passed)
      → NeverStillFor still passed → length passed ≤ most
      → result ≡ Err (fault.Memory false) → Passes most still s result s'

-- the simulation is watched for as many rounds as a router waits at most before it does what is
-- due, and for one more, and the outcome is printed
pub data Settles (most : ℕ) (s : Simulation) (answer : Answer) (text : Text) (s' : Simulation)
    : Type 0 where
  has_settled : (rounds : ℕ) (now : Simulation)
      → Passes most (rounds_to_stay s) s (Ok (outcome.Settled rounds)) now → answer ≡ Ok tt
      → text ≡ settled_line (rounds - rounds_to_stay s) (rounds_to_stay s)
      → s' ≡ record now { is_settled = true } → Settles most s answer text s'
  has_not_settled : Passes most (rounds_to_stay s) s (Ok outcome.Unsettled) s' → answer ≡ Ok tt
      → text ≡ unsettled_line most (rounds_to_stay s) → Settles most s answer text s'
  has_stormed : (from : Option InterfaceAddress)
      → Passes most (rounds_to_stay s) s (Ok (outcome.Storms from)) s' → answer ≡ Ok tt
      → text ≡ storm_line from → Settles most s answer text s'
  has_ended : (f : WorldFault) → Passes most (rounds_to_stay s) s (Err f) s' → answer ≡ Err f
      → text ≡ [] → Settles most s answer text s'
