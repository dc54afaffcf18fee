-- Rounds of a simulation, and random events.
use Rattle.std.specs.Prelude.{◌≡◌, ℕ, suc, Ok, Err, Option, None, Some}
use Rattle.ospf_base.specs.declared.event.event.WorldFault.{WorldFault}
use Rattle.ospf_commands.specs.Deliveries.Losses.{IsLosingRound}
use Rattle.ospf_commands.specs.Simulations.{Answer, moved}
use Rattle.ospf_commands.specs.Worlds.{IsBatch, IsRoundOf, WorldValue, most_offers}
use Rattle.ospf_commands.specs.declared.delivery.losses.Losses.{Losses}
use Rattle.ospf_commands.specs.declared.simulation.Simulation.{Simulation}

-- the most datagrams that a round offers: as many as the line says, else the default of a round
abbrev pub most_of : Option ℕ → ℕ
most_of None = most_offers
most_of (Some most) = most

-- a round with at most this many datagrams, with losses if there are any, whose state changes
abbrev pub RoundBy : Option Losses → ℕ → Simulation → Answer → Simulation → Type 0
RoundBy None most s answer s' =
    (w : WorldValue) × IsRoundOf most s.world answer w × (s' ≡ moved s w)
RoundBy (Some losses) most s answer s' =
    (w : WorldValue) × (losses' : Losses) × IsLosingRound most losses s.world answer w losses'
    × (s' ≡ record (moved s w) { losses = Some losses' })

-- with the losses of the simulation
abbrev pub IsOneRound : ℕ → Simulation → Answer → Simulation → Type 0
IsOneRound most s answer s' = RoundBy s.losses most s answer s'

-- a batch, in which nothing is lost
abbrev pub IsOneBatch : Simulation → Answer → Simulation → Type 0
IsOneBatch s answer s' = (w : WorldValue) × IsBatch s.world answer w × (s' ≡ moved s w)

-- this many of something, one after another, up to the first that is refused
pub data AreDone (One : Simulation → Answer → Simulation → Type 0)
    : ℕ → Simulation → Answer → Simulation → Type 0 where
  no_more : {s : Simulation} → AreDone One 0 s (Ok tt) s
  one_more : {count : ℕ} {s mid s' : Simulation} {answer : Answer} → One s (Ok tt) mid
      → AreDone One count mid answer s' → AreDone One (suc count) s answer s'
  refused_at : {count : ℕ} {s s' : Simulation} {fault : WorldFault} → One s (Err fault) s'
      → AreDone One (suc count) s (Err fault) s'

-- this many rounds with at most that many datagrams each
abbrev pub AreRounds : ℕ → ℕ → Simulation → Answer → Simulation → Type 0
AreRounds most = AreDone (IsOneRound most)

-- this many batches
abbrev pub AreBatches : ℕ → Simulation → Answer → Simulation → Type 0
AreBatches = AreDone IsOneBatch
