-- What a command of a script does to a simulation, and what it prints.
use Rattle.std.specs.Prelude.{◌≡◌, ℕ, List, [], Ok, Err, Option, Some, true, false}
use Rattle.ospf_base.specs.declared.event.event.WorldEvent.{WorldEvent}
use Rattle.ospf_base.specs.declared.event.event.WorldFault.TheVariants as fault
use Rattle.ospf_script.specs.Words.{Text}
use Rattle.ospf_script.specs.declared.command.Command.{Command}
use Rattle.ospf_script.specs.declared.command.Command.TheVariants as command
use Rattle.ospf_script.specs.declared.command.Many.{Many}
use Rattle.ospf_commands.specs.Asked.{AreDatagramsShown, AreDropsShown, AreLsasShown, IsTextSaid, IsViewShown, IsWalked, IsWhyAnswered, IsWhyHeadlineAnswered}
use Rattle.ospf_commands.specs.Judged.{JudgedSo}
use Rattle.ospf_commands.specs.Deliveries.Losses.{lose_somewhere, losses_of}
use Rattle.ospf_commands.specs.Deliveries.Many.{ComesAbout}
use Rattle.ospf_commands.specs.Printed.{IsPrinted, IsPrintedBegun}
use Rattle.ospf_commands.specs.Rounds.{AreBatches, AreRounds, most_of}
use Rattle.ospf_commands.specs.Settling.{Settles}
use Rattle.ospf_commands.specs.Simulations.{Answer, moved, unsettled}
use Rattle.ospf_commands.specs.Worlds.{EventDoes, IsRandomRun, WorldValue}
use Rattle.ospf_commands.specs.declared.delivery.losses.Losses.{Losses}
use Rattle.ospf_commands.specs.declared.simulation.Simulation.{Simulation}

-- an event happens
abbrev pub EventComesAbout : WorldEvent → Simulation → Answer → Simulation → Type 0
EventComesAbout e s answer s' = (w : WorldValue) × EventDoes e s.world answer w × (s' ≡ moved s w)

-- events at many routers
abbrev pub ManyHappen : Many → Simulation → Answer → Simulation → Type 0
ManyHappen many s answer s' = (w : WorldValue) × ComesAbout many s.world answer w × (s' ≡ moved s w)

-- random events, drawn with this number
abbrev pub SomeHappen : (number count : ℕ) → Simulation → Answer → Simulation → Type 0
SomeHappen number count s answer s' =
    (w : WorldValue) × IsRandomRun number count s.world answer w × (s' ≡ moved s w)

-- these losses replace the earlier ones, if an interface is on their network
pub data Loses (losses : Losses) (s : Simulation) (answer : Answer) (s' : Simulation) : Type 0 where
  are_lost : lose_somewhere losses.network s.world.slots ≡ true → answer ≡ Ok tt
      → s' ≡ record s { losses = Some losses } → Loses losses s answer s'
  lost_nowhere : lose_somewhere losses.network s.world.slots ≡ false → answer ≡ Err fault.NoLink
      → s' ≡ s → Loses losses s answer s'

-- what a command does to a simulation, its answer, and what it prints
abbrev pub DoesCommand : Command → Simulation → Answer → Text → Simulation → Type 0
DoesCommand (command.Event e) s answer text s' = EventComesAbout e s answer s' × (text ≡ [])
DoesCommand (command.Many many) s answer text s' = ManyHappen many s answer s' × (text ≡ [])
DoesCommand (command.Round count most) s answer text s' =
    AreRounds (most_of most) count (unsettled s) answer s' × (text ≡ [])
DoesCommand (command.Batch count) s answer text s' =
    AreBatches count (unsettled s) answer s' × (text ≡ [])
DoesCommand (command.Random number count) s answer text s' =
    SomeHappen number count s answer s' × (text ≡ [])
DoesCommand (command.Settle most) s answer text s' =
    Settles most (unsettled s) answer text s'
DoesCommand (command.Show view r) s answer text s' = IsViewShown view r s answer text × (s' ≡ s)
DoesCommand (command.Walk from address choices) s answer text s' =
    IsWalked from address choices.items s s' answer text
DoesCommand (command.Say said) s answer text s' = IsTextSaid said answer text × (s' ≡ s)
DoesCommand (command.Why r link neighbour) s answer text s' =
    IsWhyAnswered r link neighbour s answer text × (s' ≡ s)
DoesCommand (command.WhyHeadline r) s answer text s' =
    IsWhyHeadlineAnswered r s answer text × (s' ≡ s)
DoesCommand (command.Datagrams r most) s answer text s' =
    AreDatagramsShown r most s answer text × (s' ≡ s)
DoesCommand (command.Drops r) s answer text s' = AreDropsShown r s answer text × (s' ≡ s)
DoesCommand (command.Lsas r) s answer text s' = AreLsasShown r s answer text × (s' ≡ s)
DoesCommand (command.Loss percent number network) s answer text s' =
    Loses (losses_of percent number network) s answer s' × (text ≡ [])
DoesCommand (command.Expect e) s answer text s' = JudgedSo e s s' answer text
DoesCommand (command.Label is_on) s answer text s' =
    (answer ≡ Ok tt) × (text ≡ []) × (s' ≡ record s { is_labelled = is_on })

-- what the command prints was written
abbrev pub IsDone : Command → Simulation → Answer → Simulation → (out_old out_new : Option (List ℕ))
    → Type 0
IsDone c s answer s' out_old out_new =
    IsPrinted (λ given text. DoesCommand c s given text s') answer out_old out_new

-- a beginning of what it prints was written
abbrev pub IsDoneBegun : Command → Simulation → Simulation → (out_old out_new : Option (List ℕ))
    → Type 0
IsDoneBegun c s s' out_old out_new =
    IsPrintedBegun (λ given text. DoesCommand c s given text s') out_old out_new
