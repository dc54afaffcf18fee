-- What the lines of a script work on.
use Rattle.std.specs.Prelude.{None, false, Result}
use Rattle.ospf_base.specs.declared.event.event.WorldFault.{WorldFault}
use Rattle.ospf_commands.specs.Worlds.{WorldValue}
use Rattle.ospf_commands.specs.declared.simulation.Simulation.{Simulation}

-- the answer to a line: it is done, or why it is refused
abbrev pub Answer : Type 0
Answer = Result (Unit {0}) WorldFault

-- a simulation in this world before its first line: no losses, labels or settling, no walk, no
-- expectation, and no refused line
abbrev pub begun_in : WorldValue → Simulation
begun_in w =
    record {
      world = w;
      losses = None;
      walk = None;
      is_labelled = false;
      is_settled = false;
      is_unmet = false;
      is_refused = false;
    }

-- an event is requested: the simulation is not known to have settled
abbrev pub unsettled : Simulation → Simulation
unsettled s = record s { is_settled = false }

-- an event may have happened: this is the world, and it is not known to have settled
abbrev pub moved : Simulation → WorldValue → Simulation
moved s w = record s { world = w; is_settled = false }
