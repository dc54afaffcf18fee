-- The exact events that led to a world.
use Rattle.std.specs.Prelude.{◌≡◌, List, [], ◌∷◌, Result}
use Rattle.ospf_base.specs.declared.event.event.WorldEvent.{WorldEvent}
use Rattle.ospf_base.specs.declared.event.event.WorldFault.{WorldFault}
use Rattle.ospf_world.specs.Does.{Does}
use Rattle.ospf_world.specs.Worlds.{WorldValue, configs_of, new_world}

-- these events led from one world to the other, one after another, and each did what `Does` says,
-- whatever its result: a router starts exactly as it is configured, and each of its steps is the
-- exact one of the event and keeps the laws of a step
abbrev pub RunsExactly : List WorldEvent → WorldValue → WorldValue → Type 0
RunsExactly [] before after = after ≡ before
RunsExactly (event ∷ events) before after =
    (mid : WorldValue) × (result : Result (Unit {0}) WorldFault) × Does event before result mid
    × RunsExactly events mid after

-- the world, but for how many datagrams its rounds have offered, which is all that no event changes
abbrev pub unoffered : WorldValue → WorldValue
unoffered w = record w { offered = 0 }

-- some events led to this world in that way from the new world of its configurations, in which
-- nothing runs and nothing has happened
abbrev pub IsReachedExactly : WorldValue → Type 0
IsReachedExactly w =
    (events : List WorldEvent) × RunsExactly events (new_world (configs_of w)) (unoffered w)
