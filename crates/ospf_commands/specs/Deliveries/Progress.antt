-- What is reported to a watch while lines of a script run: each event, and how far a line has come.
use Rattle.ospf_world.specs.Watching.{CameRule, ComesRule, Told, Watched}

-- how a watch changes when the progress of a line is reported to it
abbrev pub ProgressRule : Type 0 → Type 1
ProgressRule V = V → V → Type 0

-- events led from one world to the other; each was reported to the watch, and between or after them
-- how far a line had come; nothing else was reported
pub data ToldOn {V : Type 0} (Comes : ComesRule V) (Came : CameRule V) (GoesOn : ProgressRule V)
    : Watched V → Watched V → Type 0 where
  EventsAlone : (w w' : Watched V) → Told Comes Came w w' → ToldOn Comes Came GoesOn w w'
  HowFar : (w mid : Watched V) (watch : V) (w' : Watched V) → Told Comes Came w mid
      → GoesOn mid.1 watch → ToldOn Comes Came GoesOn (mid.0, watch) w'
      → ToldOn Comes Came GoesOn w w'
