-- What random events do to a world.
use Rattle.std.specs.Prelude.{◌≡◌, ℕ, zero, suc, true, false, Option, None, Some, Result, Ok, Err}
use Rattle.ospf_world.specs.Draws.{drawn, words_from}
use Rattle.ospf_base.specs.declared.event.event.WorldEvent.{WorldEvent}
use Rattle.ospf_base.specs.declared.event.event.WorldFault.{WorldFault}
use Rattle.ospf_world.specs.Runs.{is_memory}
use Rattle.ospf_world.specs.Does.{Does}
use Rattle.ospf_world.specs.Worlds.{WorldValue, world_of}
use Rattle.rand_pcg.specs.Lcg.{Lcg}

-- an event, if there is one, is accepted, or refused and skipped; or memory
-- runs out, and that is returned
pub data Meets (event : Option WorldEvent) (before : WorldValue)
    (answer : Result (Unit {0}) WorldFault) (after : WorldValue) : Type 0 where
  Nothing : event ≡ None → answer ≡ Ok tt → after ≡ before → Meets event before answer after
  Takes : (e : WorldEvent) → event ≡ Some e → Does e before (Ok tt) after → answer ≡ Ok tt
      → Meets event before answer after
  Passes : (e : WorldEvent) (f : WorldFault) → event ≡ Some e → Does e before (Err f) after
      → is_memory f ≡ false → answer ≡ Ok tt → Meets event before answer after
  Ends : (e : WorldEvent) (f : WorldFault) → event ≡ Some e → Does e before (Err f) after
      → is_memory f ≡ true → answer ≡ Err f → Meets event before answer after

-- the result of a part, and if that was not refused, of the rest
pub data GoesOnWith (Part : Result (Unit {0}) WorldFault → WorldValue → Type 0)
    (Rest : WorldValue → Result (Unit {0}) WorldFault → WorldValue → Type 0)
    (result : Result (Unit {0}) WorldFault) (after : WorldValue) : Type 0 where
  Further : (mid : WorldValue) → Part (Ok tt) mid → Rest mid result after
      → GoesOnWith Part Rest result after
  Ended : (f : WorldFault) → Part (Err f) after → result ≡ Err f → GoesOnWith Part Rest result after

-- this many events, each drawn by four words of the generator, which continues after them
abbrev pub IsRandom : ℕ → Lcg → WorldValue → Result (Unit {0}) WorldFault → WorldValue → Type 0
IsRandom zero g before result after = (after ≡ before) × (result ≡ Ok tt)
IsRandom (suc count) g before result after =
    GoesOnWith (Meets (drawn (words_from g).0 (world_of before)) before)
    (IsRandom count (words_from g).1) result after
