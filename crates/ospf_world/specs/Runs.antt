-- Lists of events that are applied, counting those that are refused.
use Rattle.std.specs.Prelude.{◌≡◌, ◌+◌, ℕ, Bool, true, false, List, [], ◌∷◌, Some, Result, Ok, Err, slice_get, take}
use Rattle.ospf_base.specs.declared.event.event.WorldFault.TheVariants as fault
use Rattle.ospf_world.specs.World.{WorldEvent, WorldFault}

-- memory ran out
abbrev pub is_memory : WorldFault → Bool
is_memory (fault.Memory stopped) = true
is_memory _ = false

-- what an event does to worlds of some kind
abbrev pub EventRule : Type 0 → Type 1
EventRule W = WorldEvent → W → Result (Unit {0}) WorldFault → W → Type 0

-- an event is accepted, or refused and counted
pub data GoesOver {W : Type 0} (Does : EventRule W) (event : WorldEvent) (w : W) (n : ℕ) (w' : W)
    (n' : ℕ) : Type 0 where
  IsTaken : Does event w (Ok tt) w' → n' ≡ n → GoesOver Does event w n w' n'
  IsRefused : (f : WorldFault) → Does event w (Err f) w' → is_memory f ≡ false → n' ≡ n + 1
      → GoesOver Does event w n w' n'

-- these events, one after another, and how many were refused by then
abbrev pub RunsOn : {W : Type 0} → EventRule W → List WorldEvent → W → ℕ → W → ℕ → Type 0
RunsOn Does [] w n w' n' = (w' ≡ w) × (n' ≡ n)
RunsOn {W} Does (event ∷ events) w n w' n' =
    (mid : W) × (m : ℕ) × GoesOver Does event w n mid m × RunsOn Does events mid m w' n'

-- all the events, or up to the first for which memory ran out
pub data IsRun {W : Type 0} (Does : EventRule W) (events : List WorldEvent) (before : W)
    (result : Result ℕ WorldFault) (after : W) : Type 0 where
  Done : (n : ℕ) → RunsOn Does events before 0 after n → result ≡ Ok n
      → IsRun Does events before result after
  EndsEarly : (i n : ℕ) (event : WorldEvent) (mid : W) (stopped : Bool)
      → RunsOn Does (take i events) before 0 mid n → slice_get events i ≡ Some event
      → Does event mid (Err (fault.Memory stopped)) after → result ≡ Err (fault.Memory stopped)
      → IsRun Does events before result after
