-- What is gone over, happens.
use Rattle.std.proofs.Common.{◌++◌, ℕ, Bool, List, [], ◌∷◌, Ok, Err, Result, refl, take}
use Rattle.ospf_area.specs.State.{AreaValue}
use Rattle.ospf_router.specs.AreaStep.Step.{Event}
use Rattle.ospf_base.specs.declared.event.event.WorldFault.TheVariants as fault
use Rattle.ospf_world.specs.World.{Comes, Happens, RunsEvents, World, WorldEvent, WorldFault}
use Rattle.ospf_world.specs.Runs.{GoesOver, IsRun, RunsOn}
use Rattle.ospf_world.proofs.RunsFacts.{Runs-append}

goes_happens : (is_dropped : Event → AreaValue → Bool) (event : WorldEvent) (w : World) (n : ℕ) (w' : World) (n' : ℕ) → GoesOver (Comes is_dropped) event w n w' n' → Happens is_dropped event w w'
goes_happens is_dropped event w n w' n' (GoesOver.IsTaken c same) = (Ok tt, c)
goes_happens is_dropped event w n w' n' (GoesOver.IsRefused f c none count) = (Err f, c)

RunsOn-runs : (is_dropped : Event → AreaValue → Bool) (events : List WorldEvent) (w : World) (n : ℕ) (w' : World) (n' : ℕ) → RunsOn (Comes is_dropped) events w n w' n' → RunsEvents is_dropped events w w'
RunsOn-runs is_dropped [] w n w' n' (same, count) = same
RunsOn-runs is_dropped (e ∷ events) w n w' n' (v, k, first, rest) = (v, goes_happens is_dropped e w n v k first, RunsOn-runs is_dropped events v k w' n' rest)

pub run_happens : (is_dropped : Event → AreaValue → Bool) (events : List WorldEvent) (w w' : World) (result : Result ℕ WorldFault) → IsRun (Comes is_dropped) events w result w' → (later : List WorldEvent) × RunsEvents is_dropped later w w'
run_happens is_dropped events w w' result (IsRun.Done n runs is) = (events, RunsOn-runs is_dropped events w 0 w' n runs)
run_happens is_dropped events w w' result (IsRun.EndsEarly i n event mid stopped runs get comes is) =
    (take i events ++ event ∷ [], Runs-append is_dropped (take i events) (event ∷ []) w mid w' (RunsOn-runs is_dropped (take i events) w 0 mid n runs) (w', (Err (fault.Memory stopped), comes), refl))
