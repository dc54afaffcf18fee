-- What led to a world, event by event.
use Rattle.std.proofs.Common.{◌≡◌, ◌++◌, ◌∙◌, ℕ, List, [], ◌∷◌, Result, Ok, map, refl, sym, ap, subst}
use Rattle.ospf_base.specs.declared.event.event.WorldEvent.{WorldEvent}
use Rattle.ospf_base.specs.declared.event.event.WorldFault.{WorldFault}
use Rattle.ospf_config.specs.declared.config.Config.{Config}
use Rattle.ospf_world.specs.Headline.{IsReached}
use Rattle.ospf_world.specs.World.{RunsEvents}
use Rattle.ospf_router.specs.Steps.{is_dropped}
use Rattle.ospf_world.specs.Does.{Does}
use Rattle.ospf_world.specs.Exact.{IsReachedExactly, RunsExactly, unoffered}
use Rattle.ospf_world.specs.Watching.{CameRule, ComesRule, Told, Watched, counting}
use Rattle.ospf_world.specs.Worlds.{Opens, WorldValue, config_of, configs_of, new_world, stopped_slot, world_of}
use Rattle.ospf_world.proofs.ComesFacts.{does_comes, does_same}
use Rattle.ospf_world.proofs.NewFacts.{is_new, opened_new}

-- ---- one more event

-- an event does the same, however many datagrams count as offered
pub does_at : (n : ℕ) (event : WorldEvent) (w w' : WorldValue) (result : Result (Unit {0}) WorldFault) → Does event w result w' → Does event (record w { offered = n }) result (record w' { offered = n })
does_at n event w w' result (Does.NoRouter none is same) = Does.NoRouter none is (ap (λ (v : WorldValue). record v { offered = n }) same)
does_at n event w w' result (Does.AtRouter s s' changes steps ticks offered) = Does.AtRouter s s' changes steps ticks refl

runs_more : (events : List WorldEvent) (event : WorldEvent) (result : Result (Unit {0}) WorldFault) (u v w : WorldValue) → RunsExactly events u v → Does event v result w → RunsExactly (events ++ event ∷ []) u w
runs_more [] event result u v w same does = (w, result, subst (λ (x : WorldValue). Does event x result w) same does, refl)
runs_more (e ∷ events) event result u v w (mid, r, first, rest) does = (mid, r, first, runs_more events event result mid v w rest does)

-- what an event leads to was reached exactly
pub exact_on : (event : WorldEvent) (w w' : WorldValue) (result : Result (Unit {0}) WorldFault) → Does event w result w' → IsReachedExactly w → IsReachedExactly w'
exact_on event w w' result does (events, runs) =
    let same = does_same event w w' result does in (
      events ++ event ∷ [],
      subst (λ (configs : List Config). RunsExactly (events ++ event ∷ []) (new_world configs) (unoffered w')) (sym same.configs)
          (runs_more events event result (new_world (configs_of w)) (unoffered w) (unoffered w') runs (does_at 0 event w w' result does)),
    )

-- and so was what a list of events leads to that a watch is told of
pub told_exact : {V : Type 0} (Comes : ComesRule V) (Came : CameRule V) (u v : Watched V) → Told Comes Came u v → IsReachedExactly u.0 → IsReachedExactly v.0
told_exact Comes Came u v (Told.Nothing x) exact = exact
told_exact Comes Came u v (Told.Counts x y n more) exact = told_exact Comes Came (counting n u) v more exact
told_exact Comes Came u v (Told.Goes event result x mid y does more) exact = told_exact Comes Came mid v more (exact_on event u.0 mid.0 result does.does exact)

-- ---- a new world

configs_new : (configs : List Config) → map config_of (map stopped_slot configs) ≡ configs
configs_new [] = refl
configs_new (c ∷ configs) = ap (λ (cs : List Config). c ∷ cs) (configs_new configs)

new_exact : (configs : List Config) → IsReachedExactly (new_world configs)
new_exact configs = ([], ap new_world (sym (configs_new configs)))

-- a world that opens was reached by no event
pub opened_exact : (configs : List Config) (result : Result WorldValue WorldFault) (w : WorldValue) → Opens configs result → result ≡ Ok w → IsReachedExactly w
opened_exact configs result w opens at = subst IsReachedExactly (opened_new configs result w opens at) (new_exact configs)

-- ---- as the laws of worlds have it

runs_events : (events : List WorldEvent) (u w : WorldValue) → RunsExactly events u w → RunsEvents is_dropped events (world_of u) (world_of w)
runs_events [] u w same = ap world_of same
runs_events (event ∷ events) u w (mid, result, does, rest) = (world_of mid, (result, does_comes event u mid result does), runs_events events mid w rest)

pub exact_reached : (w : WorldValue) → IsReachedExactly w → IsReached is_dropped (world_of w)
exact_reached w (events, runs) = (events, record { start = world_of (new_world (configs_of w)); new = is_new (configs_of w); runs = runs_events events (new_world (configs_of w)) (unoffered w) runs })
