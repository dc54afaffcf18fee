-- Each event that led to a world keeps the laws, and so does each that leads on from one.
use Rattle.std.proofs.Common.{◌≡◌, ℕ, List, [], ◌∷◌, Option, Some, Result, Ok, Err, take, refl, sym, ap, subst, ◌∙◌}
use Rattle.std.proofs.lemmas.Option.{none-some, same_Some}
use Rattle.ospf_base.specs.declared.event.event.WorldEvent.{WorldEvent}
use Rattle.ospf_base.specs.declared.event.event.WorldFault.{WorldFault}
use Rattle.ospf_base.specs.declared.event.event.WorldFault.TheVariants as fault
use Rattle.ospf_world.specs.Logs.{LogsValue}
use Rattle.ospf_world.specs.Runs.{GoesOver, IsRun, RunsOn}
use Rattle.ospf_world.specs.Slots.{SlotGoesOn, SlotSteps, SlotTakes, SlotValue, fed_by}
use Rattle.ospf_world.specs.World.{Running}
use Rattle.ospf_router.proofs.StepLaws.Accounted.{OfExact}
use Rattle.ospf_router.proofs.StepLaws.All.{all_laws}
use Rattle.ospf_router.specs.Laws.{KeepsLaws}
use Rattle.ospf_world.specs.OnTheWay.{DoesAndKeeps, KeepsAt, KeepsBetween, KeepsOnTheWay, OfEachWorld, SlotKeeps}
use Rattle.ospf_router.specs.Stepped.{Stepped}
use Rattle.ospf_router.specs.AreaStep.Step.{Event}
use Rattle.ospf_world.proofs.ExactFacts.{does_at}
use Rattle.ospf_world.specs.Does.{Does}
use Rattle.ospf_world.specs.Exact.{RunsExactly, unoffered}
use Rattle.ospf_world.specs.Watching.{CameRule, ComesRule, Told, Watched, counting}
use Rattle.ospf_world.specs.Worlds.{WorldValue, configs_of, new_world}

ok_err : (result : Result (Unit {0}) WorldFault) (f : WorldFault) → result ≡ Ok tt → result ≡ Err f → ⊥
ok_err result f ok err = let never : Ok tt ≡ Err f = sym ok ∙ err in cc

running_in : SlotValue → Option Running
running_in s = s.running

module _ (Law : Stepped → Type 0) (law : OfExact Law) where
  goes_on : (e : Event) (s : SlotValue) (logs : LogsValue) (s' : SlotValue) (logs' : LogsValue) → SlotGoesOn e s logs s' logs' → SlotKeeps Law e s logs s' logs'
  unfolding running_in
  goes_on e s logs s' logs' goes = record {
    x = goes.x;
    x' = goes.x';
    dropped = goes.dropped;
    out = goes.out;
    was = goes.was;
    is = ap running_in goes.is;
    takes = goes.takes;
    keeps = law _ (record { exact = goes.steps; lawful = goes.lawful; table = goes.table.is_table });
  }

  slot_keeps : (event : WorldEvent) (s : SlotValue) (logs : LogsValue) (result : Result (Unit {0}) WorldFault) (s' : SlotValue) (logs' : LogsValue) → SlotSteps event s logs result s' logs'
      → (e : Event) → fed_by logs.datagrams event ≡ Some e → result ≡ Ok tt → SlotKeeps Law e s logs s' logs'
  slot_keeps event s logs result s' logs' (SlotSteps.Refused f refused is after same) e fed ok = absurd (ok_err result f ok is)
  slot_keeps event s logs result s' logs' (SlotSteps.Taken none (SlotTakes.NotDone wants err after same)) e fed ok = absurd (ok_err result _ ok err)
  slot_keeps event s logs result s' logs' (SlotSteps.Taken none (SlotTakes.MemoryStops x e' runs fed' needs err after same)) e fed ok = absurd (ok_err result _ ok err)
  slot_keeps event s logs result s' logs' (SlotSteps.Taken none (SlotTakes.Starts r dd floor x is done stopped after started same)) e fed ok =
      absurd (none-some e (subst (λ v. fed_by logs.datagrams v ≡ Some e) is fed))
  slot_keeps event s logs result s' logs' (SlotSteps.Taken none (SlotTakes.Stops r is done after same)) e fed ok =
      absurd (none-some e (subst (λ v. fed_by logs.datagrams v ≡ Some e) is fed))
  slot_keeps event s logs result s' logs' (SlotSteps.Taken none (SlotTakes.Stepped e' fed' done goes)) e fed ok =
      subst (λ v. SlotKeeps Law v s logs s' logs') (same_Some e' e (sym fed' ∙ fed)) (goes_on e' s logs s' logs' goes)

  keeps_at : (event : WorldEvent) (before : WorldValue) (result : Result (Unit {0}) WorldFault) (after : WorldValue) → Does event before result after → KeepsAt Law event before result after
  keeps_at event before result after (Does.NoRouter none is same) e fed ok = absurd (ok_err result _ ok is)
  keeps_at event before result after (Does.AtRouter s s' changes steps ticks offered) e fed ok =
      (s, s', changes, slot_keeps event s before.logs result s' after.logs steps e fed ok)

  on_the_way : (events : List WorldEvent) (before after : WorldValue) → (is : RunsExactly events before after) → KeepsOnTheWay Law events before after is
  on_the_way [] before after is = tt
  on_the_way (event ∷ events) before after (mid, result, does, rest) = (keeps_at event before result mid does, on_the_way events mid after rest)

  pub of_worlds : OfEachWorld Law
  of_worlds w is = on_the_way is.0 (new_world (configs_of w)) (unoffered w) is.1

-- ---- all nine laws, of what events do

pub keeping : (event : WorldEvent) (before : WorldValue) (result : Result (Unit {0}) WorldFault) (after : WorldValue) → Does event before result after → DoesAndKeeps event before result after
keeping event before result after does = record { does = does; keeps = keeps_at KeepsLaws all_laws event before result after does }

goes_keeping : (event : WorldEvent) (w : WorldValue) (n : ℕ) (w' : WorldValue) (n' : ℕ) → GoesOver Does event w n w' n' → GoesOver DoesAndKeeps event w n w' n'
goes_keeping event w n w' n' (GoesOver.IsTaken does same) = GoesOver.IsTaken (keeping event w (Ok tt) w' does) same
goes_keeping event w n w' n' (GoesOver.IsRefused f does none count) = GoesOver.IsRefused f (keeping event w (Err f) w' does) none count

runs_keeping : (events : List WorldEvent) (w : WorldValue) (n : ℕ) (w' : WorldValue) (n' : ℕ) → RunsOn Does events w n w' n' → RunsOn DoesAndKeeps events w n w' n'
runs_keeping [] w n w' n' same = same
runs_keeping (e ∷ events) w n w' n' (v, k, first, rest) = (v, k, goes_keeping e w n v k first, runs_keeping events v k w' n' rest)

pub run_keeping : (events : List WorldEvent) (w w' : WorldValue) (result : Result ℕ WorldFault) → IsRun Does events w result w' → IsRun DoesAndKeeps events w result w'
run_keeping events w w' result (IsRun.Done n runs is) = IsRun.Done n (runs_keeping events w 0 w' n runs) is
run_keeping events w w' result (IsRun.EndsEarly i n event mid stopped runs get does is) =
    IsRun.EndsEarly i n event mid stopped (runs_keeping (take i events) w 0 mid n runs) get (keeping event mid (Err (fault.Memory stopped)) w' does) is

-- and of what a watch is told of
exactly_told : {V : Type 0} (Comes : ComesRule V) (Came : CameRule V) (u v : Watched V) → Told Comes Came u v → (events : List WorldEvent) × RunsExactly events (unoffered u.0) (unoffered v.0)
exactly_told Comes Came u v (Told.Nothing x) = ([], refl)
exactly_told Comes Came u v (Told.Counts x y n more) = exactly_told Comes Came (counting n u) v more
exactly_told Comes Came u v (Told.Goes event result x mid y does more) =
    let rest = exactly_told Comes Came mid v more in
    (event ∷ rest.0, (unoffered mid.0, result, does_at 0 event u.0 mid.0 result does.does, rest.1))

pub told_keeping : {V : Type 0} (Comes : ComesRule V) (Came : CameRule V) (u v : Watched V) → Told Comes Came u v → KeepsBetween u.0 v.0
told_keeping Comes Came u v told =
    let (events, runs) = exactly_told Comes Came u v told in
    record { events = events; runs = runs; keep = on_the_way KeepsLaws all_laws events (unoffered u.0) (unoffered v.0) runs }
