-- Lists of events that are gone over.
use Rattle.std.proofs.Common.{◌≡◌, ◌++◌, ◌+◌, ◌<◌, ℕ, List, [], ◌∷◌, take, get_or, length, refl, sym, ap, subst, ◌∙◌, Result, Ok, Err, Bool, true, false, ◌≤◌, zero, suc, arith}
use Rattle.std.proofs.lemmas.List.{take_more}
use Rattle.std.proofs.lemmas.Option.{slice_get-get_or}
use Rattle.ospf_world.specs.Headline.{Headline, IsReached}
use Rattle.ospf_world.specs.Runs.{EventRule, GoesOver, IsRun, RunsOn, is_memory}
use Rattle.ospf_world.specs.World.{Comes, RunsEvents, World}
use Rattle.ospf_base.specs.declared.event.event.WorldEvent.{WorldEvent}
use Rattle.ospf_base.specs.declared.event.event.WorldFault.{WorldFault}
use Rattle.ospf_base.specs.declared.event.event.WorldFault.TheVariants as fault
use Rattle.ospf_world.proofs.RunsFacts.{Runs-append}
use Rattle.ospf_router.specs.Steps.{is_dropped}
use Rattle.ospf_world.specs.Does.{Does}
use Rattle.ospf_world.specs.Worlds.{SameSettings, WorldValue, world_of}
use Rattle.ospf_world.proofs.ComesFacts.{does_comes}

RunsOn-more : {W : Type 0} (Rule : EventRule W) (events : List WorldEvent) (event : WorldEvent) (w : W) (n : ℕ) (mid : W) (m : ℕ) (w' : W) (n' : ℕ) → RunsOn Rule events w n mid m → GoesOver Rule event mid m w' n' → RunsOn Rule (events ++ event ∷ []) w n w' n'
RunsOn-more Rule [] event w n mid m w' n' (same, count) goes = (w', n', subst (λ m. GoesOver Rule event w m w' n') count (subst (λ v. GoesOver Rule event v m w' n') same goes), (refl, refl))
RunsOn-more Rule (e ∷ events) event w n mid m w' n' (v, k, first, rest) goes = (v, k, first, RunsOn-more Rule events event v k mid m w' n' rest goes)

RunsOn-next : {W : Type 0} (Rule : EventRule W) (events : List WorldEvent) (i : ℕ) (d : WorldEvent) (w mid w' : W) (n m n' : ℕ) → i < length events → RunsOn Rule (take i events) w n mid m → GoesOver Rule (get_or events i d) mid m w' n' → RunsOn Rule (take (i + 1) events) w n w' n'
RunsOn-next Rule events i d w mid w' n m n' within runs goes = subst (λ es. RunsOn Rule es w n w' n') (sym (take_more events i d within)) (RunsOn-more Rule (take i events) (get_or events i d) w n mid m w' n' runs goes)

take_all : (events : List WorldEvent) (n : ℕ) → length events ≤ n → take n events ≡ events
take_all [] zero all = refl
take_all [] (suc n) all = refl
take_all (e ∷ events) zero all = absurd (omega arith)
take_all (e ∷ events) (suc n) all = ap (λ es. e ∷ es) (take_all events n (omega arith))

memory_is : (f : WorldFault) → is_memory f ≡ true → (stopped : Bool) × (f ≡ fault.Memory stopped)
memory_is (fault.Memory stopped) is = (stopped, refl)
memory_is fault.NoRouter is = absurd (cc is)
memory_is fault.NoDatagram is = absurd (cc is)
memory_is fault.NoLink is = absurd (cc is)
memory_is fault.Running is = absurd (cc is)
memory_is fault.NotRunning is = absurd (cc is)
memory_is fault.SameRouter is = absurd (cc is)
memory_is fault.Floor is = absurd (cc is)

pub done : {W : Type 0} (Rule : EventRule W) (events : List WorldEvent) (i n : ℕ) (w w' : W) → length events ≤ i → RunsOn Rule (take i events) w 0 w' n → IsRun Rule events w (Ok n) w'
done Rule events i n w w' all runs = IsRun.Done n (subst (λ es. RunsOn Rule es w 0 w' n) (take_all events i all) runs) refl

pub ends_early : {W : Type 0} (Rule : EventRule W) (events : List WorldEvent) (i n : ℕ) (d : WorldEvent) (f : WorldFault) (result : Result (Unit {0}) WorldFault) (w mid w' : W) → i < length events → RunsOn Rule (take i events) w 0 mid n → Rule (get_or events i d) mid result w' → result ≡ Err f → is_memory f ≡ true → IsRun Rule events w (Err f) w'
ends_early Rule events i n d f result w mid w' within runs does is memory = let (stopped, same) = memory_is f memory in IsRun.EndsEarly i n (get_or events i d) mid stopped runs (slice_get-get_or events i d within) (subst (λ r. Rule (get_or events i d) mid r w') (is ∙ ap (λ f. Err f) same) does) (ap (λ f. Err f) same)

pub goes_ok : {W : Type 0} (Rule : EventRule W) (events : List WorldEvent) (i : ℕ) (d : WorldEvent) (w mid w' : W) (m n' : ℕ) (result : Result (Unit {0}) WorldFault) → i < length events → RunsOn Rule (take i events) w 0 mid m → Rule (get_or events i d) mid result w' → result ≡ Ok tt → n' ≡ m → RunsOn Rule (take (i + 1) events) w 0 w' n'
goes_ok Rule events i d w mid w' m n' result within runs does is same = RunsOn-next Rule events i d w mid w' 0 m n' within runs (GoesOver.IsTaken (subst (λ r. Rule (get_or events i d) mid r w') is does) same)

pub goes_err : {W : Type 0} (Rule : EventRule W) (events : List WorldEvent) (i : ℕ) (d : WorldEvent) (w mid w' : W) (m n' : ℕ) (f : WorldFault) (result : Result (Unit {0}) WorldFault) → i < length events → RunsOn Rule (take i events) w 0 mid m → Rule (get_or events i d) mid result w' → result ≡ Err f → is_memory f ≡ false → n' ≡ m + 1 → RunsOn Rule (take (i + 1) events) w 0 w' n'
goes_err Rule events i d w mid w' m n' f result within runs does is none same = RunsOn-next Rule events i d w mid w' 0 m n' within runs (GoesOver.IsRefused f (subst (λ r. Rule (get_or events i d) mid r w') is does) none same)

pub same_on : (w mid w' : WorldValue) → SameSettings w mid → SameSettings mid w' → SameSettings w w'
same_on w mid w' a b = record { configs = b.configs ∙ a.configs; offered = b.offered ∙ a.offered }

-- ---- as the laws of worlds have it

goes_comes : (event : WorldEvent) (w : WorldValue) (n : ℕ) (w' : WorldValue) (n' : ℕ) → GoesOver Does event w n w' n' → GoesOver (Comes is_dropped) event (world_of w) n (world_of w') n'
goes_comes event w n w' n' (GoesOver.IsTaken does same) = GoesOver.IsTaken (does_comes event w w' (Ok tt) does) same
goes_comes event w n w' n' (GoesOver.IsRefused f does none count) = GoesOver.IsRefused f (does_comes event w w' (Err f) does) none count

RunsOn-comes : (events : List WorldEvent) (w : WorldValue) (n : ℕ) (w' : WorldValue) (n' : ℕ) → RunsOn Does events w n w' n' → RunsOn (Comes is_dropped) events (world_of w) n (world_of w') n'
RunsOn-comes [] w n w' n' (same, count) = (ap world_of same, count)
RunsOn-comes (e ∷ events) w n w' n' (v, k, first, rest) = (world_of v, k, goes_comes e w n v k first, RunsOn-comes events v k w' n' rest)

pub run_comes : (events : List WorldEvent) (w w' : WorldValue) (result : Result ℕ WorldFault) → IsRun Does events w result w' → IsRun (Comes is_dropped) events (world_of w) result (world_of w')
run_comes events w w' result (IsRun.Done n runs is) = IsRun.Done n (RunsOn-comes events w 0 w' n runs) is
run_comes events w w' result (IsRun.EndsEarly i n event mid stopped runs get does is) =
    IsRun.EndsEarly i n event (world_of mid) stopped (RunsOn-comes (take i events) w 0 mid n runs) get (does_comes event mid w' (Err (fault.Memory stopped)) does) is

-- the headline of a world that events led on from
pub run_headline : (events : List WorldEvent) (w w' : World) (result : Result ℕ WorldFault) → IsRun (Comes is_dropped) events w result w' → IsReached is_dropped w →
    (IsRun (Comes is_dropped) events w result w' → (later : List WorldEvent) × RunsEvents is_dropped later w w') → ((later : List WorldEvent) → IsReached is_dropped w → RunsEvents is_dropped later w w' → Headline w w') → Headline w w'
run_headline events w w' result run reached leads law = let (later, runs) = leads run in law later reached runs

-- and it was reached
pub run_reached : (events : List WorldEvent) (w w' : World) (result : Result ℕ WorldFault) → IsRun (Comes is_dropped) events w result w' → IsReached is_dropped w → (IsRun (Comes is_dropped) events w result w' → (later : List WorldEvent) × RunsEvents is_dropped later w w') → IsReached is_dropped w'
run_reached events w w' result run (before, by) leads = let (later, runs) = leads run in (before ++ later, record { start = by.start; new = by.new; runs = Runs-append is_dropped before later by.start w w' by.runs runs })
