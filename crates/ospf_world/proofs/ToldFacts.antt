-- What a watch is told, as events go on.
use Rattle.std.proofs.Common.{◌≡◌, ℕ, List, [], ◌∷◌, Result, Ok, Err, sym, subst, take}
use Rattle.ospf_world.specs.Runs.{GoesOver, IsRun, RunsOn}
use Rattle.ospf_base.specs.declared.event.event.WorldEvent.{WorldEvent}
use Rattle.ospf_base.specs.declared.event.event.WorldFault.{WorldFault}
use Rattle.ospf_base.specs.declared.event.event.WorldFault.TheVariants as fault
use Rattle.ospf_world.specs.Worlds.{WorldValue}
use Rattle.ospf_world.specs.Watching.{CameRule, ComesRule, DoesTold, Told, Watched, counting}

pub told_further : {V : Type 0} (Comes : ComesRule V) (Came : CameRule V) (u v w : Watched V) → Told Comes Came u v → Told Comes Came v w → Told Comes Came u w
told_further Comes Came u v w (Told.Nothing x) rest = rest
told_further Comes Came u v w (Told.Counts x y n more) rest = Told.Counts u w n (told_further Comes Came (counting n u) v w more rest)
told_further Comes Came u v w (Told.Goes event result x mid y does more) rest = Told.Goes event result u mid w does (told_further Comes Came mid v w more rest)

pub told_nowhere : {V : Type 0} (Comes : ComesRule V) (Came : CameRule V) (u v : Watched V) → v ≡ u → Told Comes Came u v
told_nowhere {V} Comes Came u v same = subst (λ (x : Watched V). Told Comes Came u x) (sym same) (Told.Nothing u)

pub told_once : {V : Type 0} (Comes : ComesRule V) (Came : CameRule V) (event : WorldEvent) (result : Result (Unit {0}) WorldFault) (u v : Watched V) → DoesTold Comes Came event u result v → Told Comes Came u v
told_once Comes Came event result u v does = Told.Goes event result u v v does (Told.Nothing v)

goes_told : {V : Type 0} (Comes : ComesRule V) (Came : CameRule V) (event : WorldEvent) (u : Watched V) (n : ℕ) (v : Watched V) (m : ℕ) → GoesOver (DoesTold Comes Came) event u n v m → Told Comes Came u v
goes_told Comes Came event u n v m (GoesOver.IsTaken does count) = told_once Comes Came event (Ok tt) u v does
goes_told Comes Came event u n v m (GoesOver.IsRefused f does none count) = told_once Comes Came event (Err f) u v does

runs_told : {V : Type 0} (Comes : ComesRule V) (Came : CameRule V) (events : List WorldEvent) (u : Watched V) (n : ℕ) (v : Watched V) (m : ℕ) → RunsOn (DoesTold Comes Came) events u n v m → Told Comes Came u v
runs_told Comes Came [] u n v m (same, count) = told_nowhere Comes Came u v same
runs_told Comes Came (event ∷ events) u n v m (mid, k, first, rest) = told_further Comes Came u mid v (goes_told Comes Came event u n mid k first) (runs_told Comes Came events mid k v m rest)

-- a run, each event of which the watch is told of
pub run_told : {V : Type 0} (Comes : ComesRule V) (Came : CameRule V) (events : List WorldEvent) (u v : Watched V) (result : Result ℕ WorldFault) → IsRun (DoesTold Comes Came) events u result v → Told Comes Came u v
run_told Comes Came events u v result (IsRun.Done n runs is) = runs_told Comes Came events u 0 v n runs
run_told Comes Came events u v result (IsRun.EndsEarly i n event mid stopped runs get does is) =
    told_further Comes Came u mid v (runs_told Comes Came (take i events) u 0 mid n runs) (told_once Comes Came event (Err (fault.Memory stopped)) mid v does)

-- a count that is set first
pub told_counts : {V : Type 0} (Comes : ComesRule V) (Came : CameRule V) (w v : WorldValue) (n : ℕ) (watch : V) (after : Watched V) → v ≡ record w { offered = n } → Told Comes Came (v, watch) after → Told Comes Came (w, watch) after
told_counts Comes Came w v n watch after is told = Told.Counts (w, watch) after n (subst (λ (x : WorldValue). Told Comes Came (x, watch) after) is told)
