-- Worlds of configurations, and what runs in them.
use Rattle.std.proofs.Common.{ap, suc, length, [], ◌≡◌, ◌∙◌, sym, subst, refl, inr, ℕ, List, ◌∷◌, Bool, true, false, Option, None, Some, Result, Ok, Err, IfOk, IfSome}
use Rattle.ospf_config.specs.declared.config.Config.{Config}
use Rattle.ospf_files.specs.Files.{text_in}
use Rattle.ospf_files.specs.Listed.{AreConfigs, AreFilesRead, ConfigsCome}
use Rattle.ospf_files.specs.Streams.{Written, written_on}
use Rattle.ospf_files.specs.declared.files.NamedFile.{NamedFile}
use Rattle.ospf_files.specs.declared.status.Failure.{Failure}
use Rattle.ospf_files.specs.declared.status.Status.{Status}
use Rattle.ospf_files.specs.declared.status.Status.TheVariants.{Done, Words, Refused, Memory, Stream}
use Rattle.ospf_script.specs.Words.{Text}
use Rattle.ospf_commands.specs.Worlds.{WorldValue}
use Rattle.ospf_sim.specs.Scripts.{ScriptComes}
use Rattle.ospf_commands.specs.declared.simulation.Simulation.{Simulation}
use Rattle.ospf_sim.specs.declared.text.Simulated.{Simulated}
use Rattle.ospf_sim.specs.Simulations.{ComesOfScript, IsNoWorld, IsNewOf, IsToldFrom, IsWorldOf, OpensWorld, WorldComes, same_router, status_of_script}
use Rattle.ospf_commands.specs.Simulations.{begun_in}
use Rattle.ospf_base.specs.declared.event.event.WorldFault.{WorldFault}
use Rattle.ospf_commands.specs.Deliveries.Progress.{ProgressRule, ToldOn}
use Rattle.ospf_world.specs.Watching.{CameRule, ComesRule}
use Rattle.ospf_world.specs.Worlds as worlds
use Rattle.ospf_world.specs.Worlds.{Begins, NoMemory, SameRouter, new_world}
use Rattle.ospf_sim.specs.Twins.{AreTwinsTold}

-- a script runs from this world, whole or up to a line that cannot be read, as the status says
pub record RunsWhole (script : NamedFile) (start : WorldValue) (simulated : Simulated)
    (whole : Bool) (old new : Written) : Type 0 where
  pub end : Simulation
  pub left : simulated.left ≡ Some end
  pub comes : ScriptComes whole (text_in script) (begun_in start) end old new

-- what a script comes to by the status: all that was expected is met, or something is not
abbrev pub ScriptRunsTo : Status → NamedFile → WorldValue → Simulated → Written → Written → Type 0
ScriptRunsTo Done script start simulated = RunsWhole script start simulated true
ScriptRunsTo Refused script start simulated = RunsWhole script start simulated false
ScriptRunsTo _ script start simulated = λ old new. ⊥

pub world_comes : (found : Option (List Config)) (configs : List Config) (files : List NamedFile) (result : Result (Option WorldValue) Failure) (x y z : Option (List ℕ))
    → found ≡ Some configs → ConfigsCome files found x y → IfOk result (λ world. OpensWorld files configs world y z) → IfOk result (λ world. WorldComes files world x z)
world_comes None configs files result x y z is comes opens = absurd (cc is)
world_comes (Some cs) configs files (Err failure) x y z is comes opens = opens
world_comes (Some cs) configs files (Ok None) x y z is comes opens =
    let one : cs ≡ configs = cc is in
    same_router configs (subst (AreConfigs files) one comes.0) (subst (λ old. AreTwinsTold files configs old z) comes.1 opens)
world_comes (Some cs) configs files (Ok (Some w)) x y z is comes opens =
    let one : cs ≡ configs = cc is in
    (record { configs = configs; are_configs = subst (AreConfigs files) one comes.0; new = opens.0 }, opens.1 ∙ comes.1)

many_files : (files : List NamedFile) (configs : List Config) → AreConfigs files configs → length files ≡ length configs
many_files [] [] are = refl
many_files (file ∷ files) (config ∷ configs) are = ap suc (many_files files configs are.1)
many_files [] (config ∷ configs) are = absurd are
many_files (file ∷ files) [] are = absurd are

-- as many files as configurations in them
pub as_many : (found : Option (List Config)) (configs : List Config) (files : List NamedFile) (x y : Option (List ℕ)) → found ≡ Some configs → ConfigsCome files found x y
    → length files ≡ length configs
as_many None configs files x y is comes = absurd (cc is)
as_many (Some cs) configs files x y is comes = let one : cs ≡ configs = cc is in many_files files configs (subst (AreConfigs files) one comes.0)

pub no_world_told : (found : Option WorldValue) (files : List NamedFile) (x y : Option (List ℕ)) → found ≡ None → WorldComes files found x y → IsNoWorld files x y
no_world_told None files x y is comes = comes
no_world_told (Some w) files x y is comes = absurd (cc is)

pub runs_to : (whole : Bool) (script : NamedFile) (text : Text) (w : WorldValue) (s end : Simulation) (simulated : Simulated) (old new : Written)
    → simulated.status ≡ status_of_script whole → s ≡ begun_in w → text ≡ text_in script → simulated.left ≡ Some end → ScriptComes whole text s end old new
    → ScriptRunsTo simulated.status script w simulated old new
runs_to true script text w s end simulated old new is begins same left comes =
    subst (λ status. ScriptRunsTo status script w simulated old new) (sym is)
    (record { end = end; left = left; comes = subst (λ t. ScriptComes true t (begun_in w) end old new) same (subst (λ v. ScriptComes true text v end old new) begins comes) })
runs_to false script text w s end simulated old new is begins same left comes =
    subst (λ status. ScriptRunsTo status script w simulated old new) (sym is)
    (record { end = end; left = left; comes = subst (λ t. ScriptComes false t (begun_in w) end old new) same (subst (λ v. ScriptComes false text v end old new) begins comes) })

run_comes : (status : Status) (start : WorldValue) (script : NamedFile) (files : List NamedFile) (simulated : Simulated) (a x y : Option (List ℕ)) (new : Written)
    → WorldComes files (Some start) x y → AreFilesRead (script ∷ files) → ScriptRunsTo status script start simulated (written_on a y) new → ComesOfScript status script files simulated.left (written_on a x) new
run_comes Done start script files simulated a x y new comes read run = record {
  read = read;
  start = start;
  end = run.end;
  starts = comes.0;
  left_is = run.left;
  run = subst (λ old. ScriptComes true (text_in script) (begun_in start) run.end (written_on a old) new) comes.1 run.comes;
}
run_comes Refused start script files simulated a x y new comes read run = inr (record {
  read = read;
  start = start;
  end = run.end;
  starts = comes.0;
  left_is = run.left;
  early = subst (λ old. ScriptComes false (text_in script) (begun_in start) run.end (written_on a old) new) comes.1 run.comes;
})
run_comes Words start script files simulated a x y new comes read run = tt
run_comes Memory start script files simulated a x y new comes read run = tt
run_comes Stream start script files simulated a x y new comes read run = tt

pub found_runs : (found : Option WorldValue) (start : WorldValue) (status : Status) (script : NamedFile) (files : List NamedFile) (simulated : Simulated) (a x y : Option (List ℕ)) (new : Written)
    → found ≡ Some start → WorldComes files found x y → AreFilesRead (script ∷ files) → ScriptRunsTo status script start simulated (written_on a y) new → ComesOfScript status script files simulated.left (written_on a x) new
found_runs None start status script files simulated a x y new is comes read run = absurd (cc is)
found_runs (Some w) start status script files simulated a x y new is comes read run =
    let one : w ≡ start = cc is in
    run_comes status start script files simulated a x y new (subst (λ v. WorldComes files (Some v) x y) one comes) read run

same_world : (w v : WorldValue) → (a : Result WorldValue WorldFault) → a ≡ Ok w → a ≡ Ok v → w ≡ v
same_world w v a one other = cc

pub is_new : (configs : List Config) (w : WorldValue) → worlds.Opens configs (Ok w) → IsNewOf configs w
is_new configs w (Begins apart same) = (apart, same_world w (new_world configs) (Ok w) refl same)
is_new configs w (SameRouter twins same) = absurd (cc same)
is_new configs w (NoMemory same) = absurd (cc same)

world_found : (found : Option WorldValue) (start : WorldValue) (files : List NamedFile) (x y : Option (List ℕ)) → found ≡ Some start → WorldComes files found x y → IsWorldOf files start
world_found None start files x y is comes = absurd (cc is)
world_found (Some w) start files x y is comes = let one : w ≡ start = cc is in subst (IsWorldOf files) one comes.0

-- from a new world on a watch was told of all that led to what is left
pub told_from : {V : Type 0} (Comes : ComesRule V) (Came : CameRule V) (GoesOn : ProgressRule V) (found : Option WorldValue) (start : WorldValue) (files : List NamedFile) (begun end : Simulation)
    (left : Option Simulation) (before after : V) (x y : Option (List ℕ)) → found ≡ Some start → WorldComes files found x y → begun ≡ begun_in start → left ≡ Some end
    → ToldOn Comes Came GoesOn (begun.world, before) (end.world, after) → IfSome left (λ (end : Simulation). IsToldFrom Comes Came GoesOn files before end after)
told_from {V} Comes Came GoesOn found start files begun end left before after x y is comes begins leaves told =
    let from : IsToldFrom Comes Came GoesOn files before end after = record {
      start = start;
      starts = world_found found start files x y is comes;
      told = subst (λ (s : Simulation). ToldOn Comes Came GoesOn (s.world, before) (end.world, after)) begins told;
    } in
    subst (λ (o : Option Simulation). IfSome o (λ (end : Simulation). IsToldFrom Comes Came GoesOn files before end after)) (sym leaves) from

-- where nothing is left, nothing is said
pub told_of_none : {V : Type 0} (Comes : ComesRule V) (Came : CameRule V) (GoesOn : ProgressRule V) (files : List NamedFile) (left : Option Simulation) (before after : V) → left ≡ None
    → IfSome left (λ (end : Simulation). IsToldFrom Comes Came GoesOn files before end after)
told_of_none {V} Comes Came GoesOn files left before after none =
    subst (λ (o : Option Simulation). IfSome o (λ (end : Simulation). IsToldFrom Comes Came GoesOn files before end after)) (sym none) tt

pub told_of_unread : {V : Type 0} (Comes : ComesRule V) (Came : CameRule V) (GoesOn : ProgressRule V) (files : List NamedFile) (result : Result Simulated Failure) (before after : V)
    → IfOk result (λ (s : Simulated). s.left ≡ None) → IfOk result (λ (s : Simulated). IfSome s.left (λ (end : Simulation). IsToldFrom Comes Came GoesOn files before end after))
told_of_unread Comes Came GoesOn files (Ok s) before after none = told_of_none Comes Came GoesOn files s.left before after none
told_of_unread Comes Came GoesOn files (Err f) before after none = tt
