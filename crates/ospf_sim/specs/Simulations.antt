-- What a simulation does: its files, its configurations, and the run of its script.
use Rattle.std.specs.Prelude.{◌≡◌, ◌⊎◌, ℕ, List, ◌∷◌, Option, None, Some, Bool, true, false, ⊤}
use Rattle.ospf_config.specs.declared.config.Config.{Config}
use Rattle.ospf_files.specs.Files.{text_in}
use Rattle.ospf_files.specs.Listed.{AreConfigs, AreFilesRead, IsRefusalTold}
use Rattle.ospf_files.specs.Streams.{Written}
use Rattle.ospf_files.specs.declared.files.NamedFile.{NamedFile}
use Rattle.ospf_files.specs.declared.status.Status.{Status}
use Rattle.ospf_files.specs.declared.status.Status.TheVariants as status
use Rattle.ospf_files.specs.Lines.{numbered_from}
use Rattle.ospf_commands.specs.Deliveries.Progress.{ProgressRule, ToldOn}
use Rattle.ospf_sim.specs.Twins.{AreTwinsTold}
use Rattle.ospf_sim.specs.Scripts.{EndsEarly, IsScriptRun}
use Rattle.ospf_commands.specs.Simulations.{begun_in}
use Rattle.ospf_commands.specs.Worlds.{WorldValue}
use Rattle.ospf_commands.specs.declared.simulation.Simulation.{Simulation}
use Rattle.ospf_config.specs.Configs.{ShareRouter}
use Rattle.ospf_world.specs.Watching.{CameRule, ComesRule}
use Rattle.ospf_world.specs.Worlds.{new_world}

-- ---- worlds

-- a world of these configurations, no two with one Router ID, in which nothing runs and nothing has
-- happened
abbrev pub IsNewOf : List Config → WorldValue → Type 0
IsNewOf configs w = (ShareRouter configs → ⊥) × (w ≡ new_world configs)

-- a world of the configurations in the files, in which nothing runs
pub record IsWorldOf (files : List NamedFile) (w : WorldValue) : Type 0 where
  pub configs : List Config
  pub are_configs : AreConfigs files configs
  pub new : IsNewOf configs w

-- there is no such world, and the reason is reported: a file holds no configuration, or two routers
-- have one Router ID
pub data IsNoWorld (files : List NamedFile) (old new : Option (List ℕ)) : Type 0 where
  no_config : IsRefusalTold files old new → IsNoWorld files old new
  same_router : (configs : List Config) → AreConfigs files configs
      → AreTwinsTold files configs old new → IsNoWorld files old new

-- a new world of configurations, or the report that two of them have one Router ID
abbrev pub OpensWorld : List NamedFile → List Config → Option WorldValue → Option (List ℕ)
    → Option (List ℕ) → Type 0
OpensWorld files configs (Some w) old new = IsNewOf configs w × (new ≡ old)
OpensWorld files configs None old new = AreTwinsTold files configs old new

-- the world of the files, or the report why they make none
abbrev pub WorldComes : List NamedFile → Option WorldValue → Option (List ℕ) → Option (List ℕ)
    → Type 0
WorldComes files (Some w) old new = IsWorldOf files w × (new ≡ old)
WorldComes files None old new = IsNoWorld files old new

-- ---- simulations

-- the status of a script, by whether all its lines could be read
abbrev pub status_of_script : Bool → Status
status_of_script true = status.Done
status_of_script false = status.Refused

-- the whole script has run, in a world of the configurations
pub record IsSimulated (script : NamedFile) (files : List NamedFile) (left : Option Simulation)
    (old new : Written) : Type 0 where
  pub read : AreFilesRead (script ∷ files)
  pub start : WorldValue
  pub end : Simulation
  pub starts : IsWorldOf files start
  pub left_is : left ≡ Some end
  pub run : IsScriptRun (numbered_from 1 (text_in script)) (begun_in start) end old new

-- the script has run up to a line that cannot be read, and that is reported
pub record IsScriptCutShort (script : NamedFile) (files : List NamedFile)
    (left : Option Simulation) (old new : Written) : Type 0 where
  pub read : AreFilesRead (script ∷ files)
  pub start : WorldValue
  pub end : Simulation
  pub starts : IsWorldOf files start
  pub left_is : left ≡ Some end
  pub early : EndsEarly (text_in script) (begun_in start) end old new

-- no line has run, because the configurations make no world, and the reason is reported
pub record IsNotBegun (script : NamedFile) (files : List NamedFile) (left : Option Simulation)
    (old new : Written) : Type 0 where
  pub read : AreFilesRead (script ∷ files)
  pub no_world : IsNoWorld files old.err new.err
  pub none : left ≡ None
  pub same_out : new.out ≡ old.out

-- what is refused: the configurations, or a line
abbrev pub IsScriptRefused : NamedFile → List NamedFile → Option Simulation → Written → Written
    → Type 0
IsScriptRefused script files left old new =
    IsNotBegun script files left old new ⊎ IsScriptCutShort script files left old new

-- the result of a simulation, by its status
abbrev pub ComesOfScript : Status → NamedFile → List NamedFile → Option Simulation → Written
    → Written → Type 0
ComesOfScript status.Done = IsSimulated
ComesOfScript status.Refused = IsScriptRefused
ComesOfScript _ = λ script files left old new. ⊤

-- ---- watches

-- from a world of the configurations in the files on, all that led to this world was reported to a
-- watch: each event, and the progress of the lines
pub record IsToldFrom {V : Type 0} (Comes : ComesRule V) (Came : CameRule V)
    (GoesOn : ProgressRule V) (files : List NamedFile) (before : V) (end : Simulation) (after : V)
    : Type 0 where
  pub start : WorldValue
  pub starts : IsWorldOf files start
  pub told : ToldOn Comes Came GoesOn (start, before) (end.world, after)
