-- Calls that run a simulation.
use Rattle.std.specs.Prelude.{◌≡◌, ◌≢◌, ◌⊎◌, ℕ, List, Bool, Option, Some}
use Rattle.ospf_commands.specs.declared.simulation.Simulation.{Simulation}
use Rattle.ospf_files.specs.Files.{bytes_of}
use Rattle.ospf_files.specs.declared.files.NamedFile.{NamedFile}
use Rattle.ospf_files.specs.declared.status.Status.{Status}
use Rattle.ospf_files.specs.declared.status.Status.TheVariants as status
use Rattle.ospf_files.specs.declared.streams.FailedStreams.{FailedStreams}
use Rattle.ospf_sim.specs.Ends.{sim_end_by, sim_exit_code}
use Rattle.ospf_sim.specs.Simulations.{IsScriptRefused, IsSimulated}
use Rattle.ospf_sim.specs.Stopped.{IsStopped}
use Rattle.ospf_c.specs.Answered.{IsNotAsked, nothing, streams}
use Rattle.ospf_c.specs.Files.{AreGivenFiles}
use Rattle.ospf_c.specs.declared.files.File.{File}

-- what the program prints of a simulation that reached this status and left this
pub record IsSimulationAnswer (script : NamedFile) (files : List NamedFile) (s : Status)
    (left : Option Simulation) (text warnings : List ℕ) : Type 0 where
  pub done : s ≡ status.Done → IsSimulated script files left nothing (streams text warnings)
  pub refused :
      s ≡ status.Refused → IsScriptRefused script files left nothing (streams text warnings)
  pub cut : (s ≡ status.Memory) ⊎ (s ≡ status.Stream)
      → (failed : FailedStreams)
      × IsStopped script files left failed s nothing (streams text warnings)
  pub not_words : s ≢ status.Words

-- what is answered of a script and of the configurations in files, strictly or not
pub data IsSimulationOf (strict : Bool) (lines : List ℕ) (files : List File)
    (text warnings : List ℕ) (code : ℕ) : Type 0 where
  not_simulated : IsNotAsked text warnings code
      → IsSimulationOf strict lines files text warnings code
  of_script : (script : NamedFile) (named : List NamedFile) (s : Status)
      (left : Option Simulation) → bytes_of script ≡ Some lines → AreGivenFiles files named
      → IsSimulationAnswer script named s left text warnings
      → code ≡ sim_exit_code (sim_end_by strict s left)
      → IsSimulationOf strict lines files text warnings code
