-- How a simulation stops that is neither done nor refused.
use Rattle.std.specs.Prelude.{◌≡◌, ℕ, List, ◌∷◌, Option, None}
use Rattle.std.specs.Io.KnownBytes.{Appends}
use Rattle.ospf_files.specs.Files.{unread_line}
use Rattle.ospf_files.specs.Listed.{IsFirstUnread}
use Rattle.ospf_files.specs.Status.{failure_line, failure_status}
use Rattle.ospf_files.specs.Streams.{IsTold, Written}
use Rattle.ospf_files.specs.declared.files.NamedFile.{NamedFile}
use Rattle.ospf_files.specs.declared.status.Failure.{Failure}
use Rattle.ospf_files.specs.declared.status.Status.{Status}
use Rattle.ospf_files.specs.declared.status.Status.TheVariants as status
use Rattle.ospf_files.specs.declared.streams.FailedStreams.{FailedStreams}
use Rattle.ospf_sim.specs.Begun.{IsSimulationCut}
use Rattle.ospf_commands.specs.declared.simulation.Simulation.{Simulation}

-- the first file that could not be read is reported, the script before the configurations, and no
-- line has run
pub record IsScriptUnreadTold (script : NamedFile) (files : List NamedFile)
    (left : Option Simulation) (old new : Written) : Type 0 where
  pub file : NamedFile
  pub first : IsFirstUnread file (script ∷ files)
  pub told : Appends old.err new.err (unread_line file)
  pub none : left ≡ None
  pub same_out : new.out ≡ old.out

-- a failure cut the simulation; it was reported last, as far as it could be written, and it gives
-- the status
pub record IsFailureLast (script : NamedFile) (files : List NamedFile) (failed : FailedStreams)
    (end : Status) (old new : Written) : Type 0 where
  pub cause : Failure
  pub failed_then : FailedStreams
  pub err_then : Option (List ℕ)
  pub cut : IsSimulationCut script files failed_then old (record new { err = err_then }) cause
  pub last : IsTold failed_then failed err_then new.err (failure_line cause)
  pub status_is : end ≡ failure_status cause

-- a file could not be read, or a failure cut the simulation
pub data IsStopped (script : NamedFile) (files : List NamedFile) (left : Option Simulation)
    (failed : FailedStreams) (end : Status) (old new : Written) : Type 0 where
  is_unread : end ≡ status.Stream → IsScriptUnreadTold script files left old new
      → IsStopped script files left failed end old new
  is_failure : left ≡ None → IsFailureLast script files failed end old new
      → IsStopped script files left failed end old new
